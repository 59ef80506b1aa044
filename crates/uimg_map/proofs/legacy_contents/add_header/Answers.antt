use Rattle.std.proofs.Common.{◌≡◌, [], ◌+◌, ◌∙◌, subst}
use Rattle.uimg_legacy.specs.declared.fault.LegacyFault.TheVariants.{Truncated}
use Rattle.uimg_map.specs.{Contents.GrowsBy, Found.{Told, refused_behind}}
use Rattle.uimg_map.specs.LegacyContents.{legacy_fault}
use Rattle.uimg_map.proofs.ContentsLaws.{grows_then}
use Rattle.uimg_map.proofs.legacy_contents.add_header.Goals as goal

pub returns : goal.returns
returns c =
    let same = c.in_ok-add.ensures.size in
    let told : refused_behind c.add.new.self.size c.end_of.result c.legacy_fault.result ≡ refused_behind c.args.contents.now.size (64 + c.args.size) (legacy_fault Truncated) = cc (same, c.end_of.ensures, c.legacy_fault.ensures) in
    record {
      size = (c.refuse_behind.ensures []).size ∙ same;
      grows = λ file. grows_then (c.in_ok-add.ensures.grows file)
          (subst (λ (t : Told). GrowsBy file t c.add.new.self c.refuse_behind.new.self) told (c.refuse_behind.ensures file));
      memory = tt;
    }
