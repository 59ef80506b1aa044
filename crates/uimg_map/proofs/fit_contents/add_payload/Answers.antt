use Rattle.std.proofs.Common.{ℕ, [], ◌+◌, ◌∙◌, subst}
use Rattle.uimg_fit_base.specs.declared.fault.Fault.TheVariants as of
use Rattle.uimg_fit_base.specs.declared.fault.FitFault.TheVariants.{DataOutside}
use Rattle.uimg_map.specs.{declared.fault.MapFault.TheVariants.Fit, Contents.GrowsBy}
use Rattle.uimg_map.specs.Found.{What, thing, refused_behind}
use Rattle.uimg_map.proofs.ContentsLaws.{grows_then}
use Rattle.uimg_map.proofs.fit_contents.add_payload.Goals as goal

pub returns : goal.returns
returns c =
    let span = c.args.span in
    let end = span.place + span.length in
    let before = c.args.contents.now in
    let between = c.add.new.self in
    let after = c.refuse_behind.new.self in
    let same = c.in_ok-add.ensures.size in
    record {
      size = (c.refuse_behind.ensures []).size ∙ same;
      grows = λ file. grows_then
          (subst (λ (what : What). GrowsBy file (thing what span.place end) before between) (c.payload_label.ensures file) (c.in_ok-add.ensures.grows file))
          (subst (λ (size : ℕ). GrowsBy file (refused_behind size end (Fit (of.Fit DataOutside))) between after) same (c.refuse_behind.ensures file));
      memory = tt;
    }
