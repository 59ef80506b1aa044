use Rattle.std.proofs.Common.{ℕ, List, Bool, true, false, Ok, ◌∙◌, sym, subst}
use Rattle.uimg_map.specs.{declared.fault.MapFault.MapFault, Contents.{GrowsBy, AddsFound}}
use Rattle.uimg_map.specs.{Found.refused_at, LegacyContents.refused_with}
use Rattle.uimg_map.proofs.ContentsLaws.{grows_then}
use Rattle.uimg_map.proofs.legacy_contents.add_refused.Goals as goal

pub returns-then-is_bad_crc : goal.returns-then-is_bad_crc
returns-then-is_bad_crc c =
    let before = c.args.contents.now in
    let after = c.refuse_at.new.self in
    let fault = c.args.fault in
    let refused = λ (file : List ℕ). subst (λ (f : MapFault). GrowsBy file (refused_at 4 f) c.add.new.self after) c.legacy_fault.ensures (c.in_ok-refuse_at.ensures.grows file) in
    let there : AddsFound {X = Unit {0}} (λ _. refused_with true fault) (Ok tt) before after = record {
      size = c.in_ok-refuse_at.ensures.size ∙ c.in_ok-add.ensures.size;
      grows = λ file. grows_then (c.in_ok-add.ensures.grows file) (refused file);
      memory = tt;
    } in
    subst (λ (bad : Bool). AddsFound {X = Unit {0}} (λ _. refused_with bad fault) (Ok tt) before after) (sym c.if-is_bad_crc.true ∙ c.is_bad_crc.ensures) there

pub returns : goal.returns
returns c =
    let before = c.args.contents.now in
    let after = c.refuse_at-2.new.self in
    let fault = c.args.fault in
    let there : AddsFound {X = Unit {0}} (λ _. refused_with false fault) (Ok tt) before after = record {
      size = c.in_ok-refuse_at-2.ensures.size;
      grows = λ file. subst (λ (f : MapFault). GrowsBy file (refused_at 0 f) before after) c.legacy_fault-2.ensures (c.in_ok-refuse_at-2.ensures.grows file);
      memory = tt;
    } in
    subst (λ (bad : Bool). AddsFound {X = Unit {0}} (λ _. refused_with bad fault) (Ok tt) before after) (sym c.if-is_bad_crc.false ∙ c.is_bad_crc.ensures) there
