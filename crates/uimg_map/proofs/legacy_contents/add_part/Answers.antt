use Rattle.std.proofs.Common.{◌≡◌, ℕ, ◌+◌, List, Bool, true, false, nat_lt, Ok, ◌∙◌, sym, subst}
use Rattle.std.proofs.lemmas.Bool.{lt-ltb, le-ltb}
use Rattle.uimg_map.specs.{declared.fault.MapFault.MapFault, Contents.{GrowsBy, AddsFound}}
use Rattle.uimg_map.specs.{Found.refused_at, LegacyContents.part_told}
use Rattle.uimg_map.proofs.ContentsLaws.{grows_then}
use Rattle.uimg_map.proofs.legacy_contents.add_part.Goals as goal

pub returns-then-stop-end-clause-adds : goal.returns-then-stop-end-clause-adds
returns-then-stop-end-clause-adds c =
    let a = c.args in
    let before = a.contents.now in
    let after = c.refuse_at.new.self in
    let refused = λ (file : List ℕ). subst (λ (f : MapFault). GrowsBy file (refused_at a.at f) c.add.new.self after) c.legacy_fault.ensures (c.in_ok-refuse_at.ensures.grows file) in
    let there : AddsFound {X = Bool} (λ _. part_told true a.at a.number a.size a.is_last) (Ok true) before after = record {
      size = c.in_ok-refuse_at.ensures.size ∙ c.in_ok-add.ensures.size;
      grows = λ file. grows_then (c.in_ok-add.ensures.grows file) (refused file);
      memory = tt;
    } in
    let outside : nat_lt a.end (a.at + a.size) ≡ true = lt-ltb a.end (a.at + a.size) c.if-stop-end.true in
    subst (λ (is : Bool). AddsFound {X = Bool} (λ _. part_told is a.at a.number a.size a.is_last) (Ok true) before after) (sym outside) there

pub returns-clause-adds : goal.returns-clause-adds
returns-clause-adds c =
    let a = c.args in
    let before = a.contents.now in
    let after = c.add_padding.new.contents in
    let there : AddsFound {X = Bool} (λ _. part_told false a.at a.number a.size a.is_last) (Ok false) before after = record {
      size = c.in_ok-add_padding.ensures.size ∙ c.in_ok-add.ensures.size;
      grows = λ file. grows_then (c.in_ok-add.ensures.grows file) (c.in_ok-add_padding.ensures.grows file);
      memory = tt;
    } in
    let inside : nat_lt a.end (a.at + a.size) ≡ false = le-ltb a.end (a.at + a.size) c.if-stop-end.false in
    subst (λ (is : Bool). AddsFound {X = Bool} (λ _. part_told is a.at a.number a.size a.is_last) (Ok false) before after) (sym inside) there
