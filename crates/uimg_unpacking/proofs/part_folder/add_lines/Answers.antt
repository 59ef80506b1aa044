use Rattle.std.proofs.Common.{rules, ◌≡◌, ◌∙◌, ◌+◌, ◌<◌, ◌++◌, [], ℕ, List, Option, length, drop, ap, append_assoc, subst, sym}
use Rattle.std.proofs.lemmas.List.{append-nil, drop_all}
use Rattle.std.specs.Borrow.{Bor}
use Rattle.std.specs.List.{slice_index_or}
use Rattle.uimg_unpacking.specs.Objects.{part_told, parts_told}
use Rattle.uimg_unpacking.proofs.NamingLaws.{first_of}
use Rattle.uimg_unpacking.proofs.part_folder.add_lines.Goals as goal

pub loop-part-preserved : goal.loop-part-preserved
loop-part-preserved g c =
    let is = c.loop-part.invariant in
    let parts = c.args.parts.now in
    let i = c.loop-part.part-index in
    let json = c.args.taker.now.json in
    let lines = c.loop-part.taker.lines.items in
    let left = parts_told json c.args.dcrc (drop (i + 1) parts) in
    let inside : i < length parts = search rules in
    let part = slice_index_or parts i (0, 0) in
    let told = subst (λ (path : Option (Bor (List ℕ))). c.add.new.self.lines.items ≡ lines ++ part_told path c.args.dcrc part) is.2 c.in_ok-add.ensures.told in (
      c.add.ensures.staging ∙ is.0,
      c.add.ensures.begun ∙ is.1,
      c.add.ensures.json ∙ is.2,
      ap (λ (l : List ℕ). l ++ left) told ∙ append_assoc lines (part_told json c.args.dcrc part) left ∙ ap (λ (l : List (ℕ × ℕ)). lines ++ parts_told json c.args.dcrc l) (sym (first_of parts i (0, 0) inside)) ∙ is.3,
    )

pub returns-in_err-add-clause-staging : goal.returns-in_err-add-clause-staging
returns-in_err-add-clause-staging g c = c.add.ensures.staging ∙ c.loop-part.invariant.0

pub returns-in_err-add-clause-begun : goal.returns-in_err-add-clause-begun
returns-in_err-add-clause-begun g c = c.add.ensures.begun ∙ c.loop-part.invariant.1

pub returns-clause-told : goal.returns-clause-told
returns-clause-told g c =
    let lines = c.loop-part.taker.lines.items in
    let parts = c.args.parts.now in
    let i = c.loop-part.part-index in
    let none : drop i parts ≡ [] = search (rules, drop_all i parts) in
    sym (append-nil lines) ∙ ap (λ (l : List (ℕ × ℕ)). lines ++ parts_told c.args.taker.now.json c.args.dcrc l) (sym none) ∙ c.loop-part.invariant.3
