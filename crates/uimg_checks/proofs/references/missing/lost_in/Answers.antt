use Rattle.std.proofs.Common.{rules, ◌≡◌, ◌+◌, ◌<◌, ◌||◌, ℕ, List, length, drop, Some, Bool, true, false, not, sym, ap, ◌∙◌}
use Rattle.std.specs.List.{find, list_any}
use Rattle.std.specs.Str.{bytes_eq}
use Rattle.uimg_texts.specs.Nul.{text}
use Rattle.uimg_fit_reading.specs.Values.{pieces}
use Rattle.uimg_checks.specs.ReferenceNames.{has_name, is_lost}
use Rattle.uimg_checks.proofs.PieceLaws.{found_first, found_later, found_none}
use Rattle.uimg_strict.proofs.SetLaws.{compared_names}
use Rattle.uimg_checks.proofs.references.missing.lost_in.Goals as goal

pub returns-then-is_empty : goal.returns-then-is_empty
returns-then-is_empty c = λ list names.
    let value = c.loop-rest.rest.now in
    let some : 0 < length value = search rules in
    let text_is : c.before_nul-text.result.now ≡ text value = c.before_nul-text.ensures in
    let lost : is_lost list (text value) ≡ true =
    ap (is_lost list) (sym text_is) ∙ ap (λ (b : Bool). b || not (list_any (bytes_eq c.before_nul-text.result.now) list)) (sym c.if-is_empty.ensures) in
    sym (sym (c.loop-rest.invariant.left list names) ∙ found_first (is_lost list) value some lost ∙ ap (λ (t : List ℕ). Some t) (sym text_is))

pub returns-then-not-contains : goal.returns-then-not-contains
returns-then-not-contains c = λ list names.
    let value = c.loop-rest.rest.now in
    let now = c.before_nul-text.result.now in
    let some : 0 < length value = search rules in
    let text_is : now ≡ text value = c.before_nul-text.ensures in
    let known : has_name c.args.names.now now ≡ false = sym (compared_names now c.args.names.now.keys) ∙ sym c.contains.ensures ∙ c.if-not-contains.true in
    let lost : is_lost list (text value) ≡ true =
    ap (is_lost list) (sym text_is) ∙ ap (λ (b : Bool). b || not (list_any (bytes_eq now) list)) (sym c.if-is_empty.ensures) ∙ ap not (sym (names now) ∙ known) in
    sym (sym (c.loop-rest.invariant.left list names) ∙ found_first (is_lost list) value some lost ∙ ap (λ (t : List ℕ). Some t) (sym text_is))

pub loop-rest-preserved : goal.loop-rest-preserved
loop-rest-preserved c = record {
  left = λ list names.
      let value = c.loop-rest.rest.now in
      let now = c.before_nul-text.result.now in
      let some : 0 < length value = search rules in
      let text_is : now ≡ text value = c.before_nul-text.ensures in
      let known : has_name c.args.names.now now ≡ true = sym (compared_names now c.args.names.now.keys) ∙ sym c.contains.ensures ∙ c.if-not-contains.false in
      let lost : is_lost list (text value) ≡ false =
      ap (is_lost list) (sym text_is) ∙ ap (λ (b : Bool). b || not (list_any (bytes_eq now) list)) (sym c.if-is_empty.ensures) ∙ ap not (sym (names now) ∙ known) in
      ap (λ (l : List ℕ). find (is_lost list) (pieces l)) (c.behind-rest.ensures ∙ ap (λ (t : List ℕ). drop (length t + 1) value) text_is)
      ∙ sym (found_later (is_lost list) value some lost) ∙ c.loop-rest.invariant.left list names;
}

pub returns : goal.returns
returns c = λ list names.
    let none : length c.loop-rest.rest.now ≡ 0 = search rules in
    sym (sym (c.loop-rest.invariant.left list names) ∙ found_none (is_lost list) c.loop-rest.rest.now none)
