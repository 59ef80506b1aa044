use Rattle.std.proofs.Common.{rules, ◌≡◌, ◌||◌, ◌+◌, ◌<◌, ℕ, List, length, drop, Bool, Vec, Global, ap, sym, ◌∙◌}
use Rattle.std.specs.List.{list_any}
use Rattle.std.specs.Str.{bytes_eq}
use Rattle.uimg_texts.specs.Nul.{text}
use Rattle.uimg_fit_reading.specs.Values.{pieces}
use Rattle.uimg_checks.specs.ReferenceNames.{has_name}
use Rattle.uimg_strict.proofs.SetLaws.{any_inserted, same_name}
use Rattle.uimg_checks.proofs.ChoiceLaws.{any_none, text_added}
use Rattle.uimg_checks.proofs.choosing.add_texts.Goals as goal

pub loop-rest-preserved : goal.loop-rest-preserved
loop-rest-preserved c = record {
  left = λ name.
      let value = c.loop-rest.rest.now in
      let some : 0 < length value = search rules in
      let text_is : c.before_nul-text.result.now ≡ text value = c.before_nul-text.ensures in
      let known : Vec ℕ Global → Bool = λ k. bytes_eq name k.items in
      let added : has_name c.insert.new.self name ≡ (bytes_eq name (text value) || has_name c.loop-rest.names name) =
      ap (list_any known) c.in_ok-insert.ensures.keys
      ∙ any_inserted _ known (λ x y is. same_name name x.items y.items is) c.in_ok-name.name c.loop-rest.names.keys
      ∙ ap (λ (items : List ℕ). bytes_eq name items || has_name c.loop-rest.names name) (c.in_ok-name.ensures.items ∙ text_is) in
      ap (λ (l : List ℕ). list_any (bytes_eq name) (pieces l) || has_name c.insert.new.self name) (c.behind-rest.ensures ∙ ap (λ (t : List ℕ). drop (length t + 1) value) text_is)
      ∙ text_added name value (has_name c.loop-rest.names name) (has_name c.insert.new.self name) some added
      ∙ c.loop-rest.invariant.left name;
}

pub returns : goal.returns
returns c = λ name.
    let none : length c.loop-rest.rest.now ≡ 0 = search rules in
    sym (ap (λ (b : Bool). b || has_name c.loop-rest.names name) (any_none (bytes_eq name) c.loop-rest.rest.now none)) ∙ c.loop-rest.invariant.left name
