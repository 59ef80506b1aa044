use Rattle.std.proofs.Common.{◌≡◌, ◌+◌, ℕ, List, ◌∷◌, drop, Some, Vec, Global, true, false, sym, ap, ◌∙◌, subst}
use Rattle.std.specs.List.{list_any}
use Rattle.std.specs.Str.{bytes_eq}
use Rattle.std.proofs.lemmas.List.{drop_more}
use Rattle.uimg_strict.proofs.AllNodesLaws.{drop_none}
use Rattle.uimg_strict.specs.Names.{in_set, AddsName}
use Rattle.uimg_strict.proofs.SetLaws.{compared_names}
use Rattle.uimg_strict.proofs.AgainLaws.{again_here, again_later, again_never}
use Rattle.uimg_strict.proofs.names.first_again.Goals as goal

pub returns-then-contains : goal.returns-then-contains
returns-then-contains c =
    let k = c.loop-name.invariant in
    let names = c.args.names.now in
    let i = c.loop-name.name-index in
    let x = c.name-item.result in
    let key = c.as_slice.result.now in
    let known : in_set c.loop-name.known key ≡ true = sym (compared_names key c.loop-name.known.keys) ∙ sym c.contains.ensures ∙ c.if-contains.true in
    let before : list_any (bytes_eq x.items) k.before ≡ true = ap (λ (n : List ℕ). list_any (bytes_eq n) k.before) (sym c.as_slice.ensures.value) ∙ sym (k.has key) ∙ known in
    let are : drop i names ≡ x ∷ drop (i + 1) names = drop_more names i x c.loop-name-test.true ∙ ap (λ (v : Vec ℕ Global). v ∷ drop (i + 1) names) (sym c.name-item.is) in
    ap (λ (n : List ℕ). Some n) c.as_slice-then-contains.ensures.value
    ∙ again_here c.loop-name.known names (drop i names) (drop (i + 1) names) x k are before

pub loop-name-preserved : goal.loop-name-preserved
loop-name-preserved c =
    let k = c.loop-name.invariant in
    let names = c.args.names.now in
    let i = c.loop-name.name-index in
    let x = c.name-item.result in
    let key = c.as_slice.result.now in
    let fresh : in_set c.loop-name.known key ≡ false = sym (compared_names key c.loop-name.known.keys) ∙ sym c.contains.ensures ∙ c.if-contains.false in
    let not_before : list_any (bytes_eq x.items) k.before ≡ false = ap (λ (n : List ℕ). list_any (bytes_eq n) k.before) (sym c.as_slice.ensures.value) ∙ sym (k.has key) ∙ fresh in
    let are : drop i names ≡ x ∷ drop (i + 1) names = drop_more names i x c.loop-name-test.true ∙ ap (λ (v : Vec ℕ Global). v ∷ drop (i + 1) names) (sym c.name-item.is) in
    let adds : AddsName x.items c.loop-name.known c.add_name.new.names =
    subst (λ (n : List ℕ). AddsName n c.loop-name.known c.add_name.new.names) c.as_slice-in-loop-name.ensures.value c.in_ok-add_name.ensures in
    again_later c.loop-name.known c.add_name.new.names names i x k are not_before adds

pub returns : goal.returns
returns c =
    again_never c.loop-name.known c.args.names.now (drop c.loop-name.name-index c.args.names.now) c.loop-name.invariant
    (drop_none c.args.names.now c.loop-name.name-index c.loop-name-test.false)
