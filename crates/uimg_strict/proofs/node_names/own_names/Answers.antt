use Rattle.std.proofs.Common.{ℕ, List, Bool, IsTrue, map, ap, sym, ◌∙◌, subst}
use Rattle.uimg_blob_reading.specs.declared.places.PropertyPlace.{PropertyPlace}
use Rattle.uimg_strict.specs.Telling.{names_in, place_name}
use Rattle.uimg_strict.proofs.PassLaws.{own_passed}
use Rattle.uimg_strict.proofs.node_names.own_names.Goals as goal

pub returns-in_err-places-clause-told : goal.returns-in_err-places-clause-told
returns-in_err-places-clause-told g c = λ t o level found n.
    own_passed names_in (map (λ p. p.name) found.own) c.from_residual.result c.in_err-places.field-0.0 c.from_residual.ensures.1 (c.in_err-places.ensures.told t o level found n)

pub returns-clause-told : goal.returns-clause-told
returns-clause-told g c = λ t o level found n.
    let d = g.S.Source.device c.args.source.now in
    let same = c.in_ok-places.ensures.leaves.uses.same in
    c.in_ok-names.ensures.told (subst (λ (b : Bool). IsTrue b) (sym same.honest) o.honest)
    ∙ ap (λ (file : List ℕ). map (place_name file) c.as_slice.result.now) same.bytes
    ∙ ap (λ (places : List PropertyPlace). map (place_name d.bytes) places) c.as_slice.ensures.value
    ∙ c.in_ok-places.ensures.told t o level found n
