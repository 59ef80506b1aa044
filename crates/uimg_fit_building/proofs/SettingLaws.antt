-- Setting and removing properties.
use Rattle.std.proofs.Common.{◌≡◌, ℕ, suc, ◌+◌, ◌<◌, ◌≤◌, List, [], ◌∷◌, ◌++◌, length, map, take, drop, set, Bool, true, false, not, cond, refl, ap, sym, ◌∙◌, arith}
use Rattle.std.specs.{List.{filter, list_any}, Str.bytes_eq}
use Rattle.std.proofs.lemmas.List.{set_split, take_all, drop_all, map-append}
use Rattle.uimg_blob_reading.specs.Plain.{NamedOf}
use Rattle.uimg_blob_writing.specs.{declared.props.Prop.Prop, Content.Content}
use Rattle.uimg_blob_writing.specs.Properties.{content, property}
use Rattle.uimg_fit_building.specs.Filling.{with, external_names, without_external}

abbrev pub external-kept : {A : Type 0} → Prop A → Bool
external-kept p = not (list_any (bytes_eq p.name) external_names)

kept-step : {A : Type 0} (b : Bool) (p : Prop A) (ps : List (Prop A)) (own : List (NamedOf Content)) → map property ps ≡ own → map property (cond b (p ∷ ps) ps) ≡ cond b (property p ∷ own) own
kept-step true p ps own h = ap (λ (l : List (NamedOf Content)). property p ∷ l) h
kept-step false p ps own h = h

pub kept-external : {A : Type 0} (ps : List (Prop A)) → map property (filter external-kept ps) ≡ without_external (map property ps)
kept-external [] = refl
kept-external (p ∷ ps) = kept-step (external-kept p) p (filter external-kept ps) (without_external (map property ps)) (kept-external ps)

-- What is set stands at a place.
abbrev pub IsSetAt : {A : Type 0} → List ℕ → List (Prop A) → ℕ → Type 0
IsSetAt key ps i = (value : Content) → with key value (map property ps) ≡ map property (take i ps) ++ record { name = key; value = value } ∷ map property (drop (i + 1) ps)

-- the properties with another at a place
pub set-property : {A : Type 0} (ps : List (Prop A)) (i : ℕ) (p : Prop A) → IsSetAt p.name ps i → i < length ps → map property (set ps i p) ≡ with p.name (content p.value) (map property ps)
set-property ps i p is within =
    let next : suc i ≡ i + 1 = omega arith in
    ap (map property) (set_split ps i p within ∙ ap (λ (n : ℕ). take i ps ++ p ∷ drop n ps) next) ∙ map-append property (take i ps) (p ∷ drop (i + 1) ps)
    ∙ sym (is (content p.value))

-- the properties with one more
pub push-property : {A : Type 0} (ps : List (Prop A)) (i : ℕ) (p : Prop A) → IsSetAt p.name ps i → length ps ≤ i → map property (ps ++ p ∷ []) ≡ with p.name (content p.value) (map property ps)
push-property ps i p is past =
    map-append property ps (p ∷ [])
    ∙ ap (λ (l : List (NamedOf Content)). l ++ property p ∷ []) (ap (map property) (sym (take_all i ps past)))
    ∙ ap (λ (l : List (NamedOf Content)). map property (take i ps) ++ property p ∷ l) (ap (map property) (sym (drop_all (i + 1) ps (omega (arith, past)))))
    ∙ sym (is (content p.value))
