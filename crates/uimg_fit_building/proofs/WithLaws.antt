-- Properties, one of them set.
use Rattle.std.proofs.Common.{◌≡◌, ℕ, List, [], ◌∷◌, Option, Some, Bool, true, false, cond, find, if◌then◌else◌, refl, ap, sym, ◌∙◌}
use Rattle.std.{specs.{Option.option_map, Str.bytes_eq}, proofs.lemmas.Slice.Eq.bytes_eq-Decides}
use Rattle.uimg_blob_reading.specs.{Plain.NamedOf, LookUps.first}
use Rattle.uimg_fit_building.specs.Filling.{with}

module _ {V : Type 0} where
  -- the value that is set is found
  found-step : (b : Bool) (key : List ℕ) (value : V) (p : NamedOf V) (own moved : List (NamedOf V)) → b ≡ bytes_eq key p.name → first moved key ≡ Some value
      → first (if b then record { name = key; value = value } ∷ own else p ∷ moved) key ≡ Some value
  found-step true key value p own moved e h = rw ((bytes_eq-Decides key key).1 refl) refl
  found-step false key value p own moved e h = rw (sym e) h

  pub first-set : (key : List ℕ) (value : V) (own : List (NamedOf V)) → first (with key value own) key ≡ Some value
  unfolding with
  first-set key value [] = rw ((bytes_eq-Decides key key).1 refl) refl
  first-set key value (p ∷ own) = found-step (bytes_eq key p.name) key value p own (with key value own) refl (first-set key value own)

  -- another value stays
  pub value-step : (b : Bool) (p q : NamedOf V) (found others : Option (NamedOf V)) → (b ≡ true → p.value ≡ q.value) → option_map (λ (r : NamedOf V). r.value) found ≡ option_map (λ (r : NamedOf V). r.value) others
      → option_map (λ (r : NamedOf V). r.value) (cond b (Some p) found) ≡ option_map (λ (r : NamedOf V). r.value) (cond b (Some q) others)
  value-step true p q found others h k = ap (λ (w : V). let y : Option V = Some w in y) (h refl)
  value-step false p q found others h k = k

  kept-step : (b : Bool) (key other : List ℕ) (value : V) (p : NamedOf V) (own moved : List (NamedOf V)) → b ≡ bytes_eq key p.name → bytes_eq other key ≡ false → first moved other ≡ first own other
      → first (if b then record { name = key; value = value } ∷ own else p ∷ moved) other ≡ first (p ∷ own) other
  kept-step true key other value p own moved e apart h =
      let same : key ≡ p.name = (bytes_eq-Decides key p.name).0 (sym e) in
      let also : bytes_eq other p.name ≡ false = ap (λ (w : List ℕ). bytes_eq other w) (sym same) ∙ apart in
      rw (apart, also) refl
  kept-step false key other value p own moved e apart h =
      value-step (bytes_eq other p.name) p p (find (λ q. bytes_eq other q.name) moved) (find (λ q. bytes_eq other q.name) own) (λ s. refl) h

  pub first-other : (key other : List ℕ) (value : V) (own : List (NamedOf V)) → bytes_eq other key ≡ false → first (with key value own) other ≡ first own other
  unfolding with
  first-other key other value [] apart = rw apart refl
  first-other key other value (p ∷ own) apart =
      kept-step (bytes_eq key p.name) key other value p own (with key value own) refl apart (first-other key other value own apart)

  -- of two values that are set one after the other, the last stays
  twice-step : (b : Bool) (key : List ℕ) (value once : V) (p : NamedOf V) (own moved : List (NamedOf V)) → b ≡ bytes_eq key p.name → with key value moved ≡ with key value own
      → with key value (if b then record { name = key; value = once } ∷ own else p ∷ moved) ≡ (if b then record { name = key; value = value } ∷ own else p ∷ with key value own)
  unfolding with
  twice-step true key value once p own moved e h = rw ((bytes_eq-Decides key key).1 refl) refl
  twice-step false key value once p own moved e h = rw (sym e) (ap (λ (l : List (NamedOf V)). p ∷ l) h)

  pub set-twice : (key : List ℕ) (value once : V) (own : List (NamedOf V)) → with key value (with key once own) ≡ with key value own
  unfolding with
  set-twice key value once [] = rw ((bytes_eq-Decides key key).1 refl) refl
  set-twice key value once (p ∷ own) = twice-step (bytes_eq key p.name) key value once p own (with key once own) refl (set-twice key value once own)
