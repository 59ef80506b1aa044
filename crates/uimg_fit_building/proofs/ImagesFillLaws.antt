-- Filling images one after the other.
use Rattle.std.proofs.Common.{◌≡◌, ℕ, zero, suc, ◌+◌, ◌<◌, List, [], ◌∷◌, ◌++◌, length, map, take, drop, get_or, Option, Some, None, Err, refl, ap, sym, ◌∙◌, arith}
use Rattle.std.specs.{List.AllByRecursion, Option.option_or}
use Rattle.std.proofs.lemmas.List.{take_more, map-append}
use Rattle.uimg_texts.specs.declared.naming.Naming.{Naming}
use Rattle.uimg_blob_reading.specs.LookUps.{NodeOf}
use Rattle.uimg_blob_writing.specs.{declared.tree.Node.Node, Content.Content}
use Rattle.uimg_fit_base.specs.declared.fault.FitFault.{FitFault}
use Rattle.uimg_fit_base.specs.declared.fault.FitFault.TheVariants.{NoImages, NoData, DataOutside, NoSuchImage, UnknownAlgo, PositionTooLow, TooLarge, OutOfMemory, NoFile, ReadFailed}
use Rattle.uimg_fit_building.specs.{Refusing.first_fault, Behind.entry}
use Rattle.uimg_fit_building.specs.ImageFillings.{fault_in_memory, first_in_memory, StopsAtImage, StopsAmong, FillsImage, FillsImages}

-- a fact on all images, for one of them
pub entry-at : {A : Type 0} (P : NodeOf Content → Type 0) (ns : List (Node A)) (i : ℕ) (d : Node A) → i < length ns → AllByRecursion P (map entry ns) → P (entry (get_or ns i d))
entry-at P [] i d within all = absurd (omega (arith, within))
entry-at P (n ∷ ns) zero d within all = all.0
entry-at P (n ∷ ns) (suc i) d within all = entry-at P ns i d (omega (arith, within)) all.1

or-none : (a b : Option FitFault) → a ≡ None → option_or a b ≡ b
or-none a b is = rw is refl

or-some : (a b : Option FitFault) (f : FitFault) → a ≡ Some f → option_or a b ≡ Some f
or-some a b f is = rw is refl

-- the first fault is that of what follows sound images
pub fault-behind : (naming : Naming) (is more : List (NodeOf Content)) → first_in_memory naming is ≡ None → first_in_memory naming (is ++ more) ≡ first_in_memory naming more
unfolding first_fault
fault-behind naming [] more sound = refl
fault-behind naming (i ∷ is) more sound = fault-step (fault_in_memory naming i) (first_in_memory naming is) (first_in_memory naming (is ++ more)) (first_in_memory naming more) sound (λ s. fault-behind naming is more s)
  where
    fault-step : (a b c d : Option FitFault) → option_or a b ≡ None → (b ≡ None → c ≡ d) → option_or a c ≡ d
    fault-step None b c d h k = k h
    fault-step (Some f) b c d h k = absurd (cc)

-- images around one of them
pub split-at : {A : Type 0} (ns : List (Node A)) (i : ℕ) (d : Node A) → i < length ns → map entry ns ≡ map entry (take i ns) ++ entry (get_or ns i d) ∷ map entry (drop (i + 1) ns)
split-at [] i d within = absurd (omega (arith, within))
split-at (n ∷ ns) zero d within = refl
split-at (n ∷ ns) (suc i) d within =
    let next : suc i + 1 ≡ suc (i + 1) = omega arith in
    ap (λ (l : List (NodeOf Content)). entry n ∷ l) (split-at ns i d (omega (arith, within)))
    ∙ ap (λ (m : ℕ). map entry (take (suc i) (n ∷ ns)) ++ entry (get_or ns i d) ∷ map entry (drop m (n ∷ ns))) (sym next)

-- no image
pub none-sound : (naming : Naming) → first_in_memory naming [] ≡ None
unfolding first_fault
none-sound naming = refl

-- one more sound image
pub sound-more : (naming : Naming) {A : Type 0} (ns : List (Node A)) (i : ℕ) (d : Node A) → i < length ns → first_in_memory naming (map entry (take i ns)) ≡ None → fault_in_memory naming (entry (get_or ns i d)) ≡ None
    → first_in_memory naming (map entry (take (i + 1) ns)) ≡ None
unfolding first_fault
sound-more naming ns i d within sound here =
    ap (λ (l : List (Node _)). first_in_memory naming (map entry l)) (take_more ns i d within)
    ∙ ap (first_in_memory naming) (map-append entry (take i ns) (get_or ns i d ∷ []))
    ∙ fault-behind naming (map entry (take i ns)) (entry (get_or ns i d) ∷ []) sound
    ∙ or-none (fault_in_memory naming (entry (get_or ns i d))) None here

-- an image that is refused
module _ (naming : Naming) {A : Type 0} (files : List ℕ → Option (List ℕ)) (ns : List (Node A)) (i : ℕ) (d : Node A) (within : i < length ns) (sound : first_in_memory naming (map entry (take i ns)) ≡ None) where
  abbrev at : NodeOf Content
  at = entry (get_or ns i d)

  refused-at : (fault : FitFault) → fault_in_memory naming at ≡ Some fault → first_in_memory naming (map entry ns) ≡ Some fault
  unfolding first_fault
  refused-at fault is =
      ap (first_in_memory naming) (split-at ns i d within)
      ∙ fault-behind naming (map entry (take i ns)) (at ∷ map entry (drop (i + 1) ns)) sound
      ∙ or-some (fault_in_memory naming at) (first_in_memory naming (map entry (drop (i + 1) ns))) fault is

  stops-among : StopsAtImage naming at → StopsAmong naming (map entry ns)
  stops-among s = record { before = map entry (take i ns); image = at; after = map entry (drop (i + 1) ns); are = split-at ns i d within; sound = sound; stops = s }

  pub images-refused : (X Y : Type 0) (image : NodeOf Content) (new : List (NodeOf Content)) (fault : FitFault) → FillsImage {X = X} naming files at image (Err fault) → FillsImages {X = Y} naming files (map entry ns) new (Err fault)
  images-refused X Y image new NoImages h = refused-at NoImages h
  images-refused X Y image new NoData h = refused-at NoData h
  images-refused X Y image new DataOutside h = refused-at DataOutside h
  images-refused X Y image new NoSuchImage h = refused-at NoSuchImage h
  images-refused X Y image new UnknownAlgo h = refused-at UnknownAlgo h
  images-refused X Y image new PositionTooLow h = refused-at PositionTooLow h
  images-refused X Y image new TooLarge h = refused-at TooLarge h
  images-refused X Y image new OutOfMemory h = tt
  images-refused X Y image new NoFile h = stops-among h
  images-refused X Y image new ReadFailed h = stops-among h
