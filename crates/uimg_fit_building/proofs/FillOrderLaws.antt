-- In what order filling reads and refuses.
use Rattle.std.proofs.Common.{◌≡◌, ◌≢◌, ℕ, zero, suc, ◌+◌, ◌<◌, ◌≤◌, List, [], ◌∷◌, ◌++◌, length, map, take, drop, get_or, Option, Some, None, Bool, true, false, IsTrue, Result, Ok, Err, OnOk, refl, ap, sym, subst, ◌∙◌, codes, arith}
use Rattle.std.specs.{List.{filter, AllByRecursion}, Option.IfSome, Result.IsErrAnd, Bool.⊤}
use Rattle.std.proofs.lemmas.List.{take_all}
use Rattle.uimg_texts.specs.declared.naming.Naming.{Naming}
use Rattle.uimg_base.specs.Named.{FileMap, SameFiles}
use Rattle.uimg_blob_reading.specs.{Roles.is_hash, LookUps.{NodeOf, listed, first}}
use Rattle.uimg_blob_writing.specs.{declared.tree.Node.Node, Content.{Content, Unread, IsKept}}
use Rattle.uimg_fit_base.specs.declared.fault.FitFault.{FitFault}
use Rattle.uimg_fit_base.specs.declared.fault.FitFault.TheVariants.{NoImages, NoData, DataOutside, NoSuchImage, UnknownAlgo, PositionTooLow, TooLarge, OutOfMemory, NoFile, ReadFailed}
use Rattle.uimg_fit_building.specs.{Behind.entry, FillAnswers.{opens_no_file, fails_to_read}}
use Rattle.uimg_fit_building.specs.ImageFillings.{fault_in_memory, IsKeptImage, StopsAtImage, FillsHashes}
use Rattle.uimg_fit_building.specs.FillOrder.{CanBeRead, IsPassed, StopsAtFileOf, IsImageRefused, FillsNext, StopsInOrder, FillsInOrder}
use Rattle.uimg_fit_building.proofs.{ImageFillLaws.{sound-of, stops-image}, ImagesFillLaws.split-at}

-- what is so at all is so where it went well
pub always : {X F P : Type 0} (r : Result X F) → P → OnOk r P
always (Ok x) p = p
always (Err e) p = tt

-- an answer by `?`
pub by-refusal : {X F : Type 0} (P : Result X F → Type 0) (r : Result X F) (fault : F) → IsErrAnd r (λ e. e ≡ fault) → P (Err fault) → P r
by-refusal P (Ok x) fault h p = absurd h
by-refusal P (Err e) fault h p = subst (λ f. P (Err f)) (sym h) p

-- an image
module _ (naming : Naming) (files : FileMap) (steady : Bool) (image : NodeOf Content) (c : Content) (there : first image.own (codes "data") ≡ Some c) where
  abbrev Kept : Type 0
  Kept = IsKept files.bytes c

  stops-file : (sole b : Bool) → b ≡ true → (IsTrue sole → Kept → b ≡ false) → StopsAtImage naming image → StopsAtFileOf naming sole files.bytes image
  stops-file sole b is refuses s = record {
    stops = s;
    unread = λ alone kept.
        let clash : false ≡ true = sym (refuses alone (subst (λ (o : Option Content). IfSome o (IsKept files.bytes)) there kept)) ∙ is in absurd (cc);
  }

  pub next-is : {X : Type 0} (view : X → Unread) (r : Result X FitFault) → FillsHashes naming view files.bytes c image.below r → OnOk r (filter (λ h. is_hash h.name) (listed image.below) ≢ [] → Kept)
      → (IsTrue files.complete → Kept → opens_no_file r ≡ false) → (IsTrue steady → Kept → fails_to_read r ≡ false) → FillsNext naming files steady image r
  next-is view (Ok x) h kept found reads = record {
    sound = sound-of naming image c true there h.0;
    read = λ hashed. subst (λ (o : Option Content). IfSome o (IsKept files.bytes)) (sym there) (kept hashed);
  }
  next-is view (Err NoImages) h kept found reads = absurd h
  next-is view (Err NoData) h kept found reads = absurd h
  next-is view (Err DataOutside) h kept found reads = absurd h
  next-is view (Err NoSuchImage) h kept found reads = absurd h
  next-is view (Err UnknownAlgo) h kept found reads = sound-of naming image c false there h
  next-is view (Err PositionTooLow) h kept found reads = absurd h
  next-is view (Err TooLarge) h kept found reads = absurd h
  next-is view (Err OutOfMemory) h kept found reads = tt
  next-is view (Err NoFile) h kept found reads = stops-file files.complete true refl found (stops-image naming image c there h)
  next-is view (Err ReadFailed) h kept found reads = stops-file steady true refl reads (stops-image naming image c there h)

-- an image is refused by files as it was by the same files before
module _ (naming : Naming) (old new : FileMap) (same : SameFiles old new) (steady : Bool) (image : NodeOf Content) where
  same-file : (sole now : Bool) → now ≡ sole → StopsAtFileOf naming now new.bytes image → StopsAtFileOf naming sole old.bytes image
  same-file sole now is s = record {
    stops = s.stops;
    unread = λ alone kept. s.unread (subst (λ (b : Bool). IsTrue b) (sym is) alone) (subst (λ (b : List ℕ → Option (List ℕ)). IsKeptImage b image) (sym same.bytes) kept);
  }

  pub refused-before : (fault : FitFault) → IsImageRefused naming new steady image fault → IsImageRefused naming old steady image fault
  refused-before NoImages h = h
  refused-before NoData h = h
  refused-before DataOutside h = h
  refused-before NoSuchImage h = h
  refused-before UnknownAlgo h = h
  refused-before PositionTooLow h = h
  refused-before TooLarge h = h
  refused-before OutOfMemory h = h
  refused-before NoFile h = same-file old.complete new.complete same.complete h
  refused-before ReadFailed h = same-file steady steady refl h

-- one more image
pub all-more : {A : Type 0} (P : NodeOf Content → Type 0) (ns : List (Node A)) (i : ℕ) (d : Node A) → i < length ns → AllByRecursion P (map entry (take i ns)) → P (entry (get_or ns i d))
    → AllByRecursion P (map entry (take (i + 1) ns))
all-more P [] i d within all here = absurd (omega (arith, within))
all-more P (n ∷ ns) zero d within all here = (here, tt)
all-more P (n ∷ ns) (suc i) d within all here =
    let next : suc i + 1 ≡ suc (i + 1) = omega arith in
    subst (λ (k : ℕ). AllByRecursion P (map entry (take k (n ∷ ns)))) (sym next) (all.0, all-more P ns i d (omega (arith, within)) all.1 here)

-- all images
pub all-of : {A : Type 0} (P : NodeOf Content → Type 0) (ns : List (Node A)) (i : ℕ) → length ns ≤ i → AllByRecursion P (map entry (take i ns)) → AllByRecursion P (map entry ns)
all-of P ns i past all = subst (λ (l : List (Node _)). AllByRecursion P (map entry l)) (take_all i ns past) all

-- an image that is refused
module _ (naming : Naming) {A : Type 0} (files : FileMap) (steady : Bool) (ns : List (Node A)) (i : ℕ) (d : Node A) (within : i < length ns) (passed : AllByRecursion (IsPassed naming files.bytes) (map entry (take i ns))) where
  abbrev at : NodeOf Content
  at = entry (get_or ns i d)

  stops-here : (fault : FitFault) → IsImageRefused naming files steady at fault → StopsInOrder naming files steady (Some (map entry ns)) fault
  stops-here fault h = record {
    before = map entry (take i ns);
    image = at;
    after = map entry (drop (i + 1) ns);
    are_images = ap (λ (l : List (NodeOf Content)). let o : Option (List (NodeOf Content)) = Some l in o) (split-at ns i d within);
    passed = passed;
    refused = h;
  }

  pub order-refused : (X : Type 0) (fault : FitFault) → IsImageRefused naming files steady at fault → FillsInOrder {X = X} naming files steady (Some (map entry ns)) (Err fault)
  order-refused X NoImages h = absurd h
  order-refused X NoData h = stops-here NoData h
  order-refused X DataOutside h = absurd h
  order-refused X NoSuchImage h = absurd h
  order-refused X UnknownAlgo h = stops-here UnknownAlgo h
  order-refused X PositionTooLow h = absurd h
  order-refused X TooLarge h = absurd h
  order-refused X OutOfMemory h = tt
  order-refused X NoFile h = stops-here NoFile h
  order-refused X ReadFailed h = stops-here ReadFailed h

-- the same answer of another kind
pub order-passed : (naming : Naming) (X Y : Type 0) (files : FileMap) (steady : Bool) (found : Option (List (NodeOf Content))) (fault : FitFault) → FillsInOrder {X = X} naming files steady found (Err fault) → FillsInOrder {X = Y} naming files steady found (Err fault)
order-passed naming X Y files steady found NoImages h = h
order-passed naming X Y files steady found NoData h = h
order-passed naming X Y files steady found DataOutside h = h
order-passed naming X Y files steady found NoSuchImage h = h
order-passed naming X Y files steady found UnknownAlgo h = h
order-passed naming X Y files steady found PositionTooLow h = h
order-passed naming X Y files steady found TooLarge h = h
order-passed naming X Y files steady found OutOfMemory h = h
order-passed naming X Y files steady found NoFile h = h
order-passed naming X Y files steady found ReadFailed h = h

-- where the first image's file can't be read, no later image's hash node is told to be unknown
module _ (naming : Naming) (files : FileMap) (steady : Bool) (i : NodeOf Content) (more : List (NodeOf Content)) (sound : fault_in_memory naming i ≡ None) (unread : CanBeRead files.bytes i → ⊥) where
  not-past : (before : List (NodeOf Content)) (image : NodeOf Content) (after : List (NodeOf Content)) → Some (i ∷ more) ≡ Some (before ++ image ∷ after)
      → AllByRecursion (IsPassed naming files.bytes) before → fault_in_memory naming image ≡ Some UnknownAlgo → ⊥
  not-past [] image after are passed refused =
      let same : i ≡ image = cc in
      let clash : None ≡ Some UnknownAlgo = sym sound ∙ ap (fault_in_memory naming) same ∙ refused in absurd (cc)
  not-past (b ∷ before) image after are passed refused =
      let same : b ≡ i = cc in unread (subst (CanBeRead files.bytes) same passed.0.read)

  pub not-later : FillsInOrder {X = ⊤} naming files steady (Some (i ∷ more)) (Err UnknownAlgo) → ⊥
  not-later stops = not-past stops.before stops.image stops.after stops.are_images stops.passed stops.refused

-- where the file of each image with hash nodes can be read, complete files refuse none, and steady ones fail no read
module _ (naming : Naming) (files : FileMap) (steady : Bool) (found : List (NodeOf Content)) (read : AllByRecursion (CanBeRead files.bytes) found) where
  at-stop : (before : List (NodeOf Content)) (image : NodeOf Content) (after all : List (NodeOf Content)) → Some all ≡ Some (before ++ image ∷ after) → AllByRecursion (CanBeRead files.bytes) all → CanBeRead files.bytes image
  at-stop [] image after [] are can = absurd (cc)
  at-stop [] image after (i ∷ all) are can = let same : i ≡ image = cc in subst (CanBeRead files.bytes) same can.0
  at-stop (b ∷ before) image after [] are can = absurd (cc)
  at-stop (b ∷ before) image after (i ∷ all) are can = at-stop before image after all (cc) can.1

  not-stopped : (sole : Bool) (before : List (NodeOf Content)) (image : NodeOf Content) (after : List (NodeOf Content)) → Some found ≡ Some (before ++ image ∷ after) → StopsAtFileOf naming sole files.bytes image → IsTrue sole → ⊥
  not-stopped sole before image after are s alone = s.unread alone (at-stop before image after found are read s.stops.is_hashed)

  pub not-unopened : IsTrue files.complete → FillsInOrder {X = ⊤} naming files steady (Some found) (Err NoFile) → ⊥
  not-unopened complete stops = not-stopped files.complete stops.before stops.image stops.after stops.are_images stops.refused complete

  pub not-unread : IsTrue steady → FillsInOrder {X = ⊤} naming files steady (Some found) (Err ReadFailed) → ⊥
  not-unread reads stops = not-stopped steady stops.before stops.image stops.after stops.are_images stops.refused reads
