-- Filling the images of a root, and the tree.
use Rattle.std.proofs.Common.{◌≡◌, ℕ, suc, ◌+◌, ◌<◌, ◌≤◌, List, [], ◌∷◌, ◌++◌, length, map, set, get_or, find, Option, Some, None, Bool, true, false, not, cond, ◌&&◌, is_some, is_none, if◌then◌else◌, Result, Ok, Err, refl, ap, sym, subst, ◌∙◌, codes, arith}
use Rattle.std.specs.{List.{filter, list_all, prefix_len, AllByRecursion}, Str.bytes_eq}
use Rattle.std.specs.Option.{option_map, option_or, IfSome}
use Rattle.uimg_texts.specs.declared.naming.Naming.{Naming}
use Rattle.uimg_blob_reading.specs.{Roles.is_hash, Plain.{NamedOf, Nodes, no_node, a_node}}
use Rattle.uimg_blob_reading.specs.LookUps.{NodeOf, listed, first, images}
use Rattle.uimg_blob_writing.specs.{declared.tree.Node.Node, Trees.siblings, Encoding.word}
use Rattle.uimg_blob_writing.specs.Content.{Content, Unread, bytes, content_bytes, in_full, IsKept, AreKept, FilesAtData}
use Rattle.uimg_fit_building.specs.{Behind.entry, PayloadSums.{no_files, in_memory}}
use Rattle.uimg_fit_building.specs.FillAnswers.{node_in_full, FillsBy, StopsAtFile, FillsAnswerBy}
use Rattle.uimg_fit_building.specs.Filling.{each, in_first, with, filled, filled_image_by, hash_algo}
use Rattle.uimg_fit_building.specs.UnreadTrees.{filled_unread}
use Rattle.uimg_fit_base.specs.declared.fault.FitFault.{FitFault}
use Rattle.uimg_fit_base.specs.declared.fault.FitFault.TheVariants.{NoImages, NoData, DataOutside, NoSuchImage, UnknownAlgo, PositionTooLow, TooLarge, OutOfMemory, NoFile, ReadFailed}
use Rattle.uimg_fit_building.specs.ImageFillings.{filled_over, fault_in_memory, first_in_memory, StopsAmong, FillsImages, FillsParent, IsKeptImage, images_among, fault_among, StopsBelow, FillsBelow}
use Rattle.uimg_fit_building.specs.Refusing.{image_fault, first_fault, filling_fault, fill_from, fill_by}
use Rattle.uimg_fit_building.proofs.{FillLaw.fill-filled, ImageFillLaws.fault-with}
use Rattle.uimg_fit_building.proofs.{FillUnreadLaws.filled-read, ImagesFillLaws.fault-behind}
use Rattle.uimg_fit_building.proofs.{FillKeepsLaw.filled-kept, InMemoryLaws.{algo-same, image-same}}
use Rattle.uimg_fit_building.proofs.LookUpLaws.{NodeHas, first-has, images-has, images-with}

-- how many nodes stand before the first that is named `images`
abbrev pub before : {A : Type 0} → List (Node A) → ℕ
before ns = prefix_len (λ n. not (bytes_eq (codes "images") n.name)) ns

abbrev pub is_images : {A : Type 0} → Node A → Bool
is_images n = bytes_eq (codes "images") n.name

abbrev pub with_children : {A : Type 0} → (Unread → Unread) → Node A → Node A
with_children f n = record n { children = f n.children }

-- nodes, the children of that node by a function
set-step : {A : Type 0} (b : Bool) (f : Unread → Unread) (n : Node A) (ns : List (Node A)) (d new : Node A)
    → (before ns < length ns → new ≡ with_children f (get_or ns (before ns) d) → siblings (set ns (before ns) new) ≡ in_first (codes "images") f (siblings ns))
    → cond (not b) (1 + before ns) 0 < length (n ∷ ns) → new ≡ with_children f (get_or (n ∷ ns) (cond (not b) (1 + before ns) 0) d)
    → siblings (set (n ∷ ns) (cond (not b) (1 + before ns) 0) new)
    ≡ (if b then a_node n.name n.props (f n.children) (siblings ns) else a_node n.name n.props n.children (in_first (codes "images") f (siblings ns)))
set-step true f n ns d new rest within is = ap (λ (m : Node _). a_node m.name m.props m.children (siblings ns)) is
set-step false f n ns d new rest within is =
    let next : 1 + before ns ≡ suc (before ns) = omega arith in
    ap (λ (k : ℕ). siblings (set (n ∷ ns) k new)) next
    ∙ ap (λ (t : Unread). a_node n.name n.props n.children t) (rest (omega (arith, within)) (is ∙ ap (λ (k : ℕ). with_children f (get_or (n ∷ ns) k d)) next))

pub set-images : {A : Type 0} (f : Unread → Unread) (ns : List (Node A)) (d new : Node A) → before ns < length ns → new ≡ with_children f (get_or ns (before ns) d)
    → siblings (set ns (before ns) new) ≡ in_first (codes "images") f (siblings ns)
unfolding in_first
set-images f [] d new within is = absurd (omega (arith, within))
set-images f (n ∷ ns) d new within is = set-step (is_images n) f n ns d new (λ w i. set-images f ns d new w i) within is

-- that node is found
found-step : {A : Type 0} (b : Bool) (n : Node A) (ns : List (Node A)) (d : Node A) (found : Option (NodeOf Content))
    → (before ns < length ns → found ≡ Some (entry (get_or ns (before ns) d))) → cond (not b) (1 + before ns) 0 < length (n ∷ ns)
    → cond b (Some (entry n)) found ≡ Some (entry (get_or (n ∷ ns) (cond (not b) (1 + before ns) 0) d))
found-step true n ns d found rest within = refl
found-step false n ns d found rest within =
    let next : 1 + before ns ≡ suc (before ns) = omega arith in
    rest (omega (arith, within)) ∙ ap (λ (k : ℕ). let o : Option (NodeOf Content) = Some (entry (get_or (n ∷ ns) k d)) in o) (sym next)

images-found : {A : Type 0} (ns : List (Node A)) (d : Node A) → before ns < length ns
    → find (λ c. bytes_eq (codes "images") c.name) (listed (siblings ns)) ≡ Some (entry (get_or ns (before ns) d))
unfolding listed
images-found [] d within = absurd (omega (arith, within))
images-found (n ∷ ns) d within = found-step (is_images n) n ns d (find (λ c. bytes_eq (codes "images") c.name) (listed (siblings ns))) (λ w. images-found ns d w) within

pub among-found : {A : Type 0} (ns : List (Node A)) (d : Node A) → before ns < length ns → images_among (siblings ns) ≡ Some (listed (get_or ns (before ns) d).children)
among-found ns d within = ap (λ (o : Option (NodeOf Content)). option_map (λ c. listed c.below) o) (images-found ns d within)

-- there is none
gone-step : {A : Type 0} (b : Bool) (n : Node A) (ns : List (Node A)) (found : Option (NodeOf Content)) → (length ns ≤ before ns → found ≡ None) → length (n ∷ ns) ≤ cond (not b) (1 + before ns) 0
    → cond b (Some (entry n)) found ≡ None
gone-step true n ns found rest past = absurd (omega (arith, past))
gone-step false n ns found rest past = rest (omega (arith, past))

images-gone : {A : Type 0} (ns : List (Node A)) → length ns ≤ before ns → find (λ c. bytes_eq (codes "images") c.name) (listed (siblings ns)) ≡ None
unfolding listed
images-gone [] past = refl
images-gone (n ∷ ns) past = gone-step (is_images n) n ns (find (λ c. bytes_eq (codes "images") c.name) (listed (siblings ns))) (λ p. images-gone ns p) past

pub none-among : {A : Type 0} (ns : List (Node A)) → length ns ≤ before ns → images_among (siblings ns) ≡ None
none-among ns past = ap (λ (o : Option (NodeOf Content)). option_map (λ c. listed c.below) o) (images-gone ns past)

pub no-images : (naming : Naming) {A : Type 0} (ns : List (Node A)) → length ns ≤ before ns → fault_among naming (images_among (siblings ns)) ≡ Some NoImages
no-images naming ns past = ap (fault_among naming) (none-among ns past)

-- a node whose children are images
refused-parent : (naming : Naming) {A : Type 0} (X Y : Type 0) (files : List ℕ → Option (List ℕ)) (old new : Node A) (is now : List (NodeOf Content)) (fault : FitFault) → is ≡ listed old.children
    → FillsImages {X = X} naming files is now (Err fault) → FillsParent {X = Y} naming files old new (Err fault)
refused-parent naming X Y files old new is now NoImages same h = sym (ap (first_in_memory naming) same) ∙ h
refused-parent naming X Y files old new is now NoData same h = sym (ap (first_in_memory naming) same) ∙ h
refused-parent naming X Y files old new is now DataOutside same h = sym (ap (first_in_memory naming) same) ∙ h
refused-parent naming X Y files old new is now NoSuchImage same h = sym (ap (first_in_memory naming) same) ∙ h
refused-parent naming X Y files old new is now UnknownAlgo same h = sym (ap (first_in_memory naming) same) ∙ h
refused-parent naming X Y files old new is now PositionTooLow same h = sym (ap (first_in_memory naming) same) ∙ h
refused-parent naming X Y files old new is now TooLarge same h = sym (ap (first_in_memory naming) same) ∙ h
refused-parent naming X Y files old new is now OutOfMemory same h = tt
refused-parent naming X Y files old new is now NoFile same h = subst (StopsAmong naming) same h
refused-parent naming X Y files old new is now ReadFailed same h = subst (StopsAmong naming) same h

pub parent-told : (naming : Naming) {A : Type 0} (X : Type 0) (r : Result X FitFault) (files : List ℕ → Option (List ℕ)) (old new : Node A) (is now : List (NodeOf Content)) → is ≡ listed old.children
    → (now ≡ map (filled_over naming files) is → new ≡ record old { children = each (filled_over naming files) old.children })
    → FillsImages naming files is now r → FillsParent naming files old new r
parent-told naming X (Ok x) files old new is now same gives h = (sym (ap (first_in_memory naming) same) ∙ h.0, gives h.1)
parent-told naming X (Err fault) files old new is now same gives h = refused-parent naming X X files old new is now fault same h

-- a root
module _ (naming : Naming) {A : Type 0} (files : List ℕ → Option (List ℕ)) (ns : List (Node A)) (d new : Node A) (within : before ns < length ns) where
  abbrev parent : Node A
  parent = get_or ns (before ns) d

  abbrev whole : Unread
  whole = siblings (set ns (before ns) new)

  refused-below : (fault : FitFault) → first_in_memory naming (listed parent.children) ≡ Some fault → fault_among naming (images_among (siblings ns)) ≡ Some fault
  refused-below fault h = ap (fault_among naming) (among-found ns d within) ∙ h

  stops-below : StopsAmong naming (listed parent.children) → StopsBelow naming (siblings ns)
  stops-below h = record { images = listed parent.children; are_images = among-found ns d within; stops = h }

  pub root-told : (X : Type 0) (r : Result X FitFault) → FillsParent naming files parent new r → FillsBelow naming files (siblings ns) whole r
  root-told X (Ok x) h = (
    ap (fault_among naming) (among-found ns d within) ∙ h.0,
    set-images (each (filled_over naming files)) ns d new within h.1,
  )
  root-told X (Err NoImages) h = refused-below NoImages h
  root-told X (Err NoData) h = refused-below NoData h
  root-told X (Err DataOutside) h = refused-below DataOutside h
  root-told X (Err NoSuchImage) h = refused-below NoSuchImage h
  root-told X (Err UnknownAlgo) h = refused-below UnknownAlgo h
  root-told X (Err PositionTooLow) h = refused-below PositionTooLow h
  root-told X (Err TooLarge) h = refused-below TooLarge h
  root-told X (Err OutOfMemory) h = tt
  root-told X (Err NoFile) h = stops-below h
  root-told X (Err ReadFailed) h = stops-below h

  pub images-kept : IfSome (images_among (siblings ns)) (AllByRecursion (IsKeptImage files)) → AllByRecursion (IsKeptImage files) (listed parent.children)
  images-kept all = subst (λ (o : Option (List (NodeOf Content))). IfSome o (AllByRecursion (IsKeptImage files))) (among-found ns d within) all

-- what is so of a list is so of its front
front : {X : Type 0} (P : X → Type 0) (xs : List X) (x : X) (more : List X) → AllByRecursion P (xs ++ x ∷ more) → AllByRecursion P (xs ++ x ∷ [])
front P [] x more all = (all.0, tt)
front P (y ∷ xs) x more all = (all.0, front P xs x more all.1)

weaker : {X : Type 0} (P Q : X → Type 0) → ((x : X) → P x → Q x) → (xs : List X) → AllByRecursion P xs → AllByRecursion Q xs
weaker P Q gives [] all = tt
weaker P Q gives (x ∷ xs) all = (gives x all.0, weaker P Q gives xs all.1)

weaker-in : {X : Type 0} (P Q : X → Type 0) → ((x : X) → P x → Q x) → (o : Option (List X)) → IfSome o (AllByRecursion P) → IfSome o (AllByRecursion Q)
weaker-in P Q gives None all = tt
weaker-in P Q gives (Some xs) all = weaker P Q gives xs all

-- only `data` is in files
abbrev AtData : NodeOf Content → Type 0
AtData n = FilesAtData n.below

listed-at : (t : Unread) → FilesAtData t → AllByRecursion AtData (listed t)
unfolding listed
listed-at no_node at = tt
listed-at (a_node name own below after) at = (at.1, listed-at after at.2)

found-at : (b : Bool) (n : NodeOf Content) (o : Option (NodeOf Content)) → AtData n → IfSome o AtData → IfSome (cond b (Some n) o) AtData
found-at true n o at more = at
found-at false n o at more = more

find-at : (ns : List (NodeOf Content)) → AllByRecursion AtData ns → IfSome (find (λ c. bytes_eq (codes "images") c.name) ns) AtData
find-at [] at = tt
find-at (n ∷ ns) at = found-at (bytes_eq (codes "images") n.name) n (find (λ c. bytes_eq (codes "images") c.name) ns) at.0 (find-at ns at.1)

below-at : (o : Option (NodeOf Content)) → IfSome o AtData → IfSome (option_map (λ (c : NodeOf Content). listed c.below) o) (AllByRecursion AtData)
below-at None at = tt
below-at (Some c) at = listed-at c.below at

images-at : (t : Unread) → FilesAtData t → IfSome (images_among t) (AllByRecursion AtData)
images-at t at = below-at (find (λ c. bytes_eq (codes "images") c.name) (listed t)) (find-at (listed t) (listed-at t at))

module _ (naming : Naming) (files : List ℕ → Option (List ℕ)) where
  abbrev read : Content → List ℕ
  read = content_bytes files

  -- what filling decides is in memory
  known-step : (b : Bool) (h : NodeOf Content) (hs : List (NodeOf Content)) → hash_algo naming in_memory h.own ≡ hash_algo naming read h.own
      → list_all (λ h. is_some (hash_algo naming in_memory h.own)) hs ≡ list_all (λ h. is_some (hash_algo naming read h.own)) hs
      → list_all (λ h. is_some (hash_algo naming in_memory h.own)) (cond b (h ∷ hs) hs) ≡ list_all (λ h. is_some (hash_algo naming read h.own)) (cond b (h ∷ hs) hs)
  known-step true h hs same rest =
      ap (λ o. is_some o && list_all (λ h. is_some (hash_algo naming in_memory h.own)) hs) same
      ∙ ap (λ (b : Bool). is_some (hash_algo naming read h.own) && b) rest
  known-step false h hs same rest = rest

  known-same : (t : Unread) → FilesAtData t → list_all (λ h. is_some (hash_algo naming in_memory h.own)) (filter (λ h. is_hash h.name) (listed t))
      ≡ list_all (λ h. is_some (hash_algo naming read h.own)) (filter (λ h. is_hash h.name) (listed t))
  unfolding listed
  known-same no_node at = refl
  known-same (a_node name own below after) at =
      known-step (is_hash name) (record { name = name; own = own; below = below }) (filter (λ h. is_hash h.name) (listed after)) (algo-same naming files own at.0) (known-same after at.2)

  fault-same : (image : NodeOf Content) → FilesAtData image.below → fault_in_memory naming image ≡ image_fault naming (node_in_full files image)
  fault-same image at =
      fault-with naming no_files image
      ∙ ap (λ (b : Bool). if is_none (first image.own (codes "data")) then Some NoData else if b then None else Some UnknownAlgo) (known-same image.below at)
      ∙ sym (fault-with naming files image)

  faults-same : (is : List (NodeOf Content)) → AllByRecursion AtData is → first_in_memory naming is ≡ first_fault naming (map (node_in_full files) is)
  unfolding first_fault
  faults-same [] at = refl
  faults-same (i ∷ is) at =
      ap (λ (o : Option FitFault). option_or o (first_in_memory naming is)) (fault-same i at.0)
      ∙ ap (λ (o : Option FitFault). option_or (image_fault naming (node_in_full files i)) o) (faults-same is at.1)

  among-same : (o : Option (List (NodeOf Content))) → IfSome o (AllByRecursion AtData) → fault_among naming o ≡ filling_fault naming (option_map (λ (l : List (NodeOf Content)). map (node_in_full files) l) o)
  among-same None at = refl
  among-same (Some is) at = faults-same is at

  -- the images of a tree are filled by the bytes of its files
  each-same : (t : Unread) → FilesAtData t → each (filled_over naming files) t ≡ each (filled_image_by naming read bytes) t
  unfolding each
  each-same no_node at = refl
  each-same (a_node name own below after) at =
      let n : NodeOf Content = record { name = name; own = own; below = below } in
      ap (λ (m : NodeOf Content). a_node m.name m.own m.below (each (filled_over naming files) after)) (image-same naming files n at.1)
      ∙ ap (λ (u : Unread). a_node (filled_image_by naming read bytes n).name (filled_image_by naming read bytes n).own (filled_image_by naming read bytes n).below u) (each-same after at.2)

  in-step : (b : Bool) (name : List ℕ) (own : List (NamedOf Content)) (below after one two three four : Unread) → one ≡ two → three ≡ four
      → (if b then a_node name own one after else a_node name own below three) ≡ (if b then a_node name own two after else a_node name own below four)
  in-step true name own below after one two three four h k = ap (λ (u : Unread). a_node name own u after) h
  in-step false name own below after one two three four h k = ap (λ (u : Unread). a_node name own below u) k

  in-same : (key : List ℕ) (t : Unread) → FilesAtData t → in_first key (each (filled_over naming files)) t ≡ in_first key (each (filled_image_by naming read bytes)) t
  unfolding in_first
  in-same key no_node at = refl
  in-same key (a_node name own below after) at =
      in-step (bytes_eq key name) name own below after (each (filled_over naming files) below) (each (filled_image_by naming read bytes) below)
      (in_first key (each (filled_over naming files)) after) (in_first key (each (filled_image_by naming read bytes)) after) (each-same below at.1) (in-same key after at.2)

  -- a tree
  module _ (name : List ℕ) (own : List (NamedOf Content)) (below : Unread) where
    abbrev t : Unread
    t = a_node name own below no_node

    pub kept-below : AreKept files t → IfSome (images_among below) (AllByRecursion (IsKeptImage files))
    kept-below kept =
        weaker-in (NodeHas (IsKept files)) (IsKeptImage files) (λ n h. first-has (IsKept files) n.own (codes "data") h.0) (images_among below) (images-has (IsKept files) t kept)

    told-fault : FilesAtData t → fault_among naming (images_among below) ≡ filling_fault naming (images (in_full files t))
    told-fault at =
        among-same (images_among below) (images-at below at.1) ∙ sym (ap (filling_fault naming) (images-with read t))

    pub told-filled : (time : ℕ) (more : List (NamedOf Content)) (new : Unread) → FilesAtData t → AreKept files t → more ≡ with (codes "timestamp") (bytes (word time)) own
        → fault_among naming (images_among below) ≡ None → new ≡ in_first (codes "images") (each (filled_over naming files)) below → FillsBy naming files time t (a_node name more new no_node)
    told-filled time more new at kept set none is =
        let u : Unread = a_node name more new no_node in
        let source : u ≡ filled_unread naming files time t =
        ap (λ (l : List (NamedOf Content)). a_node name l new no_node) set
        ∙ ap (λ (v : Unread). a_node name (with (codes "timestamp") (bytes (word time)) own) v no_node) (is ∙ in-same (codes "images") below at.1) in
        let accepted : fill_by naming time (in_full files t) ≡ Ok (in_full files u) =
        ap (λ (o : Option FitFault). fill_from o (filled naming time (in_full files t))) (sym (told-fault at) ∙ none)
        ∙ ap (λ (v : Nodes). let r : Result Nodes FitFault = Ok v in r) (filled-read naming files time t ∙ ap (λ (v : Unread). in_full files v) (sym source)) in
        record {
          source = source;
          accepted = accepted;
          is_filled = fill-filled naming time (in_full files t) (in_full files u) accepted;
          kept = subst (λ (v : Unread). AreKept files v) (sym source) (filled-kept naming files time t kept);
        }

    told-stop : FilesAtData t → StopsBelow naming below → StopsAtFile naming files t
    unfolding first_fault
    told-stop at s =
        let m = s.stops in
        let all : AllByRecursion AtData (m.before ++ m.image ∷ m.after) =
        subst (AllByRecursion AtData) m.are (subst (λ (o : Option (List (NodeOf Content))). IfSome o (AllByRecursion AtData)) s.are_images (images-at below at.1)) in
        record {
          before = m.before;
          image = m.image;
          after = m.after;
          are_images = s.are_images ∙ ap (λ (l : List (NodeOf Content)). let o : Option (List (NodeOf Content)) = Some l in o) m.are;
          sound = sym (faults-same (m.before ++ m.image ∷ []) (front AtData m.before m.image m.after all))
              ∙ fault-behind naming m.before (m.image ∷ []) m.sound ∙ ap (λ (o : Option FitFault). option_or o None) m.stops.sound;
          name = m.stops.name;
          size = m.stops.size;
          is_file = m.stops.is_file;
          is_hashed = m.stops.is_hashed;
        }

    refusal : (time : ℕ) (fault : FitFault) → FilesAtData t → fault_among naming (images_among below) ≡ Some fault → fill_by naming time (in_full files t) ≡ Err fault
    refusal time fault at h = ap (λ (o : Option FitFault). fill_from o (filled naming time (in_full files t))) (sym (told-fault at) ∙ h)

    pub told-refused : (X Y : Type 0) (view : X → Unread) (time : ℕ) (new : Unread) (fault : FitFault) → FilesAtData t → FillsBelow {X = Y} naming files below new (Err fault) → FillsAnswerBy naming view files time t (Err fault)
    told-refused X Y view time new NoImages at h = refusal time NoImages at h
    told-refused X Y view time new NoData at h = refusal time NoData at h
    told-refused X Y view time new DataOutside at h = refusal time DataOutside at h
    told-refused X Y view time new NoSuchImage at h = refusal time NoSuchImage at h
    told-refused X Y view time new UnknownAlgo at h = refusal time UnknownAlgo at h
    told-refused X Y view time new PositionTooLow at h = refusal time PositionTooLow at h
    told-refused X Y view time new TooLarge at h = refusal time TooLarge at h
    told-refused X Y view time new OutOfMemory at h = tt
    told-refused X Y view time new NoFile at h = told-stop at h
    told-refused X Y view time new ReadFailed at h = told-stop at h
