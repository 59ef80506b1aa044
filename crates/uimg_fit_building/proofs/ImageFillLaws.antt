-- Filling an image by what is in memory.
use Rattle.std.proofs.Common.{◌≡◌, ◌≢◌, ℕ, List, [], ◌∷◌, map, Option, Some, None, Bool, true, false, cond, ◌&&◌, IfErr, OnOk, is_some, is_none, if◌then◌else◌, Result, Ok, Err, refl, ap, sym, ◌∙◌, codes}
use Rattle.std.specs.List.{filter, list_all, AllByRecursion}
use Rattle.std.specs.Option.{option_map, option_map_or, option_and_then, IfSome}
use Rattle.uimg_texts.specs.declared.naming.Naming.{Naming}
use Rattle.uimg_sums.specs.declared.algo.Algo.{Algo}
use Rattle.uimg_texts.specs.Nul.{text}
use Rattle.uimg_blob_reading.specs.{Roles.is_hash, Plain.{NamedOf, no_node, a_node, with_value}}
use Rattle.uimg_blob_reading.specs.LookUps.{NodeOf, listed, first, hashes}
use Rattle.uimg_blob_writing.specs.{declared.tree.Node.Node, Trees.siblings}
use Rattle.uimg_blob_writing.specs.Content.{Content, Unread, bytes, file, content_bytes}
use Rattle.uimg_fit_base.specs.declared.{algo_sets.AlgoSet.AlgoSet, fault.FitFault.FitFault}
use Rattle.uimg_fit_base.{specs.AlgoSets.{has, no_algos}, proofs.AlgoSetLaws.has-none}
use Rattle.uimg_fit_base.specs.declared.fault.FitFault.TheVariants.{NoImages, NoData, DataOutside, NoSuchImage, UnknownAlgo, PositionTooLow, TooLarge, OutOfMemory, NoFile, ReadFailed}
use Rattle.uimg_fit_base.specs.AlgoNames.{algo_by}
use Rattle.uimg_fit_building.specs.Filling.{hash_algo, algo_in, each, without_external}
use Rattle.uimg_fit_building.specs.{Refusing.image_fault, FillAnswers.node_in_full, Behind.entry}
use Rattle.uimg_fit_building.specs.PayloadSums.{no_files, in_memory, all_marked, CoversHash}
use Rattle.uimg_fit_building.specs.ImageFillings.{hashed_in, filled_over, fault_in_memory, are_known, IsFileFault, StopsAtPayload, FillsHashes, StopsAtImage, FillsImage}
use Rattle.uimg_fit_building.proofs.AlgoSetLaws.{marks-all, marks-none}
use Rattle.uimg_fit_building.proofs.LookUpLaws.{node_with, first-with, hashes-with}

-- nodes as a list
pub listed-siblings : {A : Type 0} (ns : List (Node A)) → listed (siblings ns) ≡ map entry ns
unfolding listed
listed-siblings [] = refl
listed-siblings (n ∷ ns) = ap (λ (l : List (NodeOf Content)). entry n ∷ l) (listed-siblings ns)

abbrev pub joined : List (NodeOf Content) → Unread
joined [] = no_node
joined (n ∷ ns) = a_node n.name n.own n.below (joined ns)

joined-siblings : {A : Type 0} (ns : List (Node A)) → joined (map entry ns) ≡ siblings ns
joined-siblings [] = refl
joined-siblings (n ∷ ns) = ap (λ (t : Unread). a_node n.name n.props n.children t) (joined-siblings ns)

joined-each : {A : Type 0} (f : NodeOf Content → NodeOf Content) (ns : List (Node A)) → joined (map f (map entry ns)) ≡ each f (siblings ns)
unfolding each
joined-each f [] = refl
joined-each f (n ∷ ns) = ap (λ (t : Unread). a_node (f (entry n)).name (f (entry n)).own (f (entry n)).below t) (joined-each f ns)

pub siblings-each : {A : Type 0} (f : NodeOf Content → NodeOf Content) (old new : List (Node A)) → map entry new ≡ map f (map entry old) → siblings new ≡ each f (siblings old)
siblings-each f old new h = sym (joined-siblings new) ∙ ap joined h ∙ joined-each f old

-- nodes without hash nodes stay
each-step : (naming : Naming) (b : Bool) (message : List ℕ) (name : List ℕ) (own : List (NamedOf Content)) (below after : Unread) (more : List (NodeOf Content)) → b ≡ is_hash name
    → cond b (record { name = name; own = own; below = below } ∷ more) more ≡ [] → (more ≡ [] → each (hashed_in naming message) after ≡ after)
    → each (hashed_in naming message) (a_node name own below after) ≡ a_node name own below after
unfolding each
each-step naming true message name own below after more e gone rest = absurd (cc)
each-step naming false message name own below after more e gone rest = rw (sym e) (ap (λ (t : Unread). a_node name own below t) (rest gone))

pub each-unhashed : (naming : Naming) (message : List ℕ) (t : Unread) → filter (λ h. is_hash h.name) (listed t) ≡ [] → each (hashed_in naming message) t ≡ t
unfolding each listed
each-unhashed naming message no_node none_there = refl
each-unhashed naming message (a_node name own below after) none_there =
    each-step naming (is_hash name) message name own below after (filter (λ h. is_hash h.name) (listed after)) refl none_there (λ gone. each-unhashed naming message after gone)

head-known : (o : Option Algo) (b : Bool) → IfSome o (λ algo. has no_algos algo ≡ true) → (is_some o && b) ≡ true → false ≡ true
head-known None b covered known = absurd (cc)
head-known (Some a) b covered known = sym (has-none a) ∙ covered

none-marked : (naming : Naming) (hs : List (NodeOf Content)) → AllByRecursion (CoversHash naming no_algos) hs → list_all (λ h. is_some (hash_algo naming in_memory h.own)) hs ≡ true → hs ≡ []
none-marked naming [] covered known = refl
none-marked naming (h ∷ hs) covered known = absurd (let clash = head-known (hash_algo naming in_memory h.own) (list_all (λ g. is_some (hash_algo naming in_memory g.own)) hs) covered.0 known in cc)

-- the exits of the hash nodes of an image
module _ (naming : Naming) {A : Type 0} (ns : List (Node A)) (t : Unread) (is : siblings ns ≡ t) where
  abbrev found : List (NodeOf Content)
  found = filter (λ h. is_hash h.name) (map entry ns)

  same : found ≡ filter (λ h. is_hash h.name) (listed t)
  same = ap (λ (l : List (NodeOf Content)). filter (λ h. is_hash h.name) l) (sym (listed-siblings ns) ∙ ap (λ (u : Unread). listed u) is)

  pub not-known : all_marked naming no_algos found ≡ None → are_known naming t ≡ false
  not-known h = ap (λ (l : List (NodeOf Content)). list_all (λ h. is_some (hash_algo naming in_memory h.own)) l) (sym same) ∙ marks-none naming no_algos found h

  pub all-known : (set : AlgoSet) → all_marked naming no_algos found ≡ Some set → are_known naming t ≡ true
  all-known set h = ap (λ (l : List (NodeOf Content)). list_all (λ h. is_some (hash_algo naming in_memory h.own)) l) (sym same) ∙ (marks-all naming no_algos set found h).known

  pub all-covered : (set : AlgoSet) → all_marked naming no_algos found ≡ Some set → AllByRecursion (CoversHash naming set) found
  all-covered set h = (marks-all naming no_algos set found h).covered

  pub none-found : all_marked naming no_algos found ≡ Some no_algos → filter (λ h. is_hash h.name) (listed t) ≡ []
  none-found h =
      let m = marks-all naming no_algos no_algos found h in
      sym same ∙ none-marked naming found m.covered m.known

  pub none-hashed : (message : List ℕ) → all_marked naming no_algos found ≡ Some no_algos → t ≡ each (hashed_in naming message) t
  none-hashed message h = sym (each-unhashed naming message t (none-found h))

  pub some-hashed : (set : AlgoSet) → all_marked naming no_algos found ≡ Some set → set ≢ no_algos → filter (λ h. is_hash h.name) (listed t) ≢ []
  unfolding all_marked
  some-hashed set h apart gone =
      let none_found : found ≡ [] = same ∙ gone in
      let marked : all_marked naming no_algos found ≡ Some no_algos = ap (all_marked naming no_algos) none_found in
      apart (let both : Some set ≡ Some no_algos = sym h ∙ marked in cc)

pub stops-at : (naming : Naming) {X : Type 0} (view : X → Unread) (files : List ℕ → Option (List ℕ)) (c : Content) (t : Unread) (fault : FitFault) → IsFileFault c fault → are_known naming t ≡ true
    → filter (λ h. is_hash h.name) (listed t) ≢ [] → FillsHashes naming view files c t (Err fault)
stops-at naming view files (bytes b) t fault at known some = absurd at
stops-at naming view files (file name size) t NoImages at known some = absurd at
stops-at naming view files (file name size) t NoData at known some = absurd at
stops-at naming view files (file name size) t DataOutside at known some = absurd at
stops-at naming view files (file name size) t NoSuchImage at known some = absurd at
stops-at naming view files (file name size) t UnknownAlgo at known some = absurd at
stops-at naming view files (file name size) t PositionTooLow at known some = absurd at
stops-at naming view files (file name size) t TooLarge at known some = absurd at
stops-at naming view files (file name size) t OutOfMemory at known some = absurd at
stops-at naming view files (file name size) t NoFile at known some = record { known = known; name = name; size = size; is_file = refl; is_hashed = some }
stops-at naming view files (file name size) t ReadFailed at known some = record { known = known; name = name; size = size; is_file = refl; is_hashed = some }

-- why an image isn't filled
algo-step : (naming : Naming) (f : Content → List ℕ) (o : Option Content) → option_and_then (λ name. algo_by naming (text name)) (option_map f o) ≡ option_and_then (λ c. algo_by naming (text (f c))) o
algo-step naming f None = refl
algo-step naming f (Some c) = refl

pub algo-with : (naming : Naming) (f : Content → List ℕ) (own : List (NamedOf Content)) → algo_in naming (map (with_value f) own) ≡ hash_algo naming f own
algo-with naming f own =
    ap (λ (o : Option (List ℕ)). option_and_then (λ name. algo_by naming (text name)) o) (first-with f own (codes "algo")) ∙ algo-step naming f (first own (codes "algo"))

known-map : (naming : Naming) (f : Content → List ℕ) (hs : List (NodeOf Content)) → list_all (λ h. is_some (algo_in naming h.own)) (map (node_with f) hs) ≡ list_all (λ h. is_some (hash_algo naming f h.own)) hs
known-map naming f [] = refl
known-map naming f (h ∷ hs) =
    ap (λ (o : Option Algo). is_some o && list_all (λ g. is_some (algo_in naming g.own)) (map (node_with f) hs)) (algo-with naming f h.own)
    ∙ ap (λ (b : Bool). is_some (hash_algo naming f h.own) && b) (known-map naming f hs)

abbrev pub fault_by : Option Content → Bool → Option FitFault
fault_by o b = if is_none o then Some NoData else if b then None else Some UnknownAlgo

is-none-map : (f : Content → List ℕ) (o : Option Content) → is_none (option_map f o) ≡ is_none o
is-none-map f None = refl
is-none-map f (Some c) = refl

pub fault-with : (naming : Naming) (files : List ℕ → Option (List ℕ)) (image : NodeOf Content)
    → image_fault naming (node_in_full files image) ≡ fault_by (first image.own (codes "data")) (list_all (λ h. is_some (hash_algo naming (content_bytes files) h.own)) (hashes image))
unfolding image_fault
fault-with naming files image =
    let f = content_bytes files in
    ap (λ (b : Bool). if b then Some NoData else if list_all (λ h. is_some (algo_in naming h.own)) (hashes (node_with f image)) then None else Some UnknownAlgo)
    (ap (λ (o : Option (List ℕ)). is_none o) (first-with f image.own (codes "data")) ∙ is-none-map f (first image.own (codes "data")))
    ∙ ap (λ (b : Bool). fault_by (first image.own (codes "data")) b)
    (ap (λ (l : List (NodeOf (List ℕ))). list_all (λ h. is_some (algo_in naming h.own)) l) (hashes-with f image) ∙ known-map naming f (hashes image))

-- the exits of an image
pub no-data : (naming : Naming) (image : NodeOf Content) → first image.own (codes "data") ≡ None → fault_in_memory naming image ≡ Some NoData
no-data naming image gone =
    fault-with naming no_files image ∙ ap (λ (o : Option Content). fault_by o (are_known naming image.below)) gone

pub sound-of : (naming : Naming) (image : NodeOf Content) (c : Content) (b : Bool) → first image.own (codes "data") ≡ Some c → are_known naming image.below ≡ b → fault_in_memory naming image ≡ (if b then None else Some UnknownAlgo)
sound-of naming image c b there known =
    fault-with naming no_files image ∙ ap (λ (o : Option Content). fault_by o (are_known naming image.below)) there ∙ ap (λ (k : Bool). if k then None else Some UnknownAlgo) known

pub stops-image : (naming : Naming) (image : NodeOf Content) (c : Content) → first image.own (codes "data") ≡ Some c → StopsAtPayload naming c image.below → StopsAtImage naming image
stops-image naming image c there s =
    record { sound = sound-of naming image c true there s.known; name = s.name; size = s.size; is_file = there ∙ ap (λ (d : Content). let o : Option Content = Some d in o) s.is_file; is_hashed = s.is_hashed }

image-refused : (naming : Naming) {X : Type 0} (Y : Type 0) (view : X → Unread) (files : List ℕ → Option (List ℕ)) (image new : NodeOf Content) (c : Content) (fault : FitFault) → first image.own (codes "data") ≡ Some c
    → FillsHashes naming view files c image.below (Err fault) → FillsImage {X = Y} naming files image new (Err fault)
image-refused naming Y view files image new c NoImages there h = absurd h
image-refused naming Y view files image new c NoData there h = absurd h
image-refused naming Y view files image new c DataOutside there h = absurd h
image-refused naming Y view files image new c NoSuchImage there h = absurd h
image-refused naming Y view files image new c UnknownAlgo there h = sound-of naming image c false there h
image-refused naming Y view files image new c PositionTooLow there h = absurd h
image-refused naming Y view files image new c TooLarge there h = absurd h
image-refused naming Y view files image new c OutOfMemory there h = tt
image-refused naming Y view files image new c NoFile there h = stops-image naming image c there h
image-refused naming Y view files image new c ReadFailed there h = stops-image naming image c there h

image-filled : (naming : Naming) (files : List ℕ → Option (List ℕ)) (image : NodeOf Content) (c : Content) (below : Unread) → first image.own (codes "data") ≡ Some c
    → are_known naming image.below ≡ true → below ≡ each (hashed_in naming (content_bytes files c)) image.below
    → (fault_in_memory naming image ≡ None) × (record { name = image.name; own = without_external image.own; below = below } ≡ filled_over naming files image)
image-filled naming files image c below there known is = (
  sound-of naming image c true there known,
  ap (λ (t : Unread). let n : NodeOf Content = record { name = image.name; own = without_external image.own; below = t } in n)
      (is ∙ sym (ap (λ (o : Option Content). option_map_or (λ d. each (hashed_in naming (content_bytes files d)) image.below) o image.below) there)),
)

pub image-told : (naming : Naming) (X : Type 0) (r : Result X FitFault) (files : List ℕ → Option (List ℕ)) (image : NodeOf Content) (c : Content) (below : Unread) → first image.own (codes "data") ≡ Some c
    → FillsHashes naming (λ x. below) files c image.below r → FillsImage naming files image (record { name = image.name; own = without_external image.own; below = below }) r
image-told naming X (Ok x) files image c below there h = image-filled naming files image c below there h.0 h.1
image-told naming X (Err fault) files image c below there h =
    image-refused naming {X = X} X (λ x. below) files image (record { name = image.name; own = without_external image.own; below = below }) c fault there h

-- what was looked up
pub content-none : {X : Type 0} (f : X → Content) (o : Option X) → o ≡ None → option_map f o ≡ None
content-none f o is = rw is refl

pub content-some : {X : Type 0} (f : X → Content) (o : Option X) (x : X) → o ≡ Some x → option_map f o ≡ Some (f x)
content-some f o x is = rw is refl

pub children-filled : (naming : Naming) {A X : Type 0} (r : Result X FitFault) (files : List ℕ → Option (List ℕ)) (c : Content) (old new : List (Node A)) → are_known naming (siblings old) ≡ true → IfErr r (λ fault. fault ≡ OutOfMemory)
    → OnOk r (siblings new ≡ each (hashed_in naming (content_bytes files c)) (siblings old)) → FillsHashes naming (λ u. siblings new) files c (siblings old) r
children-filled naming (Ok x) files c old new known memory is = (known, is)
children-filled naming (Err fault) files c old new known memory is = rw memory tt
