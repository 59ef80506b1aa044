-- What is built with its payloads inside the blob reads back.
use Rattle.std.proofs.Common.{◌≡◌, ◌<◌, ◌^◌, ℕ, ◌+◌, List, [], ◌∷◌, ◌++◌, length, map, Option, Some, None, Result, Ok, false, nat_lt, unwrap_or, refl, ap, sym, subst, ◌∙◌, codes}
use Rattle.std.specs.{List.AllByRecursion, Option.{option_map, option_and_then, IfSome}}
use Rattle.std.{specs.Result.IfOk, proofs.lemmas.Bool.le-ltb}
use Rattle.uimg_texts.specs.declared.naming.Naming.TheVariants.{Profile}
use Rattle.uimg_blob_reading.specs.{Reading.Fault, Grammar.Siblings, Blob.tree, Spots.{Spot, spots}}
use Rattle.uimg_blob_reading.specs.Plain.{Named, Nodes, no_node, a_node, AllValues, AreNamed}
use Rattle.uimg_blob_reading.specs.{LookUps.{NodeOf, first, images}, Indexed.value_span}
use Rattle.uimg_blob_writing.specs.Encoding.{structure_offset, encode_with}
use Rattle.uimg_blob_writing.proofs.Spelling.{placed}
use Rattle.uimg_blob_writing.specs.declared.blob_end.BlobEnd.{BlobEnd}
use Rattle.uimg_blob_writing.specs.declared.reservation.Reservation.{Reservation}
use Rattle.uimg_blob_writing.proofs.ReadsBackLaw.{encode-tree}
use Rattle.uimg_fit_base.specs.{declared.fault.FitFault.FitFault, Places.{embedded, bytes_at}}
use Rattle.uimg_fit_base.specs.{declared.placement.AlignedPlacement.TheVariants.Inside, Lying.Lie}
use Rattle.uimg_fit_base.specs.Files.{listed_or, images_of, number, cell}
use Rattle.uimg_fit_base.proofs.{ReadLaws.tree-lies, FileLaws.images_are}
use Rattle.uimg_base.specs.Results.{◌>>=◌}
use Rattle.uimg_fit_building.specs.{Filling.{IsFilledImage, IsFilled}, Building.{data_of, built_with, end_of}}
use Rattle.uimg_fit_building.specs.ReadsBack.{ReadsBack}
use Rattle.uimg_fit_building.proofs.SpotLaws.{Lies, lies-spots, bytes-placed}
use Rattle.uimg_fit_building.proofs.SoundLaws.{plain, IsSound, AreSound, reads_back-sound}
use Rattle.uimg_fit_building.proofs.LookUpLaws.{first-with, images-with, NodeHas, first-has, images-has}

-- The images of a file are these but for their places, and each value stands at its place.
pub record IsRead (file : List ℕ) (found : List (NodeOf (List ℕ))) : Type 0 where
  pub placed : List (NodeOf Spot)
  pub are : images_of file ≡ Ok placed
  pub same : map plain placed ≡ found
  pub lie : AllByRecursion (NodeHas (Lies file)) placed

read-from : (file : List ℕ) (o : Option (List (NodeOf Spot))) (found : List (NodeOf (List ℕ))) → option_map (λ (l : List (NodeOf Spot)). map plain l) o ≡ Some found
    → IfSome o (AllByRecursion (NodeHas (Lies file))) → images_of file ≡ listed_or o → IsRead file found
read-from file None found e h is = absurd (cc)
read-from file (Some l) found e h is = record { placed = l; are = is; same = cc; lie = h }

-- the images of a file that begins with the blob of a tree are those of the tree
pub images-read : (ending : BlobEnd) (rs : List Reservation) (name : List ℕ) (own : List Named) (below : Nodes) (more : List ℕ) (found : List (NodeOf (List ℕ)))
    → (let u : Nodes = a_node name own below no_node in AreNamed u)
    → (let u : Nodes = a_node name own below no_node in length (encode_with ending rs u)) < 2 ^ 32
    → (let u : Nodes = a_node name own below no_node in images u ≡ Some found)
    → (let u : Nodes = a_node name own below no_node in IsRead (encode_with ending rs u ++ more) found)
images-read ending rs name own below more found named fits are =
    let u : Nodes = a_node name own below no_node in
    let file = encode_with ending rs u ++ more in
    let o = structure_offset rs in
    let read : tree file ≡ Ok (placed o u) = encode-tree ending rs name own below named fits more in
    let s = spots (placed o u) in
    let lie : AllValues (Lies file) s = lies-spots file (placed o u) (subst (λ (r : Result Siblings Fault). IfOk r (Lie file)) read (tree-lies file)) in
    let views : option_map (λ (l : List (NodeOf Spot)). map plain l) (images s) ≡ Some found =
    sym (images-with (λ (p : Spot). p.bytes) s) ∙ ap (λ (t : Nodes). images t) (bytes-placed o u) ∙ are in
    read-from file (images s) found views (images-has (Lies file) s lie) (images_are file (placed o u) (images s) read refl)

-- a property that isn't there has no number
pub missing : (i : NodeOf Spot) (key : List ℕ) → first (plain i).own key ≡ None → cell i.own key ≡ None
missing i key e = ap (option_and_then number) (sym (first-with (λ (s : Spot). s.bytes) i.own key) ∙ e)

-- the bytes of a value that stands at its place
embedded-bytes : (file : List ℕ) (o : Option Spot) (message : List ℕ) → IfSome o (Lies file) → option_map (λ (s : Spot). s.bytes) o ≡ Some message → (embedded (option_map value_span o) >>= bytes_at file) ≡ Ok message
unfolding bytes_at
embedded-bytes file None message lies e = absurd (cc)
embedded-bytes file (Some s) message lies e =
    let inside : nat_lt (length file) (s.place + length s.bytes) ≡ false = le-ltb _ _ lies.within in
    let is : s.bytes ≡ message = cc in
    rw (inside, lies.here) (ap (λ (w : List ℕ). let y : Result (List ℕ) FitFault = Ok w in y) is)

inside-image : (file : List ℕ) (i : NodeOf Spot) → NodeHas (Lies file) i → IsFilledImage Profile (plain i) → IsSound file i (data_of (plain i).own)
inside-image file i lies f =
    let position = missing i (codes "data-position") f.no_position in
    let offset = missing i (codes "data-offset") f.no_offset in
    let views : option_map (λ (s : Spot). s.bytes) (first i.own (codes "data")) ≡ Some f.message = sym (first-with (λ (s : Spot). s.bytes) i.own (codes "data")) ∙ f.has in
    let there = embedded-bytes file (first i.own (codes "data")) f.message (first-has (Lies file) i.own (codes "data") lies.0) views in
    let is_data : f.message ≡ data_of (plain i).own = sym (ap (λ (o : Option (List ℕ)). unwrap_or o []) f.has) in
    let sound : IsSound file i f.message = record { is = rw (position, offset) there; digests = f.digests } in
    subst (λ (m : List ℕ). IsSound file i m) is_data sound

inside-images : (file : List ℕ) (is : List (NodeOf Spot)) → AllByRecursion (NodeHas (Lies file)) is → AllByRecursion (IsFilledImage Profile) (map plain is) → AreSound file is (map (λ i. data_of i.own) (map plain is))
inside-images file [] lie f = tt
inside-images file (i ∷ is) lie f = (inside-image file i lie.0 f.0, inside-images file is lie.1 f.1)

pub built-inside : (least : ℕ) (rs : List Reservation) (name : List ℕ) (own : List Named) (below : Nodes)
    → (let t : Nodes = a_node name own below no_node in AreNamed t)
    → (let t : Nodes = a_node name own below no_node in length (encode_with (end_of (Inside least)) rs t)) < 2 ^ 32
    → (let t : Nodes = a_node name own below no_node in IsFilled t)
    → (let t : Nodes = a_node name own below no_node in ReadsBack (built_with rs t (Inside least)) t)
built-inside least rs name own below named fits f =
    let t : Nodes = a_node name own below no_node in
    let file = encode_with (end_of (Inside least)) rs t ++ [] in
    let r = images-read (end_of (Inside least)) rs name own below [] f.found named fits f.are_images in
    let filled : AllByRecursion (IsFilledImage Profile) (map plain r.placed) = subst (λ (l : List (NodeOf (List ℕ))). AllByRecursion (IsFilledImage Profile) l) (sym r.same) f.each_filled in
    let sound : AreSound file r.placed (map (λ (i : NodeOf (List ℕ)). data_of i.own) f.found) =
    subst (λ (l : List (NodeOf (List ℕ))). AreSound file r.placed (map (λ (i : NodeOf (List ℕ)). data_of i.own) l)) r.same (inside-images file r.placed r.lie filled) in
    reads_back-sound file t r.placed f.found r.are f.are_images sound
