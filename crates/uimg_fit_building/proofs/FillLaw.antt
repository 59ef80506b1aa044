-- A tree that is filled without a fault is filled.
use Rattle.std.proofs.Common.{◌≡◌, ℕ, List, [], ◌∷◌, map, Option, Some, None, Ok, Bool, true, false, not, cond, find, is_some, is_none, if◌then◌else◌, refl, ap, sym, subst, ◌∙◌, codes}
use Rattle.std.specs.List.{filter, list_any, list_all, AllByRecursion}
use Rattle.std.specs.{Option.{option_map, option_map_or, option_and_then, option_or}, Str.bytes_eq}
use Rattle.std.proofs.lemmas.Slice.Eq.{bytes_eq-Decides}
use Rattle.uimg_texts.specs.declared.naming.Naming.{Naming}
use Rattle.uimg_sums.specs.{declared.algo.Algo.Algo, Algorithms.digest_by}
use Rattle.uimg_blob_reading.specs.{Roles.is_hash, Plain.{Named, Nodes, no_node, a_node}}
use Rattle.uimg_blob_reading.specs.LookUps.{NodeOf, listed, first, images, hashes}
use Rattle.uimg_texts.specs.Nul.{text}
use Rattle.uimg_fit_base.specs.declared.fault.FitFault.{FitFault, TheVariants.{NoData, UnknownAlgo}}
use Rattle.uimg_fit_base.specs.AlgoNames.{algo_by}
use Rattle.uimg_fit_building.specs.Filling.{with, external_names, without_external, each, algo_in, hashed, filled_image, filled, IsDigest, IsFilledImage, IsFilledBy}
use Rattle.uimg_fit_building.specs.Refusing.{image_fault, first_fault, filling_fault, fill_from, fill_by}
use Rattle.uimg_fit_building.proofs.MovedLaws.{node_in, find-in_first}
use Rattle.uimg_fit_building.proofs.WithLaws.{first-set, first-other, value-step}

-- a property with another name stays, one with an external name goes
filter-kept-step : (b c : Bool) (p : Named) (own more : List Named) (key : List ℕ) → c ≡ bytes_eq key p.name → (c ≡ true → b ≡ true) → first more key ≡ first own key
    → first (cond b (p ∷ more) more) key ≡ first (p ∷ own) key
filter-kept-step true c p own more key e h k =
    value-step (bytes_eq key p.name) p p (find (λ q. bytes_eq key q.name) more) (find (λ q. bytes_eq key q.name) own) (λ s. refl) k
filter-kept-step false true p own more key e h k = absurd (let no : false ≡ true = h refl in cc)
filter-kept-step false false p own more key e h k = rw (sym e) k

filter-kept : (key : List ℕ) (own : List Named) → list_any (bytes_eq key) external_names ≡ false → first (without_external own) key ≡ first own key
filter-kept key [] apart = refl
filter-kept key (p ∷ own) apart =
    filter-kept-step (not (list_any (bytes_eq p.name) external_names)) (bytes_eq key p.name) p own (without_external own) key refl
    (λ s. let same : key ≡ p.name = (bytes_eq-Decides key p.name).0 s in
    ap (λ (w : List ℕ). not (list_any (bytes_eq w) external_names)) (sym same) ∙ ap not apart)
    (filter-kept key own apart)

filter-gone-step : (b c : Bool) (p : Named) (more : List Named) (key : List ℕ) → c ≡ bytes_eq key p.name → (c ≡ true → b ≡ false) → first more key ≡ None → first (cond b (p ∷ more) more) key ≡ None
filter-gone-step false c p more key e h k = k
filter-gone-step true true p more key e h k = absurd (let no : true ≡ false = h refl in cc)
filter-gone-step true false p more key e h k = rw (sym e) k

filter-gone : (key : List ℕ) (own : List Named) → list_any (bytes_eq key) external_names ≡ true → first (without_external own) key ≡ None
filter-gone key [] there = refl
filter-gone key (p ∷ own) there =
    filter-gone-step (not (list_any (bytes_eq p.name) external_names)) (bytes_eq key p.name) p (without_external own) key refl
    (λ s. let same : key ≡ p.name = (bytes_eq-Decides key p.name).0 s in
    ap (λ (w : List ℕ). not (list_any (bytes_eq w) external_names)) (sym same) ∙ ap not there)
    (filter-gone key own there)

-- a hash node that is filled
hash-digest : (naming : Naming) (message : List ℕ) (name : List ℕ) (own : List Named) (below : Nodes) (algo : Algo) → algo_in naming own ≡ Some algo → IsDigest naming message (record { name = name; own = with (codes "value") (digest_by algo message) own; below = below })
hash-digest naming message name own below algo known =
    record {
      algo = algo;
      known = ap (λ (o : Option (List ℕ)). option_and_then (λ n. algo_by naming (text n)) o) (first-other (codes "value") (codes "algo") (digest_by algo message) own refl) ∙ known;
      value = first-set (codes "value") (digest_by algo message) own;
    }

digests-step : (naming : Naming) (message : List ℕ) (h : NodeOf (List ℕ)) (more others : List (NodeOf (List ℕ))) (b : Bool) (o : Option Algo) → b ≡ is_hash h.name → o ≡ algo_in naming h.own
    → list_all (λ g. is_some (algo_in naming g.own)) (cond b (h ∷ others) others) ≡ true
    → (list_all (λ g. is_some (algo_in naming g.own)) others ≡ true → AllByRecursion (IsDigest naming message) (filter (λ g. is_hash g.name) more))
    → AllByRecursion (IsDigest naming message) (filter (λ g. is_hash g.name) ((if b then option_map_or (λ algo. record h { own = with (codes "value") (digest_by algo message) h.own }) o h else h) ∷ more))
digests-step naming message h more others true None e k all rest =
    absurd (let stays : list_all (λ (g : NodeOf (List ℕ)). is_some (algo_in naming g.own)) (h ∷ others) ≡ true = all in let no : is_some (algo_in naming h.own) ≡ false = ap is_some (sym k) in cc)
digests-step naming message h more others true (Some algo) e k all rest =
    let known : is_some (algo_in naming h.own) ≡ true = ap is_some (sym k) in
    let left : list_all (λ (g : NodeOf (List ℕ)). is_some (algo_in naming g.own)) others ≡ true = rw known at all in
    rw (sym e) (hash-digest naming message h.name h.own h.below algo (sym k), rest left)
digests-step naming message h more others false o e k all rest = rw (sym e) (rest all)

digests-filled : (naming : Naming) (message : List ℕ) (hs : List (NodeOf (List ℕ))) → list_all (λ h. is_some (algo_in naming h.own)) (filter (λ h. is_hash h.name) hs) ≡ true
    → AllByRecursion (IsDigest naming message) (filter (λ h. is_hash h.name) (map (hashed naming message) hs))
digests-filled naming message [] all = tt
digests-filled naming message (h ∷ hs) all =
    digests-step naming message h (map (hashed naming message) hs) (filter (λ g. is_hash g.name) hs) (is_hash h.name) (algo_in naming h.own) refl refl all (λ left. digests-filled naming message hs left)

-- the images of a tree whose images were changed
listed-each : (f : NodeOf (List ℕ) → NodeOf (List ℕ)) (t : Nodes) → listed (each f t) ≡ map f (listed t)
unfolding listed each
listed-each f no_node = refl
listed-each f (a_node name own below after) = ap (λ (l : List (NodeOf (List ℕ))). f (record { name = name; own = own; below = below }) ∷ l) (listed-each f after)

is_there : (o : Option (List ℕ)) → is_none o ≡ false → (m : List ℕ) × (o ≡ Some m)
is_there None h = absurd (cc)
is_there (Some m) h = (m, refl)

fault-step : (b c : Bool) → (if b then Some NoData else if c then None else Some UnknownAlgo) ≡ None → (b ≡ false) × (c ≡ true)
fault-step true c h = absurd (cc)
fault-step false true h = (refl, refl)
fault-step false false h = absurd (cc)

image-filled : (naming : Naming) (i : NodeOf (List ℕ)) → image_fault naming i ≡ None → IsFilledImage naming (filled_image naming i)
unfolding image_fault
image-filled naming i ok =
    let data_key = codes "data" in
    let s = fault-step (is_none (first i.own data_key)) (list_all (λ h. is_some (algo_in naming h.own)) (hashes i)) ok in
    let there = is_there (first i.own data_key) s.0 in
    let below : (filled_image naming i).below ≡ each (hashed naming there.0) i.below =
    ap (λ (o : Option (List ℕ)). option_map_or (λ message. each (hashed naming message) i.below) o i.below) there.1 in
    let own : AllByRecursion (IsDigest naming there.0) (filter (λ h. is_hash h.name) (map (hashed naming there.0) (listed i.below))) = digests-filled naming there.0 (listed i.below) s.1 in
    let all : AllByRecursion (IsDigest naming there.0) (filter (λ h. is_hash h.name) (listed (each (hashed naming there.0) i.below))) =
    subst (λ (l : List (NodeOf (List ℕ))). AllByRecursion (IsDigest naming there.0) (filter (λ h. is_hash h.name) l)) (sym (listed-each (hashed naming there.0) i.below)) own in
    record {
      message = there.0;
      has = filter-kept data_key i.own refl ∙ there.1;
      no_offset = filter-gone (codes "data-offset") i.own refl;
      no_size = filter-gone (codes "data-size") i.own refl;
      no_position = filter-gone (codes "data-position") i.own refl;
      digests = subst (λ (u : Nodes). AllByRecursion (IsDigest naming there.0) (filter (λ h. is_hash h.name) (listed u))) (sym below) all;
    }

or-step : (a b : Option FitFault) → option_or a b ≡ None → (a ≡ None) × (b ≡ None)
or-step None b h = (refl, h)
or-step (Some f) b h = absurd (cc)

images-filled : (naming : Naming) (is : List (NodeOf (List ℕ))) → first_fault naming is ≡ None → AllByRecursion (IsFilledImage naming) (map (filled_image naming) is)
unfolding first_fault
images-filled naming [] ok = tt
images-filled naming (i ∷ is) ok =
    let s = or-step (image_fault naming i) (first_fault naming is) ok in
    (image-filled naming i s.0, images-filled naming is s.1)

below-each : (naming : Naming) (o : Option (NodeOf (List ℕ))) → option_map (λ (c : NodeOf (List ℕ)). listed c.below) (option_map (node_in (each (filled_image naming))) o)
    ≡ option_map (λ (l : List (NodeOf (List ℕ))). map (filled_image naming) l) (option_map (λ (c : NodeOf (List ℕ)). listed c.below) o)
below-each naming None = refl
below-each naming (Some c) = ap (λ (l : List (NodeOf (List ℕ))). let y : Option (List (NodeOf (List ℕ))) = Some l in y) (listed-each (filled_image naming) c.below)

-- the images of a filled tree are the images filled
images-of-filled : (naming : Naming) (time : ℕ) (t : Nodes) → images (filled naming time t) ≡ option_map (λ (l : List (NodeOf (List ℕ))). map (filled_image naming) l) (images t)
images-of-filled naming time no_node = refl
images-of-filled naming time (a_node name own below after) =
    ap (λ (o : Option (NodeOf (List ℕ))). option_map (λ (c : NodeOf (List ℕ)). listed c.below) o) (find-in_first (codes "images") (each (filled_image naming)) below)
    ∙ below-each naming (find (λ c. bytes_eq (codes "images") c.name) (listed below))

filled-from : (naming : Naming) (u : Nodes) (o : Option (List (NodeOf (List ℕ)))) → filling_fault naming o ≡ None → images u ≡ option_map (λ (l : List (NodeOf (List ℕ))). map (filled_image naming) l) o → IsFilledBy naming u
filled-from naming u None ok are = absurd (cc)
filled-from naming u (Some l) ok are = record { found = map (filled_image naming) l; are_images = are; each_filled = images-filled naming l ok }

no-fault : (o : Option FitFault) (t u : Nodes) → fill_from o t ≡ Ok u → (o ≡ None) × (t ≡ u)
no-fault None t u h = (refl, (let e : t ≡ u = cc in e))
no-fault (Some f) t u h = absurd (cc)

-- what is filled without a fault is filled
pub fill-filled : (naming : Naming) (time : ℕ) (t u : Nodes) → fill_by naming time t ≡ Ok u → IsFilledBy naming u
fill-filled naming time t u h =
    let s = no-fault (filling_fault naming (images t)) (filled naming time t) u h in
    subst (λ (v : Nodes). IsFilledBy naming v) s.1 (filled-from naming (filled naming time t) (images t) s.0 (images-of-filled naming time t))
