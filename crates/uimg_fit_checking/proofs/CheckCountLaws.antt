-- The images whose hash nodes are all right, counted.
use Rattle.std.proofs.Common.{◌≡◌, ◌≤◌, ◌+◌, ◌++◌, ℕ, List, [], ◌∷◌, length, map, Option, Some, None, Bool, true, false, if◌then◌else◌, refl, ap, sym, ◌∙◌, subst, arith}
use Rattle.std.specs.List.{filter}
use Rattle.std.specs.Option.{is_some}
use Rattle.std.proofs.lemmas.List.{length-append}
use Rattle.std.proofs.lemmas.List.Sums.{sum_by-cons}
use Rattle.uimg_blob_reading.specs.declared.nodes.Blob.{Blob}
use Rattle.uimg_blob_reading.specs.Grammar.{Siblings, none, node}
use Rattle.uimg_blob_reading.specs.Indexed.{IsIndexed}
use Rattle.uimg_blob_reading.specs.LookUps.{NodeOf, hashes, listed}
use Rattle.uimg_blob_reading.specs.Roles.{Level, top, in_images, level_after, is_hash}
use Rattle.uimg_blob_reading.specs.Rows.{Row, rows, size}
use Rattle.uimg_blob_reading.specs.Spots.{Spot, spot_of, spots}
use Rattle.uimg_blob_reading.specs.Standing.{Stand}
use Rattle.uimg_blob_reading.proofs.LookLaws.{length_rows}
use Rattle.uimg_blob_reading.proofs.PhaseLaws.{by_bool}
use Rattle.uimg_fit_checking.specs.Checks.{hash_count, name_or, unhashed_in}
use Rattle.uimg_fit_reading.specs.Nodes.{AreFrom, IsNode, HashesAt, FirstHash}
use Rattle.uimg_fit_reading.proofs.ImageLaws.{front, none_left, entries_size}

-- So many hash nodes were counted, and the others follow one another from a number on.
pub record LeftHashes (t : Siblings) (hs : List (NodeOf Spot)) (before count : ℕ) (next : Option ℕ) : Type 0 where
  pub left : List (NodeOf Spot)
  pub at : HashesAt t next left
  pub sum : count + length left ≡ before + length hs

pub hashes_first : (t : Siblings) (hs : List (NodeOf Spot)) (before : ℕ) (first : Option ℕ) → HashesAt t first hs → LeftHashes t hs before before first
hashes_first t hs before first at = record { left = hs; at = at; sum = refl }

pub hashes_more : (t : Siblings) (hs : List (NodeOf Spot)) (before count number : ℕ) (next : Option ℕ) (k : LeftHashes t hs before count next) (f : FirstHash t number k.left) (following : Option ℕ)
    → HashesAt t following f.more → LeftHashes t hs before (count + 1) following
hashes_more t hs before count number next k f following at = record {
  left = f.more;
  at = at;
  sum = omega (arith, k.sum, ap (λ (l : List (NodeOf Spot)). length l) f.are);
}

pub hashes_done : (t : Siblings) (hs : List (NodeOf Spot)) (before count : ℕ) (next : Option ℕ) → next ≡ None → LeftHashes t hs before count next → count ≡ before + length hs
hashes_done t hs before count next ends k =
    let nothing_left : k.left ≡ [] = subst (λ (o : Option ℕ). HashesAt t o k.left) ends k.at in
    omega (arith, k.sum, ap (λ (l : List (NodeOf Spot)). length l) nothing_left)

-- where as many are counted as there may be, none is left
pub hashes_most : (t : Siblings) (hs : List (NodeOf Spot)) (before count most entries : ℕ) (next : Option ℕ) → LeftHashes t hs before count next → most ≡ entries → before + length hs ≤ entries → most ≤ count
    → count ≡ before + length hs
hashes_most t hs before count most entries next k is few all = omega (arith, k.sum, is, few, all)

-- nodes that follow one another are among those of their tree
followers : (s : Siblings) → length (listed (spots s)) ≤ size s
unfolding spots listed
followers none = omega arith
followers (node at name own below after) = omega (arith, followers after)

kept_few : {X : Type 0} (p : X → Bool) (xs : List X) → length (filter p xs) ≤ length xs
kept_few p [] = omega arith
kept_few p (x ∷ xs) = by_bool (p x)
    (λ same. omega (arith, ap (λ (b : Bool). length (if b then x ∷ filter p xs else filter p xs)) same, kept_few p xs))
    (λ differs. omega (arith, ap (λ (b : Bool). length (if b then x ∷ filter p xs else filter p xs)) differs, kept_few p xs))

-- so are their hash nodes
hashes_few : (s : Siblings) → hash_count (listed (spots s)) ≤ size s
unfolding spots listed
hashes_few none = omega arith
hashes_few (node at name own below after) =
    let n : NodeOf Spot = record { name = name; own = map spot_of own; below = spots below } in
    omega (
      arith,
      sum_by-cons (λ (image : NodeOf Spot). length (hashes image)) n (listed (spots after)),
      kept_few (λ h. is_hash h.name) (listed (spots below)),
      followers below,
      hashes_few after,
    )

stand_few : (t : Siblings) (level : Level) (parent : Option ℕ) (number : ℕ) (s : Siblings) → Stand t level parent number s → size s ≤ size t
stand_few t level parent number s stands =
    let its = rows level parent number s in
    omega (
      arith,
      ap (λ (l : List Row). length l) stands.is,
      length-append stands.before (its ++ stands.past),
      length-append its stands.past,
      length_rows level parent number s,
      length_rows top None 0 t,
    )

hashes_within : (t : Siblings) (blob : Blob) (es : List (List ℕ)) (first : Option ℕ) (found : List (NodeOf Spot)) → IsIndexed t blob es → AreFrom t in_images first found → hash_count found ≤ length es
hashes_within t blob es first found indexed from =
    omega (arith, ap (λ (l : List (NodeOf Spot)). hash_count l) from.are, hashes_few from.siblings, stand_few t in_images from.parent from.number from.siblings from.stands, entries_size t blob es indexed)

-- The hash nodes of the images before the next one were counted.
pub record LeftSummed (t : Siblings) (found : List (NodeOf Spot)) (most count : ℕ) (next : Option ℕ) : Type 0 where
  pub rest : List (NodeOf Spot)
  pub from : AreFrom t in_images next rest
  pub sum : count + hash_count rest ≡ hash_count found
  pub few : hash_count found ≤ most

pub none_summed : (t : Siblings) (blob : Blob) (es : List (List ℕ)) (found : List (NodeOf Spot)) (first : Option ℕ) → IsIndexed t blob es → AreFrom t in_images first found → LeftSummed t found (length es) 0 first
none_summed t blob es found first indexed from = record { rest = found; from = from; sum = omega arith; few = hashes_within t blob es first found indexed from }

pub one_summed : (t : Siblings) (found : List (NodeOf Spot)) (most count i later : ℕ) (next : Option ℕ) → LeftSummed t found most count (Some i)
    → ((image : NodeOf Spot) → IsNode t in_images i image → count + length (hashes image) ≤ most → later ≡ count + length (hashes image))
    → ((image : NodeOf Spot) (more : List (NodeOf Spot)) → AreFrom t in_images (Some i) (image ∷ more) → AreFrom t (level_after in_images image.name) next more) → LeftSummed t found most later next
one_summed t found most count i later next k counts follows =
    let f = front t in_images i k.rest k.from in
    let are = ap (λ (l : List (NodeOf Spot)). hash_count l) f.are in
    let one = sum_by-cons (λ (image : NodeOf Spot). length (hashes image)) f.image f.more in
    let is : later ≡ count + length (hashes f.image) = counts f.image f.node (omega (arith, k.sum, k.few, are, one)) in
    record {
      rest = f.more;
      from = follows f.image f.more (subst (λ (l : List (NodeOf Spot)). AreFrom t in_images (Some i) l) f.are k.from);
      sum = omega (arith, k.sum, are, one, is);
      few = k.few;
    }

pub all_summed : (t : Siblings) (found : List (NodeOf Spot)) (most count : ℕ) (next : Option ℕ) → next ≡ None → LeftSummed t found most count next → count ≡ hash_count found
all_summed t found most count next ends k =
    omega (arith, k.sum, ap (λ (l : List (NodeOf Spot)). hash_count l) (none_left t in_images k.rest (subst (λ (o : Option ℕ). AreFrom t in_images o k.rest) ends k.from)))

-- The first image without hash nodes among those that are left is the first of all.
pub record LeftHashed (t : Siblings) (found : List (NodeOf Spot)) (next : Option ℕ) : Type 0 where
  pub rest : List (NodeOf Spot)
  pub from : AreFrom t in_images next rest
  pub same : unhashed_in found ≡ unhashed_in rest

pub all_hashed : (t : Siblings) (found : List (NodeOf Spot)) (first : Option ℕ) → AreFrom t in_images first found → LeftHashed t found first
all_hashed t found first from = record { rest = found; from = from; same = refl }

one_hashed : (image : NodeOf Spot) (more : List (NodeOf Spot)) → unhashed_in (image ∷ more) ≡ name_or image.name (hashes image) (unhashed_in more)
unfolding unhashed_in
one_hashed image more = refl

none_hashed : unhashed_in [] ≡ None
unfolding unhashed_in
none_hashed = refl

-- an image has hash nodes where the first of them has a number
some_hash : (t : Siblings) (name : List ℕ) (hs : List (NodeOf Spot)) (first : Option ℕ) (later : Option (List ℕ)) → is_some first ≡ true → HashesAt t first hs → name_or name hs later ≡ later
some_hash t name hs None later some at = absurd (cc)
some_hash t name hs (Some i) later some at = ap (λ (l : List (NodeOf Spot)). name_or name l later) at.are

no_hash : (t : Siblings) (name : List ℕ) (hs : List (NodeOf Spot)) (first : Option ℕ) (later : Option (List ℕ)) → is_some first ≡ false → HashesAt t first hs → name_or name hs later ≡ Some name
no_hash t name hs None later ends at = ap (λ (l : List (NodeOf Spot)). name_or name l later) at
no_hash t name hs (Some i) later ends at = absurd (cc)

pub next_hashed : (t : Siblings) (found : List (NodeOf Spot)) (i : ℕ) (first next : Option ℕ) → LeftHashed t found (Some i) → is_some first ≡ true
    → ((image : NodeOf Spot) → IsNode t in_images i image → HashesAt t first (hashes image))
    → ((image : NodeOf Spot) (more : List (NodeOf Spot)) → AreFrom t in_images (Some i) (image ∷ more) → AreFrom t (level_after in_images image.name) next more) → LeftHashed t found next
next_hashed t found i first next k some at follows =
    let f = front t in_images i k.rest k.from in
    record {
      rest = f.more;
      from = follows f.image f.more (subst (λ (l : List (NodeOf Spot)). AreFrom t in_images (Some i) l) f.are k.from);
      same = k.same ∙ ap unhashed_in f.are ∙ one_hashed f.image f.more ∙ some_hash t f.image.name (hashes f.image) first (unhashed_in f.more) some (at f.image f.node);
    }

pub is_unhashed : (t : Siblings) (found : List (NodeOf Spot)) (i : ℕ) (first : Option ℕ) (name : List ℕ) → LeftHashed t found (Some i) → is_some first ≡ false
    → ((image : NodeOf Spot) → IsNode t in_images i image → HashesAt t first (hashes image)) → ((image : NodeOf Spot) → IsNode t in_images i image → name ≡ image.name) → Some name ≡ unhashed_in found
is_unhashed t found i first name k ends at named =
    let f = front t in_images i k.rest k.from in
    ap (λ (n : List ℕ). Some n) (named f.image f.node)
    ∙ sym (k.same ∙ ap unhashed_in f.are ∙ one_hashed f.image f.more ∙ no_hash t f.image.name (hashes f.image) first (unhashed_in f.more) ends (at f.image f.node))

pub none_unhashed : (t : Siblings) (found : List (NodeOf Spot)) (next : Option ℕ) → next ≡ None → LeftHashed t found next → None ≡ unhashed_in found
none_unhashed t found next ends k =
    sym (k.same ∙ ap unhashed_in (none_left t in_images k.rest (subst (λ (o : Option ℕ). AreFrom t in_images o k.rest) ends k.from)) ∙ none_hashed)
