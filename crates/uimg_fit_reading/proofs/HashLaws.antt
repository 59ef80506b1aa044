-- The hash nodes of an image, by their numbers.
use Rattle.std.proofs.Common.{◌≡◌, ℕ, List, [], ◌∷◌, Option, Some, None, Bool, true, false, if◌then◌else◌, refl, ap, sym, ◌∙◌, subst}
use Rattle.std.specs.List.{filter}
use Rattle.uimg_blob_reading.specs.{declared.nodes.Blob.Blob, Grammar.Siblings, Rows.Row}
use Rattle.uimg_blob_reading.specs.{Indexed.{IsIndexed, IsRow}, LookUps.{NodeOf, listed, hashes}}
use Rattle.uimg_blob_reading.{specs.Spots.Spot, proofs.PhaseLaws.by_bool}
use Rattle.uimg_blob_reading.specs.Roles.{in_image, in_images, is_hash, is_hash_role, is_signature, is_signature_role, role_at, level_after, Level}
use Rattle.uimg_fit_reading.specs.{declared.nodes.Sum.TheVariants.{Hash, Signature}, Rows.sum_named}
use Rattle.uimg_fit_reading.specs.Nodes.{AreFrom, IsNode, HashesFrom, HashAt, FirstHash}
use Rattle.uimg_fit_reading.proofs.ImageLaws.{Front, front, none_left, children_of}
use Rattle.uimg_fit_reading.proofs.NodeLaws.{node_row}

-- whether a child of an image is a hash node, by its role
role_of : (name : List ℕ) → is_hash_role (role_at in_image name) ≡ is_hash name
role_of name = by_bool (is_hash name)
    (λ is. rw is refl)
    (λ differs. by_bool (is_signature name) (λ is. rw (differs, is) refl) (λ neither. rw (differs, neither) refl))

-- whether it is a signature node
signature_of : (name : List ℕ) → is_hash name ≡ false → is_signature_role (role_at in_image name) ≡ is_signature name
signature_of name differs = by_bool (is_signature name) (λ is. rw (differs, is) refl) (λ neither. rw (differs, neither) refl)

-- what a child says of its role
is_hash_here : (t : Siblings) (blob : Blob) (es : List (List ℕ)) (i : ℕ) (found : NodeOf Spot) (answer : Bool) → IsIndexed t blob es → IsNode t in_image i found
    → ((row : Row) → IsRow blob es i row → answer ≡ is_hash_role row.role) → answer ≡ is_hash found.name
is_hash_here t blob es i found answer indexed n answers =
    let r = node_row t in_image i found n in
    answers r.row (record { nodes = t; indexed = indexed; is = r.is }) ∙ ap is_hash_role r.role ∙ role_of found.name

is_signature_here : (t : Siblings) (blob : Blob) (es : List (List ℕ)) (i : ℕ) (found : NodeOf Spot) (answer : Bool) → IsIndexed t blob es → IsNode t in_image i found
    → is_hash found.name ≡ false → ((row : Row) → IsRow blob es i row → answer ≡ is_signature_role row.role) → answer ≡ is_signature found.name
is_signature_here t blob es i found answer indexed n differs answers =
    let r = node_row t in_image i found n in
    answers r.row (record { nodes = t; indexed = indexed; is = r.is }) ∙ ap is_signature_role r.role ∙ signature_of found.name differs

-- what a child is, by what it says
pub sum_is_hash : (t : Siblings) (blob : Blob) (es : List (List ℕ)) (i : ℕ) (found : NodeOf Spot) → IsIndexed t blob es → IsNode t in_image i found
    → ((row : Row) → IsRow blob es i row → true ≡ is_hash_role row.role) → Some Hash ≡ sum_named found.name
sum_is_hash t blob es i found indexed n answers =
    let is : is_hash found.name ≡ true = sym (is_hash_here t blob es i found true indexed n answers) in
    rw is refl

no_hash : (t : Siblings) (blob : Blob) (es : List (List ℕ)) (i : ℕ) (found : NodeOf Spot) → IsIndexed t blob es → IsNode t in_image i found
    → ((row : Row) → IsRow blob es i row → false ≡ is_hash_role row.role) → is_hash found.name ≡ false
no_hash t blob es i found indexed n answers = sym (is_hash_here t blob es i found false indexed n answers)

pub sum_is_signature : (t : Siblings) (blob : Blob) (es : List (List ℕ)) (i : ℕ) (found : NodeOf Spot) → IsIndexed t blob es → IsNode t in_image i found
    → ((row : Row) → IsRow blob es i row → false ≡ is_hash_role row.role) → ((row : Row) → IsRow blob es i row → true ≡ is_signature_role row.role) → Some Signature ≡ sum_named found.name
sum_is_signature t blob es i found indexed n answers others =
    let differs = no_hash t blob es i found indexed n answers in
    let is : is_signature found.name ≡ true = sym (is_signature_here t blob es i found true indexed n differs others) in
    rw (differs, is) refl

pub sum_is_none : (t : Siblings) (blob : Blob) (es : List (List ℕ)) (i : ℕ) (found : NodeOf Spot) → IsIndexed t blob es → IsNode t in_image i found
    → ((row : Row) → IsRow blob es i row → false ≡ is_hash_role row.role) → ((row : Row) → IsRow blob es i row → false ≡ is_signature_role row.role) → None ≡ sum_named found.name
sum_is_none t blob es i found indexed n answers others =
    let differs = no_hash t blob es i found indexed n answers in
    let neither : is_signature found.name ≡ false = sym (is_signature_here t blob es i found false indexed n differs others) in
    rw (differs, neither) refl

-- what the front of some children says of the first of them
front_named : (t : Siblings) (blob : Blob) (es : List (List ℕ)) (i : ℕ) (cs : List (NodeOf Spot)) (answer : Bool) → IsIndexed t blob es → (f : Front t in_image i cs)
    → ((row : Row) → IsRow blob es i row → answer ≡ is_hash_role row.role) → answer ≡ is_hash f.image.name
front_named t blob es i cs answer indexed f answers =
    let r = node_row t in_image i f.image f.node in
    answers r.row (record { nodes = t; indexed = indexed; is = r.is }) ∙ ap is_hash_role r.role ∙ role_of f.image.name

abbrev named : NodeOf Spot → Bool
named h = is_hash h.name

-- a hash node is the first
pub first_is : (t : Siblings) (blob : Blob) (es : List (List ℕ)) (i : ℕ) (hs : List (NodeOf Spot)) → IsIndexed t blob es → HashesFrom t (Some i) hs
    → ((row : Row) → IsRow blob es i row → true ≡ is_hash_role row.role) → FirstHash t i hs
first_is t blob es i hs indexed from answers =
    let f = front t in_image i from.children from.from in
    let is : is_hash f.image.name ≡ true = sym (front_named t blob es i from.children true indexed f answers) in
    record {
      hash = f.image;
      more = filter named f.more;
      are = from.are ∙ ap (filter named) f.are ∙ ap (λ (b : Bool). if b then f.image ∷ filter named f.more else filter named f.more) is;
      at = record {
        node = f.node;
        named = is;
        row = f.row;
        is = f.is;
        rest = record { children = f.more; from = f.from; are = refl };
      };
    }

-- another child is passed
pub passed : (t : Siblings) (blob : Blob) (es : List (List ℕ)) (i : ℕ) (next : Option ℕ) (hs : List (NodeOf Spot)) → IsIndexed t blob es → HashesFrom t (Some i) hs
    → ((row : Row) → IsRow blob es i row → false ≡ is_hash_role row.role) → ((row : Row) → IsRow blob es i row → next ≡ row.next_sibling) → HashesFrom t next hs
passed t blob es i next hs indexed from answers sibling =
    let f = front t in_image i from.children from.from in
    let is : is_hash f.image.name ≡ false = sym (front_named t blob es i from.children false indexed f answers) in
    let same : next ≡ f.row.next_sibling = sibling f.row (record { nodes = t; indexed = indexed; is = f.is }) in
    record {
      children = f.more;
      from = subst (λ (o : Option ℕ). AreFrom t in_image o f.more) (sym same) f.from;
      are = from.are ∙ ap (filter named) f.are ∙ ap (λ (b : Bool). if b then f.image ∷ filter named f.more else filter named f.more) is;
    }

-- no child is left
pub none_is : (t : Siblings) (hs : List (NodeOf Spot)) → HashesFrom t None hs → hs ≡ []
none_is t hs from = from.are ∙ ap (filter named) (none_left t in_image from.children from.from)

-- the children of an image
pub children_are : (t : Siblings) (blob : Blob) (es : List (List ℕ)) (i : ℕ) (image : NodeOf Spot) (first : Option ℕ) → IsIndexed t blob es → IsNode t in_images i image
    → ((row : Row) → IsRow blob es i row → first ≡ row.first_child) → HashesFrom t first (hashes image)
children_are t blob es i image first indexed n child =
    record { children = listed image.below; from = children_of t blob es in_images i first image indexed n child; are = refl }

-- the hash nodes after one
pub after_are : (t : Siblings) (blob : Blob) (es : List (List ℕ)) (i : ℕ) (next : Option ℕ) (hash : NodeOf Spot) (more : List (NodeOf Spot)) → IsIndexed t blob es → HashAt t i hash more
    → ((row : Row) → IsRow blob es i row → next ≡ row.next_sibling) → HashesFrom t next more
after_are t blob es i next hash more indexed at sibling =
    let same : next ≡ at.row.next_sibling = sibling at.row (record { nodes = t; indexed = indexed; is = at.is }) in
    subst (λ (o : Option ℕ). HashesFrom t o more) (sym same) at.rest

abbrev pub head_or : NodeOf Spot → List (NodeOf Spot) → NodeOf Spot
head_or n [] = n
head_or n (m ∷ ms) = m

abbrev pub rest_of : List (NodeOf Spot) → List (NodeOf Spot)
rest_of [] = []
rest_of (m ∷ ms) = ms

-- the nodes after one
pub next_are : (t : Siblings) (blob : Blob) (es : List (List ℕ)) (level : Level) (i : ℕ) (next : Option ℕ) (found : NodeOf Spot) (more : List (NodeOf Spot)) → IsIndexed t blob es
    → AreFrom t level (Some i) (found ∷ more) → ((row : Row) → IsRow blob es i row → next ≡ row.next_sibling) → AreFrom t (level_after level found.name) next more
next_are t blob es level i next found more indexed from sibling =
    let f = front t level i (found ∷ more) from in
    let same : next ≡ f.row.next_sibling = sibling f.row (record { nodes = t; indexed = indexed; is = f.is }) in
    let head : f.image ≡ found = ap (head_or found) (sym f.are) in
    subst (λ (l : List (NodeOf Spot)). AreFrom t (level_after level found.name) next l) (ap rest_of (sym f.are))
    (subst (λ (n : NodeOf Spot). AreFrom t (level_after level n.name) next f.more) head
    (subst (λ (o : Option ℕ). AreFrom t (level_after level f.image.name) o f.more) (sym same) f.from))
