-- Rows, one after another.
use Rattle.std.proofs.Common.{◌≡◌, ℕ, ◌≤◌, ◌<◌, ◌+◌, ◌*◌, ◌==◌, ◌&&◌, take, get_or, List, [], ◌∷◌, ◌++◌, length, zero, suc, Option, Some, None, Bool, true, false, IsTrue, codes, refl, ap, ◌∙◌, sym, subst, append-nil, arith}
use Rattle.std.specs.{List.{flat_map, sum_by, list_all, list_any}, Option.{option_map, option_map_or, is_some}}
use Rattle.std.proofs.lemmas.{Bool.and_parts, Grind.flat_map-append, List.take_more}
use Rattle.std.proofs.lemmas.List.Sums.{sum_by_more, sum_by_more_le}
use Rattle.uimg_base.{specs.{Device.Device, Sink.Sink, Writing.Written}, proofs.SinkLaws.prefix_at}
use Rattle.uimg_base.specs.declared.spans.Span.{Span}
use Rattle.uimg_blob_reading.specs.{declared.keys.Key.{Key, TheVariants.{Algo, KeyName, Required, Timestamp}}, LookUps.first, Roles.{in_image, in_images, is_hash, is_signature, role_at, Level}}
use Rattle.uimg_blob_reading.proofs.PhaseLaws.{by_bool, true_false}
use Rattle.uimg_blob_reading.specs.{Indexed.{value_span, keeps}, Keys.name_of, Plain.NamedOf, Spots.Spot}
use Rattle.uimg_fit_base.specs.Files.{value_bytes, bytes_in}
use Rattle.uimg_fit_reading.specs.declared.listing.shows.Show.{Show, TheVariants.{Name, Address}}
use Rattle.uimg_fit_reading.specs.Rows.{sum_named, sum_rows, only_for, keeps_row, row_cost, profile_image_rows, all_image_rows}
use Rattle.uimg_fit_reading.specs.{Rows.{arch_row, system_row, load_row, tree_load_row, entry_row}, Allowances.text_sizes}
use Rattle.uimg_fit_reading.specs.declared.listing.rows.{Signing.Signing, Row.TheVariants.{Signing as Part}}
use Rattle.uimg_fit_reading.specs.declared.{listing.rows.Row.Row, nodes.Sum.{Sum, TheVariants.{Hash, Signature}}}
use Rattle.uimg_fit_reading.specs.{Shows.{value_cost, show_weight}, Telling.ListsBetween}
use Rattle.uimg_texts.specs.declared.{field.Field.{Field, TheVariants.{Architecture, System, Kind, Compression}}, naming.Naming.{Naming, TheVariants.{Profile, All}}}
use Rattle.uimg_fit_reading.proofs.{TellingLaws.then_lists, SharesLaws.{one_text, two_texts}}

cost_by : (how : Show) (o : Option Spot) → option_map_or (λ s. value_cost how s.length) (option_map value_span o) 0 ≡ show_weight how (option_map (λ s. s.bytes) o)
cost_by how None = refl
cost_by how (Some s) = refl

-- the lines of a property, by its value in the file
pub property_told : (failed : Bool) (d f : Device) (s u : Sink) (file : List ℕ) (own : List (NamedOf Spot)) (key : Key) (how : Show) (lines : Option (List ℕ) → List ℕ) (v : Option Span)
    → v ≡ option_map value_span (first own (name_of key)) → value_bytes own (name_of key) ≡ bytes_in file v
    → f.asked ≤ d.asked + option_map_or (λ s. value_cost how s.length) v 0 → Written failed s u (lines (bytes_in file v))
    → ListsBetween failed (show_weight how (value_bytes own (name_of key))) d f s u (lines (value_bytes own (name_of key)))
property_told failed d f s u file own key how lines v is are asked told = record {
  asked = omega (arith, asked, ap (λ (o : Option Span). option_map_or (λ s. value_cost how s.length) o 0) is, cost_by how (first own (name_of key)));
  written = subst (λ (o : Option (List ℕ)). Written failed s u (lines o)) (sym are) told;
}

pub name_cost : (naming : Naming) (field : Field) (value : Option (List ℕ)) → show_weight (Name naming field) value ≤ 32
name_cost naming field None = omega arith
name_cost naming field (Some v) = omega arith

pub address_cost : (value : Option (List ℕ)) → show_weight Address value ≤ 8
address_cost None = omega arith
address_cost (Some v) = omega arith

-- a child of an image or a configuration keeps what its rows show
hash_keeps : (naming : Naming) (name : List ℕ) (has_algo : Bool) → is_hash name ≡ true → list_all (keeps_row in_image name) (sum_rows naming (Some Hash) has_algo) ≡ true
hash_keeps Profile name has_algo is = rw is refl
hash_keeps All name true is = rw is refl
hash_keeps All name false is = refl

signature_keeps : (naming : Naming) (name : List ℕ) (has_algo : Bool) → is_hash name ≡ false → is_signature name ≡ true → list_all (keeps_row in_image name) (sum_rows naming (Some Signature) has_algo) ≡ true
signature_keeps Profile name has_algo differs is = refl
signature_keeps All name true differs is = rw (differs, is) refl
signature_keeps All name false differs is = refl

pub keeps_sum : (naming : Naming) (name : List ℕ) (has_algo : Bool) → list_all (keeps_row in_image name) (sum_rows naming (sum_named name) has_algo) ≡ true
keeps_sum naming name has_algo = by_bool (is_hash name)
    (λ is. rw is (hash_keeps naming name has_algo is))
    (λ differs. by_bool (is_signature name)
    (λ is. rw (differs, is) (signature_keeps naming name has_algo differs is))
    (λ neither. rw (differs, neither) refl))

some_of : (file : List ℕ) (v : Option Span) → is_some (bytes_in file v) ≡ is_some v
some_of file None = refl
some_of file (Some span) = refl

-- whether it has an algorithm, as the index says
pub sums_same : (naming : Naming) (name : List ℕ) (own : List (NamedOf Spot)) (file : List ℕ) (v : Option Span) → (IsTrue (keeps (role_at in_image name) Algo) → value_bytes own (codes "algo") ≡ bytes_in file v)
    → sum_rows naming (sum_named name) (is_some v) ≡ sum_rows naming (sum_named name) (is_some (value_bytes own (codes "algo")))
sums_same naming name own file v same =
    let by : value_bytes own (codes "algo") ≡ bytes_in file v → sum_rows naming (sum_named name) (is_some v) ≡ sum_rows naming (sum_named name) (is_some (value_bytes own (codes "algo"))) =
    λ is. ap (λ (b : Bool). sum_rows naming (sum_named name) b) (sym (some_of file v) ∙ ap (λ (o : Option (List ℕ)). is_some o) (sym is)) in
    by_bool (is_hash name)
    (λ is. by (same (rw is refl)))
    (λ differs. by_bool (is_signature name)
    (λ is. by (same (rw (differs, is) refl)))
    (λ neither. rw (differs, neither) refl))

-- and pays for them
pub sum_cost : (naming : Naming) (sum : Option Sum) (has_algo : Bool) (own : List (NamedOf Spot)) → sum_by (row_cost own) (sum_rows naming sum has_algo) ≤ 760 + 4 * text_sizes naming own
sum_cost naming None has_algo own = omega arith
sum_cost Profile (Some Hash) has_algo own = omega (arith, two_texts Profile own (codes "algo") (codes "value") refl refl refl)
sum_cost Profile (Some Signature) has_algo own = omega arith
sum_cost All (Some Hash) true own = omega (arith, two_texts All own (codes "algo") (codes "value") refl refl refl)
sum_cost All (Some Hash) false own = omega arith
sum_cost All (Some Signature) true own =
    omega (arith, two_texts All own (codes "algo") (codes "value") refl refl refl, two_texts All own (codes "key-name-hint") (codes "padding") refl refl refl)
sum_cost All (Some Signature) false own = omega arith

-- an image keeps what its rows show
keeps_only : (name : List ℕ) (kinds : List ℕ) (kind : Option ℕ) (row : Row) → keeps_row in_images name row ≡ true → keeps_row in_images name (only_for kinds kind row) ≡ true
keeps_only name kinds kind row keeps = by_bool (option_map_or (λ k. list_any (λ c. c == k) kinds) kind false)
    (λ is. rw is keeps)
    (λ not. rw not refl)

-- what a row pays if its type has it
only_le : (kinds : List ℕ) (kind : Option ℕ) (row : Row) (own : List (NamedOf Spot)) → row_cost own (only_for kinds kind row) ≤ row_cost own row
only_le kinds kind row own = by_bool (option_map_or (λ k. list_any (λ c. c == k) kinds) kind false)
    (λ is. rw is (omega arith))
    (λ not. rw not (omega arith))

-- one of those that all pass a test
pub passes_at : {X : Type 0} (p : X → Bool) (xs : List X) (i : ℕ) (d : X) → list_all p xs ≡ true → i < length xs → p (get_or xs i d) ≡ true
passes_at p [] i d all within = absurd (omega (arith, within))
passes_at p (x ∷ xs) zero d all within = (and_parts (p x) (list_all p xs) all).0
passes_at p (x ∷ xs) (suc i) d all within = passes_at p xs i d (and_parts (p x) (list_all p xs) all).1 (omega (arith, within))

one_more : {X : Type 0} (text : X → List ℕ) (xs : List X) (i : ℕ) (x : X) → i < length xs → flat_map text (take (i + 1) xs) ≡ flat_map text (take i xs) ++ text (get_or xs i x)
one_more text xs i x within =
    ap (flat_map text) (take_more xs i x within) ∙ flat_map-append text (take i xs) (get_or xs i x ∷ [])
    ∙ ap (λ (w : List ℕ). flat_map text (take i xs) ++ w) (append-nil (text (get_or xs i x)))

-- a row after those before it
pub rows_more : {X : Type 0} (cost : X → ℕ) (text : X → List ℕ) (xs : List X) (i : ℕ) (x : X) (d m f : Device) (s n u : Sink) → i < length xs
    → ListsBetween false (sum_by cost (take i xs)) d m s n (flat_map text (take i xs)) → ListsBetween false (cost (get_or xs i x)) m f n u (text (get_or xs i x))
    → ListsBetween false (sum_by cost (take (i + 1) xs)) d f s u (flat_map text (take (i + 1) xs))
rows_more cost text xs i x d m f s n u within p q =
    subst (λ (w : List ℕ). ListsBetween false (sum_by cost (take (i + 1) xs)) d f s u w) (sym (one_more text xs i x within))
    (subst (λ (k : ℕ). ListsBetween false k d f s u (flat_map text (take i xs) ++ text (get_or xs i x))) (sym (sum_by_more cost xs i x within))
    (then_lists false _ _ d m f s n u _ _ p q))

-- a failure in a row
pub rows_fail : {X : Type 0} (cost : X → ℕ) (text : X → List ℕ) (xs : List X) (i : ℕ) (x : X) (d m f : Device) (s n u : Sink) → i < length xs
    → ListsBetween false (sum_by cost (take i xs)) d m s n (flat_map text (take i xs)) → ListsBetween true (cost (get_or xs i x)) m f n u (text (get_or xs i x))
    → ListsBetween true (sum_by cost xs) d f s u (flat_map text xs)
rows_fail cost text xs i x d m f s n u within p q = record {
  asked = omega (arith, p.asked, q.asked, sum_by_more_le cost xs i x within);
  written = record { all = tt; prefix = prefix_at s n u text xs i x within p.written.all q.written.prefix };
}

-- the rows of an image by the profile ask for its description, and for 144 bytes at most of the rest
pub image_cost : (own : List (NamedOf Spot)) → 255 + sum_by (row_cost own) profile_image_rows ≤ 748 + 4 * text_sizes Profile own
image_cost own =
    let k1 = name_cost Profile Kind (value_bytes own (codes "type")) in
    let k2 = name_cost Profile Compression (value_bytes own (codes "compression")) in
    let k3 = name_cost Profile Architecture (value_bytes own (codes "arch")) in
    let k4 = name_cost Profile System (value_bytes own (codes "os")) in
    let k5 = address_cost (value_bytes own (codes "load")) in
    let k6 = address_cost (value_bytes own (codes "entry")) in
    omega (arith, one_text Profile own (codes "description") refl, k1, k2, k3, k4, k5, k6)

-- those by the names of image.h, after the type was read
pub all_image_cost : (kind : Option ℕ) (own : List (NamedOf Spot)) → 287 + sum_by (row_cost own) (all_image_rows kind) ≤ 748 + 4 * text_sizes All own
all_image_cost kind own =
    let k1 = name_cost All Kind (value_bytes own (codes "type")) in
    let k2 = name_cost All Compression (value_bytes own (codes "compression")) in
    let k3 = name_cost All Architecture (value_bytes own (codes "arch")) in
    let k4 = name_cost All System (value_bytes own (codes "os")) in
    let k5 = address_cost (value_bytes own (codes "load")) in
    let k6 = address_cost (value_bytes own (codes "entry")) in
    let r1 = only_le (1 ∷ 2 ∷ 3 ∷ 5 ∷ 8 ∷ []) kind arch_row own in
    let r2 = only_le (2 ∷ 3 ∷ 5 ∷ []) kind system_row own in
    let r3 = only_le (1 ∷ 2 ∷ 3 ∷ 5 ∷ 29 ∷ []) kind load_row own in
    let r4 = only_le (8 ∷ []) kind tree_load_row own in
    let r5 = only_le (1 ∷ 2 ∷ 3 ∷ []) kind entry_row own in
    omega (arith, one_text All own (codes "description") refl, k1, k2, k3, k4, k5, k6, r1, r2, r3, r4, r5)

pub keeps_image : (name : List ℕ) (kind : Option ℕ) → list_all (keeps_row in_images name) (all_image_rows kind) ≡ true
keeps_image name kind =
    let r1 = keeps_only name (1 ∷ 2 ∷ 3 ∷ 5 ∷ 8 ∷ []) kind arch_row refl in
    let r2 = keeps_only name (2 ∷ 3 ∷ 5 ∷ []) kind system_row refl in
    let r3 = keeps_only name (1 ∷ 2 ∷ 3 ∷ 5 ∷ 29 ∷ []) kind load_row refl in
    let r4 = keeps_only name (8 ∷ []) kind tree_load_row refl in
    let r5 = keeps_only name (1 ∷ 2 ∷ 3 ∷ []) kind entry_row refl in
    rw (r1, r2, r3, r4, r5) refl

all_four : (a b c d : Bool) → (a && b && c && d) ≡ true → (a ≡ true) × (b ≡ true) × (c ≡ true) × (d ≡ true)
all_four true true true true h = (refl, refl, refl, refl)
all_four false b c d h = absurd (true_false (sym h))
all_four true false c d h = absurd (true_false (sym h))
all_four true true false d h = absurd (true_false (sym h))
all_four true true true false h = absurd (true_false (sym h))

-- what a signature's lines show is kept
pub keeps_signing : (level : Level) (name : List ℕ) (part : Signing) → keeps_row level name (Part part) ≡ true
    → (keeps (role_at level name) Algo ≡ true) × (keeps (role_at level name) KeyName ≡ true) × (keeps (role_at level name) Required ≡ true) × (keeps (role_at level name) Timestamp ≡ true)
keeps_signing level name part h =
    all_four (keeps (role_at level name) Algo) (keeps (role_at level name) KeyName) (keeps (role_at level name) Required) (keeps (role_at level name) Timestamp) h

pub present : (own : List (NamedOf Spot)) (key file : List ℕ) (v : Option Span) → value_bytes own key ≡ bytes_in file v → is_some (value_bytes own key) ≡ is_some v
present own key file v is = ap (λ (o : Option (List ℕ)). is_some o) is ∙ some_of file v
