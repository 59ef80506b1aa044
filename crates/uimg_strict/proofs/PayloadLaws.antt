-- The payload that U-Boot finds is the one that a check hashes.
use Rattle.std.proofs.Common.{◌≡◌, ◌+◌, ◌==◌, ℕ, List, [], ◌∷◌, length, find, map, Option, Some, None, Ok, Bool, true, false, not, ◌||◌, is_some, cond, if◌then◌else◌, codes, refl, ap, sym, ◌∙◌, subst, arith}
use Rattle.std.specs.Bool.{⊤}
use Rattle.std.specs.Int.{from_be_bytes, w32}
use Rattle.std.specs.List.{AllByRecursion}
use Rattle.std.specs.Option.{option_map, option_and_then}
use Rattle.std.specs.Str.{bytes_eq}
use Rattle.std.proofs.lemmas.Bool.{false≢true, eqb-true}
use Rattle.uimg_base.specs.declared.spans.Span.{Span}
use Rattle.uimg_texts.specs.Numbers.{be32, up4}
use Rattle.uimg_texts.specs.Slices.{slice}
use Rattle.uimg_blob_reading.specs.Indexed.{value_span}
use Rattle.uimg_blob_reading.specs.LookUps.{NodeOf, listed, first}
use Rattle.uimg_blob_reading.specs.Plain.{NamedOf, NodesOf, no_node, a_node}
use Rattle.uimg_blob_reading.specs.Spots.{Spot, spot_of, spots}
use Rattle.uimg_blob_reading.specs.Tokens.{Property}
use Rattle.uimg_blob_reading.specs.Grammar.{Siblings, none, node}
use Rattle.uimg_fit_base.specs.Lying.{ValueLies, Lie}
use Rattle.uimg_blob_reading.proofs.PhaseLaws.{by_bool, some_none, some_some}
use Rattle.uimg_fit_base.specs.Files.{number}
use Rattle.uimg_fit_base.specs.Places.{external, embedded, or_else}
use Rattle.uimg_strict.specs.Looseness.{known, in_node, is_odd, one_alone, loose_place, loose_image, span_of}
use Rattle.uimg_strict.specs.declared.loose.Looseness.TheVariants.{OddCell, HalfPlace}
use Rattle.uimg_strict.specs.UBoot.{from_blob, or_offset, data_and_size}
use Rattle.uimg_strict.specs.Readings.{SamePayload}

-- A value is at its offset in the file.
abbrev pub IsThere : List ℕ → NamedOf Spot → Type 0
IsThere file p = slice file p.value.place (length p.value.bytes) ≡ p.value.bytes

abbrev pub AreThere : List ℕ → NodesOf Spot → Type 0
AreThere file no_node = ⊤
AreThere file (a_node name own below after) = AllByRecursion (IsThere file) own × AreThere file below × AreThere file after

-- .. and so is the first of a name
first_there : (file : List ℕ) (own : List (NamedOf Spot)) → AllByRecursion (IsThere file) own → (key : List ℕ) (s : Spot) → first own key ≡ Some s → slice file s.place (length s.bytes) ≡ s.bytes
first_there file [] all key s is = absurd (some_none (sym is))
first_there file (p ∷ own) all key s is =
    by_bool (bytes_eq key p.name)
    (λ same. subst (λ (x : Spot). slice file x.place (length x.bytes) ≡ x.bytes) (some_some _ _ (sym (ap (λ b. option_map (λ p. p.value) (cond b (Some p) (find (λ p. bytes_eq key p.name) own))) same) ∙ is)) all.0)
    (λ differs. first_there file own all.1 key s (sym (ap (λ b. option_map (λ p. p.value) (cond b (Some p) (find (λ p. bytes_eq key p.name) own))) differs) ∙ is))

-- a cell of four bytes is the word there
word_is : (file : List ℕ) (s : Spot) → slice file s.place (length s.bytes) ≡ s.bytes → (length s.bytes == 4) ≡ true → length s.bytes ≡ 4 → number s.bytes ≡ Some (be32 file s.place)
unfolding number be32
word_is file s there four is =
    ap (λ b. if b then Some (from_be_bytes w32 s.bytes) else None) four
    ∙ ap (λ (bytes : List ℕ). Some (from_be_bytes w32 bytes)) (sym there ∙ ap (slice file s.place) is)

-- A value of a name, if there is one, is at its offset.
abbrev ThereIf : List ℕ → Option Spot → Type 0
ThereIf file value = (s : Spot) → value ≡ Some s → slice file s.place (length s.bytes) ≡ s.bytes

abbrev cell_of : Option Spot → Option ℕ
cell_of value = option_and_then number (option_map (λ s. s.bytes) value)

abbrev word_at : List ℕ → Option Spot → Option ℕ
word_at file value = option_map (λ s. be32 file s.place) value

not_false : (b : Bool) → not b ≡ false → b ≡ true
not_false true is = refl
not_false false is = absurd (false≢true (sym is))

cell_is : (file : List ℕ) (value : Option Spot) → ThereIf file value → is_odd (option_map value_span value) ≡ false → cell_of value ≡ word_at file value
cell_is file None there even = refl
cell_is file (Some s) there even =
    let four = not_false (length s.bytes == 4) even in
    word_is file s (there s refl) four (eqb-true (length s.bytes) 4 four)

if_none : {X : Type 0} (b : Bool) (x : X) (later : Option X) → (if b then Some x else later) ≡ None → (b ≡ false) × (later ≡ None)
if_none true x later is = absurd (some_none is)
if_none false x later is = (refl, is)

or_first : (a b : Bool) → (a || b) ≡ false → a ≡ false
or_first true b is = absurd (false≢true (sym is))
or_first false b is = refl

or_second : (a b : Bool) → (a || b) ≡ false → b ≡ false
or_second true b is = absurd (false≢true (sym is))
or_second false b is = is

-- without a cell of another length, an offset alone or two payloads both find the same
same_by : (file : List ℕ) (inside : Option Span) (size offset position : Option Spot)
    → one_alone (is_some (option_map value_span size)) (is_some (option_map value_span offset) || is_some (option_map value_span position)) ≡ false
    → (q : Span)
    → or_else (external 0 (word_at file position) (word_at file size)) (external (up4 (be32 file 4)) (word_at file offset) (word_at file size)) (embedded inside) ≡ Ok q
    → data_and_size (or_offset (word_at file position) (from_blob file (word_at file offset))) (word_at file size) inside ≡ Some q
same_by file None None None None alone q is = absurd (some_none (sym (ap known is)))
same_by file (Some s) None None None alone q is = ap known is
same_by file inside None (Some o) position alone q is = absurd (false≢true (sym alone))
same_by file inside None None (Some p) alone q is = absurd (false≢true (sym alone))
same_by file inside (Some z) None None alone q is = absurd (false≢true (sym alone))
same_by file inside (Some z) (Some o) None alone q is = ap known is
same_by file inside (Some z) offset (Some p) alone q is =
    let zero_more : be32 file p.place ≡ 0 + be32 file p.place = omega arith in
    ap (λ (at : ℕ). Some (record { place = at; length = be32 file z.place })) zero_more ∙ ap known is

map_none : {X Y : Type 0} (f : X → Y) (x : Option X) → option_map f x ≡ None → x ≡ None
map_none f None is = refl
map_none f (Some x) is = absurd (some_none is)

pub same_payload : (file : List ℕ) (image : NodeOf Spot) → AllByRecursion (IsThere file) image.own → loose_image image ≡ None → SamePayload file image
same_payload file image there strict q is =
    let size = first image.own (codes "data-size") in
    let offset = first image.own (codes "data-offset") in
    let position = first image.own (codes "data-position") in
    let inside = option_map value_span (first image.own (codes "data")) in
    let place_none = map_none (λ kind. in_node kind image.name) (loose_place inside (span_of image (codes "data-size")) (span_of image (codes "data-offset")) (span_of image (codes "data-position"))) strict in
    let odd = if_none _ OddCell _ place_none in
    let half = if_none _ HalfPlace _ odd.1 in
    let others = or_second _ _ odd.0 in
    let z = cell_is file size (first_there file image.own there (codes "data-size")) (or_first _ _ odd.0) in
    let o = cell_is file offset (first_there file image.own there (codes "data-offset")) (or_first _ _ others) in
    let p = cell_is file position (first_there file image.own there (codes "data-position")) (or_second _ _ others) in
    let base : ℕ = up4 (be32 file 4) in
    same_by file inside size offset position half.0 q (sym (
    ap (λ (c : Option ℕ). or_else (external 0 c (cell_of size)) (external base (cell_of offset) (cell_of size)) (embedded inside)) p
    ∙ ap (λ (c : Option ℕ). or_else (external 0 (word_at file position) c) (external base (cell_of offset) c) (embedded inside)) z
    ∙ ap (λ (c : Option ℕ). or_else (external 0 (word_at file position) (word_at file size)) (external base c (word_at file size)) (embedded inside)) o) ∙ is)

pub same_payloads : (file : List ℕ) (below : NodesOf Spot) → AreThere file below → AllByRecursion (λ image. loose_image image ≡ None) (listed below) → AllByRecursion (SamePayload file) (listed below)
unfolding listed
same_payloads file no_node there strict = tt
same_payloads file (a_node name own below after) there strict =
    (same_payload file (record { name = name; own = own; below = below }) there.0 strict.0, same_payloads file after there.2 strict.1)

-- the values of a child's children are there
pub there_below : (file : List ℕ) (below : NodesOf Spot) → AreThere file below → (key : List ℕ) (n : NodeOf Spot) → find (λ c. bytes_eq key c.name) (listed below) ≡ Some n → AreThere file n.below
unfolding listed
there_below file no_node there key n is = absurd (some_none (sym is))
there_below file (a_node name own below after) there key n is =
    by_bool (bytes_eq key name)
    (λ same. found_here (record { name = name; own = own; below = below }) n there.1
    (sym (ap (λ b. cond b (Some (record { name = name; own = own; below = below })) (find (λ c. bytes_eq key c.name) (listed after))) same) ∙ is))
    (λ differs. there_below file after there.2 key n
    (sym (ap (λ b. cond b (Some (record { name = name; own = own; below = below })) (find (λ c. bytes_eq key c.name) (listed after))) differs) ∙ is))
  where
    found_here : (m n : NodeOf Spot) → AreThere file m.below → Some m ≡ Some n → AreThere file n.below
    found_here m n there is = subst (λ (x : NodeOf Spot). AreThere file x.below) (some_some m n is) there

-- all values of a tree that was read are there
own_there : (file : List ℕ) (own : List Property) → AllByRecursion (ValueLies file) own → AllByRecursion (IsThere file) (map spot_of own)
own_there file [] lie = tt
own_there file (p ∷ own) lie = (lie.0.here, own_there file own lie.1)

pub spots_there : (file : List ℕ) (t : Siblings) → Lie file t → AreThere file (spots t)
unfolding spots
spots_there file none lie = tt
spots_there file (node at name own below after) lie = (own_there file own lie.1, spots_there file below lie.2, spots_there file after lie.3)
