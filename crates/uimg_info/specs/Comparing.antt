-- How what two images state differs.
use Rattle.std.specs.Prelude.{◌≡◌, ℕ, ⊤, Result, Ok, Err, Vec, List, [], ◌∷◌, ◌++◌, map, Option, Some, None, Bool, true, false, cond, if◌then◌else◌}
use Rattle.std.specs.{Borrow.Bor, BTreeMap.{BTreeMap, get_by}, Cmp.Lexicographic.slice_cmp, Ordering.nat_cmp}
use Rattle.std.specs.{List.flat_map, Option.{is_some, option_map}, Str.bytes_eq}
use Rattle.uimg_info.specs.{Statement.Stated, declared.comparing.{Difference.Difference, CompareFault.CompareFault}}
use Rattle.uimg_info.specs.declared.comparing.CompareFault.TheVariants.{TwiceInOld, TwiceInNew, OutOfMemory}

-- the text of the first statement of a key
unfoldable pub text_at : List Stated → List ℕ → Option (List ℕ)
text_at [] key = None
text_at (s ∷ all) key = if bytes_eq s.key key then Some s.text else text_at all key

-- whether the key of a statement is one of those before it
unfoldable pub comes_again : List Stated → List Stated → Bool
comes_again before [] = false
comes_again before (s ∷ all) =
    if is_some (text_at before s.key) then true else comes_again (before ++ s ∷ []) all

-- whether two statements have the same key
abbrev pub has_twice : List Stated → Bool
has_twice all = comes_again [] all

-- A difference: a key, and its texts in the first and the second image, each if it is stated.
pub record Differs : Type 0 where
  pub key : List ℕ
  pub old : Option (List ℕ)
  pub new : Option (List ℕ)

-- the same of the program
abbrev pub now_of : Bor (List ℕ) → List ℕ
now_of bytes = bytes.now

abbrev pub differs : Difference → Differs
differs d = record { key = d.key.now; old = option_map now_of d.old; new = option_map now_of d.new }

-- what an option holds, as a list
abbrev pub option_items : {X : Type 0} → Option X → List X
option_items None = []
option_items (Some x) = x ∷ []

-- a statement of the first image, if the second has another text, or none
unfoldable pub changed : Stated → Option (List ℕ) → List Differs
changed s None = record { key = s.key; old = Some s.text; new = None } ∷ []
changed s (Some text) =
    if bytes_eq s.text text then []
    else record { key = s.key; old = Some s.text; new = Some text } ∷ []

-- a statement of the second image, if the first has none
unfoldable pub added : Stated → Option (List ℕ) → List Differs
added s None = record { key = s.key; old = None; new = Some s.text } ∷ []
added s (Some text) = []

abbrev pub changes_to : List Stated → List Stated → List Differs
changes_to new old = flat_map (λ s. changed s (text_at new s.key)) old

abbrev pub additions_to : List Stated → List Stated → List Differs
additions_to old new = flat_map (λ s. added s (text_at old s.key)) new

-- all differences: those of the statements of the first image in their order, then those that only
-- the second has
abbrev pub differences : List Stated → List Stated → List Differs
differences old new = changes_to new old ++ additions_to old new

-- what a map of texts has at a key
abbrev pub text_in : BTreeMap (Bor (List ℕ)) (Bor (List ℕ)) → List ℕ → Option (List ℕ)
text_in texts key = option_map now_of (get_by (λ k. slice_cmp nat_cmp key k.now) texts)

-- A map has the texts of statements.
abbrev pub HasTexts : BTreeMap (Bor (List ℕ)) (Bor (List ℕ)) → List Stated → Type 0
HasTexts texts all = (key : List ℕ) → text_in texts key ≡ text_at all key

-- A text was added to a map at a new key, or not as the key is there.
abbrev pub AddsText : Bool → List ℕ → List ℕ → (old new : BTreeMap (Bor (List ℕ)) (Bor (List ℕ))) → Type 0
AddsText true key text old new = (text_in old key ≡ None)
    × ((other : List ℕ) → text_in new other ≡ cond (bytes_eq key other) (Some text) (text_in old other))
AddsText false key text old new = is_some (text_in old key) ≡ true

-- The map of the texts of statements, or none as a key comes again.
abbrev pub MapsTexts : List Stated → Option (BTreeMap (Bor (List ℕ)) (Bor (List ℕ))) → Type 0
MapsTexts all None = has_twice all ≡ true
MapsTexts all (Some texts) = (has_twice all ≡ false) × HasTexts texts all

-- all differences, unless one of the images has two statements of a key
unfoldable pub compared : List Stated → List Stated → Result (List Differs) CompareFault
compared old new =
    if has_twice old then Err TwiceInOld
    else if has_twice new then Err TwiceInNew
    else Ok (differences old new)

-- The result is the differences or why there are none, unless memory was refused.
abbrev pub Compares : {Z : Type 0} → List Stated → List Stated → Result (Vec Difference Z) CompareFault → Type 0
Compares old new (Ok found) = compared old new ≡ Ok (map differs found.items)
Compares old new (Err OutOfMemory) = ⊤
Compares old new (Err fault) = compared old new ≡ Err fault
