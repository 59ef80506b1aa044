-- Names in a set, and at spans of a file.
use Rattle.std.specs.Prelude.{◌≡◌, ◌||◌, ◌==◌, ◌-◌, ℕ, List, length, Bool, not, false, Result, IfOk}
use Rattle.std.specs.Prelude.{IsTrue, Vec, if◌then◌else◌, slice_index}
use Rattle.std.specs.List.{list_any}
use Rattle.std.specs.Str.{bytes_eq}
use Rattle.std.specs.BTreeSet.{BTreeSet}
use Rattle.uimg_base.specs.Device.{Device}
use Rattle.uimg_base.specs.Lent.{Lent}
use Rattle.uimg_base.specs.declared.spans.Span.{Span}
use Rattle.uimg_texts.specs.Slices.{slice}
use Rattle.uimg_fit_checking.specs.declared.surveying.facts.ImageFacts.{ImageFacts}
use Rattle.uimg_fit_checking.specs.declared.surveying.facts.ConfigurationFacts.{ConfigurationFacts}

-- whether a set has a name
abbrev pub has_name : {Z : Type 0} → BTreeSet (Vec ℕ Z) → List ℕ → Bool
has_name names name = list_any (λ known. bytes_eq name known.items) names.keys

-- A set has exactly the names of a list.
abbrev pub HasNames : {Z : Type 0} → BTreeSet (Vec ℕ Z) → List (List ℕ) → Type 0
HasNames names list = (name : List ℕ) → has_name names name ≡ list_any (bytes_eq name) list

-- A name was added to a set.
abbrev pub AddsName : {Z W : Type 0} → List ℕ → BTreeSet (Vec ℕ Z) → BTreeSet (Vec ℕ W) → Type 0
AddsName added old new =
    (name : List ℕ) → has_name new name ≡ (bytes_eq name added || has_name old name)

-- Over an honest source a set has exactly the names of a list, read from its bytes.
abbrev pub TellsNames : {S Z E : Type 0} → (List ℕ → List (List ℕ)) → Result (BTreeSet (Vec ℕ Z)) E
    → (S → Device) → Lent S → Type 0
TellsNames list result device source = IsTrue (device source.entry.now).honest
    → IfOk result (λ names. HasNames names (list (device source.entry.now).bytes))

-- whether a name is empty, or not in a list
abbrev pub is_lost : List (List ℕ) → List ℕ → Bool
is_lost list name = (length name == 0) || not (list_any (bytes_eq name) list)

-- whether a value ends with a NUL, as a list of names does
unfoldable pub is_ended : List ℕ → Bool
is_ended value =
    if length value == 0 then false else slice_index value (length value - 1) == 0

-- the name at a span of a file
abbrev pub name_in_span : List ℕ → Span → List ℕ
name_in_span file span = slice file span.place span.length

abbrev pub image_name_in : List ℕ → ImageFacts → List ℕ
image_name_in file image = name_in_span file image.name

abbrev pub configuration_name_in : List ℕ → ConfigurationFacts → List ℕ
configuration_name_in file configuration = name_in_span file configuration.name
