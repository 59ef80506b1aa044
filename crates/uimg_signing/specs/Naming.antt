-- How often a configuration names an image.
use Rattle.std.specs.Prelude.{ℕ, ◌+◌, ◌≤◌, nat_lt, List, [], ◌∷◌, map, Bool, if◌then◌else◌}
use Rattle.std.specs.List.{list_any}
use Rattle.uimg_texts.specs.Slices.{slice}
use Rattle.uimg_base.specs.declared.spans.Span.{Span}
use Rattle.uimg_blob_reading.specs.declared.places.PropertyPlace.{PropertyPlace}
use Rattle.uimg_blob_reading.specs.{Places.{read_place, EndsBy}, Plain.NamedOf}
use Rattle.uimg_signing.specs.Texts.{is_skipped, count_text}

-- how many texts of the property with a value at this span are this name of an image
abbrev pub count_in : List ℕ → List ℕ → NamedOf Span → ℕ
count_in file wanted p =
    if is_skipped p.name then 0 else count_text (slice file p.value.place p.value.length) wanted

-- how many of all the properties are
unfoldable pub times : List ℕ → List ℕ → List (NamedOf Span) → ℕ
times file wanted [] = 0
times file wanted (p ∷ ps) = count_in file wanted p + times file wanted ps

-- one of them is
abbrev pub named : List ℕ → List ℕ → List (NamedOf Span) → Bool
named file wanted own = nat_lt 0 (times file wanted own)

-- the properties at these spans
abbrev pub count_at : List ℕ → List ℕ → PropertyPlace → ℕ
count_at file wanted x = count_in file wanted (read_place file x)

abbrev pub times_at : List ℕ → List ℕ → List PropertyPlace → ℕ
times_at file wanted xs = times file wanted (map (read_place file) xs)

-- a value has more than 8192 bytes
abbrev pub any_long : List (NamedOf Span) → Bool
any_long own = list_any (λ p. nat_lt 8192 p.value.length) own

abbrev pub any_long_at : List PropertyPlace → Bool
any_long_at xs = list_any (λ x. nat_lt 8192 x.value.length) xs

-- Name and value end at `limit` or before, and have at most 255 and 8192 bytes.
pub record CanBeRead (limit : ℕ) (x : PropertyPlace) : Type 0 where
  pub ends : EndsBy limit x
  pub short : x.value.length ≤ 8192
