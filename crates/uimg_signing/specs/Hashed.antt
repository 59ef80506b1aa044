-- Whether the images that a configuration names have hash nodes (U-Boot's fit_config_get_hash_list
-- and fit_config_add_hash).
use Rattle.std.specs.Prelude.{ℕ, ◌+◌, ◌==◌, nat_lt, List, [], ◌∷◌, Option, Some, None}
use Rattle.std.specs.{Prelude.{Bool, true, false, not, if◌then◌else◌}, List.list_any}
use Rattle.uimg_base.specs.declared.spans.Span.{Span}
use Rattle.uimg_blob_reading.specs.{Plain.NamedOf, Roles.is_hash_role, Rows.Row}
use Rattle.uimg_signing.specs.Listing.{image_times, name_in}

abbrev pub is_parent : ℕ → Option ℕ → Bool
is_parent number None = false
is_parent number (Some parent) = parent == number

-- the row is that of a hash node of the image of this number
abbrev pub is_hash_of : ℕ → Row → Bool
is_hash_of image row = if is_hash_role row.role then is_parent image row.parent else false

-- the image of this number has a hash node
abbrev pub has_hash : List Row → ℕ → Bool
has_hash rows image = list_any (is_hash_of image) rows

-- the row is that of an image that the configuration with these properties names
abbrev pub is_named_image : List ℕ → List (NamedOf Span) → Row → Bool
is_named_image file own row = nat_lt 0 (image_times file own row.role (name_in file row))

-- whether such an image has a hash node; else nothing
abbrev pub hashed_as : List ℕ → List (NamedOf Span) → List Row → ℕ → Row → Option Bool
hashed_as file own rows number row =
    if is_named_image file own row then Some (has_hash rows number) else None

-- it is an image without one
abbrev pub is_bare : Option Bool → Bool
is_bare None = false
is_bare (Some is_hashed) = not is_hashed

-- an image is named by now
abbrev pub any_after : Option Bool → Bool → Bool
any_after None has_any = has_any
any_after (Some is_hashed) has_any = true

-- an image is named by now, or among rows that are numbered from i on, and each of these has one
unfoldable pub hashed_from : List ℕ → List (NamedOf Span) → List Row → ℕ → Bool → List Row → Bool
hashed_from file own all i has_any [] = has_any
hashed_from file own all i has_any (row ∷ rows) =
    if is_bare (hashed_as file own all i row) then false
    else hashed_from file own all (i + 1) (any_after (hashed_as file own all i row) has_any) rows

-- the configuration names an image, and each image that it names has a hash node
abbrev pub are_hashed : List ℕ → List (NamedOf Span) → List Row → Bool
are_hashed file own rows = hashed_from file own rows 0 false rows
