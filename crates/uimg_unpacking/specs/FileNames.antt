-- The names of files that images are unpacked to.
use Rattle.std.specs.Prelude.{ℕ, zero, suc, List, [], ◌++◌, length, map, ◌==◌, bytes_eq, codes, decimal, Bool, false, ◌&&◌, not, if◌then◌else◌}
use Rattle.std.specs.Char.{to_ascii_lowercase}
use Rattle.std.specs.List.{list_all, list_any, slice_get}
use Rattle.std.specs.Option.{option_map_or}

-- letters, digits, and some signs
abbrev pub allowed : List ℕ
allowed = codes "ABCDEFGHIJKLMNOPQRSTUVWXYZabcdefghijklmnopqrstuvwxyz0123456789._-+@"

abbrev pub is_allowed : ℕ → Bool
is_allowed byte = list_any (λ known. known == byte) allowed

-- whether a name may begin with a byte: not with these signs
abbrev pub may_begin : ℕ → Bool
may_begin byte = not (list_any (λ known. known == byte) (codes ".-"))

-- Such a name is no path and no option. It is not `.` or `..`, is not hidden, and has no slash.
abbrev pub is_file_name : List ℕ → Bool
is_file_name name = option_map_or may_begin (slice_get name 0) false && list_all is_allowed name

-- the name of the file of a number
abbrev pub image_name : ℕ → List ℕ
image_name number = codes "image-" ++ decimal number

-- whether some names have one, in lower or upper case
abbrev pub is_among : List (List ℕ) → List ℕ → Bool
is_among names name = list_any (λ known. bytes_eq (map to_ascii_lowercase name) (map to_ascii_lowercase known)) names

-- the first of so many numbers whose name is free; the empty name if none is
unfoldable pub first_free : List (List ℕ) → ℕ → ℕ → List ℕ
first_free names number zero = []
first_free names number (suc more) =
    if is_among names (image_name number) then first_free names (suc number) more else image_name number

-- whether the file of an image has its name, after files of these names
abbrev pub keeps_name : List (List ℕ) → List ℕ → Bool
keeps_name names image = is_file_name image && not (is_among names image)

-- The name of the file of an image, after files of these names: that of the image if it can be, or else that of the
-- file's number, or of the next free one. A hundred numbers are tried.
unfoldable pub file_name : List (List ℕ) → List ℕ → List ℕ
file_name names image = if keeps_name names image then image else first_free names (length names) 100
