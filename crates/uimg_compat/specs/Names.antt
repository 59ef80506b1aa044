-- The names that -A, -O, -T and -C take.
use Rattle.std.specs.Prelude.{◌==◌, ℕ, Bool, true, [], ◌∷◌, nat_lt, Option, Some, None, Result, Ok, Err, codes, if◌then◌else◌}
use Rattle.std.specs.List.{list_any}
use Rattle.std.specs.Str.{bytes_eq}
use Rattle.uimg_texts.specs.Naming.{code_named}
use Rattle.uimg_texts.specs.declared.field.Field.{Field}
use Rattle.uimg_texts.specs.declared.field.Field.TheVariants.{Architecture, System, Kind, Compression}
use Rattle.uimg_texts.specs.declared.naming.Naming.TheVariants.{All}
use Rattle.uimg_requests.specs.declared.command.Form.{Form}
use Rattle.uimg_requests.specs.declared.command.Form.TheVariants.{Guess, Legacy, Fit}
use Rattle.uimg_compat.specs.Getopt.{Text}
use Rattle.uimg_compat.specs.Wrong.{Wrong, other_images, unknown_name}
use Rattle.uimg_compat.specs.declared.names.Named.{Named}
use Rattle.uimg_compat.specs.declared.names.Named.TheVariants as named

-- the name of a field
abbrev pub title_of : Field → Text
title_of Architecture = codes "architecture"
title_of System = codes "operating system"
title_of Kind = codes "image type"
title_of Compression = codes "compression"

-- A, O, T, C
abbrev pub letter_of : Field → ℕ
letter_of Architecture = 65
letter_of System = 79
letter_of Kind = 84
letter_of Compression = 67

abbrev pub known_name : Field → Text → Option ℕ → Result Named Wrong
known_name field word None = Err (unknown_name (letter_of field) word)
known_name field word (Some code) = Ok (named.Code code)

-- A word is `list`, or a name of image.h in any case.
abbrev pub name_asked : Field → Text → Result Named Wrong
name_asked field word = if bytes_eq word (codes "list") then Ok named.List
    else known_name field word (code_named All field word)

-- Are images of this type legacy or FIT images (up to flat_dt, 8, and kernel_noload, 14)?
abbrev pub is_made : ℕ → Bool
is_made kind = if nat_lt kind 9 then true else kind == 14

-- gpimage, x86_setup, fpga, tee, pmmc and copro
abbrev pub is_any_format : ℕ → Bool
is_any_format kind =
    list_any (λ code. code == kind) (17 ∷ 20 ∷ 29 ∷ 31 ∷ 33 ∷ 39 ∷ [])

-- The format of the images of a type: FIT of flat_dt, 8, legacy of others that are made and of
-- firmware_ivt, 32.
abbrev pub form_of_code : ℕ → Text → Result Form Wrong
form_of_code kind name = if kind == 0 then Ok Guess
    else (if kind == 8 then Ok Fit
    else (if is_made kind then Ok Legacy
    else (if kind == 32 then Ok Legacy
    else (if is_any_format kind then Ok Guess
    else Err (other_images name)))))

-- the format of the type of a name, a guess without one
abbrev pub form_asked : Option ℕ → Text → Result Form Wrong
form_asked None name = Ok Guess
form_asked (Some kind) name = form_of_code kind name
