-- The texts of a value.
use Rattle.std.specs.Prelude.{ℕ, zero, suc, ◌+◌, List, [], ◌∷◌, length, drop, Option, Some, None}
use Rattle.std.specs.{Prelude.{Bool, true, if◌then◌else◌, codes}, Str.bytes_eq}
use Rattle.uimg_texts.specs.Nul.{before_nul}
use Rattle.std.specs.Int.{from_bool}

-- so many texts, if the value ends here; none, if bytes without a NUL are left
abbrev pub if_ended : List ℕ → ℕ → ℕ
if_ended [] found = found
if_ended (byte ∷ bytes) found = 0

-- the first where no NUL follows, else what the other says of the text before it
abbrev pub after_text : Option (List ℕ) → ℕ → (List ℕ → ℕ) → ℕ
after_text None ended more = ended
after_text (Some text) ended more = more text

-- how many of the first n texts are this one, and so many before them
unfoldable pub count_from : ℕ → ℕ → List ℕ → List ℕ → ℕ
count_from zero found bytes wanted = 0
count_from (suc n) found bytes wanted =
    after_text (before_nul bytes) (if_ended bytes found)
    (λ text. count_from n (found + from_bool (bytes_eq text wanted)) (drop (length text + 1) bytes) wanted)

-- how many texts of a value are this one: a NUL ends each; a value that ends without one has none
-- (libfdt's fdt_stringlist_count)
abbrev pub count_text : List ℕ → List ℕ → ℕ
count_text bytes wanted = count_from (length bytes + 1) 0 bytes wanted

-- the properties of a configuration that do not name images (U-Boot's fit_config_get_hash_list)
abbrev pub is_skipped : List ℕ → Bool
is_skipped name =
    if bytes_eq name (codes "description") then true else if bytes_eq name (codes "compatible")
    then true else bytes_eq name (codes "default")

abbrev pub is_cipher : List ℕ → Bool
is_cipher name = bytes_eq name (codes "cipher")
