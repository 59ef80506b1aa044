-- The lines of images, hash nodes, signature nodes and configurations, as rows of tables.
use Rattle.std.specs.Prelude.{ℕ, List, [], ◌∷◌, ◌++◌, take, replicate, decimal, Bool, true, Option}
use Rattle.std.specs.Prelude.{Some, None, ◌+◌, ◌==◌, ◌&&◌, codes, length, false, if◌then◌else◌}
use Rattle.std.specs.{List.{flat_map, list_any}, Option.{option_map_or, option_and_then, is_some}}
use Rattle.uimg_texts.specs.{Nul.text, Times.time_text}
use Rattle.uimg_base.specs.Outcome.{line}
use Rattle.uimg_blob_reading.specs.{Indexed.keeps, Keys.name_of, Plain.NamedOf, Spots.Spot}
use Rattle.uimg_blob_reading.specs.declared.keys.Key.{Key, TheVariants.{Description, Kind, Arch, Os}}
use Rattle.uimg_blob_reading.specs.declared.keys.Key.TheVariants.{Compression, Load, Entry, Algo}
use Rattle.uimg_blob_reading.specs.declared.keys.Key.TheVariants.{Value, Kernel, Ramdisk, Fdt}
use Rattle.uimg_blob_reading.specs.declared.keys.Key.TheVariants.{Loadables, Firmware, Fpga}
use Rattle.uimg_blob_reading.specs.declared.keys.Key.TheVariants.{Padding, KeyName, Required}
use Rattle.uimg_blob_reading.specs.declared.keys.Key.TheVariants.{Timestamp}
use Rattle.uimg_blob_reading.specs.Roles.{Level, role_at, is_hash, is_signature}
use Rattle.uimg_texts.specs.declared.field.Field.TheVariants as field
use Rattle.uimg_texts.specs.Naming.{code_named}
use Rattle.uimg_texts.specs.declared.naming.Naming.{Naming, TheVariants.{Profile, All}}
use Rattle.uimg_fit_base.specs.Files.{value_bytes, cell}
use Rattle.uimg_fit_reading.specs.declared.listing.rows.{Facts.Facts, Row.Row, Signing.Signing}
use Rattle.uimg_fit_reading.specs.declared.nodes.Sum.{Sum, TheVariants.{Hash, Signature}}
use Rattle.uimg_fit_reading.specs.declared.listing.rows.Row.TheVariants.{Property, Wanted, Time}
use Rattle.uimg_fit_reading.specs.declared.listing.rows.Row.TheVariants.{Created, Size, Unsupported, Nothing}
use Rattle.uimg_fit_reading.specs.declared.listing.rows.Row.TheVariants.{Signing as Part}
use Rattle.uimg_fit_reading.specs.declared.listing.rows.Signing.TheVariants as sign
use Rattle.uimg_fit_reading.specs.declared.listing.shows.Show.TheVariants.{Text, Name, Address}
use Rattle.uimg_fit_reading.specs.declared.listing.shows.Show.TheVariants.{Hexadecimal}
use Rattle.uimg_fit_reading.specs.declared.listing.shows.Show.TheVariants.{List as AList}
use Rattle.uimg_fit_reading.specs.Shows.{shown, wanted, show_weight, time_line, moment_line}
use Rattle.uimg_fit_reading.specs.Shows.{size_line, text_weight}

-- a label, padded with blanks to 16 bytes
abbrev pub label : List ℕ → List ℕ
label text = take 16 (text ++ replicate 16 32)

-- The rows of an image by the profile: the label of each property, and how it is printed.
abbrev pub profile_image_rows : List Row
profile_image_rows =
    Property Description (label (codes "  Description:")) Text
    ∷ Time (label (codes "  Created:"))
    ∷ Property Kind (label (codes "  Type:")) (Name Profile field.Kind)
    ∷ Property Compression (label (codes "  Compression:")) (Name Profile field.Compression)
    ∷ Size (label (codes "  Data Size:"))
    ∷ Property Arch (label (codes "  Architecture:")) (Name Profile field.Architecture)
    ∷ Property Os (label (codes "  OS:")) (Name Profile field.System)
    ∷ Property Load (label (codes "  Load Address:")) Address
    ∷ Property Entry (label (codes "  Entry Point:")) Address
    ∷ []

-- the rows that only some types have
abbrev pub arch_row : Row
arch_row = Wanted Arch (label (codes "  Architecture:")) (Name All field.Architecture)

abbrev pub system_row : Row
system_row = Wanted Os (label (codes "  OS:")) (Name All field.System)

abbrev pub load_row : Row
load_row = Wanted Load (label (codes "  Load Address:")) Address

abbrev pub tree_load_row : Row
tree_load_row = Property Load (label (codes "  Load Address:")) Address

abbrev pub entry_row : Row
entry_row = Wanted Entry (label (codes "  Entry Point:")) Address

-- the row, if the type of an image is one of these
abbrev pub only_for : List ℕ → Option ℕ → Row → Row
only_for kinds kind row =
    if option_map_or (λ k. list_any (λ c. c == k) kinds) kind false then row else Nothing

-- The rows of an image by the names of image.h, as fit_image_print of U-Boot's boot/image-fit.c
-- prints them: some types have no architecture, system or addresses. The types are standalone (1),
-- kernel (2), ramdisk (3), firmware (5), flat_dt (8) and fpga (29).
abbrev pub all_image_rows : Option ℕ → List Row
all_image_rows kind =
    Wanted Description (label (codes "  Description:")) Text
    ∷ Created (label (codes "  Created:"))
    ∷ Wanted Kind (label (codes "  Type:")) (Name All field.Kind)
    ∷ Wanted Compression (label (codes "  Compression:")) (Name All field.Compression)
    ∷ Size (label (codes "  Data Size:"))
    ∷ only_for (1 ∷ 2 ∷ 3 ∷ 5 ∷ 8 ∷ []) kind arch_row
    ∷ only_for (2 ∷ 3 ∷ 5 ∷ []) kind system_row
    ∷ only_for (1 ∷ 2 ∷ 3 ∷ 5 ∷ 29 ∷ []) kind load_row
    ∷ only_for (8 ∷ []) kind tree_load_row
    ∷ only_for (1 ∷ 2 ∷ 3 ∷ []) kind entry_row
    ∷ []

-- the code in image.h of the type that a value names, if there is one
abbrev pub kind_said : Option (List ℕ) → Option ℕ
kind_said value = option_and_then (λ v. code_named All field.Kind (text v)) value

-- the code of an image's type
abbrev pub kind_of : List (NamedOf Spot) → Option ℕ
kind_of own = kind_said (value_bytes own (codes "type"))

-- the rows of an image, by a set of names
abbrev pub image_rows : Naming → List (NamedOf Spot) → List Row
image_rows Profile own = profile_image_rows
image_rows All own = all_image_rows (kind_of own)

-- the rows of a hash node, by the profile
abbrev pub hash_rows : List Row
hash_rows =
    Property Algo (label (codes "  Hash algo:")) Text
    ∷ Property Value (label (codes "  Hash value:")) Hexadecimal ∷ []

-- the same by the names of image.h (fit_image_print_data of U-Boot's boot/image-fit.c)
abbrev pub hash_rows_with_value : List Row
hash_rows_with_value =
    Property Algo (label (codes "  Hash algo:")) Text
    ∷ Wanted Value (label (codes "  Hash value:")) Hexadecimal ∷ []

-- the rows of a signature node, by the same
abbrev pub signature_rows : List Row
signature_rows =
    Part (sign.Algo (label (codes "  Sign algo:")))
    ∷ Part sign.KeyName
    ∷ Part sign.Required
    ∷ Property Padding (label (codes "  Sign padding:")) Text
    ∷ Wanted Value (label (codes "  Sign value:")) Hexadecimal
    ∷ Part (sign.Time (label (codes "  Timestamp:")))
    ∷ []

-- what a child of an image or a configuration is, by its name
abbrev pub sum_named : List ℕ → Option Sum
sum_named name =
    if is_hash name then Some Hash else if is_signature name then Some Signature else None

-- its rows, by a set of names, if it has an algorithm or not
abbrev pub sum_rows : Naming → Option Sum → Bool → List Row
sum_rows Profile (Some Hash) has_algo = hash_rows
sum_rows Profile (Some Signature) has_algo = []
sum_rows All (Some Hash) true = hash_rows_with_value
sum_rows All (Some Hash) false = Unsupported (label (codes "  Hash algo:")) ∷ []
sum_rows All (Some Signature) true = signature_rows
sum_rows All (Some Signature) false = Unsupported (label (codes "  Sign algo:")) ∷ []
sum_rows naming None has_algo = []

-- the rows of a configuration, by the profile
abbrev pub profile_configuration_rows : List Row
profile_configuration_rows =
    Property Description (label (codes "  Description:")) Text
    ∷ Property Kernel (label (codes "  Kernel:")) Text
    ∷ Property Ramdisk (label (codes "  Init Ramdisk:")) Text
    ∷ Property Fdt (label (codes "  FDT:")) AList
    ∷ Property Loadables (label (codes "  Loadables:")) AList
    ∷ []

-- the same by the names of image.h (fit_conf_print of U-Boot's boot/image-fit.c)
abbrev pub all_configuration_rows : List Row
all_configuration_rows =
    Wanted Description (label (codes "  Description:")) Text
    ∷ Wanted Kernel (label (codes "  Kernel:")) Text
    ∷ Property Ramdisk (label (codes "  Init Ramdisk:")) Text
    ∷ Property Firmware (label (codes "  Firmware:")) Text
    ∷ Property Fdt (label (codes "  FDT:")) AList
    ∷ Property Fpga (label (codes "  FPGA:")) Text
    ∷ Property Loadables (label (codes "  Loadables:")) AList
    ∷ []

abbrev pub configuration_rows : Naming → List Row
configuration_rows Profile = profile_configuration_rows
configuration_rows All = all_configuration_rows

-- the parts of a signature's lines
abbrev pub text_after : List ℕ → Option (List ℕ) → List ℕ
text_after before value = option_map_or (λ v. before ++ text v) value []

abbrev pub required_line : Bool → List ℕ
required_line true = line (codes " (required)")
required_line false = line []

abbrev pub signed_line : List ℕ → Bool → Option ℕ → List ℕ
signed_line label true time = moment_line label time
signed_line label false time = []

abbrev pub signing_lines : List (NamedOf Spot) → Signing → List ℕ
signing_lines own (sign.Algo label) = text_after label (value_bytes own (codes "algo"))
signing_lines own sign.KeyName = text_after (codes ":") (value_bytes own (codes "key-name-hint"))
signing_lines own sign.Required = required_line (is_some (value_bytes own (codes "required")))
signing_lines own (sign.Time label) =
    signed_line label (is_some (value_bytes own (codes "key-name-hint")))
    (cell own (codes "timestamp"))

-- the lines of a row, for a node with these properties
abbrev pub row_lines : Facts → List (NamedOf Spot) → Row → List ℕ
row_lines facts own (Property key label show) = shown show label (value_bytes own (name_of key))
row_lines facts own (Wanted key label show) = wanted show label (value_bytes own (name_of key))
row_lines facts own (Time label) = time_line label facts.time
row_lines facts own (Created label) = moment_line label facts.time
row_lines facts own (Size label) = size_line label facts.size
row_lines facts own (Part part) = signing_lines own part
row_lines facts own (Unsupported label) = line (label ++ codes "invalid/unsupported")
row_lines facts own Nothing = []

-- the lines of rows
unfoldable pub rows_lines : Facts → List (NamedOf Spot) → List Row → List ℕ
rows_lines facts own rows = flat_map (row_lines facts own) rows

-- the facts of a node that shows only its properties
abbrev pub no_facts : Facts
no_facts = record { time = None; size = None }

-- ` <Kind> <i> (<name>)`; `before` is the text before the number
abbrev pub title : List ℕ → ℕ → List ℕ → List ℕ
title before i name = line (before ++ (decimal i ++ (codes " (" ++ (name ++ codes ")"))))

-- the most bytes requested of a part of a signature's lines
abbrev pub signing_cost : List (NamedOf Spot) → Signing → ℕ
signing_cost own (sign.Algo label) = text_weight (value_bytes own (codes "algo"))
signing_cost own sign.KeyName = text_weight (value_bytes own (codes "key-name-hint"))
signing_cost own sign.Required = 0
signing_cost own (sign.Time label) = 4

-- the most bytes requested of a row's value
abbrev pub row_cost : List (NamedOf Spot) → Row → ℕ
row_cost own (Property key label show) = show_weight show (value_bytes own (name_of key))
row_cost own (Wanted key label show) = show_weight show (value_bytes own (name_of key))
row_cost own (Time label) = 0
row_cost own (Created label) = 0
row_cost own (Size label) = 0
row_cost own (Part part) = signing_cost own part
row_cost own (Unsupported label) = 0
row_cost own Nothing = 0

-- whether the index keeps a row's property, for a node of this name at a level
abbrev pub keeps_row : Level → List ℕ → Row → Bool
keeps_row level name (Property key label show) = keeps (role_at level name) key
keeps_row level name (Wanted key label show) = keeps (role_at level name) key
keeps_row level name (Time label) = true
keeps_row level name (Created label) = true
keeps_row level name (Size label) = true
keeps_row level name (Part part) =
    keeps (role_at level name) Algo && keeps (role_at level name) KeyName
    && keeps (role_at level name) Required && keeps (role_at level name) Timestamp
keeps_row level name (Unsupported label) = true
keeps_row level name Nothing = true

-- the length of a value, or 0 if it is missing
abbrev pub length_of_value : List (NamedOf Spot) → List ℕ → ℕ
length_of_value own key = option_map_or (λ v. length v) (value_bytes own key) 0
