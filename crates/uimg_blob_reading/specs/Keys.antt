-- The properties to which FIT gives a meaning (Flattened Image Tree format, "Root node", "'/images'
-- node", "'/configurations' node").
use Rattle.std.specs.Prelude.{ℕ, List, [], ◌∷◌, Option, Bool, true, codes, find, if◌then◌else◌}
use Rattle.std.specs.Borrow.{Bor}
use Rattle.std.specs.{List.list_any, Option.option_map, Str.bytes_eq}
use Rattle.uimg_blob_reading.specs.declared.keys.Key.{Key, TheVariants.{DataPosition, Algo, Value}}
use Rattle.uimg_blob_reading.specs.declared.keys.Key.TheVariants.{Description, Timestamp, Data}
use Rattle.uimg_blob_reading.specs.declared.keys.Key.TheVariants.{Kind, Arch, Os, Compression, Load}
use Rattle.uimg_blob_reading.specs.declared.keys.Key.TheVariants.{Entry, DataSize, DataOffset}
use Rattle.uimg_blob_reading.specs.declared.keys.Key.TheVariants.{Default, Kernel, Ramdisk, Fdt}
use Rattle.uimg_blob_reading.specs.declared.keys.Key.TheVariants.{Loadables, Firmware, Fpga, Setup}
use Rattle.uimg_blob_reading.specs.declared.keys.Key.TheVariants.{Standalone, Script, KeyName}
use Rattle.uimg_blob_reading.specs.declared.keys.Key.TheVariants.{Required, Padding}

-- the name of a key's property
abbrev pub name_of : Key → List ℕ
name_of Description = codes "description"
name_of Timestamp = codes "timestamp"
name_of Data = codes "data"
name_of Kind = codes "type"
name_of Arch = codes "arch"
name_of Os = codes "os"
name_of Compression = codes "compression"
name_of Load = codes "load"
name_of Entry = codes "entry"
name_of DataSize = codes "data-size"
name_of DataOffset = codes "data-offset"
name_of DataPosition = codes "data-position"
name_of Algo = codes "algo"
name_of Value = codes "value"
name_of Default = codes "default"
name_of Kernel = codes "kernel"
name_of Ramdisk = codes "ramdisk"
name_of Fdt = codes "fdt"
name_of Loadables = codes "loadables"
name_of Firmware = codes "firmware"
name_of Fpga = codes "fpga"
name_of Setup = codes "setup"
name_of Standalone = codes "standalone"
name_of Script = codes "script"
name_of KeyName = codes "key-name-hint"
name_of Required = codes "required"
name_of Padding = codes "padding"

-- all keys
abbrev pub all_keys : List Key
all_keys =
    Description ∷ Timestamp ∷ Data ∷ Kind ∷ Arch ∷ Os ∷ Compression
    ∷ Load ∷ Entry ∷ DataSize ∷ DataOffset ∷ DataPosition ∷ Algo ∷ Value
    ∷ Default ∷ Kernel ∷ Ramdisk ∷ Fdt ∷ Loadables
    ∷ Firmware ∷ Fpga ∷ Setup ∷ Standalone ∷ Script ∷ KeyName ∷ Required ∷ Padding ∷ []

-- a name and its key
pub record KeyRow : Type 0 where
  pub name : List ℕ
  pub key : Key

-- the key in the first row with this name
abbrev pub key_of_name : List KeyRow → List ℕ → Option Key
key_of_name table name = option_map (λ r. r.key) (find (λ r. bytes_eq name r.name) table)

-- a row of the table in the code
abbrev pub key_row_of : Bor (List ℕ) × Key → KeyRow
key_row_of r = record { name = r.0.now; key = r.1 }

-- the key of a property's name, if it has one
abbrev pub key_named : List ℕ → Option Key
key_named name = find (λ key. bytes_eq name (name_of key)) all_keys

-- the names of the properties whose values are texts
abbrev pub text_names : List (List ℕ)
text_names =
    codes "description" ∷ codes "type" ∷ codes "arch" ∷ codes "os" ∷ codes "compression"
    ∷ codes "algo" ∷ codes "value"
    ∷ codes "default" ∷ codes "kernel" ∷ codes "ramdisk" ∷ codes "fdt" ∷ codes "loadables" ∷ []

-- whether a property's name is one of these
abbrev pub is_text : List ℕ → Bool
is_text name = list_any (bytes_eq name) text_names

-- whether it is one of these, or of those that are texts in a listing with all names
abbrev pub is_any_text : List ℕ → Bool
is_any_text name = if is_text name then true else list_any (bytes_eq name) (
    codes "firmware" ∷ codes "fpga" ∷ codes "key-name-hint" ∷ codes "padding" ∷ [])
