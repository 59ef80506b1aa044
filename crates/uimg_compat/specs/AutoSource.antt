-- The image source of -f auto: the tree of fit_build_fdt in U-Boot 2023.01's tools/fit_image.c.
use Rattle.std.specs.Prelude.{ℕ, not, ◌==◌, ◌+◌, ◌-◌, ◌^◌, ◌++◌, List, [], ◌∷◌, find, length, min, nat_lt, take, Option, Some, None, codes, if◌then◌else◌}
use Rattle.std.specs.List.{after_last, before_last, suffix_len}
use Rattle.std.specs.Option.{option_map_or}
use Rattle.uimg_texts.specs.Names.{NameRow}
use Rattle.uimg_texts.specs.Naming.{rows, code_text}
use Rattle.uimg_texts.specs.declared.field.Field.{Field, TheVariants.{Architecture, System, Kind, Compression}}
use Rattle.uimg_texts.specs.declared.naming.Naming.TheVariants.{All}
use Rattle.uimg_compat.specs.Asked.{Auto}
use Rattle.uimg_compat.specs.Getopt.{Reading, Text, Told, all_read, flag, mistaken, operand, reading, told, unread, value}
use Rattle.uimg_compat.specs.ImageTree.{Item, begins, cell, ends, file, has, label, numbered, source_text, string, title}
use Rattle.uimg_compat.specs.Mkimage.{mkimage_rows}
use Rattle.uimg_compat.specs.declared.auto_source.TreePaths.{TreePaths}

-- a device tree is the value of -b, 98
abbrev pub tree_of : Told → Option Text
tree_of (flag letter) = None
tree_of (operand word) = None
tree_of (value letter word) = if letter == 98 then Some word else None

abbrev pub with_tree : Option Text → List Text → List Text
with_tree None paths = paths
with_tree (Some path) paths = path ∷ paths

-- the paths of the device trees, in the order of the options
abbrev pub trees_in : Reading → List Text
trees_in all_read = []
trees_in (mistaken mistake) = []
trees_in (told given rest) = with_tree (tree_of given) (trees_in rest)

abbrev pub trees_of : List Text → List Text
trees_of words = trees_in (reading mkimage_rows words)

abbrev pub paths_left : TreePaths → List Text
paths_left paths = trees_in (unread mkimage_rows paths.words)

-- genimg_get_type_short_name and its like: the first short name of a code
abbrev pub short_in : List NameRow → ℕ → Text
short_in rows code =
    option_map_or (λ row. row.short) (find (λ row. row.code == code) rows) (codes "unknown")

abbrev pub short_name : Field → ℕ → Text
short_name field code = short_in (rows field) code

abbrev pub kind_name : Auto → Text
kind_name auto = short_name Kind auto.options.kind

-- get_basename: what is after the last `/` and before the last `.`, at most 99 bytes
abbrev pub file_name : Text → Text
file_name path = after_last (λ byte. byte == 47) path

abbrev pub without_suffix : Text → Text
without_suffix name = if nat_lt (suffix_len (λ byte. not (byte == 46)) name) (length name)
    then before_last (λ byte. byte == 46) name else name

abbrev pub base_name : Text → Text
base_name path = take 99 (without_suffix (file_name path))

-- The end of an image: its checksum, or the signature that a key is to make (fit_add_hash_or_sign).
abbrev pub signature_items : Text → Text → List Item
signature_items key algorithm =
    begins (codes "signature-1")
    ∷ has (codes "algo") (string algorithm)
    ∷ has (codes "key-name-hint") (string key)
    ∷ ends
    ∷ ends
    ∷ []

abbrev pub ending : Option (Text × Text) → List Item
ending None = begins (codes "hash-1") ∷ has (codes "algo") (label (codes "crc32")) ∷ ends ∷ ends ∷ []
ending (Some both) = signature_items both.0 both.1

abbrev pub file_head : Auto → List Item
file_head auto =
    begins (numbered (kind_name auto) 1)
    ∷ has (codes "description") (string auto.name)
    ∷ has (codes "type") (label (kind_name auto))
    ∷ has (codes "arch") (label (short_name Architecture auto.options.arch))
    ∷ has (codes "os") (label (short_name System auto.options.os))
    ∷ has (codes "compression") (label (short_name Compression auto.options.comp))
    ∷ has (codes "load") (cell auto.options.load)
    ∷ has (codes "entry") (cell auto.options.ep)
    ∷ has (codes "data") (file auto.file)
    ∷ []

abbrev pub tree_head : Auto → ℕ → Text → List Item
tree_head auto number path =
    begins (numbered (codes "fdt") number)
    ∷ has (codes "description") (string (base_name path))
    ∷ has (codes "data") (file path)
    ∷ has (codes "type") (label (codes "flat_dt"))
    ∷ has (codes "arch") (label (short_name Architecture auto.options.arch))
    ∷ has (codes "compression") (label (codes "none"))
    ∷ []

abbrev pub ramdisk_head : Auto → Text → List Item
ramdisk_head auto path =
    begins (codes "ramdisk-1")
    ∷ has (codes "type") (label (codes "ramdisk"))
    ∷ has (codes "os") (label (short_name System auto.options.os))
    ∷ has (codes "arch") (label (short_name Architecture auto.options.arch))
    ∷ has (codes "data") (file path)
    ∷ []

-- an image: its properties, then its hash or signature node
abbrev pub image_text : Auto → List Item → Text
image_text auto items = source_text items ++ source_text (ending auto.signature)

abbrev pub ramdisk_text : Auto → Option Text → Text
ramdisk_text auto None = []
ramdisk_text auto (Some path) = image_text auto (ramdisk_head auto path)

-- The number after a number, at most 2^32 - 1.
abbrev pub after : ℕ → ℕ
after number = min (number + 1) (2 ^ 32 - 1)

-- one text for each path, numbered from a number on
abbrev pub each_from : (ℕ → Text → Text) → ℕ → List Text → Text
each_from text_of number [] = []
each_from text_of number (path ∷ rest) = text_of number path ++ each_from text_of (after number) rest

abbrev pub tree_text : Auto → ℕ → Text → Text
tree_text auto number path = image_text auto (tree_head auto number path)

abbrev pub trees_text : Auto → Text
trees_text auto = each_from (tree_text auto) 1 (trees_of auto.words)

-- the RAM disk of a configuration, and its end
abbrev pub ramdisk_name : Option Text → List Item
ramdisk_name None = []
ramdisk_name (Some path) = has (codes "ramdisk") (label (codes "ramdisk-1")) ∷ []

-- A configuration of a device tree: the file's image is what it boots, and is loadable.
abbrev pub configuration_head : Auto → ℕ → Text → List Item
configuration_head auto number path =
    begins (numbered (codes "conf") number)
    ∷ has (codes "description") (string (base_name path))
    ∷ has (kind_name auto) (label (numbered (kind_name auto) 1))
    ∷ has (codes "loadables") (label (numbered (kind_name auto) 1))
    ∷ []

abbrev pub configuration_end : ℕ → List Item
configuration_end number =
    has (codes "fdt") (label (numbered (codes "fdt") number)) ∷ ends ∷ []

abbrev pub configuration_text : Auto → ℕ → Text → Text
configuration_text auto number path =
    source_text (configuration_head auto number path)
    ++ source_text (ramdisk_name auto.ramdisk)
    ++ source_text (configuration_end number)

-- the only configuration where there is no device tree
abbrev pub bare_head : Auto → List Item
bare_head auto =
    begins (codes "conf-1")
    ∷ has (kind_name auto) (label (numbered (kind_name auto) 1))
    ∷ []

abbrev pub bare_configuration_text : Auto → Text
bare_configuration_text auto =
    source_text (bare_head auto)
    ++ source_text (ramdisk_name auto.ramdisk)
    ++ source_text (ends ∷ [])

abbrev pub configurations_by : Auto → List Text → Text
configurations_by auto [] = bare_configuration_text auto
configurations_by auto (path ∷ paths) = each_from (configuration_text auto) 1 (path ∷ paths)

abbrev pub configurations_head : List Item
configurations_head =
    begins (codes "configurations") ∷ has (codes "default") (label (codes "conf-1")) ∷ []

abbrev pub configurations_text : Auto → Text
configurations_text auto =
    source_text configurations_head
    ++ configurations_by auto (trees_of auto.words)
    ++ source_text (ends ∷ [])

-- the images: the file's, then those of the device trees, then that of the RAM disk
abbrev pub images_text : Auto → Text
images_text auto =
    image_text auto (file_head auto)
    ++ trees_text auto
    ++ ramdisk_text auto auto.ramdisk

abbrev pub root_head : Auto → List Item
root_head auto =
    begins (codes "/")
    ∷ has (codes "description") (label (title (code_text All Kind auto.options.kind)))
    ∷ has (codes "creator") (label (codes "U-Boot mkimage 2023.01"))
    ∷ has (codes "#address-cells") (cell 1)
    ∷ begins (codes "images")
    ∷ []

abbrev pub root_text : Auto → Text
root_text auto =
    source_text (root_head auto)
    ++ images_text auto
    ++ source_text (ends ∷ [])

unfoldable pub auto_text : Auto → Text
auto_text auto =
    codes "/dts-v1/;\n" ++ root_text auto ++ configurations_text auto ++ source_text (ends ∷ [])
