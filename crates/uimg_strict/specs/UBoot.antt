-- How U-Boot 2023.01 reads a FIT image, in its own terms (boot/image-fit.c; libfdt's fdt_ro.c and
-- fdt.c). It reads the tree that the file has, with all properties and their offsets.
use Rattle.std.specs.Prelude.{ℕ, ◌+◌, ◌==◌, List, [], ◌∷◌, length, not, ◌||◌, ◌&&◌, Bool, true}
use Rattle.std.specs.Prelude.{false, Option, Some, None, codes, find}
use Rattle.std.specs.List.{filter, starts_with}
use Rattle.std.specs.Option.{option_map, option_and_then, is_some}
use Rattle.std.specs.Str.{bytes_eq}
use Rattle.uimg_texts.specs.Numbers.{be32, up4}
use Rattle.uimg_base.specs.declared.spans.Span.{Span}
use Rattle.uimg_blob_reading.specs.Indexed.{value_span}
use Rattle.uimg_blob_reading.specs.LookUps.{NodeOf, listed, first}
use Rattle.uimg_blob_reading.specs.Plain.{NodesOf, no_node, a_node}
use Rattle.uimg_blob_reading.specs.Spots.{Spot}
use Rattle.uimg_fit_base.specs.Files.{root_own}
use Rattle.uimg_strict.specs.Names.{has_at}

-- a name begins with another one, and `@` follows
unfoldable pub goes_on_at : List ℕ → List ℕ → Bool
goes_on_at [] [] = false
goes_on_at [] (c ∷ name) = c == 0x40
goes_on_at (x ∷ sought) [] = false
goes_on_at (x ∷ sought) (c ∷ name) = (x == c) && goes_on_at sought name

-- fdt_nodename_eq_: a node has the sought name, or, if that has no `@`, the sought name before one
abbrev pub nodename_eq : List ℕ → List ℕ → Bool
nodename_eq sought name = bytes_eq sought name || (not (has_at sought) && goes_on_at sought name)

-- fdt_subnode_offset: the first child of this name
abbrev pub subnode : NodesOf Spot → List ℕ → Option (NodeOf Spot)
subnode below sought = find (λ c. nodename_eq sought c.name) (listed below)

-- fdt_path_offset of a child of the root
abbrev pub path : NodesOf Spot → List ℕ → Option (NodeOf Spot)
path no_node sought = None
path (a_node name own below after) sought = subnode below sought

-- fdt_for_each_subnode of `/images`
abbrev pub images_found : NodesOf Spot → Option (List (NodeOf Spot))
images_found t = option_map (λ n. listed n.below) (path t (codes "images"))

-- fit_image_get_node: the image of a name
abbrev pub image_found : NodesOf Spot → List ℕ → Option (NodeOf Spot)
image_found t name = option_and_then (λ n. subnode n.below name) (path t (codes "images"))

-- fdt_getprop, and then fdt32_to_cpu of the first four bytes there, whatever the length
abbrev pub word_of : List ℕ → NodeOf Spot → List ℕ → Option ℕ
word_of file node name = option_map (λ s. be32 file s.place) (first node.own name)

-- fit_image_get_data_position, or else fit_image_get_data_offset after the blob, rounded up to 4
abbrev pub from_blob : List ℕ → Option ℕ → Option ℕ
from_blob file None = None
from_blob file (Some offset) = Some (up4 (be32 file 4) + offset)

abbrev pub or_offset : Option ℕ → Option ℕ → Option ℕ
or_offset (Some position) offset = Some position
or_offset None offset = offset

-- fit_image_get_data_and_size: external with its size, or else `data`
abbrev pub data_and_size : Option ℕ → Option ℕ → Option Span → Option Span
data_and_size (Some at) (Some size) inside = Some (record { place = at; length = size })
data_and_size (Some at) None inside = None
data_and_size None size inside = inside

abbrev pub payload_found : List ℕ → NodeOf Spot → Option Span
payload_found file image =
    data_and_size
    (or_offset (word_of file image (codes "data-position"))
    (from_blob file (word_of file image (codes "data-offset"))))
    (word_of file image (codes "data-size"))
    (option_map value_span (first image.own (codes "data")))

-- fit_image_hash_get_ignore: `uboot-ignore` has four bytes, and not all are 0
abbrev pub is_set : List ℕ → Spot → Bool
is_set file s = (length s.bytes == 4) && not (be32 file s.place == 0)

abbrev pub is_ignored : List ℕ → Option Spot → Bool
is_ignored file None = false
is_ignored file (Some s) = is_set file s

-- fit_image_verify_with_data: the children whose names begin with `hash`, unless they are ignored
abbrev pub is_compared : List ℕ → NodeOf Spot → Bool
is_compared file h =
    starts_with (λ a b. a == b) h.name (codes "hash")
    && not (is_ignored file (first h.own (codes "uboot-ignore")))

abbrev pub hashes_compared : List ℕ → NodeOf Spot → List (NodeOf Spot)
hashes_compared file image = filter (is_compared file) (listed image.below)

-- fdt_check_no_at: no name of a node has an `@`
unfoldable pub has_no_at : NodesOf Spot → Bool
has_no_at no_node = true
has_no_at (a_node name own below after) =
    not (has_at name) && (has_no_at below && has_no_at after)

-- fit_check_format, after fdt_check_full: no unit address, `description`, `timestamp`, `/images`
abbrev pub has_format : NodesOf Spot → Bool
has_format t =
    has_no_at t && (is_some (first (root_own t) (codes "description"))
    && (is_some (first (root_own t) (codes "timestamp")) && is_some (path t (codes "images"))))
