-- The nodes that the signature of a configuration covers (U-Boot's fit_config_get_hash_list).
use Rattle.std.specs.Prelude.{◌≡◌, ℕ, ◌+◌, ◌*◌, nat_lt, List, [], ◌∷◌, ◌++◌, length, Option, Some, None, Ok, IsTrue}
use Rattle.std.specs.{Prelude.{Bool, true, if◌then◌else◌, ◌==◌}, List.slice_get}
use Rattle.std.specs.Int.{from_bool}
use Rattle.uimg_texts.specs.{Slices.slice, Numbers.be32}
use Rattle.uimg_base.specs.{Device.Device, declared.spans.Span.Span}
use Rattle.uimg_blob_reading.specs.declared.{nodes.Blob.Blob, roles.Role.Role}
use Rattle.uimg_blob_reading.specs.declared.roles.Role.TheVariants as role
use Rattle.uimg_blob_reading.specs.{Grammar.Siblings, Blob.tree, Rows.{Row, table}, Plain.NamedOf}
use Rattle.uimg_blob_reading.specs.Indexed.{IsIndexed}
use Rattle.uimg_signing.specs.{Texts.is_cipher, Naming.{times, any_long}, Sums.sum_from}
use Rattle.uimg_signing.specs.{PathSizes.path_size, Apart.are_apart}
use Rattle.uimg_signing.specs.declared.faults.SigningFault.{SigningFault}
use Rattle.uimg_signing.specs.declared.faults.SigningFault.TheVariants.{TooLong, TooManyNodes, Unhashed}

-- the bytes of a node's name
abbrev pub name_in : List ℕ → Row → List ℕ
name_in file row = slice file (row.at + 4) (length row.name)

-- how often a configuration with these properties names a node; none but images
abbrev pub image_times : List ℕ → List (NamedOf Span) → Role → List ℕ → ℕ
image_times file own role.Image name = times file name own
image_times file own _ name = 0

-- the same of the node of a row
abbrev pub row_times : List ℕ → List (NamedOf Span) → Option Row → ℕ
row_times file own None = 0
row_times file own (Some row) = image_times file own row.role (name_in file row)

-- the same of a parent
abbrev pub parent_times : List ℕ → List (NamedOf Span) → List Row → Option ℕ → ℕ
parent_times file own rows None = 0
parent_times file own rows (Some parent) = row_times file own (slice_get rows parent)

-- how often U-Boot lists a node, by its role: the root and the configuration once; an image, and its
-- hash nodes and cipher, once for each text that names it
abbrev pub listed_as : Role → Bool → ℕ → Bool → ℕ → ℕ
listed_as role.Root its_number named is_cipher around = 1
listed_as role.Configuration its_number named is_cipher around = from_bool its_number
listed_as role.Image its_number named is_cipher around = named
listed_as role.Hash its_number named is_cipher around = around
listed_as role.Other its_number named is_cipher around = if is_cipher then around else 0
listed_as role.Images its_number named is_cipher around = 0
listed_as role.Configurations its_number named is_cipher around = 0
listed_as role.Signature its_number named is_cipher around = 0

-- how often it lists the node of this number
abbrev pub listed_times : List ℕ → List (NamedOf Span) → List Row → ℕ → ℕ → Row → ℕ
listed_times file own rows configuration number row =
    listed_as row.role (number == configuration) (times file (name_in file row) own)
    (is_cipher (name_in file row)) (parent_times file own rows row.parent)

-- the node of this number is listed
abbrev pub is_listed : List ℕ → List (NamedOf Span) → List Row → ℕ → ℕ → Row → Bool
is_listed file own rows configuration number row =
    nat_lt 0 (listed_times file own rows configuration number row)

-- the offset, if the node is listed
abbrev pub mark_if : Bool → ℕ → List ℕ
mark_if is_it at = if is_it then at ∷ [] else []

-- the offset of a node, if it is listed
abbrev pub mark_of : List ℕ → List (NamedOf Span) → List Row → ℕ → ℕ → Row → List ℕ
mark_of file own rows configuration number row =
    mark_if (is_listed file own rows configuration number row) row.at

-- the offsets of the listed nodes among rows that are numbered from i on
unfoldable pub marks_from : List ℕ → List (NamedOf Span) → List Row → ℕ → ℕ → List Row → List ℕ
marks_from file own all configuration i [] = []
marks_from file own all configuration i (row ∷ rows) =
    mark_of file own all configuration i row ++ marks_from file own all configuration (i + 1) rows

-- the offsets of the listed nodes
abbrev pub marks_of : List ℕ → List (NamedOf Span) → List Row → ℕ → List ℕ
marks_of file own rows configuration = marks_from file own rows configuration 0 rows

-- how many nodes U-Boot lists
abbrev pub count_listed : List ℕ → List (NamedOf Span) → List Row → ℕ → ℕ
count_listed file own rows configuration = sum_from (listed_times file own rows configuration) 0 rows

-- how many bytes the paths of one node have
abbrev pub path_bytes : List ℕ → List (NamedOf Span) → List Row → ℕ → ℕ → Row → ℕ
path_bytes file own rows configuration number row =
    listed_times file own rows configuration number row * path_size rows number

-- how many bytes all paths have, each with its NUL: one more than path_size says of the root, whose
-- path is a slash
abbrev pub count_path_bytes : List ℕ → List (NamedOf Span) → List Row → ℕ → ℕ
count_path_bytes file own rows configuration =
    1 + sum_from (path_bytes file own rows configuration) 0 rows

-- so many nodes, or so many bytes of their paths, are more than U-Boot has place for
-- (IMAGE_MAX_HASHED_NODES, FIT_MAX_HASH_PATH_BUF)
abbrev pub is_over : ℕ → ℕ → Bool
is_over nodes bytes = if nat_lt 100 nodes then true else nat_lt 4096 bytes

-- the nodes or their paths are
abbrev pub are_over : List ℕ → List (NamedOf Span) → List Row → ℕ → Bool
are_over file own rows configuration =
    is_over (count_listed file own rows configuration) (count_path_bytes file own rows configuration)

-- they are, or there are too many children of listed nodes
abbrev pub are_many : List ℕ → List (NamedOf Span) → List Row → ℕ → Bool
are_many file own rows configuration =
    if are_over file own rows configuration then true
    else are_apart (marks_of file own rows configuration) rows

-- P holds for the tree that was indexed and the node's row, over an honest device.
abbrev pub OfNode : Device → Blob → List (List ℕ) → ℕ → (List Row → Row → Type 0) → Type 0
OfNode d blob es node P =
    IsTrue d.honest → (t : Siblings) → IsIndexed t blob es
    → (row : Row) → slice_get (table t) node ≡ Some row → P (table t) row

-- The same for all rows.
abbrev pub OfTable : Device → Blob → List (List ℕ) → (List Row → Type 0) → Type 0
OfTable d blob es P = IsTrue d.honest → (t : Siblings) → IsIndexed t blob es → P (table t)

-- P holds for the tree of an honest device's bytes, if that was indexed, and the node's row.
abbrev pub OfTreeRead : Device → Blob → List (List ℕ) → ℕ → (List Row → Row → Type 0) → Type 0
OfTreeRead d blob es node P =
    IsTrue d.honest → (t : Siblings) → tree d.bytes ≡ Ok t → IsIndexed t blob es
    → blob.totalsize ≡ be32 d.bytes 4
    → (row : Row) → slice_get (table t) node ≡ Some row → P (table t) row

-- OfNode for the tree of the device's bytes
abbrev pub OfNodeRead : Device → Blob → List (List ℕ) → ℕ → (List Row → Row → Type 0) → Type 0
OfNodeRead d blob es node P =
    IsTrue d.honest → (t : Siblings) → tree d.bytes ≡ Ok t → IsIndexed t blob es
    → (row : Row) → slice_get (table t) node ≡ Some row → P (table t) row

-- OfTable for the tree of the device's bytes
abbrev pub OfTableRead : Device → Blob → List (List ℕ) → (List Row → Type 0) → Type 0
OfTableRead d blob es P =
    IsTrue d.honest → (t : Siblings) → tree d.bytes ≡ Ok t → IsIndexed t blob es → P (table t)

-- why nodes are not listed: there are too many, or not
abbrev pub many_refusal : Bool → Option SigningFault
many_refusal many = if many then Some TooManyNodes else None

-- the same where an image is named and each that is has a hash node, or not
abbrev pub nodes_refusal : Bool → Bool → Option SigningFault
nodes_refusal many hashed =
    if many then Some TooManyNodes else if hashed then None else Some Unhashed

-- the same of a configuration with these properties: first, a value has more than 8192 bytes
abbrev pub listing_refusal : List (NamedOf Span) → Bool → Bool → Option SigningFault
listing_refusal own many hashed = if any_long own then Some TooLong else nodes_refusal many hashed

-- the most bytes that are requested to decide whether a node is listed, or an image is named, of a
-- configuration with so many properties: two names of nodes, and each property's name and value
abbrev pub node_cost : ℕ → ℕ
node_cost properties = 510 + 8447 * properties

-- the most bytes that are requested to list the nodes, of so many nodes
abbrev pub listing_cost : ℕ → ℕ → ℕ → ℕ
listing_cost nodes properties nops =
    44 + 268 * properties + 4 * nops + nodes * node_cost properties
    + nodes * node_cost properties
