-- What a FIT image has (Flattened Image Tree format, "Root node", "'/images' node").
use Rattle.std.specs.Prelude.{ℕ, List, [], length, Option, Some, None, Result, Ok, Err, ◌==◌}
use Rattle.std.specs.{Prelude.{if◌then◌else◌, nat_lt, Bool, false}, Int.{from_be_bytes, w32}}
use Rattle.std.specs.Option.{option_and_then, option_map}
use Rattle.uimg_texts.specs.{Numbers.be32, Slices.slice}
use Rattle.uimg_base.specs.{Results.◌>>=◌, declared.spans.Span.Span}
use Rattle.uimg_blob_reading.specs.{Reading.Fault as BlobFaultAt, Grammar.Siblings, Blob.tree}
use Rattle.uimg_blob_reading.specs.{Plain.{NamedOf, NodesOf, no_node, a_node}, Spots.{Spot, spots}}
use Rattle.uimg_blob_reading.specs.LookUps.{NodeOf, first, images}
use Rattle.uimg_fit_base.specs.declared.fault.Fault.{Fault, TheVariants.{Blob, Fit}}
use Rattle.uimg_fit_base.specs.declared.fault.FitFault.TheVariants.{NoImages}

-- the file begins with the magic number of a devicetree blob (Devicetree Specification, section
-- 5.2)
unfoldable pub begins_as_blob : List ℕ → Bool
begins_as_blob file = if nat_lt (length file) 4 then false else be32 file 0 == 0xd00dfeed

-- the tree of a file, each value with its offset, or the first fault of its blob with the fault's
-- offset
abbrev pub spots_in : Result Siblings BlobFaultAt → Result (NodesOf Spot) Fault
spots_in (Ok t) = Ok (spots t)
spots_in (Err e) = Err (Blob e.0 e.1)

abbrev pub tree_of : List ℕ → Result (NodesOf Spot) Fault
tree_of file = spots_in (tree file)

-- the images of a tree; a tree whose root has no child `images` is refused
abbrev pub listed_or : Option (List (NodeOf Spot)) → Result (List (NodeOf Spot)) Fault
listed_or (Some found) = Ok found
listed_or None = Err (Fit NoImages)

-- the images of a file
abbrev pub images_of : List ℕ → Result (List (NodeOf Spot)) Fault
images_of file = do
  t ← tree_of file
  listed_or (images t)

-- the properties of the root
abbrev pub root_own : NodesOf Spot → List (NamedOf Spot)
root_own no_node = []
root_own (a_node name own below after) = own

-- the number in a value of 4 bytes
unfoldable pub number : List ℕ → Option ℕ
number value = if length value == 4 then Some (from_be_bytes w32 value) else None

-- the bytes of the first property of a name
abbrev pub value_bytes : List (NamedOf Spot) → List ℕ → Option (List ℕ)
value_bytes own key = option_map (λ s. s.bytes) (first own key)

-- the number in the first property of a name; a value of another length than 4 counts as missing
abbrev pub cell : List (NamedOf Spot) → List ℕ → Option ℕ
cell own key = option_and_then number (value_bytes own key)

-- the bytes at a span of a file
abbrev pub bytes_in : List ℕ → Option Span → Option (List ℕ)
bytes_in file value = option_map (λ s. slice file s.place s.length) value

-- the number at a span of a file
abbrev pub number_in : List ℕ → Option Span → Option ℕ
number_in file value = option_and_then number (bytes_in file value)
