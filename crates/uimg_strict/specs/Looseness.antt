-- What strictness refuses in the tree of a FIT image (Flattened Image Tree format, "Root node",
-- "'/images' node", "External data"; U-Boot's doc/uImage.FIT).
use Rattle.std.specs.Prelude.{length, ℕ, ◌+◌, nat_lt, Err, List, [], ◌∷◌, ◌++◌}
use Rattle.std.specs.Prelude.{map, not, ◌==◌, ◌||◌, ◌&&◌, Bool}
use Rattle.std.specs.Prelude.{true, false, if◌then◌else◌, Option, Some, None, Result, Ok, codes}
use Rattle.std.specs.Option.{option_map, is_some}
use Rattle.uimg_base.specs.Results.{◌>>=◌}
use Rattle.uimg_base.specs.declared.spans.Span.{Span}
use Rattle.uimg_blob_reading.specs.Indexed.{value_span}
use Rattle.uimg_blob_reading.specs.LookUps.{NodeOf, listed, first, images}
use Rattle.uimg_blob_reading.specs.Plain.{NodesOf, no_node, a_node}
use Rattle.uimg_blob_reading.specs.Spots.{Spot}
use Rattle.uimg_fit_base.specs.Files.{tree_of, listed_or, root_own, value_bytes}
use Rattle.uimg_fit_base.specs.declared.fault.Fault.{Fault}
use Rattle.uimg_fit_base.specs.declared.fault.FitFault.{FitFault}
use Rattle.uimg_fit_base.specs.Places.{place}
use Rattle.uimg_texts.specs.Numbers.{be32}
use Rattle.uimg_strict.specs.Soundness.{is_sound}
use Rattle.uimg_strict.specs.Names.{has_at, again, has_name}
use Rattle.uimg_strict.specs.declared.loose.Looseness.{Looseness}
use Rattle.uimg_strict.specs.declared.loose.Looseness.TheVariants.{NoDescription, NoTimestamp}
use Rattle.uimg_strict.specs.declared.loose.Looseness.TheVariants.{UnitAddress, DoubledNode}
use Rattle.uimg_strict.specs.declared.loose.Looseness.TheVariants.{DoubledProperty, IgnoredHash}
use Rattle.uimg_strict.specs.declared.loose.Looseness.TheVariants.{OddCell, TwoPayloads}
use Rattle.uimg_strict.specs.declared.loose.Looseness.TheVariants.{HalfPlace, Misplaced}
use Rattle.uimg_strict.specs.declared.loose.Looseness.TheVariants.{UnsoundBlob}

-- What is refused, and the name of the node; none for the root.
pub record LooseSaid : Type 0 where
  pub why : Looseness
  pub node : Option (List ℕ)

abbrev pub in_node : Looseness → List ℕ → LooseSaid
in_node kind name = record { why = kind; node = Some name }

abbrev pub in_root : Looseness → LooseSaid
in_root kind = record { why = kind; node = None }

-- the first of two, if there is one
abbrev pub or_then : {X : Type 0} → Option X → Option X → Option X
or_then (Some x) later = Some x
or_then None later = later

-- the first that is found in the elements of a list
unfoldable pub first_found : {X Y : Type 0} → (X → Option Y) → List X → Option Y
first_found f [] = None
first_found f (x ∷ xs) = or_then (f x) (first_found f xs)

-- something under a condition
abbrev pub found_if : {X : Type 0} → Bool → X → Option X
found_if true x = Some x
found_if false x = None

-- all nodes: each before its children, and these before the nodes after it
unfoldable pub all_nodes : {V : Type 0} → NodesOf V → List (NodeOf V)
all_nodes no_node = []
all_nodes (a_node name own below after) =
    record { name = name; own = own; below = below } ∷ (all_nodes below ++ all_nodes after)

-- The names in a node: its own, and those of its children and its properties.
pub record NodeSaid : Type 0 where
  pub name : List ℕ
  pub children : List (List ℕ)
  pub properties : List (List ℕ)

abbrev pub node_said : NodeOf Spot → NodeSaid
node_said found = record {
  name = found.name;
  children = map (λ c. c.name) (listed found.below);
  properties = map (λ p. p.name) found.own;
}

-- what is refused by the names in a node: an `@`, two children of one name, two properties of one
-- name, `uboot-ignore`
abbrev pub loose_names : NodeSaid → Option LooseSaid
loose_names said =
    or_then (found_if (has_at said.name) (in_node UnitAddress said.name))
    (or_then (option_map (in_node DoubledNode) (again said.children))
    (or_then (found_if (is_some (again said.properties)) (in_node DoubledProperty said.name))
    (found_if (has_name (codes "uboot-ignore") said.properties) (in_node IgnoredHash said.name))))

abbrev pub loose_node : NodeOf Spot → Option LooseSaid
loose_node found = loose_names (node_said found)

-- whether a cell has another length than four bytes
abbrev pub is_odd : Option Span → Bool
is_odd None = false
is_odd (Some s) = not (s.length == 4)

-- whether one of two is there, and the other is not
abbrev pub one_alone : Bool → Bool → Bool
one_alone true b = not b
one_alone false b = b

-- what is refused by the spans of `data`, `data-size`, `data-offset` and `data-position`
abbrev pub loose_place : Option Span → Option Span → Option Span → Option Span → Option Looseness
loose_place embedded size offset position =
    if is_odd size || (is_odd offset || is_odd position) then Some OddCell
    else if one_alone (is_some size) (is_some offset || is_some position) then Some HalfPlace
    else if is_some embedded && is_some size then Some TwoPayloads
    else None

-- the span of the first property of a name
abbrev pub span_of : NodeOf Spot → List ℕ → Option Span
span_of image key = option_map value_span (first image.own key)

-- what is refused of an image
abbrev pub loose_image : NodeOf Spot → Option LooseSaid
loose_image image =
    option_map (λ kind. in_node kind image.name)
    (loose_place (span_of image (codes "data")) (span_of image (codes "data-size"))
    (span_of image (codes "data-offset")) (span_of image (codes "data-position")))

-- what is refused of a root without one of its properties
abbrev pub loose_root : Option (List ℕ) → Option (List ℕ) → Option LooseSaid
loose_root None timestamp = Some (in_root NoDescription)
loose_root (Some description) None = Some (in_root NoTimestamp)
loose_root (Some description) (Some timestamp) = None

-- the place of a payload after the tree: of an image with `data-size`
abbrev pub known : Result Span FitFault → Option Span
known (Ok p) = Some p
known (Err fault) = None

abbrev pub external_place : List ℕ → NodeOf Spot → Option Span
external_place file image =
    if is_some (value_bytes image.own (codes "data-size")) then known (place file image) else None

-- where such a payload ends, if it does not begin before an offset; of another one that offset
abbrev pub end_after : Option Span → ℕ → Option ℕ
end_after None end = Some end
end_after (Some p) end = if nat_lt p.place end then None else Some (p.place + p.length)

abbrev pub or_misplaced : List ℕ → Option ℕ → (ℕ → Option LooseSaid) → Option LooseSaid
or_misplaced name None later = Some (in_node Misplaced name)
or_misplaced name (Some end) later = later end

-- the first image whose payload begins before an offset, or before the end of an earlier payload
unfoldable pub first_misplaced : List ℕ → ℕ → List (NodeOf Spot) → Option LooseSaid
first_misplaced file end [] = None
first_misplaced file end (image ∷ more) =
    or_misplaced image.name (end_after (external_place file image) end)
    (λ later. first_misplaced file later more)

-- what is refused of a tree with these images: of its root, else of a node by the names in it, else
-- of an image, else by the place of a payload, which is after the blob
abbrev pub loose_in : List ℕ → NodesOf Spot → List (NodeOf Spot) → Option LooseSaid
loose_in file t found =
    or_then (loose_root (value_bytes (root_own t) (codes "description"))
    (value_bytes (root_own t) (codes "timestamp")))
    (or_then (first_found loose_node (all_nodes t))
    (or_then (first_found loose_image found) (first_misplaced file (be32 file 4) found)))

-- the name of the root, which libfdt wants to be empty
abbrev pub root_name : NodesOf Spot → List ℕ
root_name no_node = []
root_name (a_node name own below after) = name

abbrev pub is_nameless : NodesOf Spot → Bool
is_nameless t = length (root_name t) == 0

-- what is refused of the blob and of its tree
abbrev pub loose_blob : Bool → Bool → Option LooseSaid → Option LooseSaid
loose_blob false nameless later = Some (in_root UnsoundBlob)
loose_blob true false later = Some (in_root UnsoundBlob)
loose_blob true true later = later

abbrev pub loose_file : List ℕ → NodesOf Spot → List (NodeOf Spot) → Option LooseSaid
loose_file file t found = loose_blob (is_sound file) (is_nameless t) (loose_in file t found)

-- what is refused of a file, or its first fault
abbrev pub looseness_of : List ℕ → Result (Option LooseSaid) Fault
looseness_of file = do
  t ← tree_of file
  found ← listed_or (images t)
  Ok (loose_file file t found)
