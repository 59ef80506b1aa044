-- What follows a blob, if payloads stay in their files.
use Rattle.std.specs.Prelude.{ℕ, ◌+◌, ◌-◌, List, [], ◌∷◌, replicate, nat_lt, if◌then◌else◌, Option}
use Rattle.std.specs.{Prelude.{Some, None, unwrap_or, codes, Result, Ok, Err}, List.flat_map}
use Rattle.uimg_blob_reading.specs.{Plain.NodesOf, LookUps.{NodeOf, first, images}}
use Rattle.uimg_blob_writing.specs.declared.tree.Node.{Node}
use Rattle.uimg_blob_writing.specs.{Content.{Content, Unread, bytes, size_of}, Alignment.padding_by}
use Rattle.uimg_fit_base.specs.declared.fault.FitFault.{FitFault}
use Rattle.uimg_fit_base.specs.declared.fault.FitFault.TheVariants.{PositionTooLow, TooLarge}
use Rattle.uimg_fit_base.specs.declared.placement.AlignedPlacement.{AlignedPlacement}
use Rattle.uimg_fit_base.specs.declared.placement.AlignedPlacement.TheVariants.{Inside, After, At}
use Rattle.uimg_fit_building.specs.{Refusing.is_low, UnreadTrees.padded_size_of}

-- a node in memory, as a `NodeOf`
abbrev pub entry : {A : Type 0} → Node A → NodeOf Content
entry n = record { name = n.name; own = n.props; below = n.children }

-- the images of a tree, none if the root has no child `images`
abbrev pub images_in : {V : Type 0} → NodesOf V → List (NodeOf V)
images_in t = unwrap_or (images t) []

-- a payload, and the zeros that pad it to an alignment
abbrev pub padded_pieces : ℕ → Option Content → List Content
padded_pieces align None = []
padded_pieces align (Some c) = c ∷ bytes (padding_by align (size_of c)) ∷ []

-- the same for an image
abbrev pub payload_pieces : ℕ → NodeOf Content → List Content
payload_pieces align i = padded_pieces align (first i.own (codes "data"))

-- the size of the payloads of images, each rounded up to an alignment
unfoldable pub padded_sizes : ℕ → List (NodeOf Content) → ℕ
padded_sizes align [] = 0
padded_sizes align (i ∷ is) = padded_size_of align i.own + padded_sizes align is

-- what follows a blob of a size
abbrev pub behind_pieces : ℕ → Unread → AlignedPlacement → List Content
behind_pieces size t (Inside least) = []
behind_pieces size t (After align) = flat_map (payload_pieces align) (images_in t)
behind_pieces size t (At p align) =
    bytes (replicate (p - size) 0) ∷ flat_map (payload_pieces align) (images_in t)

-- the size of the file
abbrev pub file_size : ℕ → ℕ → AlignedPlacement → ℕ
file_size size padded (Inside least) = size
file_size size padded (After align) = size + padded
file_size size padded (At p align) = p + padded

-- why payloads of a size cannot follow a blob of a size
unfoldable pub end_fault : ℕ → ℕ → AlignedPlacement → Option FitFault
end_fault size padded placement =
    if is_low size placement then Some PositionTooLow
    else if nat_lt 4294967295 (file_size size padded placement) then Some TooLarge
    else None

-- the fault of a result, if it is one
abbrev pub fault_in : {X : Type 0} → Result X FitFault → Option FitFault
fault_in (Ok x) = None
fault_in (Err fault) = Some fault
