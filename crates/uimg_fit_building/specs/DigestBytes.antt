-- A tree without the bytes of its images' digests.
use Rattle.std.specs.{Prelude.{List, length, replicate, if◌then◌else◌, codes}, Option.option_map_or}
use Rattle.uimg_texts.specs.declared.naming.Naming.{Naming}
use Rattle.uimg_blob_reading.specs.{Roles.is_hash, Plain.NamedOf, LookUps.{NodeOf, first}}
use Rattle.uimg_blob_writing.specs.{declared.tree.Node.Node, Content.{Content, Unread, bytes, file}}
use Rattle.uimg_fit_building.specs.Filling.{with, each, in_first, with_images, hash_algo}
use Rattle.uimg_fit_building.specs.PayloadSums.{in_memory}

-- as many zeros as a value has bytes; a file stays a file
abbrev pub zeroed : Content → Content
zeroed (bytes b) = bytes (replicate (length b) 0)
zeroed (file name size) = file name size

-- properties, with the first `value` zeroed
abbrev pub zeroed_own : List (NamedOf Content) → List (NamedOf Content)
zeroed_own own =
    option_map_or (λ c. with (codes "value") (zeroed c) own) (first own (codes "value")) own

-- a hash node with its digest zeroed; one of an unknown algorithm is unchanged
abbrev pub zeroed_hash : Naming → NodeOf Content → NodeOf Content
zeroed_hash naming h =
    option_map_or (λ algo. record h { own = zeroed_own h.own }) (hash_algo naming in_memory h.own) h

-- a child of an image: a hash node with its digest zeroed, any other unchanged
abbrev pub zeroed_child : Naming → NodeOf Content → NodeOf Content
zeroed_child naming h = if is_hash h.name then zeroed_hash naming h else h

-- an image with its digests zeroed
abbrev pub zeroed_image : Naming → NodeOf Content → NodeOf Content
zeroed_image naming image = record image { below = each (zeroed_child naming) image.below }

-- a node whose children are images, with their digests zeroed
abbrev pub zeroed_parent : {A : Type 0} → Naming → Node A → Node A
zeroed_parent naming n = record n { children = each (zeroed_image naming) n.children }

-- the children of a root, with the digests of its images zeroed
abbrev pub zeroed_below : Naming → Unread → Unread
zeroed_below naming t = in_first (codes "images") (each (zeroed_image naming)) t

-- a tree with the digests of its images zeroed, and all else unchanged
abbrev pub zeroed_tree : Naming → Unread → Unread
zeroed_tree naming t = with_images (each (zeroed_image naming)) t
