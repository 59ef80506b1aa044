-- Steps of placing a tree's payloads, on lists.
use Rattle.std.specs.Prelude.{ℕ, ◌+◌, List, [], ◌∷◌, ◌++◌, Bool, true, false, if◌then◌else◌, codes}
use Rattle.std.specs.Str.{bytes_eq}
use Rattle.uimg_blob_writing.specs.declared.props.{Prop.Prop, Value.TheVariants.Bytes}
use Rattle.uimg_blob_writing.specs.{declared.tree.Node.Node, Content.size_of, Encoding.word}
use Rattle.uimg_blob_writing.specs.Properties.{content}
use Rattle.uimg_fit_building.specs.UnreadTrees.{padded_size_of, unread_own, unread_from}

-- a list, with a function applied to the first element that passes a test
unfoldable pub at_first : {X : Type 0} → (X → Bool) → (X → List X) → List X → List X
at_first test f [] = []
at_first test f (x ∷ xs) = if test x then f x ++ xs else x ∷ at_first test f xs

-- the rest of a list: unchanged if such an element was met already, else treated the same
abbrev pub after_first : {X : Type 0} → (X → Bool) → (X → List X) → Bool → List X → List X
after_first test f true xs = xs
after_first test f false xs = at_first test f xs

-- a property of one cell
abbrev pub cell_property : {A : Type 0} → List ℕ → ℕ → Prop A
cell_property key n = record { name = key; value = Bytes (word n) }

-- the two cells that replace a payload
abbrev pub cells : {A : Type 0} → List ℕ → ℕ → Prop A → List (Prop A)
cells key at p =
    cell_property key at ∷ cell_property (codes "data-size") (size_of (content p.value)) ∷ []

abbrev pub is_data : {A : Type 0} → Prop A → Bool
is_data p = bytes_eq (codes "data") p.name

-- properties, with cells in place of the payload
abbrev pub placed_properties : {A : Type 0} → List ℕ → ℕ → List (Prop A) → List (Prop A)
placed_properties key at ps = at_first is_data (cells key at) ps

-- an image, with cells in place of its payload
abbrev pub placed_image : {A : Type 0} → List ℕ → ℕ → Node A → Node A
placed_image key at n = record n { props = unread_own key at n.props }

-- images, with their payloads one after another from an offset on
unfoldable pub placed_images : {A : Type 0} → ℕ → List ℕ → ℕ → List (Node A) → List (Node A)
placed_images align key at [] = []
placed_images align key at (n ∷ ns) =
    placed_image key at n ∷ placed_images align key (at + padded_size_of align n.props) ns

abbrev pub is_images_node : {A : Type 0} → Node A → Bool
is_images_node n = bytes_eq (codes "images") n.name

-- a node whose children are images, with cells in place of their payloads
abbrev pub with_placed : {A : Type 0} → ℕ → List ℕ → ℕ → Node A → Node A
with_placed align key at n = record n { children = unread_from align key at n.children }

-- the root's children, with cells in place of the images' payloads
abbrev pub placed_children : {A : Type 0} → ℕ → List ℕ → ℕ → List (Node A) → List (Node A)
placed_children align key at ns = at_first is_images_node (λ n. with_placed align key at n ∷ []) ns
