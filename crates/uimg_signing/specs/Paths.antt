-- The nodes of a tree by their paths.
use Rattle.std.specs.Prelude.{◌≡◌, nat_lt, List, [], ◌∷◌, ◌++◌, Bool, false, ◌&&◌, ◌||◌, if◌then◌else◌, ⊤}
use Rattle.std.specs.{Prelude.{ℕ, Option, Some, None}, List.slice_get}
use Rattle.std.specs.Str.{bytes_eq}
use Rattle.uimg_base.specs.declared.spans.Span.{Span}
use Rattle.uimg_blob_reading.specs.{Rows.Row, Plain.NamedOf}
use Rattle.uimg_signing.specs.{Naming.times, Texts.is_cipher, Listing.{image_times, listed_as}}
use Rattle.uimg_blob_reading.specs.declared.roles.Role.{Role}
use Rattle.uimg_blob_reading.specs.declared.roles.Role.TheVariants as role
use Rattle.uimg_blob_reading.specs.Grammar.{Siblings, none, node}
use Rattle.uimg_blob_reading.specs.Roles.{is_images, is_configurations, is_hash, is_signature, sum_role}

-- the names of a node and of those around it, its own first, the root's last
abbrev pub Path : Type 0
Path = List (List ℕ)

-- the paths of siblings below a path, in reading order
unfoldable pub paths : Path → Siblings → List Path
paths above none = []
paths above (node at name own below after) =
    (name ∷ above) ∷ (paths (name ∷ above) below ++ paths above after)

-- what a node is by its path
abbrev pub role_of : Path → Role
role_of [] = role.Other
role_of (root ∷ []) = role.Root
role_of (x ∷ root ∷ []) =
    if is_images x then role.Images else if is_configurations x then role.Configurations else role.Other
role_of (x ∷ top ∷ root ∷ []) =
    if is_images top then role.Image else if is_configurations top then role.Configuration else role.Other
role_of (x ∷ y ∷ top ∷ root ∷ []) =
    if is_images top then sum_role (is_hash x) (is_signature x)
    else if is_configurations top then sum_role (is_hash x) (is_signature x) else role.Other
role_of (x ∷ y ∷ z ∷ top ∷ root ∷ more) = role.Other

-- Among these siblings, after others of which one was called `images` or `configurations`, there is
-- no second one.
abbrev pub AreSingle : Bool → Bool → Siblings → Type 0
AreSingle had_images had_configurations none = ⊤
AreSingle had_images had_configurations (node at name own below after) =
    ((had_images && is_images name) ≡ false) × ((had_configurations && is_configurations name) ≡ false)
    × AreSingle (had_images || is_images name) (had_configurations || is_configurations name) after

-- The root has one child `images` and one `configurations` at most, and no sibling.
abbrev pub IsSingle : Siblings → Type 0
IsSingle none = ⊤
IsSingle (node at name own below after) = AreSingle false false below × (after ≡ none)

-- the path of the parent, if there is one; else no name
abbrev pub ParentIs : List Path → Option ℕ → Path → Type 0
ParentIs all None above = above ≡ []
ParentIs all (Some parent) above = slice_get all parent ≡ Some above

-- The path is the node's name and its parent's path.
pub record Stands (all : List Path) (row : Row) (path : Path) : Type 0 where
  pub above : Path
  pub is : path ≡ row.name ∷ above
  pub parent : ParentIs all row.parent above

-- Each row has its path.
abbrev pub AllStand : List Path → List Row → List Path → Type 0
AllStand all [] [] = ⊤
AllStand all [] (p ∷ ps) = ⊥
AllStand all (r ∷ rs) [] = ⊥
AllStand all (r ∷ rs) (p ∷ ps) = Stands all r p × AllStand all rs ps

-- how often the configuration with these properties names the image of this path
abbrev pub around_at : List ℕ → List (NamedOf Span) → Path → ℕ
around_at file own [] = 0
around_at file own (x ∷ above) = image_times file own (role_of (x ∷ above)) x

-- The path is listed: that of the root, of the configuration of this name, of an image that it names,
-- or of a hash node or cipher of such an image.
abbrev pub listed_at : List ℕ → List (NamedOf Span) → List ℕ → Path → Bool
listed_at file own configuration [] = false
listed_at file own configuration (x ∷ above) =
    nat_lt 0 (listed_as (role_of (x ∷ above)) (bytes_eq x configuration) (times file x own)
    (is_cipher x) (around_at file own above))
