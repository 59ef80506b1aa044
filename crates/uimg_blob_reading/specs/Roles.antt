-- What a node is by its place in the tree (Flattened Image Tree format, "Root node", "'/images'
-- node", "'/configurations' node", "Hash nodes", "Image-signature nodes", "Configuration-signature
-- nodes").
use Rattle.std.specs.Prelude.{ℕ, ◌==◌, ◌||◌, List, [], ◌∷◌, Bool, true, false, codes, if◌then◌else◌}
use Rattle.std.specs.{List.starts_with, Str.bytes_eq}
use Rattle.uimg_blob_reading.specs.declared.keys.Key.{Key, TheVariants.{DataPosition, Algo, Value}}
use Rattle.uimg_blob_reading.specs.declared.keys.Key.TheVariants.{Description, Timestamp, Data}
use Rattle.uimg_blob_reading.specs.declared.keys.Key.TheVariants.{Kind, Arch, Os, Compression, Load}
use Rattle.uimg_blob_reading.specs.declared.keys.Key.TheVariants.{Entry, DataSize, DataOffset}
use Rattle.uimg_blob_reading.specs.declared.keys.Key.TheVariants.{Default, Kernel, Ramdisk, Fdt}
use Rattle.uimg_blob_reading.specs.declared.keys.Key.TheVariants.{Loadables, Firmware, Fpga, Setup}
use Rattle.uimg_blob_reading.specs.declared.keys.Key.TheVariants.{Standalone, Script, KeyName}
use Rattle.uimg_blob_reading.specs.declared.keys.Key.TheVariants.{Required, Padding}
use Rattle.uimg_blob_reading.specs.declared.roles.Role.{Role, TheVariants.{Signature, Other}}
use Rattle.uimg_blob_reading.specs.declared.roles.Role.TheVariants.{Root, Images, Image, Hash}
use Rattle.uimg_blob_reading.specs.declared.roles.Role.TheVariants.{Configurations, Configuration}

-- The level of siblings: the root alone, the root's children (and whether an `images` and a
-- `configurations` come before), the children of these two, those of an image or a configuration,
-- and all others.
pub data Level : Type 0 where
  top : Level
  in_root : Bool → Bool → Level
  in_images : Level
  in_image : Level
  in_configurations : Level
  elsewhere : Level

abbrev pub is_images : List ℕ → Bool
is_images name = bytes_eq name (codes "images")

abbrev pub is_configurations : List ℕ → Bool
is_configurations name = bytes_eq name (codes "configurations")

-- the name is that of a hash node
abbrev pub is_hash : List ℕ → Bool
is_hash name = starts_with (λ a b. a == b) name (codes "hash")

-- the name is that of a signature node
abbrev pub is_signature : List ℕ → Bool
is_signature name = starts_with (λ a b. a == b) name (codes "signature")

-- only the root's first `images` and first `configurations` have a role
abbrev pub root_child : Bool → Bool → Bool → Bool → Role
root_child had_images had_configurations true named_configurations =
    if had_images then Other else Images
root_child had_images had_configurations false true =
    if had_configurations then Other else Configurations
root_child had_images had_configurations false false = Other

-- the role of a child of an image or a configuration
abbrev pub sum_role : Bool → Bool → Role
sum_role named_hash named_signature =
    if named_hash then Hash else if named_signature then Signature else Other

-- the role of a node with this name
abbrev pub role_at : Level → List ℕ → Role
role_at top name = Root
role_at (in_root had_images had_configurations) name =
    root_child had_images had_configurations (is_images name) (is_configurations name)
role_at in_images name = Image
role_at in_image name = sum_role (is_hash name) (is_signature name)
role_at in_configurations name = Configuration
role_at elsewhere name = Other

-- the level of a node's children
abbrev pub level_in : Role → Level
level_in Root = in_root false false
level_in Images = in_images
level_in Image = in_image
level_in Hash = elsewhere
level_in Signature = elsewhere
level_in Configurations = in_configurations
level_in Configuration = in_image
level_in Other = elsewhere

-- the level of the nodes after a node with this name
abbrev pub level_after : Level → List ℕ → Level
level_after top name = top
level_after (in_root had_images had_configurations) name =
    in_root (had_images || is_images name) (had_configurations || is_configurations name)
level_after in_images name = in_images
level_after in_image name = in_image
level_after in_configurations name = in_configurations
level_after elsewhere name = elsewhere

-- the keys whose values are kept of a node
abbrev pub keys_of : Role → List Key
keys_of Root = Description ∷ Timestamp ∷ []
keys_of Images = []
keys_of Image =
    Description ∷ Data ∷ Kind ∷ Arch ∷ Os ∷ Compression ∷ Load ∷ Entry ∷ DataSize ∷ DataOffset
    ∷ DataPosition ∷ []
keys_of Hash = Algo ∷ Value ∷ []
keys_of Signature = Algo ∷ Value ∷ KeyName ∷ Required ∷ Padding ∷ Timestamp ∷ []
keys_of Configurations = Default ∷ []
keys_of Configuration =
    Description ∷ Kernel ∷ Ramdisk ∷ Fdt ∷ Loadables ∷ Firmware ∷ Fpga ∷ Setup ∷ Standalone ∷ Script
    ∷ []
keys_of Other = []

abbrev pub is_images_role : Role → Bool
is_images_role Root = false
is_images_role Images = true
is_images_role Image = false
is_images_role Hash = false
is_images_role Signature = false
is_images_role Configurations = false
is_images_role Configuration = false
is_images_role Other = false

abbrev pub is_configurations_role : Role → Bool
is_configurations_role Root = false
is_configurations_role Images = false
is_configurations_role Image = false
is_configurations_role Hash = false
is_configurations_role Signature = false
is_configurations_role Configurations = true
is_configurations_role Configuration = false
is_configurations_role Other = false

abbrev pub is_hash_role : Role → Bool
is_hash_role Root = false
is_hash_role Images = false
is_hash_role Image = false
is_hash_role Hash = true
is_hash_role Signature = false
is_hash_role Configurations = false
is_hash_role Configuration = false
is_hash_role Other = false

abbrev pub is_signature_role : Role → Bool
is_signature_role Root = false
is_signature_role Images = false
is_signature_role Image = false
is_signature_role Hash = false
is_signature_role Signature = true
is_signature_role Configurations = false
is_signature_role Configuration = false
is_signature_role Other = false
