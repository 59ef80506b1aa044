-- The signature nodes of configurations.
use Rattle.std.specs.Prelude.{ℕ, ◌+◌, ◌<◌, List, [], ◌∷◌, ◌++◌, Option, Some, None}
use Rattle.std.specs.{Prelude.{Bool, true, false, if◌then◌else◌}, List.slice_get}
use Rattle.uimg_blob_reading.specs.declared.roles.Role.{Role}
use Rattle.uimg_blob_reading.specs.declared.roles.Role.TheVariants as role
use Rattle.uimg_blob_reading.specs.{Roles.is_signature_role, Rows.Row}
use Rattle.uimg_signing.specs.declared.configuration_signatures.SignatureNode.{SignatureNode}

abbrev pub is_configuration_role : Role → Bool
is_configuration_role role.Configuration = true
is_configuration_role role = false

-- the row is that of a configuration
abbrev pub is_configuration : Option Row → Bool
is_configuration None = false
is_configuration (Some row) = is_configuration_role row.role

-- the number of a parent that is a configuration
abbrev pub configuration_around : List Row → Option ℕ → Option ℕ
configuration_around rows None = None
configuration_around rows (Some parent) =
    if is_configuration (slice_get rows parent) then Some parent else None

-- the number of the configuration that a row is a signature node of
abbrev pub signed_configuration : List Row → Row → Option ℕ
signed_configuration rows row =
    if is_signature_role row.role then configuration_around rows row.parent else None

-- the node of this number, if it is a signature node of a configuration
abbrev pub node_of : ℕ → Option ℕ → List SignatureNode
node_of number None = []
node_of number (Some signed) = record { configuration = signed; node = number } ∷ []

-- the signature nodes among rows that are numbered from i on
unfoldable pub nodes_from : List Row → ℕ → List Row → List SignatureNode
nodes_from all i [] = []
nodes_from all i (row ∷ rows) =
    node_of i (signed_configuration all row) ++ nodes_from all (i + 1) rows

-- the signature nodes of all configurations, in reading order
abbrev pub signature_nodes : List Row → List SignatureNode
signature_nodes rows = nodes_from rows 0 rows

-- Both numbers are below the count of entries.
pub record IsBelow (count : ℕ) (signature : SignatureNode) : Type 0 where
  pub configuration : signature.configuration < count
  pub node : signature.node < count
