-- The lines of a listed node, by its kind.
use Rattle.std.specs.{Prelude.{ℕ, List, Option, Result}, List.sum_by}
use Rattle.uimg_base.specs.{Device.Device, Lent.Lent, Sink.Sink}
use Rattle.uimg_base.specs.declared.ranges.MoveFault.{MoveFault}
use Rattle.uimg_blob_reading.specs.{Roles.{Level, in_images, in_configurations}, LookUps.NodeOf}
use Rattle.uimg_blob_reading.specs.Spots.{Spot}
use Rattle.uimg_fit_reading.specs.declared.listing.listed_nodes.Listed.{Listed, TheVariants.Image}
use Rattle.uimg_fit_reading.specs.declared.listing.listed_nodes.Listed.TheVariants.{Configuration}
use Rattle.uimg_fit_reading.specs.{declared.listing.titles.Numbered.Numbered, Telling.Lists}
use Rattle.uimg_fit_reading.specs.{declared.open_fit.OpenFit.OpenFit, Allowances.node_allowance}
use Rattle.uimg_fit_reading.specs.Listing.{image_lines, configuration_lines, numbered_lines}
use Rattle.uimg_fit_reading.specs.{Nodes.{OfNode, OfNodes}, OpenFits.{file_of, InFit}}
use Rattle.uimg_texts.specs.declared.naming.Naming.{Naming}

-- the level of the nodes of a kind
abbrev pub level_of : Listed → Level
level_of (Image naming time) = in_images
level_of (Configuration naming) = in_configurations

-- the set of names that it is listed with
abbrev pub naming_of : Listed → Naming
naming_of (Image naming time) = naming
naming_of (Configuration naming) = naming

-- the lines of a node of a kind
abbrev pub node_lines : List ℕ → Listed → ℕ → NodeOf Spot → List ℕ
node_lines file (Image naming time) = image_lines naming file time
node_lines file (Configuration naming) = configuration_lines naming

-- The lines of a node of a kind were written.
abbrev pub ListsNode : {S A X : Type 0} → Listed → Numbered → Result X MoveFault → (S → Device)
    → Lent (OpenFit S A) → Lent Sink → Type 0
ListsNode kind at result device fit out =
    InFit device fit.entry.now OfNode (level_of kind) at.node (λ found. Lists (node_allowance (naming_of kind) found)
    result device fit out (node_lines (file_of device fit.entry.now) kind at.number found))

-- The same for the nodes from a number on.
abbrev pub ListsNodes : {S A X : Type 0} → Listed → Option ℕ → Result X MoveFault → (S → Device)
    → Lent (OpenFit S A) → Lent Sink → Type 0
ListsNodes kind first result device fit out =
    InFit device fit.entry.now OfNodes (level_of kind) first (λ found.
    Lists (sum_by (node_allowance (naming_of kind)) found) result device fit out
    (numbered_lines (node_lines (file_of device fit.entry.now) kind) 0 found))
