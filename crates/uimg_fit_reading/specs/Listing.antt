-- The listing of a FIT image.
use Rattle.std.specs.Prelude.{ℕ, suc, List, [], ◌∷◌, ◌++◌, Option, Some, None, Result, Ok, Err}
use Rattle.std.specs.{Prelude.codes, List.flat_map, Option.is_some}
use Rattle.uimg_base.specs.Outcome.{Outcome, done, refused, told, after, unless_refused}
use Rattle.uimg_base.specs.declared.spans.Span.{Span}
use Rattle.uimg_blob_reading.specs.{Plain.{NamedOf, NodesOf}, Spots.Spot}
use Rattle.uimg_blob_reading.specs.LookUps.{NodeOf, listed, images, configurations}
use Rattle.uimg_texts.specs.declared.naming.Naming.{Naming, TheVariants.{Profile, All}}
use Rattle.uimg_fit_base.specs.declared.fault.{Fault.{Fault, TheVariants.Fit}, FitFault.FitFault}
use Rattle.uimg_fit_base.specs.{declared.fault.FitFault.TheVariants.NoImages, Places.place}
use Rattle.uimg_fit_base.specs.Files.{tree_of, root_own, value_bytes, cell}
use Rattle.uimg_fit_reading.specs.Heads.{description_line, created_line, default_line}
use Rattle.uimg_fit_reading.specs.Rows.{image_rows, sum_named, sum_rows, configuration_rows}
use Rattle.uimg_fit_reading.specs.Rows.{rows_lines, no_facts, title}

-- the root's timestamp, if it has one
abbrev pub time_of : List (NamedOf Spot) → Option ℕ
time_of root = cell root (codes "timestamp")

-- the two head lines
abbrev pub head_lines : List (NamedOf Spot) → List ℕ
head_lines root =
    description_line (value_bytes root (codes "description")) ++ created_line (time_of root)

-- the size of a payload, if its place is known
abbrev pub size_in : Result Span FitFault → Option ℕ
size_in (Ok p) = Some p.length
size_in (Err fault) = None

-- the lines of a child of an image or a configuration: of a hash node or a signature node
abbrev pub sum_lines : Naming → NodeOf Spot → List ℕ
sum_lines naming child =
    rows_lines no_facts child.own
    (sum_rows naming (sum_named child.name) (is_some (value_bytes child.own (codes "algo"))))

-- the lines of an image, below its title
abbrev pub image_fields : Naming → List ℕ → Option ℕ → NodeOf Spot → List ℕ
image_fields naming file time image =
    rows_lines (record { time = time; size = size_in (place file image) }) image.own
    (image_rows naming image.own)
    ++ flat_map (sum_lines naming) (listed image.below)

abbrev pub image_lines : Naming → List ℕ → Option ℕ → ℕ → NodeOf Spot → List ℕ
image_lines naming file time i image =
    title (codes " Image ") i image.name ++ image_fields naming file time image

-- the lines of the children of a configuration, which the profile does not have
abbrev pub configuration_sums : Naming → NodeOf Spot → List ℕ
configuration_sums Profile configuration = []
configuration_sums All configuration = flat_map (sum_lines All) (listed configuration.below)

abbrev pub configuration_lines : Naming → ℕ → NodeOf Spot → List ℕ
configuration_lines naming i configuration =
    title (codes " Configuration ") i configuration.name
    ++ (rows_lines no_facts configuration.own (configuration_rows naming)
    ++ configuration_sums naming configuration)

-- the lines of nodes, numbered from i on
unfoldable pub numbered_lines : (ℕ → NodeOf Spot → List ℕ) → ℕ → List (NodeOf Spot) → List ℕ
numbered_lines lines i [] = []
numbered_lines lines i (n ∷ ns) = lines i n ++ numbered_lines lines (suc i) ns

-- the default configuration, and the configurations
abbrev pub configurations_lines : Naming → Option (NodeOf Spot) → List ℕ
configurations_lines naming None = []
configurations_lines naming (Some c) =
    default_line (value_bytes c.own (codes "default"))
    ++ numbered_lines (configuration_lines naming) 0 (listed c.below)

-- the text after the head lines: images and configurations, or a refusal without a node `images`
abbrev pub lists : Naming → List ℕ → NodesOf Spot → Option (List (NodeOf Spot)) → Outcome Fault
lists naming file t (Some found) =
    told (numbered_lines (image_lines naming file (time_of (root_own t))) 0 found
    ++ configurations_lines naming (configurations t)) done
lists naming file t None = told [] (refused (Fit NoImages))

-- the listing of a file, with the names of a set; a faulty blob has no line
abbrev pub list_of : Naming → List ℕ → Outcome Fault
list_of naming file =
    unless_refused (tree_of file)
    (λ t. after (head_lines (root_own t)) (lists naming file t (images t)))
