-- The facts of a FIT image, without payloads: the properties with a meaning (Flattened Image Tree
-- format, "Root node", "'/images' node", "Hash nodes", "'/configurations' node").
use Rattle.std.specs.Prelude.{◌≡◌, ℕ, List, [], map, codes, Option, Some, None, Result, Ok, IfOk}
use Rattle.std.specs.Prelude.{Vec}
use Rattle.uimg_texts.specs.Numbers.{be32}
use Rattle.uimg_texts.specs.Slices.{slice}
use Rattle.uimg_base.specs.Results.{◌>>=◌}
use Rattle.uimg_base.specs.declared.spans.Span.{Span}
use Rattle.uimg_blob_reading.specs.LookUps.{NodeOf, listed, hashes, images, configurations}
use Rattle.uimg_blob_reading.specs.Plain.{NodesOf}
use Rattle.uimg_blob_reading.specs.Spots.{Spot}
use Rattle.uimg_fit_base.specs.declared.fault.Fault.{Fault}
use Rattle.uimg_fit_base.specs.Files.{tree_of, listed_or, root_own, value_bytes, bytes_in}
use Rattle.uimg_fit_checking.specs.declared.surveying.facts.HashFacts.{HashFacts}
use Rattle.uimg_fit_reading.specs.PayloadPlaces.{PayloadSaid, payload_said, read_payload}
use Rattle.uimg_fit_checking.specs.declared.surveying.facts.ImageFacts.{ImageFacts}
use Rattle.uimg_fit_checking.specs.declared.surveying.facts.ConfigurationFacts.{ConfigurationFacts}
use Rattle.uimg_fit_checking.specs.declared.surveying.facts.Survey.{Survey}

-- The facts of a hash node: its name and its values.
pub record HashSaid : Type 0 where
  pub name : List ℕ
  pub algo : Option (List ℕ)
  pub value : Option (List ℕ)

-- The facts of an image.
pub record ImageSaid : Type 0 where
  pub name : List ℕ
  pub description : Option (List ℕ)
  pub kind : Option (List ℕ)
  pub arch : Option (List ℕ)
  pub os : Option (List ℕ)
  pub compression : Option (List ℕ)
  pub load : Option (List ℕ)
  pub entry : Option (List ℕ)
  pub payload : PayloadSaid
  pub hashes : List HashSaid

-- The facts of a configuration, and the names of its child nodes.
pub record ConfigurationSaid : Type 0 where
  pub name : List ℕ
  pub description : Option (List ℕ)
  pub kernel : Option (List ℕ)
  pub ramdisk : Option (List ℕ)
  pub fdt : Option (List ℕ)
  pub loadables : Option (List ℕ)
  pub firmware : Option (List ℕ)
  pub fpga : Option (List ℕ)
  pub setup : Option (List ℕ)
  pub standalone : Option (List ℕ)
  pub script : Option (List ℕ)
  pub nodes : List (List ℕ)

-- The facts of a FIT image.
pub record Said : Type 0 where
  pub totalsize : ℕ
  pub description : Option (List ℕ)
  pub timestamp : Option (List ℕ)
  pub images : List ImageSaid
  pub preferred : Option (List ℕ)
  pub configurations : List ConfigurationSaid

-- the facts of a hash node
abbrev pub hash_said : NodeOf Spot → HashSaid
hash_said hash = record {
  name = hash.name;
  algo = value_bytes hash.own (codes "algo");
  value = value_bytes hash.own (codes "value");
}

-- the facts of an image
abbrev pub image_said : NodeOf Spot → ImageSaid
image_said image = record {
  name = image.name;
  description = value_bytes image.own (codes "description");
  kind = value_bytes image.own (codes "type");
  arch = value_bytes image.own (codes "arch");
  os = value_bytes image.own (codes "os");
  compression = value_bytes image.own (codes "compression");
  load = value_bytes image.own (codes "load");
  entry = value_bytes image.own (codes "entry");
  payload = payload_said image;
  hashes = map hash_said (hashes image);
}

abbrev pub name_of_node : NodeOf Spot → List ℕ
name_of_node node = node.name

-- the facts of a configuration
abbrev pub configuration_said : NodeOf Spot → ConfigurationSaid
configuration_said configuration = record {
  name = configuration.name;
  description = value_bytes configuration.own (codes "description");
  kernel = value_bytes configuration.own (codes "kernel");
  ramdisk = value_bytes configuration.own (codes "ramdisk");
  fdt = value_bytes configuration.own (codes "fdt");
  loadables = value_bytes configuration.own (codes "loadables");
  firmware = value_bytes configuration.own (codes "firmware");
  fpga = value_bytes configuration.own (codes "fpga");
  setup = value_bytes configuration.own (codes "setup");
  standalone = value_bytes configuration.own (codes "standalone");
  script = value_bytes configuration.own (codes "script");
  nodes = map name_of_node (listed configuration.below);
}

-- the facts of the node `configurations`, if there is one
abbrev pub preferred_in : Option (NodeOf Spot) → Option (List ℕ)
preferred_in (Some node) = value_bytes node.own (codes "default")
preferred_in None = None

abbrev pub configurations_in : Option (NodeOf Spot) → List ConfigurationSaid
configurations_in (Some node) = map configuration_said (listed node.below)
configurations_in None = []

-- the facts of a file whose tree has these images
abbrev pub said_of : List ℕ → NodesOf Spot → List (NodeOf Spot) → Said
said_of file t found = record {
  totalsize = be32 file 4;
  description = value_bytes (root_own t) (codes "description");
  timestamp = value_bytes (root_own t) (codes "timestamp");
  images = map image_said found;
  preferred = preferred_in (configurations t);
  configurations = configurations_in (configurations t);
}

-- the facts of a file, or its first fault
abbrev pub survey_of : List ℕ → Result Said Fault
survey_of file = do
  t ← tree_of file
  found ← listed_or (images t)
  Ok (said_of file t found)

-- The facts in a file at the spans of a survey.
abbrev pub read_name : List ℕ → Span → List ℕ
read_name file name = slice file name.place name.length

abbrev pub read_hash : List ℕ → HashFacts → HashSaid
read_hash file facts = record {
  name = slice file facts.name.place facts.name.length;
  algo = bytes_in file facts.algo;
  value = bytes_in file facts.value;
}

abbrev pub read_image : List ℕ → ImageFacts → ImageSaid
read_image file facts = record {
  name = slice file facts.name.place facts.name.length;
  description = bytes_in file facts.description;
  kind = bytes_in file facts.kind;
  arch = bytes_in file facts.arch;
  os = bytes_in file facts.os;
  compression = bytes_in file facts.compression;
  load = bytes_in file facts.load;
  entry = bytes_in file facts.entry;
  payload = read_payload file facts.payload;
  hashes = map (read_hash file) facts.hashes.items;
}

abbrev pub read_configuration : List ℕ → ConfigurationFacts → ConfigurationSaid
read_configuration file facts = record {
  name = slice file facts.name.place facts.name.length;
  description = bytes_in file facts.description;
  kernel = bytes_in file facts.kernel;
  ramdisk = bytes_in file facts.ramdisk;
  fdt = bytes_in file facts.fdt;
  loadables = bytes_in file facts.loadables;
  firmware = bytes_in file facts.firmware;
  fpga = bytes_in file facts.fpga;
  setup = bytes_in file facts.setup;
  standalone = bytes_in file facts.standalone;
  script = bytes_in file facts.script;
  nodes = map (read_name file) facts.nodes.items;
}

abbrev pub read_survey : List ℕ → Survey → Said
read_survey file survey = record {
  totalsize = survey.totalsize;
  description = bytes_in file survey.description;
  timestamp = bytes_in file survey.timestamp;
  images = map (read_image file) survey.images.items;
  preferred = bytes_in file survey.preferred;
  configurations = map (read_configuration file) survey.configurations.items;
}

-- The facts of a result, read in a file, are those of these nodes.
abbrev pub Say : {X Y Z E : Type 0} → (List ℕ → X → Y) → (NodeOf Spot → Y) → Result (Vec X Z) E
    → List ℕ → List (NodeOf Spot) → Type 0
Say read said result file found =
    IfOk result (λ facts. map (read file) facts.items ≡ map said found)
