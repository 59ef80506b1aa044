-- The JSON object of a FIT image's facts.
use Rattle.std.specs.Prelude.{ℕ, List, [], ◌∷◌, ◌++◌, map, codes, length, Option, Some, None, Result, Ok, Err}
use Rattle.json.specs.Json.{Json}
use Rattle.uimg_base.specs.{declared.spans.Span.Span, Results.◌>>=◌}
use Rattle.uimg_blob_reading.specs.Plain.{NamedOf}
use Rattle.uimg_fit_base.specs.declared.fault.{Fault.{Fault, TheVariants.Fit}, FitFault.FitFault}
use Rattle.uimg_fit_checking.specs.FullSurvey.{properties_of}
use Rattle.uimg_fit_checking.specs.Survey.{Said, ImageSaid, HashSaid, ConfigurationSaid, survey_of}
use Rattle.uimg_fit_reading.specs.PayloadPlaces.{place_said}
use Rattle.uimg_info.specs.declared.reservations.Reservation.{Reservation}
use Rattle.uimg_info.specs.Reservations.{reservations_of, reservations_members}
use Rattle.uimg_info.specs.{Members.{Fact, facts_members}, Placing.first_fault, Signatures.signatures_of}
use Rattle.uimg_info.specs.declared.forms.Form.TheVariants.{Text, Texts, Digest, Cell, Address}
use Rattle.uimg_printing.specs.Members.{Member, object_of, array_of, string_member, number_member}

-- the facts of a hash node
abbrev pub hash_facts : HashSaid → List Fact
hash_facts hash =
    record { name = codes "name"; form = Text; value = Some hash.name }
    ∷ record { name = codes "algo"; form = Text; value = hash.algo }
    ∷ record { name = codes "value"; form = Digest; value = hash.value }
    ∷ []

-- the facts of an image, without its payload and its hash nodes
abbrev pub image_facts : ImageSaid → List Fact
image_facts image =
    record { name = codes "name"; form = Text; value = Some image.name }
    ∷ record { name = codes "description"; form = Text; value = image.description }
    ∷ record { name = codes "type"; form = Text; value = image.kind }
    ∷ record { name = codes "arch"; form = Text; value = image.arch }
    ∷ record { name = codes "os"; form = Text; value = image.os }
    ∷ record { name = codes "compression"; form = Text; value = image.compression }
    ∷ record { name = codes "load"; form = Address; value = image.load }
    ∷ record { name = codes "entry"; form = Address; value = image.entry }
    ∷ []

-- the facts of a configuration, without its child nodes
abbrev pub configuration_facts : ConfigurationSaid → List Fact
configuration_facts configuration =
    record { name = codes "name"; form = Text; value = Some configuration.name }
    ∷ record { name = codes "description"; form = Text; value = configuration.description }
    ∷ record { name = codes "kernel"; form = Text; value = configuration.kernel }
    ∷ record { name = codes "ramdisk"; form = Text; value = configuration.ramdisk }
    ∷ record { name = codes "fdt"; form = Texts; value = configuration.fdt }
    ∷ record { name = codes "loadables"; form = Texts; value = configuration.loadables }
    ∷ record { name = codes "firmware"; form = Text; value = configuration.firmware }
    ∷ record { name = codes "fpga"; form = Text; value = configuration.fpga }
    ∷ record { name = codes "setup"; form = Text; value = configuration.setup }
    ∷ record { name = codes "standalone"; form = Text; value = configuration.standalone }
    ∷ record { name = codes "script"; form = Text; value = configuration.script }
    ∷ []

-- the members of a child node of a configuration, and of a property: its name
abbrev pub node_facts : List ℕ → List Fact
node_facts name = record { name = codes "name"; form = Text; value = Some name } ∷ []

-- the facts of the root, and the default configuration
abbrev pub root_facts : Said → List Fact
root_facts said =
    record { name = codes "description"; form = Text; value = said.description }
    ∷ record { name = codes "timestamp"; form = Cell; value = said.timestamp }
    ∷ record { name = codes "default"; form = Text; value = said.preferred }
    ∷ []

-- the same, and the reserved memory
abbrev pub root_members : Option (List Reservation) → Said → List Member
root_members reserved said = facts_members (root_facts said) ++ reservations_members reserved

-- where a payload is, if it was found
abbrev pub place_members : Result Span FitFault → List Member
place_members (Ok place) =
    number_member (codes "offset") place.place ++ number_member (codes "data-size") place.length
place_members (Err fault) = []

abbrev pub hash_json : HashSaid → Json
hash_json hash = object_of (facts_members (hash_facts hash))

abbrev pub node_json : List ℕ → Json
node_json name = object_of (facts_members (node_facts name))

-- a property: its name, and the length of its value
abbrev pub property_members : NamedOf Span → List Member
property_members property =
    facts_members (node_facts property.name) ++ number_member (codes "size") property.value.length

abbrev pub property_json : NamedOf Span → Json
property_json property = object_of (property_members property)

-- a configuration with these properties
abbrev pub configuration_members : ConfigurationSaid → List (NamedOf Span) → List Member
configuration_members configuration properties =
    facts_members (configuration_facts configuration)
    ++ ((codes "nodes", array_of (map node_json configuration.nodes))
    ∷ (codes "properties", array_of (map property_json properties)) ∷ [])

abbrev pub configuration_json : ConfigurationSaid → List (NamedOf Span) → Json
configuration_json configuration properties =
    object_of (configuration_members configuration properties)

-- configurations, each with its properties
abbrev pub configurations_json : List ConfigurationSaid → List (List (NamedOf Span)) → List Json
configurations_json [] lists = []
configurations_json (configuration ∷ configurations) [] = []
configurations_json (configuration ∷ configurations) (properties ∷ lists) =
    configuration_json configuration properties ∷ configurations_json configurations lists

-- an image of a blob of this total size
abbrev pub image_members : ℕ → ImageSaid → List Member
image_members totalsize image =
    facts_members (image_facts image) ++ (place_members (place_said totalsize image.payload)
    ++ (codes "hashes", array_of (map hash_json image.hashes)) ∷ [])

abbrev pub image_json : ℕ → ImageSaid → Json
image_json totalsize image = object_of (image_members totalsize image)

-- the signature nodes of configurations
abbrev pub signature_json : List Fact → Json
signature_json facts = object_of (facts_members facts)

abbrev pub signatures_members : List (List Fact) → List Member
signatures_members signatures =
    (codes "signatures", array_of (map signature_json signatures)) ∷ []

-- the first members of each image
abbrev pub head_members : List ℕ → ℕ → ℕ → List Member
head_members path size totalsize =
    string_member (codes "path") path
    ++ (number_member (codes "status") 0 ++ (string_member (codes "format") (codes "fit")
    ++ (number_member (codes "size") size ++ number_member (codes "totalsize") totalsize)))

-- the object of a file of `size` bytes at a path, with its facts, configurations' properties and
-- signatures
abbrev pub fit_members : List ℕ → ℕ → Option (List Reservation) → Said → List (List (NamedOf Span))
    → List (List Fact) → List Member
fit_members path size reserved said properties signatures =
    head_members path size said.totalsize ++ (root_members reserved said
    ++ ((codes "images", array_of (map (image_json said.totalsize) said.images))
    ∷ (codes "configurations", array_of (configurations_json said.configurations properties))
    ∷ signatures_members signatures))

abbrev pub fit_json : List ℕ → ℕ → Option (List Reservation) → Said → List (List (NamedOf Span))
    → List (List Fact) → Json
fit_json path size reserved said properties signatures =
    object_of (fit_members path size reserved said properties signatures)

-- an object, unless a payload has a fault
abbrev pub unless_misplaced : Option FitFault → Json → Result Json Fault
unless_misplaced None j = Ok j
unless_misplaced (Some fault) j = Err (Fit fault)

-- the object of a file at a path, or the file's first fault: of the blob, or of a payload
abbrev pub info_of : List ℕ → List ℕ → Result Json Fault
info_of path file = do
  said ← survey_of file
  unless_misplaced (first_fault (length file) said.totalsize said.images)
      (fit_json path (length file) (reservations_of file said.totalsize) said (properties_of file)
      (signatures_of file))

abbrev pub ok_of : Result Json Fault → Option Json
ok_of (Ok j) = Some j
ok_of (Err fault) = None
