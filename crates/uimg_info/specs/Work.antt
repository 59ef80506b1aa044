-- The most bytes requested: each value once, twelve for the place of a payload, which is looked for
-- twice, the memory reservation block, and the properties of the configurations with their names.
use Rattle.std.specs.Prelude.{ℕ, ◌+◌, ◌*◌, List, [], ◌∷◌, Option, Some, length, Result, Ok, Err, Vec}
use Rattle.std.specs.{List.sum_by, Option.option_map_or}
use Rattle.uimg_base.specs.declared.spans.Span.{Span}
use Rattle.uimg_blob_reading.specs.{Counts.index_cost, Plain.NamedOf}
use Rattle.uimg_blob_reading.specs.declared.places.PropertyPlace.{PropertyPlace}
use Rattle.uimg_fit_base.specs.declared.fault.Fault.{Fault}
use Rattle.uimg_fit_checking.specs.FullSurvey.{properties_of, properties_cost}
use Rattle.uimg_fit_checking.specs.Survey.{HashSaid, ImageSaid, ConfigurationSaid, Said, survey_of}
use Rattle.uimg_fit_checking.specs.declared.surveying.facts.HashFacts.{HashFacts}
use Rattle.uimg_fit_checking.specs.declared.surveying.facts.{ImageFacts.ImageFacts, Survey.Survey}
use Rattle.uimg_fit_checking.specs.declared.surveying.facts.ConfigurationFacts.{ConfigurationFacts}
use Rattle.uimg_fit_checking.specs.declared.surveying.facts.FullSurvey.{FullSurvey}
use Rattle.uimg_fit_reading.specs.Heads.{span_size}
use Rattle.uimg_info.specs.Fit.{hash_facts, image_facts, configuration_facts, root_facts}
use Rattle.uimg_info.specs.{Members.Fact, Signatures.signatures_of, Steps.MemberRow}
use Rattle.uimg_info.specs.declared.{fit.FitFacts.FitFacts, signatures.SignatureFacts.SignatureFacts}

-- the length of a value, or 0
abbrev pub value_size : Option (List ℕ) → ℕ
value_size value = option_map_or (λ bytes. length bytes) value 0

abbrev pub fact_size : Fact → ℕ
fact_size fact = value_size fact.value

-- the same for the rows of the program
abbrev pub row_size : MemberRow → ℕ
row_size row = span_size row.2

-- the length of the facts of hash nodes, images and configurations, and of all
abbrev pub hash_said_size : HashSaid → ℕ
hash_said_size hash = sum_by fact_size (hash_facts hash)

abbrev pub image_said_size : ImageSaid → ℕ
image_said_size image =
    sum_by fact_size (image_facts image) + (12 + sum_by hash_said_size image.hashes)

abbrev pub configuration_said_size : ConfigurationSaid → ℕ
configuration_said_size configuration =
    sum_by fact_size (configuration_facts configuration)
    + sum_by (λ name. length name) configuration.nodes

abbrev pub said_size : Said → ℕ
said_size said =
    (sum_by fact_size (root_facts said) + 65540)
    + (sum_by image_said_size said.images + sum_by configuration_said_size said.configurations)

abbrev pub signature_said_size : List Fact → ℕ
signature_said_size facts = sum_by fact_size facts

-- the length of the names of properties
abbrev pub names_size : List (NamedOf Span) → ℕ
names_size properties = sum_by (λ property. length property.name) properties

-- the same by the spans of the values
abbrev pub span_sizes : List (Option Span) → ℕ
span_sizes spans = sum_by span_size spans

abbrev pub hash_size : HashFacts → ℕ
hash_size hash = span_sizes (Some hash.name ∷ hash.algo ∷ hash.value ∷ [])

abbrev pub image_rows_size : ImageFacts → ℕ
image_rows_size i =
    span_sizes
    (Some i.name ∷ i.description ∷ i.kind ∷ i.arch ∷ i.os ∷ i.compression ∷ i.load ∷ i.entry
    ∷ [])

unfoldable pub image_size : ImageFacts → ℕ
image_size image = image_rows_size image + (12 + sum_by hash_size image.hashes.items)

abbrev pub configuration_rows_size : ConfigurationFacts → ℕ
configuration_rows_size c =
    span_sizes
    (Some c.name ∷ c.description ∷ c.kernel ∷ c.ramdisk ∷ c.fdt ∷ c.loadables ∷ c.firmware
    ∷ c.fpga ∷ c.setup ∷ c.standalone ∷ c.script ∷ [])

abbrev pub node_size : Span → ℕ
node_size name = name.length

unfoldable pub configuration_size : ConfigurationFacts → ℕ
configuration_size c = configuration_rows_size c + sum_by node_size c.nodes.items

abbrev pub root_size : Survey → ℕ
root_size survey =
    span_sizes (survey.description ∷ survey.timestamp ∷ survey.preferred ∷ []) + 65540

abbrev pub survey_size : Survey → ℕ
survey_size survey =
    root_size survey
    + (sum_by image_size survey.images.items
    + sum_by configuration_size survey.configurations.items)

abbrev pub place_size : PropertyPlace → ℕ
place_size place = place.name.length

abbrev pub list_size : {Z : Type 0} → Vec PropertyPlace Z → ℕ
list_size places = sum_by place_size places.items

abbrev pub full_size : FullSurvey → ℕ
full_size full = survey_size full.survey + sum_by list_size full.properties.items

abbrev pub signature_size : SignatureFacts → ℕ
signature_size s = span_sizes (Some s.configuration ∷ Some s.node ∷ s.algo ∷ s.padding ∷ s.key ∷ [])

abbrev pub fit_size : FitFacts → ℕ
fit_size facts = full_size facts.full + sum_by signature_size facts.signatures.items

-- the most bytes requested after the index, or 0 for a refused file
abbrev pub facts_size : Result Said Fault → ℕ
facts_size (Ok said) = said_size said
facts_size (Err fault) = 0

-- how many payloads are looked for, or 0 for a refused file
abbrev pub payload_count : Result Said Fault → ℕ
payload_count (Ok said) = length said.images
payload_count (Err fault) = 0

-- the most bytes requested: the index twice, the configurations' properties and their names, each
-- value
abbrev pub info_work : List ℕ → ℕ
info_work file =
    2 * index_cost file + properties_cost file + sum_by names_size (properties_of file)
    + 12 * payload_count (survey_of file) + facts_size (survey_of file)
    + sum_by signature_said_size (signatures_of file)
