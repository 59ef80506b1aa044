-- What a FIT image states: each node, each property with its value, and each payload.
use Rattle.std.specs.Prelude.{ℕ, List, [], ◌∷◌, ◌++◌, length, map, codes, Option, Some, None}
use Rattle.std.specs.Prelude.{Bool, true, false, ◌==◌, ◌||◌, nat_lt, if◌then◌else◌, Result, Ok, Err, Vec}
use Rattle.std.specs.{Prelude.{◌≡◌, ⊤}, List.{flat_map, slice_get}, Option.{option_map, unwrap_or}}
use Rattle.hex.specs.Hex.{encode_lower}
use Rattle.sha2.specs.Sha256.{sha256}
use Rattle.uimg_base.specs.{declared.spans.Span.Span, Results.◌>>=◌}
use Rattle.uimg_blob_reading.specs.{Blob.tree, Faults.refuses_memory, Grammar.Siblings}
use Rattle.uimg_blob_reading.specs.{Indexed.{name_span, value_of, value_span}, Plain.NamedOf}
use Rattle.uimg_blob_reading.specs.{Places.read_place, Properties.places_of, Rows.{Row, table}}
use Rattle.uimg_blob_reading.specs.declared.places.PropertyPlace.{PropertyPlace}
use Rattle.uimg_blob_reading.specs.declared.keys.Key.TheVariants.{Data, DataSize, DataOffset, DataPosition}
use Rattle.uimg_blob_reading.specs.declared.{keys.Key.Key, roles.Role.Role}
use Rattle.uimg_blob_reading.specs.declared.roles.Role.TheVariants.{Image}
use Rattle.uimg_fit_base.specs.declared.fault.{Fault.Fault, FitFault.FitFault}
use Rattle.uimg_fit_base.specs.declared.fault.Fault.TheVariants as of
use Rattle.uimg_fit_checking.specs.Survey.{survey_of}
use Rattle.uimg_fit_checking.specs.declared.surveying.fault.SurveyFault.{SurveyFault}
use Rattle.uimg_fit_checking.specs.declared.surveying.fault.SurveyFault.TheVariants.{Stopped}
use Rattle.uimg_fit_checking.specs.declared.surveying.fault.SurveyFault.TheVariants.{OutOfMemory}
use Rattle.uimg_fit_checking.specs.declared.surveying.fault.SurveyFault.TheVariants.{Changed}
use Rattle.uimg_fit_reading.specs.PayloadPlaces.{read_payload, place_said}
use Rattle.uimg_fit_reading.specs.Values.{in_span}
use Rattle.uimg_fit_reading.specs.declared.places.PayloadFacts.{PayloadFacts}
use Rattle.uimg_info.specs.declared.statement.Statement.{Statement}
use Rattle.uimg_info.specs.{Placing.first_fault, Statement.{Stated, all_stated}}
use Rattle.uimg_info.specs.ValueTexts.{name_text, text_inside, value_text}

-- a property of the node at a path
abbrev pub property_stated : List ℕ → List ℕ → NamedOf Span → Stated
property_stated file path property = record {
  key = path ++ name_text property.name;
  text = value_text (in_span file property.value);
}

-- the span of the value of a key
abbrev pub span_of_key : Key → Row → Option Span
span_of_key key row = option_map value_span (value_of row key)

-- where the values are that say where the payload of a node is; only those of an image do
abbrev pub payload_facts_of : Row → PayloadFacts
payload_facts_of row = record {
  embedded = span_of_key Data row;
  size = span_of_key DataSize row;
  offset = span_of_key DataOffset row;
  position = span_of_key DataPosition row;
}

-- whether a value is at an offset
abbrev pub begins_at : ℕ → Option Span → Bool
begins_at place None = false
begins_at place (Some value) = place == value.place

-- whether the value at an offset says where the payload is
abbrev pub places_payload : PayloadFacts → ℕ → Bool
places_payload facts place =
    begins_at place facts.embedded || begins_at place facts.size
    || begins_at place facts.offset || begins_at place facts.position

-- the statement of a property, unless it says where the payload is
unfoldable pub property_if : List ℕ → List ℕ → PayloadFacts → NamedOf Span → List Stated
property_if file path facts property =
    if places_payload facts property.value.place then []
    else property_stated file path property ∷ []

-- the same by the spans of the program
abbrev pub place_stated : List ℕ → List ℕ → PayloadFacts → PropertyPlace → List Stated
place_stated file path facts place = property_if file path facts (read_place file place)

abbrev pub properties_stated : List ℕ → List ℕ → PayloadFacts → List (NamedOf Span) → List Stated
properties_stated file path facts properties = flat_map (property_if file path facts) properties

-- the text of a payload that was found
abbrev pub payload_text : List ℕ → Result Span FitFault → List ℕ
payload_text file (Ok span) = text_inside file span
payload_text file (Err fault) = []

-- the payload of the image at a path, in a blob of this total size
abbrev pub payload_stated : List ℕ → ℕ → List ℕ → PayloadFacts → Stated
payload_stated file totalsize path facts = record {
  key = path ++ codes "data";
  text = payload_text file (place_said totalsize (read_payload file facts));
}

-- whether a node is an image
abbrev pub is_image : Role → Bool
is_image Image = true
is_image role = false

unfoldable pub payload_if : List ℕ → ℕ → List ℕ → Row → List Stated
payload_if file totalsize path row =
    if is_image row.role then payload_stated file totalsize path (payload_facts_of row) ∷ []
    else []

-- a node at a path
abbrev pub node_alone : List ℕ → Stated
node_alone path = record { key = path; text = [] }

-- a node at a path: that it is there, its payload if it is an image, and its other properties
unfoldable pub node_stated : List ℕ → ℕ → List ℕ → Row → List Stated
node_stated file totalsize path row =
    (node_alone path ∷ payload_if file totalsize path row)
    ++ properties_stated file path (payload_facts_of row) (places_of row)

-- a path; one of more than 255 bytes by its SHA-256
unfoldable pub shortened : List ℕ → List ℕ
shortened path =
    if nat_lt 255 (length path) then codes "sha256:" ++ encode_lower (sha256 path) ++ codes "/"
    else path

-- the paths of the program
abbrev pub path_items : {Z : Type 0} → Vec ℕ Z → List ℕ
path_items path = path.items

-- the path of a node's parent, by those of the nodes before it
abbrev pub path_above : List (List ℕ) → Option ℕ → List ℕ
path_above paths None = []
path_above paths (Some parent) = unwrap_or (slice_get paths parent) []

-- the path of a node: that of its parent, its name, and a slash
unfoldable pub path_below : List ℕ → List ℕ → List ℕ
path_below above name = shortened ((above ++ name_text name) ++ 47 ∷ [])

abbrev pub node_path : List ℕ → List (List ℕ) → Row → List ℕ
node_path file paths row =
    path_below (path_above paths row.parent) (in_span file (name_span row))

-- the nodes in reading order, after nodes with these paths
unfoldable pub nodes_stated : List ℕ → ℕ → List (List ℕ) → List Row → List Stated
nodes_stated file totalsize paths [] = []
nodes_stated file totalsize paths (row ∷ rows) =
    node_stated file totalsize (node_path file paths row) row
    ++ nodes_stated file totalsize (paths ++ node_path file paths row ∷ []) rows

-- the nodes of a file's tree
abbrev pub tree_stated : {X : Type 0} → List ℕ → ℕ → Result Siblings X → List Stated
tree_stated file totalsize (Ok t) = nodes_stated file totalsize [] (table t)
tree_stated file totalsize (Err fault) = []

-- statements, unless a payload has a fault
abbrev pub unless_faulty : Option FitFault → List Stated → Result (List Stated) Fault
unless_faulty None all = Ok all
unless_faulty (Some fault) all = Err (of.Fit fault)

-- what a FIT image states, or its first fault: of the blob, or of a payload
abbrev pub fit_stated : List ℕ → Result (List Stated) Fault
fit_stated file = do
  said ← survey_of file
  unless_faulty (first_fault (length file) said.totalsize said.images)
      (tree_stated file said.totalsize (tree file))

-- The result is the statements of a file or its fault, unless a call failed.
abbrev pub StatesFit : {Z : Type 0} → List ℕ → Result (Vec Statement Z) SurveyFault → Type 0
StatesFit file (Ok all) = fit_stated file ≡ Ok (all_stated all)
StatesFit file (Err (Stopped (of.Blob fault at))) =
    refuses_memory fault ≡ false → fit_stated file ≡ Err (of.Blob fault at)
StatesFit file (Err (Stopped (of.Fit fault))) = fit_stated file ≡ Err (of.Fit fault)
StatesFit file (Err (Stopped of.Read)) = ⊤
StatesFit file (Err (Stopped of.Put)) = ⊥
StatesFit file (Err OutOfMemory) = ⊤
StatesFit file (Err Changed) = ⊥
