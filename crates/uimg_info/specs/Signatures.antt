-- What the signature nodes of configurations say (U-Boot, doc/uImage.FIT/signature.rst).
use Rattle.std.specs.Prelude.{◌≡◌, ◌≤◌, ◌+◌, ⊤, ℕ, List, [], ◌∷◌, map, codes, Option, Some, None, Result, Ok, Err, Vec, false}
use Rattle.std.specs.{List.slice_get, Option.option_map}
use Rattle.uimg_base.specs.declared.spans.Span.{Span}
use Rattle.uimg_blob_reading.specs.{Blob.tree, Grammar.Siblings, Rows.{Row, table}}
use Rattle.uimg_blob_reading.specs.{Faults.refuses_memory, Indexed.{name_span, value_of, value_span}}
use Rattle.uimg_blob_reading.specs.declared.keys.Key.{Key, TheVariants.{Algo, KeyName, Padding}}
use Rattle.uimg_fit_base.specs.Files.{bytes_in}
use Rattle.uimg_fit_base.specs.declared.fault.Fault.TheVariants as of
use Rattle.uimg_fit_checking.specs.declared.surveying.fault.SurveyFault.{SurveyFault}
use Rattle.uimg_fit_checking.specs.declared.surveying.fault.SurveyFault.TheVariants.{Stopped}
use Rattle.uimg_fit_checking.specs.declared.surveying.fault.SurveyFault.TheVariants.{OutOfMemory}
use Rattle.uimg_fit_reading.specs.PayloadPlaces.{Ends}
use Rattle.uimg_info.specs.{Members.Fact, declared.forms.Form.TheVariants.Text}
use Rattle.uimg_info.specs.declared.signatures.SignatureFacts.{SignatureFacts}
use Rattle.uimg_signing.specs.SignatureNodes.{signature_nodes}
use Rattle.uimg_signing.specs.declared.configuration_signatures.SignatureNode.{SignatureNode}

-- the facts of a signature node: the names of its configuration and of itself, and its values
abbrev pub signature_facts : Option (List ℕ) → Option (List ℕ) → Option (List ℕ)
    → Option (List ℕ) → Option (List ℕ) → List Fact
signature_facts configuration node algo padding key =
    record { name = codes "configuration"; form = Text; value = configuration }
    ∷ record { name = codes "node"; form = Text; value = node }
    ∷ record { name = codes "algo"; form = Text; value = algo }
    ∷ record { name = codes "padding"; form = Text; value = padding }
    ∷ record { name = codes "key"; form = Text; value = key }
    ∷ []

-- the span of a row's name, and of the value of its first property with a key
abbrev pub name_at : Option Row → Option Span
name_at row = option_map name_span row

abbrev pub value_at : Key → Option Row → Option Span
value_at key None = None
value_at key (Some row) = option_map value_span (value_of row key)

-- the facts by the rows of the configuration and of the node
abbrev pub facts_by : List ℕ → Option Row → Option Row → List Fact
facts_by file configuration node =
    signature_facts (bytes_in file (name_at configuration)) (bytes_in file (name_at node))
    (bytes_in file (value_at Algo node)) (bytes_in file (value_at Padding node))
    (bytes_in file (value_at KeyName node))

abbrev pub signature_said : List ℕ → List Row → SignatureNode → List Fact
signature_said file rows it =
    facts_by file (slice_get rows it.configuration) (slice_get rows it.node)

-- the facts of all signature nodes of configurations, in reading order
abbrev pub signatures_said : List ℕ → List Row → List (List Fact)
signatures_said file rows = map (signature_said file rows) (signature_nodes rows)

-- the same for a file's tree; a file without a tree has no signature nodes
abbrev pub signatures_read : {X : Type 0} → List ℕ → Result Siblings X → List (List Fact)
signatures_read file (Ok t) = signatures_said file (table t)
signatures_read file (Err fault) = []

abbrev pub signatures_of : List ℕ → List (List Fact)
signatures_of file = signatures_read file (tree file)

-- The facts in a file at the spans of the program.
abbrev pub read_signature : List ℕ → SignatureFacts → List Fact
read_signature file facts =
    signature_facts (bytes_in file (Some facts.configuration)) (bytes_in file (Some facts.node))
    (bytes_in file facts.algo) (bytes_in file facts.padding) (bytes_in file facts.key)

-- Names and values end within `size` bytes.
pub record SignatureInside (size : ℕ) (facts : SignatureFacts) : Type 0 where
  pub configuration : facts.configuration.place + facts.configuration.length ≤ size
  pub node : facts.node.place + facts.node.length ≤ size
  pub algo : Ends size facts.algo
  pub padding : Ends size facts.padding
  pub key : Ends size facts.key

-- The result is the facts of the file's signature nodes or the fault of its blob, unless a read
-- failed or memory was refused.
abbrev pub TellsSignatures : {Z : Type 0} → List ℕ → Result (Vec SignatureFacts Z) SurveyFault
    → Type 0
TellsSignatures file (Ok facts) = map (read_signature file) facts.items ≡ signatures_of file
TellsSignatures file (Err (Stopped (of.Blob fault at))) =
    refuses_memory fault ≡ false → tree file ≡ Err (fault, at)
TellsSignatures file (Err (Stopped of.Read)) = ⊤
TellsSignatures file (Err OutOfMemory) = ⊤
TellsSignatures file (Err fault) = ⊥
