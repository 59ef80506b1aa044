-- The signature nodes of an image, each with its result.
use Rattle.std.specs.Prelude.{ℕ, List, [], ◌∷◌, flat_map, map, Option, Some, None, Result, Ok, Err, Vec, nat_lt, if◌then◌else◌, true}
use Rattle.std.specs.{List.slice_get, Option.option_map}
use Rattle.uimg_base.specs.declared.spans.Span.{Span}
use Rattle.uimg_blob_reading.specs.{Blob.tree, Grammar.Siblings, Reading.Fault as BlobFaultAt, Rows.{Row, table}}
use Rattle.uimg_fit_base.specs.declared.fault.Fault.{Fault}
use Rattle.uimg_fit_base.specs.declared.fault.Fault.TheVariants as of
use Rattle.uimg_fit_checking.specs.declared.surveying.fault.SurveyFault.{SurveyFault}
use Rattle.uimg_blob_reading.specs.declared.keys.Key.TheVariants as key
use Rattle.uimg_signing.specs.{Listing.name_in, SignatureNodes.signature_nodes}
use Rattle.uimg_signing.specs.declared.configuration_signatures.SignatureNode.{SignatureNode}
use Rattle.uimg_strict.specs.declared.loose.Looseness.{Looseness}
use Rattle.uimg_strict.specs.declared.loose.Looseness.TheVariants.{Unsigned}
use Rattle.uimg_texts.specs.Slices.{slice}
use Rattle.uimg_verifying.specs.{Configurations.{Tells, refused_by}, Signatures.{signature_refusal, span_of}}
use Rattle.uimg_verifying.specs.declared.required.Required.{Required}
use Rattle.uimg_verifying.specs.declared.results.SignatureResult.{SignatureResult}

-- a signature node: the names, what it says, and why it is refused
pub record SignatureSaid : Type 0 where
  pub configuration : List ℕ
  pub node : List ℕ
  pub algo : Option (List ℕ)
  pub padding : Option (List ℕ)
  pub key : Option (List ℕ)
  pub refusal : Option Looseness

abbrev pub read_result : SignatureResult → SignatureSaid
read_result it = record {
  configuration = it.configuration.items;
  node = it.node.items;
  algo = option_map (λ text. text.items) it.algo;
  padding = option_map (λ text. text.items) it.padding;
  key = option_map (λ text. text.items) it.key;
  refusal = it.refusal;
}

-- the bytes of a value, if it has at most 255
abbrev pub text_of : List ℕ → Option Span → Option (List ℕ)
text_of file None = None
text_of file (Some s) = if nat_lt 255 s.length then None else Some (slice file s.place s.length)

-- why a signature node is refused: by the last key, if none takes it
abbrev pub node_refusal : Required → List ℕ → List Row → ℕ → Row → Row → Option Looseness
node_refusal required file rows configuration its node = refused_by true
    (λ it. signature_refusal required.takes_sha1 it file rows configuration its node)
    required.keys.keys.items (Some Unsigned)

-- the result of a node, by the rows of its configuration and its own
abbrev pub result_of : Required → List ℕ → List Row → ℕ → Row → Row → SignatureSaid
result_of required file rows configuration its node = record {
  configuration = name_in file its;
  node = name_in file node;
  algo = text_of file (span_of node key.Algo);
  padding = text_of file (span_of node key.Padding);
  key = text_of file (span_of node key.KeyName);
  refusal = node_refusal required file rows configuration its node;
}

abbrev pub result_by : Required → List ℕ → List Row → ℕ → Option Row → Option Row
    → List SignatureSaid
result_by required file rows configuration (Some its) (Some node) =
    result_of required file rows configuration its node ∷ []
result_by required file rows configuration _ _ = []

abbrev pub result_at : Required → List ℕ → List Row → SignatureNode → List SignatureSaid
result_at required file rows at = result_by required file rows at.configuration
    (slice_get rows at.configuration) (slice_get rows at.node)

abbrev pub results_in : Required → List ℕ → Result Siblings BlobFaultAt
    → Result (List SignatureSaid) Fault
results_in required file (Ok t) =
    Ok (flat_map (result_at required file (table t)) (signature_nodes (table t)))
results_in required file (Err fault) = Err (of.Blob fault.0 fault.1)

-- the results of all signature nodes of a file, in reading order, or the first fault of its blob
unfoldable pub results_of : Required → List ℕ → Result (List SignatureSaid) Fault
results_of required file = results_in required file (tree file)

abbrev pub TellsResults : {Z : Type 0} → Required → List ℕ
    → Result (Vec SignatureResult Z) SurveyFault → Type 0
TellsResults required file =
    Tells (λ results. map read_result results.items) (results_of required file)
