-- Why a configuration is refused: no signature of it is a required key's.
use Rattle.std.specs.Prelude.{◌≡◌, ℕ, zero, suc, ◌==◌, List, [], ◌∷◌, Option, Some, None, Bool, true, false, not, if◌then◌else◌}
use Rattle.std.specs.Prelude.{◌+◌, ⊤, Result, Ok, Err, nat_lt}
use Rattle.uimg_texts.specs.Numbers.{be32}
use Rattle.std.specs.{List.slice_get, Option.option_map, Str.bytes_eq}
use Rattle.uimg_blob_reading.specs.{Blob.tree, Reading.Fault as BlobFaultAt}
use Rattle.uimg_blob_reading.specs.declared.roles.Role.{Role}
use Rattle.uimg_blob_reading.specs.declared.roles.Role.TheVariants as role
use Rattle.uimg_base.specs.Held.{Held}
use Rattle.uimg_blob_reading.specs.{Grammar.Siblings, Indexed.IsIndexed, Roles.is_signature_role, Rows.{Row, table}}
use Rattle.uimg_blob_reading.specs.declared.nodes.Blob.{Blob}
use Rattle.uimg_fit_base.specs.declared.fault.Fault.{Fault}
use Rattle.uimg_fit_base.specs.declared.fault.Fault.TheVariants as of
use Rattle.uimg_signing.specs.{Listing.name_in, Reach.{is_closed, is_reached}}
use Rattle.uimg_blob_reading.specs.Faults.{refuses_memory}
use Rattle.uimg_fit_checking.specs.declared.surveying.fault.SurveyFault.{SurveyFault}
use Rattle.uimg_fit_checking.specs.declared.surveying.fault.SurveyFault.TheVariants.{Stopped, OutOfMemory, Changed}
use Rattle.uimg_strict.specs.{Looseness.LooseSaid, Telling.read_loose}
use Rattle.uimg_strict.specs.declared.loose.Loose.{Loose}
use Rattle.uimg_keys.specs.declared.key.PublicKey.{PublicKey}
use Rattle.uimg_strict.specs.declared.loose.Looseness.{Looseness}
use Rattle.uimg_strict.specs.declared.loose.Looseness.TheVariants.{SignedNodes, SignedStrings, Unsigned}
use Rattle.uimg_verifying.specs.Signatures.{signature_refusal}
use Rattle.uimg_verifying.specs.declared.required.Required.{Required}
use Rattle.uimg_verifying.specs.declared.configurations.Judged.{Judged}
use Rattle.uimg_verifying.specs.declared.configurations.Judged.TheVariants as judged
use Rattle.uimg_verifying.specs.declared.configurations.Tried.{Tried, TheVariants.{Other, Outside, Valid, Refused}}

abbrev pub is_parent : ℕ → Option ℕ → Bool
is_parent number None = false
is_parent number (Some parent) = parent == number

-- whether a node is a signature node of the configuration of a number
abbrev pub is_signature_of : ℕ → Row → Bool
is_signature_of configuration node =
    if is_signature_role node.role then is_parent configuration node.parent else false

abbrev pub tried_of : Option Looseness → Tried
tried_of None = Valid
tried_of (Some SignedStrings) = Outside
tried_of (Some why) = Refused why

-- what a node is as a signature of a configuration
abbrev pub tried_node : Bool → PublicKey → List ℕ → List Row → ℕ → Row → Row → Tried
tried_node sha1 key file rows configuration its node =
    if is_signature_of configuration node
    then tried_of (signature_refusal sha1 key file rows configuration its node) else Other

-- after one more node: as before, not refused, or refused by this signature, of which so many more
-- may be tried. None is after one with strings that are not the first ones of their block.
abbrev pub refused_after : Tried → Looseness → ℕ → (Looseness → ℕ → Option Looseness)
    → Option Looseness
refused_after Other why left rest = rest why left
refused_after Outside why left rest = Some SignedStrings
refused_after Valid why zero rest = Some SignedNodes
refused_after Valid why (suc left) rest = None
refused_after (Refused found) why zero rest = Some SignedNodes
refused_after (Refused found) why (suc left) rest = rest found left

-- why a configuration is refused by these nodes and what was found before
unfoldable pub refused_from : Bool → PublicKey → List ℕ → List Row → ℕ → Row → Looseness → ℕ → List Row
    → Option Looseness
refused_from sha1 key file rows configuration its why left [] = Some why
refused_from sha1 key file rows configuration its why left (node ∷ nodes) =
    refused_after (tried_node sha1 key file rows configuration its node) why left
    (λ found more. refused_from sha1 key file rows configuration its found more nodes)

-- why a configuration is refused, by at most sixteen signatures
abbrev pub configuration_refusal : Bool → PublicKey → List ℕ → List Row → ℕ → Row → Option Looseness
configuration_refusal sha1 key file rows configuration its =
    refused_from sha1 key file rows configuration its Unsigned 16 rows

-- P holds of a node's row in any tree that the entries index.
abbrev pub OfNode : Blob → Held → ℕ → (Row → Type 0) → Type 0
OfNode blob room number P = (t : Siblings) → IsIndexed t blob room.entries → (row : Row)
    → slice_get (table t) number ≡ Some row → P row

abbrev pub is_configuration : Role → Bool
is_configuration role.Configuration = true
is_configuration role = false

-- what a key says of a configuration decides: if one key is enough, that it signs it, else that it
-- does not; always, that a signature has strings outside of their block
abbrev pub decides : Bool → Option Looseness → Bool
decides is_any None = is_any
decides is_any (Some SignedStrings) = true
decides is_any (Some why) = not is_any

-- why something is refused by these keys, each of which refuses it so, and what was found before
unfoldable pub refused_by : Bool → (PublicKey → Option Looseness) → List PublicKey
    → Option Looseness → Option Looseness
refused_by is_any refusal [] found = found
refused_by is_any refusal (key ∷ keys) found = if decides is_any (refusal key) then refusal key
    else refused_by is_any refusal keys (refusal key)

-- why a configuration is refused: by the first key that did not sign it; or, if one is enough, by
-- the last if none did (U-Boot's fit_config_verify_required_keys); without a key it is unsigned
abbrev pub keys_refusal : Required → List ℕ → List Row → ℕ → Row → Option Looseness
keys_refusal required file rows configuration its = refused_by required.keys.is_any
    (λ key. configuration_refusal required.takes_sha1 key file rows configuration its)
    required.keys.keys.items (Some Unsigned)

-- the name of the only configuration that must be signed, if it is not each one
abbrev pub only_of : Required → Option (List ℕ)
only_of required = option_map (λ name. name.now) required.only

abbrev pub has_name : Option (List ℕ) → List ℕ → Bool
has_name None name = true
has_name (Some only) name = bytes_eq name only

-- whether a row is that of a configuration that must be signed
abbrev pub is_asked : Option (List ℕ) → List ℕ → Row → Bool
is_asked only file row =
    if is_configuration row.role then has_name only (name_in file row) else false

abbrev pub judged_of : Option Looseness → Judged
judged_of None = judged.Signed
judged_of (Some why) = judged.Refused why

-- what a node is as a configuration that must be signed
abbrev pub judged_node : Required → List ℕ → List Row → ℕ → Row → Judged
judged_node required file rows number row = if is_asked (only_of required) file row
    then judged_of (keys_refusal required file rows number row) else judged.Other

-- after one more node of this name: as before, one configuration at least, or the refused one
abbrev pub unsigned_after : Judged → Bool → List ℕ → (Bool → Option LooseSaid) → Option LooseSaid
unsigned_after judged.Other any name rest = rest any
unsigned_after judged.Signed any name rest = rest true
unsigned_after (judged.Refused why) any name rest = Some (record { why = why; node = Some name })

-- the first configuration that is refused, among rows that are numbered from i on; or that there is
-- none that must be signed
unfoldable pub unsigned_from : Required → List ℕ → List Row → ℕ → Bool → List Row → Option LooseSaid
unsigned_from required file rows i true [] = None
unsigned_from required file rows i false [] =
    Some (record { why = Unsigned; node = only_of required })
unsigned_from required file rows i any (row ∷ more) =
    unsigned_after (judged_node required file rows i row) any (name_in file row)
    (λ found. unsigned_from required file rows (i + 1) found more)

-- why U-Boot verifies no signature of a blob of so many bytes: more than 256 MiB, or an end or nodes
-- that its walk does not take
abbrev pub blob_refusal : List ℕ → List Row → ℕ → Option Looseness
blob_refusal file rows size =
    if nat_lt 268435456 size then Some SignedNodes
    else if not (is_closed file) then Some SignedNodes
    else if is_reached file rows then None else Some SignedNodes

-- this, or else what comes later
abbrev pub loose_or : Option Looseness → Option LooseSaid → Option LooseSaid
loose_or (Some why) later = Some (record { why = why; node = None })
loose_or None later = later

-- the first configuration of a blob of so many bytes that is refused
abbrev pub unsigned_within : Required → List ℕ → List Row → ℕ → Option LooseSaid
unsigned_within required file rows size =
    loose_or (blob_refusal file rows size) (unsigned_from required file rows 0 false rows)

abbrev pub unsigned_in : Required → List ℕ → Result Siblings BlobFaultAt
    → Result (Option LooseSaid) Fault
unsigned_in required file (Ok t) = Ok (unsigned_within required file (table t) (be32 file 4))
unsigned_in required file (Err fault) = Err (of.Blob fault.0 fault.1)

-- the first configuration of a file that is not signed by the keys, or the first fault of its blob
unfoldable pub unsigned_of : Required → List ℕ → Result (Option LooseSaid) Fault
unsigned_of required file = unsigned_in required file (tree file)

-- The result is what a definition says, unless a read failed, memory was refused, or the source is
-- another one than before.
abbrev pub Tells : {X Y : Type 0} → (X → Y) → Result Y Fault → Result X SurveyFault → Type 0
Tells read said (Ok found) = said ≡ Ok (read found)
Tells read said (Err (Stopped (of.Blob fault at))) =
    refuses_memory fault ≡ false → said ≡ Err (of.Blob fault at)
Tells read said (Err (Stopped (of.Fit fault))) = ⊥
Tells read said (Err (Stopped of.Read)) = ⊤
Tells read said (Err (Stopped of.Put)) = ⊥
Tells read said (Err OutOfMemory) = ⊤
Tells read said (Err Changed) = ⊤

abbrev pub TellsUnsigned : Required → List ℕ → Result (Option Loose) SurveyFault → Type 0
TellsUnsigned required file = Tells (option_map read_loose) (unsigned_of required file)
