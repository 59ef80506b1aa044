-- Why a signature of a configuration is refused (U-Boot 2023.01+dfsg-2+deb12u3:
-- fit_config_check_sig and fit_image_setup_verify in boot/image-fit-sig.c, lib/rsa/rsa-verify.c).
use Rattle.std.specs.Prelude.{◌≡◌, ⊤, ℕ, ◌==◌, ◌/◌, List, Option, Some, None, Result, Ok, Err, Bool, true, false, not, length, nat_lt, if◌then◌else◌}
use Rattle.std.specs.{List.slice_get, Option.option_map, Str.bytes_eq}
use Rattle.uimg_texts.specs.Slices.{slice}
use Rattle.uimg_base.specs.{Device.Device, Held.Held, declared.spans.Span.Span}
use Rattle.uimg_blob_reading.specs.{Grammar.Siblings, declared.nodes.Blob.Blob}
use Rattle.uimg_fit_base.specs.declared.fault.Fault.TheVariants as of
use Rattle.uimg_fit_checking.specs.declared.surveying.fault.SurveyFault.{SurveyFault}
use Rattle.uimg_fit_checking.specs.declared.surveying.fault.SurveyFault.TheVariants.{Stopped, OutOfMemory}
use Rattle.uimg_fit_reading.specs.Nodes.{Opened}
use Rattle.uimg_blob_reading.specs.Indexed.{value_of, value_span}
use Rattle.uimg_blob_reading.specs.{Properties.places_of, Rows.{Row, table}}
use Rattle.uimg_blob_reading.specs.declared.keys.Key.TheVariants as key
use Rattle.uimg_keys.specs.declared.key.PublicKey.{PublicKey}
use Rattle.uimg_rsa.specs.{Pkcs1.pkcs1_verdict, Pss.pss_verdict}
use Rattle.uimg_rsa.specs.declared.refusal.Refusal.{Refusal}
use Rattle.uimg_rsa.specs.declared.refusal.Refusal.TheVariants as rsa
use Rattle.uimg_signing.specs.{Covering.is_marked, Listing.{are_many, listing_refusal, marks_of}}
use Rattle.uimg_signing.specs.Hashed.{are_hashed}
use Rattle.uimg_signing.specs.{Message.{message, refusal}, Strings.strings_of}
use Rattle.uimg_signing.specs.Signatures.{rsa_algo_at, rsa_padding_at}
use Rattle.uimg_signing.specs.declared.signature.RsaAlgo.{RsaAlgo}
use Rattle.uimg_signing.specs.declared.signature.RsaPadding.{RsaPadding, TheVariants.{Pkcs1, Pss}}
use Rattle.uimg_signing.specs.declared.faults.SigningFault.{SigningFault}
use Rattle.uimg_signing.specs.declared.faults.SigningFault.TheVariants as signing
use Rattle.uimg_strict.specs.declared.loose.Looseness.{Looseness}
use Rattle.uimg_strict.specs.declared.loose.Looseness.TheVariants as loose
use Rattle.uimg_sums.specs.{Algorithms.{algo_name, digest_by}, declared.algo.Algo.Algo}
use Rattle.uimg_sums.specs.declared.algo.Algo.TheVariants.{Sha1}
use Rattle.uimg_verifying.specs.declared.signatures.Signature.{Signature}

-- the hash and the size of the key that a value names
abbrev pub algo_at : List ℕ → Option Span → Option RsaAlgo
algo_at file None = None
algo_at file (Some s) = rsa_algo_at file s

-- a key's file names this hash function, or none
abbrev pub is_sum : Option RsaAlgo → Algo → Bool
is_sum None sum = true
is_sum (Some named) sum = bytes_eq (algo_name named.sum) (algo_name sum)

-- a signature by the key may have this algorithm
abbrev pub takes : PublicKey → RsaAlgo → Bool
takes key algo =
    if algo.bits / 8 == length key.modulus.items then is_sum key.algo algo.sum else false

-- the signature by its algorithm, its padding and its value
abbrev pub signature_with : PublicKey → Option RsaAlgo → Option RsaPadding → Option Span
    → Option Signature
signature_with key (Some algo) (Some padding) (Some value) =
    if takes key algo
    then Some (record { algo = algo.sum; padding = padding; value = value }) else None
signature_with key algo padding value = None

-- the span of a node's value
abbrev pub span_of : Row → key.the_data → Option Span
span_of row name = option_map value_span (value_of row name)

-- what a signature node says
abbrev pub signature_of : PublicKey → List ℕ → Row → Option Signature
signature_of it file row = signature_with it (algo_at file (span_of row key.Algo))
    (rsa_padding_at file (span_of row key.Padding)) (span_of row key.Value)

-- the word for a fault of what a signature covers
abbrev pub why_of : SigningFault → Looseness
why_of signing.TooLong = loose.SignedNodes
why_of signing.TooManyNodes = loose.SignedNodes
why_of signing.Unhashed = loose.SignedNodes
why_of signing.TooDeep = loose.SignedNodes
why_of signing.EarlyEnd = loose.SignedNodes
why_of signing.NameUnsigned = loose.SignedStrings
why_of signing.BadStrings = loose.SignedStrings
why_of signing.StringsOffset = loose.SignedStrings
why_of signing.StringsOutside = loose.SignedStrings
why_of fault = loose.UnknownSignature

-- the word for a value that is refused
abbrev pub why_refused : Refusal → Looseness
why_refused rsa.SignatureLength = loose.SignatureLength
why_refused rsa.OutOfRange = loose.SignatureRange
why_refused refusal = loose.BadSignature

abbrev pub why_judged : Result ⊤ Refusal → Option Looseness
why_judged (Ok valid) = None
why_judged (Err refusal) = Some (why_refused refusal)

-- RSA's verdict about a value (RFC 8017, sections 8.1.2 and 8.2.2)
abbrev pub verdict : RsaPadding → PublicKey → List ℕ → Algo → List ℕ → Result ⊤ Refusal
verdict Pkcs1 key = pkcs1_verdict key.modulus.items key.exponent
verdict Pss key = pss_verdict key.modulus.items key.exponent

-- why a value is refused for a message
unfoldable pub value_refusal : PublicKey → List ℕ → Signature → List ℕ → Option Looseness
value_refusal key file it message =
    if nat_lt 512 it.value.length then Some loose.SignatureLength
    else why_judged (verdict it.padding key (slice file it.value.place it.value.length) it.algo
    (digest_by it.algo message))

-- why nodes or strings are refused, or else what comes later
abbrev pub fault_or : Option SigningFault → Option Looseness → Option Looseness
fault_or (Some fault) later = Some (why_of fault)
fault_or None later = later

-- why a signature is refused that covers the nodes at these offsets, with so many bytes of strings
abbrev pub message_refusal : PublicKey → List ℕ → Signature → List ℕ → ℕ → Option Looseness
message_refusal key file it marks strings = fault_or (refusal (is_marked marks) file strings)
    (value_refusal key file it (message (is_marked marks) file strings))

-- SHA-1 is too weak, unless it is taken
abbrev pub is_weak : Bool → Algo → Bool
is_weak sha1 Sha1 = not sha1
is_weak sha1 algo = false

-- why a signature with so many bytes of strings is refused by what its node says
abbrev pub said_refusal : Bool → PublicKey → List ℕ → List Row → ℕ → Row → ℕ → Option Signature
    → Option Looseness
said_refusal sha1 key file rows configuration its strings None = Some loose.UnknownSignature
said_refusal sha1 key file rows configuration its strings (Some it) =
    if is_weak sha1 it.algo then Some loose.WeakSignature
    else fault_or (listing_refusal (places_of its) (are_many file (places_of its) rows configuration)
    (are_hashed file (places_of its) rows))
    (message_refusal key file it (marks_of file (places_of its) rows configuration) strings)

-- the same, first by its strings
abbrev pub strings_refusal : Bool → PublicKey → List ℕ → List Row → ℕ → Row → Option Signature
    → Result ℕ SigningFault → Option Looseness
strings_refusal sha1 key file rows configuration its found (Ok strings) =
    said_refusal sha1 key file rows configuration its strings found
strings_refusal sha1 key file rows configuration its found (Err fault) = Some (why_of fault)

-- why the signature of a node is refused, of the configuration of a number and a row
unfoldable pub signature_refusal : Bool → PublicKey → List ℕ → List Row → ℕ → Row → Row → Option Looseness
signature_refusal sha1 key file rows configuration its node = strings_refusal sha1 key file rows configuration
    its (signature_of key file node) (strings_of file (places_of node))

-- P holds of the rows of two nodes in the tree of an honest device's bytes, if that was indexed.
abbrev pub OfPair : Device → Blob → Held → ℕ → ℕ
    → (List ℕ → List Row → Row → Row → Type 0) → Type 0
OfPair d blob room number other P = (t : Siblings) → Opened d blob room t → (its node : Row)
    → slice_get (table t) number ≡ Some its → slice_get (table t) other ≡ Some node
    → P d.bytes (table t) its node

-- A failed read and refused memory stay so; another fault has its word.
abbrev pub StopsAs : SigningFault → Result (Option Looseness) SurveyFault → Type 0
StopsAs signing.Read result = result ≡ Err (Stopped of.Read)
StopsAs signing.OutOfMemory result = result ≡ Err OutOfMemory
StopsAs fault result = result ≡ Ok (Some (why_of fault))
