-- Why a signature is refused, step by step.
use Rattle.std.proofs.Common.{◌≡◌, ℕ, ◌-◌, ◌<◌, ◌≤◌, List, length, take, replicate, Option, Some, None, Result, Ok, Err, IfOk, Bool, true, false, if◌then◌else◌, refl, ap, sym, subst, ◌∙◌, arith}
use Rattle.std.proofs.lemmas.{Bool.{lt-ltb, le-ltb}, List.{take-append-le, take_all}}
use Rattle.uimg_texts.specs.Slices.{slice}
use Rattle.uimg_base.specs.Device.{Device, SameDevice}
use Rattle.uimg_blob_reading.specs.{Properties.places_of, Rows.Row}
use Rattle.uimg_fit_checking.specs.declared.surveying.fault.SurveyFault.{SurveyFault}
use Rattle.uimg_keys.specs.declared.key.PublicKey.{PublicKey}
use Rattle.uimg_signing.specs.{Covering.is_marked, Faults.{is_unread, is_out_of_memory}, Listing.{are_many, listing_refusal, marks_of}}
use Rattle.uimg_signing.specs.Hashed.{are_hashed}
use Rattle.uimg_signing.specs.{Message.{message, refusal}, Strings.strings_of}
use Rattle.uimg_signing.specs.declared.faults.SigningFault.{SigningFault}
use Rattle.uimg_signing.specs.declared.faults.SigningFault.TheVariants as signing
use Rattle.uimg_strict.specs.declared.loose.Looseness.{Looseness}
use Rattle.uimg_strict.specs.declared.loose.Looseness.TheVariants as loose
use Rattle.uimg_sums.specs.{Algorithms.{digest_by, digest_size}, AnySum.padded_digest, declared.algo.Algo.Algo}
use Rattle.uimg_sums.proofs.DigestSizes.{length-digest_by}
use Rattle.uimg_verifying.specs.Signatures.{StopsAs, fault_or, is_weak, message_refusal, said_refusal, signature_of, signature_refusal, strings_refusal, value_refusal, verdict, why_judged, why_of}
use Rattle.uimg_verifying.specs.declared.signatures.Signature.{Signature}

-- what is said of the bytes of a device that is what it was
pub over : (d e : Device) (P : List ℕ → Type 0) → SameDevice d e → P e.bytes → P d.bytes
over d e P same holds = subst P same.bytes holds

pub long_refused : (key : PublicKey) (file : List ℕ) (it : Signature) (message : List ℕ) → 512 < it.value.length → Some loose.SignatureLength ≡ value_refusal key file it message
unfolding value_refusal
long_refused key file it message long = rw (lt-ltb 512 it.value.length long) refl

pub value_judged : (key : PublicKey) (file : List ℕ) (it : Signature) (message value digest : List ℕ) → it.value.length ≤ 512 → value ≡ slice file it.value.place it.value.length
    → digest ≡ digest_by it.algo message → why_judged (verdict it.padding key value it.algo digest) ≡ value_refusal key file it message
unfolding value_refusal
value_judged key file it message value digest short read made = rw (le-ltb 512 it.value.length short, read, made) refl

-- the start of a padded digest
pub digest_taken : (algo : Algo) (message digest : List ℕ) → digest ≡ (padded_digest (digest_by algo message)).0 → take (digest_size algo) digest ≡ digest_by algo message
digest_taken algo message digest is =
    let size = length-digest_by algo message in
    ap (take (digest_size algo)) is ∙ take-append-le (digest_size algo) (digest_by algo message) (replicate (64 - length (digest_by algo message)) 0) (omega (arith, size))
    ∙ take_all (digest_size algo) (digest_by algo message) (omega (arith, size))

-- a fault has its word, unless a read failed or memory was refused
pub stopped : (X P : Type 0) (fault : SigningFault) (result : Result (Option Looseness) SurveyFault) (expected : Option Looseness) → StopsAs fault result
    → (is_unread {X = X} (Err fault) ≡ false → is_out_of_memory {X = X} (Err fault) ≡ false → P) → (P → Some (why_of fault) ≡ expected) → IfOk result (λ why. why ≡ expected)
stopped X P signing.Read result expected stops refuses is = rw stops tt
stopped X P signing.OutOfMemory result expected stops refuses is = rw stops tt
stopped X P signing.TooLong result expected stops refuses is = rw stops (is (refuses refl refl))
stopped X P signing.Changed result expected stops refuses is = rw stops (is (refuses refl refl))
stopped X P signing.TooManyNodes result expected stops refuses is = rw stops (is (refuses refl refl))
stopped X P signing.Unhashed result expected stops refuses is = rw stops (is (refuses refl refl))
stopped X P signing.TooDeep result expected stops refuses is = rw stops (is (refuses refl refl))
stopped X P signing.EarlyEnd result expected stops refuses is = rw stops (is (refuses refl refl))
stopped X P signing.NameUnsigned result expected stops refuses is = rw stops (is (refuses refl refl))
stopped X P signing.BadStrings result expected stops refuses is = rw stops (is (refuses refl refl))
stopped X P signing.StringsOffset result expected stops refuses is = rw stops (is (refuses refl refl))
stopped X P signing.StringsOutside result expected stops refuses is = rw stops (is (refuses refl refl))

module _ (sha1 : Bool) (key : PublicKey) (file : List ℕ) (rows : List Row) (configuration : ℕ) (its node : Row) where
  by_strings : (strings : Result ℕ SigningFault) → strings ≡ strings_of file (places_of node) → strings_refusal sha1 key file rows configuration its (signature_of key file node) strings ≡ signature_refusal sha1 key file rows configuration its node
  unfolding signature_refusal
  by_strings strings are = ap (strings_refusal sha1 key file rows configuration its (signature_of key file node)) are

  pub strings_stop : (fault : SigningFault) → Err fault ≡ strings_of file (places_of node) → Some (why_of fault) ≡ signature_refusal sha1 key file rows configuration its node
  strings_stop fault stops = by_strings (Err fault) stops

  module _ (strings : ℕ) (are : Ok strings ≡ strings_of file (places_of node)) where
    said : (found : Option Signature) → found ≡ signature_of key file node → said_refusal sha1 key file rows configuration its strings found ≡ signature_refusal sha1 key file rows configuration its node
    said found is = ap (said_refusal sha1 key file rows configuration its strings) is ∙ by_strings (Ok strings) are

    pub unknown : None ≡ signature_of key file node → Some loose.UnknownSignature ≡ signature_refusal sha1 key file rows configuration its node
    unknown is = said None is

    module _ (it : Signature) (is : Some it ≡ signature_of key file node) where
      pub weak : is_weak sha1 it.algo ≡ true → Some loose.WeakSignature ≡ signature_refusal sha1 key file rows configuration its node
      weak found = sym (ap (λ (b : Bool). if b then Some loose.WeakSignature else fault_or (listing_refusal (places_of its) (are_many file (places_of its) rows configuration) (are_hashed file (places_of its) rows)) (message_refusal key file it (marks_of file (places_of its) rows configuration) strings)) found) ∙ said (Some it) is

      strong : is_weak sha1 it.algo ≡ false → fault_or (listing_refusal (places_of its) (are_many file (places_of its) rows configuration) (are_hashed file (places_of its) rows)) (message_refusal key file it (marks_of file (places_of its) rows configuration) strings) ≡ signature_refusal sha1 key file rows configuration its node
      strong found = sym (ap (λ (b : Bool). if b then Some loose.WeakSignature else fault_or (listing_refusal (places_of its) (are_many file (places_of its) rows configuration) (are_hashed file (places_of its) rows)) (message_refusal key file it (marks_of file (places_of its) rows configuration) strings)) found) ∙ said (Some it) is

      pub nodes_stop : is_weak sha1 it.algo ≡ false → (fault : SigningFault) → Some fault ≡ listing_refusal (places_of its) (are_many file (places_of its) rows configuration) (are_hashed file (places_of its) rows) → Some (why_of fault) ≡ signature_refusal sha1 key file rows configuration its node
      nodes_stop found fault stops = ap (λ (o : Option SigningFault). fault_or o (message_refusal key file it (marks_of file (places_of its) rows configuration) strings)) stops ∙ strong found

      listed : is_weak sha1 it.algo ≡ false → None ≡ listing_refusal (places_of its) (are_many file (places_of its) rows configuration) (are_hashed file (places_of its) rows) → message_refusal key file it (marks_of file (places_of its) rows configuration) strings ≡ signature_refusal sha1 key file rows configuration its node
      listed found none = ap (λ (o : Option SigningFault). fault_or o (message_refusal key file it (marks_of file (places_of its) rows configuration) strings)) none ∙ strong found

      pub message_stop : is_weak sha1 it.algo ≡ false → None ≡ listing_refusal (places_of its) (are_many file (places_of its) rows configuration) (are_hashed file (places_of its) rows) → (marks : List ℕ) → marks ≡ marks_of file (places_of its) rows configuration → (fault : SigningFault) → Some fault ≡ refusal (is_marked marks) file strings → Some (why_of fault) ≡ signature_refusal sha1 key file rows configuration its node
      message_stop found none marks listed_are fault stops = ap (λ (o : Option SigningFault). fault_or o (value_refusal key file it (message (is_marked (marks_of file (places_of its) rows configuration)) file strings))) (stops ∙ ap (λ (ms : List ℕ). refusal (is_marked ms) file strings) listed_are) ∙ listed found none

      pub judged : is_weak sha1 it.algo ≡ false → None ≡ listing_refusal (places_of its) (are_many file (places_of its) rows configuration) (are_hashed file (places_of its) rows)
          → (marks : List ℕ) → marks ≡ marks_of file (places_of its) rows configuration → None ≡ refusal (is_marked marks) file strings → (why : Option Looseness) → why ≡ value_refusal key file it (message (is_marked marks) file strings)
          → why ≡ signature_refusal sha1 key file rows configuration its node
      judged found none marks listed_are fine why is_why =
          is_why ∙ ap (λ (ms : List ℕ). value_refusal key file it (message (is_marked ms) file strings)) listed_are
          ∙ ap (λ (o : Option SigningFault). fault_or o (value_refusal key file it (message (is_marked (marks_of file (places_of its) rows configuration)) file strings))) (fine ∙ ap (λ (ms : List ℕ). refusal (is_marked ms) file strings) listed_are) ∙ listed found none
