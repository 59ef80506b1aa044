-- The report on the hashes of images (Flattened Image Tree format, "Hash nodes").
use Rattle.std.specs.Prelude.{ℕ, List, [], ◌∷◌, ◌++◌, length, ◌==◌, if◌then◌else◌, Option, Some}
use Rattle.std.specs.Prelude.{None, Result, Ok, Err, Bool, true, false, codes}
use Rattle.std.specs.{List.{flat_map, list_all}, Option.{option_map, option_map_or}, Str.bytes_eq}
use Rattle.uimg_sums.specs.declared.algo.Algo.{Algo}
use Rattle.uimg_sums.specs.Algorithms.{digest_size, digest_by}
use Rattle.uimg_texts.specs.declared.naming.Naming.{Naming, TheVariants.Profile}
use Rattle.uimg_texts.specs.Nul.{text}
use Rattle.uimg_base.specs.Outcome.{Outcome, End, done, not_right, refused, told, line}
use Rattle.uimg_base.specs.Outcome.{unless_refused}
use Rattle.uimg_blob_reading.specs.{LookUps.{NodeOf, hashes}, Spots.Spot}
use Rattle.uimg_fit_base.specs.declared.fault.{Fault.{Fault, TheVariants.Fit}, FitFault.FitFault}
use Rattle.uimg_fit_base.specs.declared.verdicts.Verdict.{Verdict, TheVariants.Wrong}
use Rattle.uimg_fit_base.specs.declared.verdicts.Verdict.TheVariants.{Malformed, Unsupported, Right}
use Rattle.uimg_fit_base.specs.{AlgoNames.algo_by, Files.{images_of, value_bytes}, Places.payload}

-- the text of a word
abbrev pub word_text : Verdict → List ℕ
word_text Malformed = codes "malformed"
word_text Unsupported = codes "unsupported"
word_text Right = codes "ok"
word_text Wrong = codes "bad"

abbrev pub is_right : Verdict → Bool
is_right Malformed = false
is_right Unsupported = false
is_right Right = true
is_right Wrong = false

-- the word says that a digest was compared
abbrev pub is_compared : Verdict → Bool
is_compared Malformed = false
is_compared Unsupported = false
is_compared Right = true
is_compared Wrong = true

-- the word for a value as the digest of a payload; a value of another length is malformed
unfoldable pub compared : Algo → List ℕ → List ℕ → Verdict
compared algo value message =
    if length value == digest_size
    algo then (if bytes_eq value (digest_by algo message) then Right else Wrong) else Malformed

-- The word for a hash node, by the name of its algorithm and its value. A missing name comes first,
-- then an unknown one, then a missing value.
abbrev pub by_value : Algo → Option (List ℕ) → List ℕ → Verdict
by_value algo None message = Malformed
by_value algo (Some value) message = compared algo value message

abbrev pub by_algo : Option Algo → Option (List ℕ) → List ℕ → Verdict
by_algo None value message = Unsupported
by_algo (Some algo) value message = by_value algo value message

abbrev pub by_name : Naming → Option (List ℕ) → Option (List ℕ) → List ℕ → Verdict
by_name naming None value message = Malformed
by_name naming (Some name) value message = by_algo (algo_by naming name) value message

-- the name of a hash node's algorithm
abbrev pub algo_name_of : NodeOf Spot → Option (List ℕ)
algo_name_of hash = option_map text (value_bytes hash.own (codes "algo"))

-- the word of a hash node, by the algorithms of a set of names
abbrev pub named_word : Naming → List ℕ → NodeOf Spot → Verdict
named_word naming message hash =
    by_name naming (algo_name_of hash) (value_bytes hash.own (codes "value")) message

-- the word of a hash node in a report, by the algorithms of the profile
abbrev pub word_of : List ℕ → NodeOf Spot → Verdict
word_of message hash = named_word Profile message hash

-- `<image> <hash> <algo> <word>`; `-` replaces a missing algorithm
abbrev pub hash_line : List ℕ → List ℕ → NodeOf Spot → List ℕ
hash_line name message hash =
    line (name ++ codes " " ++ hash.name ++ codes " "
    ++ option_map_or (λ n. n) (algo_name_of hash) (codes "-") ++ codes " "
    ++ word_text (word_of message hash))

-- the lines of an image's hash nodes, or the one line of an image without any
abbrev pub hash_lines : List ℕ → List ℕ → List (NodeOf Spot) → List ℕ
hash_lines name message [] = line (name ++ codes " - none unhashed")
hash_lines name message (h ∷ hs) = flat_map (hash_line name message) (h ∷ hs)

-- all hashes of an image are right
abbrev pub are_right : List ℕ → List (NodeOf Spot) → Bool
are_right message hs = list_all (λ h. is_right (word_of message h)) hs

-- an end, after lines that are right or not
abbrev pub end_after : {F : Type 0} → Bool → End F → End F
end_after true e = e
end_after false done = not_right
end_after false e = e

-- an image's lines and the rest, or the refusal before its lines
abbrev pub report_step : NodeOf Spot → Result (List ℕ) FitFault → Outcome Fault → Outcome Fault
report_step image (Ok message) rest = record {
  text = hash_lines image.name message (hashes image) ++ rest.text;
  end = end_after (are_right message (hashes image)) rest.end;
}
report_step image (Err f) rest = told [] (refused (Fit f))

-- the report on images, one after the other
unfoldable pub report : List ℕ → List (NodeOf Spot) → Outcome Fault
report file [] = told [] done
report file (image ∷ more) = report_step image (payload file image) (report file more)

-- the report on a file; a faulty blob, or one without images, is refused without a line
abbrev pub verify_of : List ℕ → Outcome Fault
verify_of file = unless_refused (images_of file) (report file)
