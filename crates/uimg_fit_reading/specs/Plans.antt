-- The plan for a hash node, made before any payload is read.
use Rattle.std.specs.Prelude.{◌≡◌, ⊤, ℕ, ◌+◌, ◌≤◌, List, [], ◌∷◌, ◌++◌, length, ◌==◌, Bool, true}
use Rattle.std.specs.Prelude.{false, if◌then◌else◌, Option, Some, None, IfSome, codes}
use Rattle.std.specs.{List.list_any, Option.{option_map, option_map_or}, Str.bytes_eq}
use Rattle.uimg_sums.specs.declared.algo.Algo.{Algo}
use Rattle.uimg_sums.specs.Algorithms.{digest_size, digest_by}
use Rattle.uimg_texts.specs.declared.naming.Naming.{Naming}
use Rattle.uimg_texts.specs.{Nul.text, Slices.slice}
use Rattle.uimg_base.specs.{Outcome.line, declared.spans.Span.Span}
use Rattle.uimg_blob_reading.specs.{LookUps.{NodeOf, first}, Indexed.value_span, Spots.Spot}
use Rattle.uimg_fit_reading.specs.declared.report.plans.Plan.{Plan, TheVariants.Compared}
use Rattle.uimg_fit_reading.specs.declared.report.plans.Plan.TheVariants.{Malformed, Unsupported}
use Rattle.uimg_fit_reading.specs.declared.report.hash_lines.HashLine.{HashLine}
use Rattle.uimg_fit_base.specs.{declared.algo_sets.AlgoSet.AlgoSet, AlgoNames.algo_by}
use Rattle.uimg_fit_base.specs.AlgoSets.{has, marked}
use Rattle.uimg_fit_base.specs.{declared.verdicts.Verdict.Verdict, Files.{bytes_in, value_bytes}}
use Rattle.uimg_fit_base.specs.Report.{algo_name_of, word_text}
use Rattle.uimg_fit_base.specs.declared.verdicts.Verdict.TheVariants as word

-- a value is compared by an algorithm if it has the length of its digests
unfoldable pub plan_for : Algo → Span → Plan
plan_for algo value = if value.length == digest_size algo then Compared algo value else Malformed

abbrev pub plan_by_value : Algo → Option Span → Plan
plan_by_value algo None = Malformed
plan_by_value algo (Some value) = plan_for algo value

abbrev pub plan_by_algo : Option Algo → Option Span → Plan
plan_by_algo None value = Unsupported
plan_by_algo (Some algo) value = plan_by_value algo value

-- the plan by an algorithm's name and a value's span, each of which may be missing
abbrev pub plan_by_name : Naming → Option (List ℕ) → Option Span → Plan
plan_by_name naming None value = Malformed
plan_by_name naming (Some name) value = plan_by_algo (algo_by naming name) value

-- the plan for a hash node, by the algorithms of a set of names
abbrev pub hash_plan : Naming → NodeOf Spot → Plan
hash_plan naming hash =
    plan_by_name naming (algo_name_of hash) (option_map value_span (first hash.own (codes "value")))

-- whether a plan compares a value with a digest
abbrev pub compares : Plan → Bool
compares Malformed = false
compares Unsupported = false
compares (Compared algo span) = true

-- whether the value of any of these hash nodes is compared
abbrev pub are_compared : Naming → List (NodeOf Spot) → Bool
are_compared naming hs = list_any (λ h. compares (hash_plan naming h)) hs

-- The algorithm of a plan that compares is in a set.
abbrev pub IsCovered : AlgoSet → Plan → Type 0
IsCovered set Malformed = ⊤
IsCovered set Unsupported = ⊤
IsCovered set (Compared algo span) = has set algo ≡ true

-- The word is `Right` only if the plan compares by an algorithm of the set.
abbrev pub IsCompared : AlgoSet → Plan → Verdict → Type 0
IsCompared set (Compared algo span) word.Right = has set algo ≡ true
IsCompared set Malformed word.Right = ⊥
IsCompared set Unsupported word.Right = ⊥
IsCompared set plan _ = ⊤

-- a set with the algorithm of a plan
abbrev pub with_plan : AlgoSet → Plan → AlgoSet
with_plan set Malformed = set
with_plan set Unsupported = set
with_plan set (Compared algo span) = marked set algo

-- a set with the algorithms of the compared hash nodes
unfoldable pub with_all : Naming → AlgoSet → List (NodeOf Spot) → AlgoSet
with_all naming set [] = set
with_all naming set (h ∷ hs) = with_all naming (with_plan set (hash_plan naming h)) hs

-- the text at a span of a file
abbrev pub text_in : List ℕ → Option Span → Option (List ℕ)
text_in file value = option_map text (bytes_in file value)

-- the printed name of an algorithm, `-` if it is missing
abbrev pub algo_text : List ℕ → Option Span → List ℕ
algo_text file value = option_map_or (λ n. n) (text_in file value) (codes "-")

-- The names in a hash node's line end within a file of this size.
pub record LineInside (size : ℕ) (line : HashLine) : Type 0 where
  pub image : line.image.place + line.image.length ≤ size
  pub hash : line.hash.place + line.hash.length ≤ size
  pub algo : IfSome line.algo (λ s. s.place + s.length ≤ size)

-- the line of a hash node, from the spans of its parts
abbrev pub names_text : List ℕ → HashLine → List ℕ
names_text file l =
    (slice file l.image.place l.image.length ++ codes " ")
    ++ (slice file l.hash.place l.hash.length ++ codes " ")

abbrev pub end_text : List ℕ → HashLine → List ℕ
end_text file l = algo_text file l.algo ++ line (codes " " ++ word_text l.word)

abbrev pub hash_text : List ℕ → HashLine → List ℕ
hash_text file l = names_text file l ++ end_text file l

-- the length of a span, or 0 if it is missing
abbrev pub span_length : Option Span → ℕ
span_length None = 0
span_length (Some span) = span.length

-- A compared value is this one, and has the length of its algorithm's digests.
abbrev pub IsOf : Option Span → Plan → Type 0
IsOf value Malformed = ⊤
IsOf value Unsupported = ⊤
IsOf value (Compared algo span) = (value ≡ Some span) × (span.length ≡ digest_size algo)

-- A compared value ends within a file of this size, and has the length of its algorithm's digests.
abbrev pub EndsIn : ℕ → Plan → Type 0
EndsIn size Malformed = ⊤
EndsIn size Unsupported = ⊤
EndsIn size (Compared algo span) =
    (span.place + span.length ≤ size) × (span.length ≡ digest_size algo)

-- the word of a hash node, by its plan and its payload
abbrev pub word_by : List ℕ → List ℕ → Plan → Verdict
word_by file message Malformed = word.Malformed
word_by file message Unsupported = word.Unsupported
word_by file message (Compared algo span) =
    if bytes_eq (slice file span.place span.length)
    (digest_by algo message) then word.Right else word.Wrong

-- the length of a hash node's `algo`, or 0 if it is missing
abbrev pub algo_length : NodeOf Spot → ℕ
algo_length hash = option_map_or (λ v. length v) (value_bytes hash.own (codes "algo")) 0
