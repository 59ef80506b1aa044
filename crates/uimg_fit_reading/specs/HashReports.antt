-- Reports on the hash nodes of an image: the digests that they are compared with, then their lines.
use Rattle.std.specs.Prelude.{◌≡◌, ◌≤◌, ◌+◌, ◌*◌, ℕ, List, ◌++◌, length, codes, if◌then◌else◌, Bool}
use Rattle.std.specs.Prelude.{Option, Result, IfOk, is_err}
use Rattle.std.specs.{List.{AllByRecursion, flat_map, sum_by}, Option.option_map_or}
use Rattle.uimg_texts.specs.declared.naming.Naming.{Naming, TheVariants.Profile}
use Rattle.uimg_base.specs.{Device.Device, Lent.Lent, Outcome.line, Sink.Sink, Writing.Written}
use Rattle.uimg_base.specs.declared.{spans.Span.Span, ranges.MoveFault.MoveFault}
use Rattle.uimg_base.specs.declared.source.SourceFault.{SourceFault}
use Rattle.uimg_blob_reading.specs.{LookUps.NodeOf, Spots.Spot}
use Rattle.uimg_fit_base.specs.declared.algo_sets.{AlgoSet.AlgoSet, Digests.Digests}
use Rattle.uimg_fit_base.specs.declared.verdicts.Verdict.{Verdict}
use Rattle.uimg_fit_base.specs.AlgoSets.{no_algos, set_of, AreDigests}
use Rattle.uimg_fit_base.specs.Report.{algo_name_of, word_text, word_of, hash_line, are_right}
use Rattle.uimg_fit_reading.specs.{declared.open_fit.OpenFit.OpenFit, Nodes.{OfHash, OfHashes}}
use Rattle.uimg_fit_reading.specs.{OpenFits.{file_of, InFit}, Values.in_span}
use Rattle.uimg_fit_reading.specs.Plans.{IsCovered, are_compared, with_all, hash_plan, algo_length}

-- the most bytes requested to write the line of a hash node of an image whose name has n bytes
abbrev pub line_cost : ℕ → NodeOf Spot → ℕ
line_cost n hash = n + 351 + algo_length hash

-- the same, and 32 to find its algorithm before the payload is read
abbrev pub hash_cost : ℕ → NodeOf Spot → ℕ
hash_cost n hash = n + 383 + algo_length hash

-- The algorithm of each compared hash node is in a set.
abbrev pub AllCovered : Naming → AlgoSet → List (NodeOf Spot) → Type 0
AllCovered naming set hs = AllByRecursion (λ h. IsCovered set (hash_plan naming h)) hs

-- The algorithms of the compared hash nodes were found; 32 bytes a node were requested at most.
pub record FindsAlgosBetween (naming : Naming) (hs : List (NodeOf Spot)) (asked new : ℕ)
    (result : Result AlgoSet SourceFault) : Type 0 where
  pub algos : IfOk result (λ set. set ≡ with_all naming no_algos hs)
  pub paid : new ≤ asked + 32 * length hs

abbrev pub FindsAlgos : {S : Type 0} → Naming → List (NodeOf Spot) → Result AlgoSet SourceFault
    → (S → Device) → Lent S → Type 0
FindsAlgos naming hs result device source =
    FindsAlgosBetween naming hs (device source.entry.now).asked (device source.exit.now).asked result

-- The digests of a payload were found. It was requested at most once, and not if none is compared.
pub record FindsDigestsBetween (message : List ℕ) (size : ℕ) (hs : List (NodeOf Spot))
    (asked new : ℕ) (result : Result Digests SourceFault) : Type 0 where
  pub digests : IfOk result (λ found. AreDigests found message)
  pub covered : IfOk result (λ found. AllCovered Profile (set_of found) hs)
  pub paid : new ≤ asked + ((if are_compared Profile hs then size else 0) + 32 * length hs)

-- The same of the hash nodes from a number on.
abbrev pub FindsDigests : {S A : Type 0} → Span → Option ℕ → Result Digests SourceFault
    → (S → Device) → Lent (OpenFit S A) → Type 0
FindsDigests payload first result device fit = InFit device fit.entry.now OfHashes first
    (λ hs. FindsDigestsBetween (in_span (file_of device fit.entry.now) payload) payload.length hs
    (device fit.entry.now.source.now).asked (device fit.exit.now.source.now).asked result)

-- the line of a hash node with a word
abbrev pub verdict_line : List ℕ → Verdict → NodeOf Spot → List ℕ
verdict_line name word hash =
    line (name ++ codes " " ++ hash.name ++ codes " "
    ++ option_map_or (λ n. n) (algo_name_of hash) (codes "-") ++ codes " " ++ word_text word)

-- The line of a hash node was written; the result is its word.
pub record PutsHashBetween (name message : List ℕ) (n : ℕ) (hash : NodeOf Spot) (asked new : ℕ)
    (result : Result Verdict MoveFault) (old now : Sink) : Type 0 where
  pub word : IfOk result (λ word. word ≡ word_of message hash)
  pub written : Written (is_err result) old now (hash_line name message hash)
  pub paid : new ≤ asked + line_cost n hash

-- The same of the hash node at a number, by digests of a message.
abbrev pub PutsHash : {S A : Type 0} → Span → ℕ → Digests → Result Verdict MoveFault
    → (S → Device) → Lent (OpenFit S A) → Lent Sink → Type 0
PutsHash image number digests result device fit out = InFit device fit.entry.now OfHash number
    (λ hash. (message : List ℕ) → AreDigests digests message
    → IsCovered (set_of digests) (hash_plan Profile hash)
    → PutsHashBetween (in_span (file_of device fit.entry.now) image) message image.length hash
    (device fit.entry.now.source.now).asked (device fit.exit.now.source.now).asked result
    out.entry.now out.exit.now)

-- The lines of hash nodes were written; the result is whether all are right.
pub record PutsHashesBetween (name message : List ℕ) (n : ℕ) (hs : List (NodeOf Spot))
    (asked new : ℕ) (result : Result Bool MoveFault) (old now : Sink) : Type 0 where
  pub right : IfOk result (λ right. right ≡ are_right message hs)
  pub written : Written (is_err result) old now (flat_map (hash_line name message) hs)
  pub paid : new ≤ asked + sum_by (line_cost n) hs

-- The same of the hash nodes from a number on, by digests of a message.
abbrev pub PutsHashes : {S A : Type 0} → Span → Option ℕ → Digests → Result Bool MoveFault
    → (S → Device) → Lent (OpenFit S A) → Lent Sink → Type 0
PutsHashes image first digests result device fit out = InFit device fit.entry.now OfHashes first
    (λ hs. (message : List ℕ) → AreDigests digests message → AllCovered Profile (set_of digests) hs
    → PutsHashesBetween (in_span (file_of device fit.entry.now) image) message image.length hs
    (device fit.entry.now.source.now).asked (device fit.exit.now.source.now).asked result
    out.entry.now out.exit.now)

-- All hash nodes were reported on, after at most one pass over the payload.
pub record ReportsHashesBetween (name message : List ℕ) (size n : ℕ) (hs : List (NodeOf Spot))
    (asked new : ℕ) (result : Result Bool MoveFault) (old now : Sink) : Type 0 where
  pub right : IfOk result (λ right. right ≡ are_right message hs)
  pub written : Written (is_err result) old now (flat_map (hash_line name message) hs)
  pub paid : new ≤ asked + ((if are_compared Profile hs then size else 0) + sum_by (hash_cost n) hs)

-- The same of the hash nodes from a number on.
abbrev pub ReportsHashes : {S A : Type 0} → Span → Span → Option ℕ → Result Bool MoveFault
    → (S → Device) → Lent (OpenFit S A) → Lent Sink → Type 0
ReportsHashes image payload first result device fit out = InFit device fit.entry.now OfHashes first
    (λ hs. ReportsHashesBetween (in_span (file_of device fit.entry.now) image)
    (in_span (file_of device fit.entry.now) payload) payload.length image.length hs
    (device fit.entry.now.source.now).asked (device fit.exit.now.source.now).asked result
    out.entry.now out.exit.now)
