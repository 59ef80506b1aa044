-- What is to be done about a hash node gives its word.
use Rattle.std.proofs.Common.{◌≡◌, ◌+◌, ◌-◌, ◌≤◌, ℕ, List, ◌++◌, length, take, replicate, Bool, true, if◌then◌else◌, ◌==◌, Option, Some, None, refl, ap, sym, ◌∙◌, subst, IfSome, arith}
use Rattle.std.specs.{Prelude.{Result, Ok, Err, IfOk, is_err}, Str.bytes_eq}
use Rattle.std.proofs.lemmas.List.{take-append-le, take_all}
use Rattle.uimg_blob_reading.proofs.PhaseLaws.{true_false, by_bool}
use Rattle.uimg_sums.{specs.declared.algo.Algo.Algo, proofs.DigestSizes.length-digest_by}
use Rattle.uimg_sums.specs.{Algorithms.{digest_size, digest_by}, AnySum.padded_digest}
use Rattle.uimg_texts.specs.Slices.{slice}
use Rattle.uimg_base.{proofs.Slices.length-slice, specs.declared.spans.Span.Span}
use Rattle.uimg_fit_reading.specs.declared.report.plans.Plan.{Plan, TheVariants.Compared}
use Rattle.uimg_fit_reading.specs.declared.report.plans.Plan.TheVariants as plan
use Rattle.uimg_texts.specs.declared.naming.Naming.{Naming}
use Rattle.uimg_fit_base.specs.AlgoNames.{algo_by}
use Rattle.uimg_fit_base.specs.{declared.algo_sets.AlgoSet.AlgoSet, AlgoSets.has, Files.bytes_in}
use Rattle.uimg_fit_base.specs.declared.verdicts.Verdict.{Verdict, TheVariants.{Right, Wrong}}
use Rattle.uimg_fit_base.specs.Report.{compared, by_value, by_algo, by_name}
use Rattle.uimg_fit_base.specs.declared.verdicts.Verdict.TheVariants as word
use Rattle.uimg_fit_reading.specs.Plans.{EndsIn, IsCovered, plan_for, plan_by_value, plan_by_algo, plan_by_name, word_by}

-- a digest, and the zeros behind it
digest_first : (digest : List ℕ) (n : ℕ) → length digest ≡ n → take n (digest ++ replicate (64 - length digest) 0) ≡ digest
digest_first digest n long = take-append-le n digest (replicate (64 - length digest) 0) (omega (arith, long)) ∙ take_all n digest (omega (arith, long))

-- the algorithm of a comparison is in use
pub covered_algo : (set : AlgoSet) (plan : Plan) (algo : Algo) (span : Span) → plan ≡ Compared algo span → IsCovered set plan → has set algo ≡ true
covered_algo set plan algo span is covered = subst (λ (p : Plan). IsCovered set p) is covered

-- what a comparison says is the word
pub compared_word : (file message digest : List ℕ) (size : ℕ) (plan : Plan) (algo : Algo) (span : Span) (same : Bool) → plan ≡ Compared algo span
    → EndsIn size plan → digest ≡ (padded_digest (digest_by algo message)).0 → same ≡ bytes_eq (slice file span.place span.length) (take span.length digest)
    → word_by file message plan ≡ (if same then Right else Wrong)
compared_word file message digest size plan algo span same is ends has by =
    subst (λ (p : Plan). EndsIn size p → word_by file message p ≡ (if same then Right else Wrong)) (sym is)
    (λ e.
    let front : take span.length digest ≡ digest_by algo message =
    ap (take span.length) has ∙ digest_first (digest_by algo message) span.length (length-digest_by algo message ∙ sym e.1) in
    ap (λ (d : List ℕ). if bytes_eq (slice file span.place span.length) d then Right else Wrong) (sym front)
    ∙ ap (λ (b : Bool). if b then Right else Wrong) (sym by))
    ends

-- carrying out what is to be done gives the word
plan_word : (file message : List ℕ) (algo : Algo) (span : Span) → span.place + span.length ≤ length file
    → word_by file message (plan_for algo span) ≡ compared algo (slice file span.place span.length) message
unfolding plan_for compared
plan_word file message algo span within =
    let long : length (slice file span.place span.length) ≡ span.length = length-slice file span.place span.length within in
    let right : Verdict = if bytes_eq (slice file span.place span.length) (digest_by algo message) then Right else Wrong in
    by_bool (span.length == digest_size algo)
    (λ fits. ap (λ (b : Bool). word_by file message (if b then Compared algo span else plan.Malformed)) fits
    ∙ sym (ap (λ (b : Bool). if b then right else word.Malformed) (ap (λ (n : ℕ). n == digest_size algo) long ∙ fits)))
    (λ differs. ap (λ (b : Bool). word_by file message (if b then Compared algo span else plan.Malformed)) differs
    ∙ sym (ap (λ (b : Bool). if b then right else word.Malformed) (ap (λ (n : ℕ). n == digest_size algo) long ∙ differs)))

by_span : (file message : List ℕ) (algo : Algo) (value : Option Span) → IfSome value (λ s. s.place + s.length ≤ length file)
    → word_by file message (plan_by_value algo value) ≡ by_value algo (bytes_in file value) message
by_span file message algo None within = refl
by_span file message algo (Some span) within = plan_word file message algo span within

by_known : (file message : List ℕ) (algo : Option Algo) (value : Option Span) → IfSome value (λ s. s.place + s.length ≤ length file)
    → word_by file message (plan_by_algo algo value) ≡ by_algo algo (bytes_in file value) message
by_known file message None value within = refl
by_known file message (Some algo) value within = by_span file message algo value within

pub planned_word : (naming : Naming) (file message : List ℕ) (name : Option (List ℕ)) (value : Option Span) → IfSome value (λ s. s.place + s.length ≤ length file)
    → word_by file message (plan_by_name naming name value) ≡ by_name naming name (bytes_in file value) message
planned_word naming file message None value within = refl
planned_word naming file message (Some name) value within = by_known file message (algo_by naming name) value within

-- what holds of an answer
pub of_answer : {X F : Type 0} (r : Result X F) (P Q : X → Type 0) → ((x : X) → P x → Q x) → IfOk r P → IfOk r Q
of_answer (Ok x) P Q f p = f x p
of_answer (Err e) P Q f p = tt

-- and what is said of values alone
pub if_err : {X F : Type 0} (r : Result X F) (P : X → Type 0) → is_err r ≡ true → IfOk r P
if_err (Ok x) P failed = absurd (true_false (sym failed))
if_err (Err e) P failed = tt
