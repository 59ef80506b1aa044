-- The line of a hash node.
use Rattle.std.proofs.Common.{◌≡◌, ◌+◌, ◌≤◌, ℕ, List, [], ◌∷◌, ◌++◌, length, codes, Option, Some, None, Bool, IfSome, refl, ap, sym, subst, ◌∙◌, append_assoc, arith}
use Rattle.std.specs.{Prelude.{Result, IfOk, is_err}, Option.{option_map, option_map_or}}
use Rattle.uimg_texts.specs.{Nul.text, Slices.slice}
use Rattle.uimg_base.{specs.{Outcome.line, Sink.Sink, Writing.Written}, proofs.Slices.length-slice}
use Rattle.uimg_base.specs.declared.{spans.Span.Span, ranges.MoveFault.MoveFault}
use Rattle.uimg_blob_reading.specs.{LookUps.NodeOf, Spots.Spot}
use Rattle.uimg_fit_reading.specs.declared.report.hash_lines.HashLine.{HashLine}
use Rattle.uimg_fit_reading.specs.HashReports.{PutsHashBetween, verdict_line}
use Rattle.uimg_fit_reading.specs.Plans.{algo_length, hash_text, span_length}
use Rattle.uimg_fit_base.specs.{declared.verdicts.Verdict.Verdict, Files.{value_bytes, bytes_in}}
use Rattle.uimg_fit_base.specs.Report.{word_text, word_of, hash_line}
use Rattle.uimg_fit_reading.proofs.PlanLaws.{of_answer}

-- the parts of a line, joined
joined : (a b n w : List ℕ) → ((a ++ codes " ") ++ (b ++ codes " ")) ++ (n ++ ((codes " " ++ w) ++ 10 ∷ [])) ≡ line (a ++ codes " " ++ b ++ codes " " ++ n ++ codes " " ++ w)
joined a b n w = simp append_assoc

pub line_is : (file : List ℕ) (l : HashLine) (found : NodeOf Spot) → slice file l.hash.place l.hash.length ≡ found.name → value_bytes found.own (codes "algo") ≡ bytes_in file l.algo
    → hash_text file l ≡ verdict_line (slice file l.image.place l.image.length) l.word found
line_is file l found named algo =
    let image = slice file l.image.place l.image.length in
    let shown : Option (List ℕ) → List ℕ = λ o. option_map_or (λ n. n) (option_map text o) (codes "-") in
    joined image (slice file l.hash.place l.hash.length) (shown (bytes_in file l.algo)) (word_text l.word)
    ∙ ap (λ (b : List ℕ). line (image ++ codes " " ++ b ++ codes " " ++ shown (bytes_in file l.algo) ++ codes " " ++ word_text l.word)) named
    ∙ ap (λ (o : Option (List ℕ)). line (image ++ codes " " ++ found.name ++ codes " " ++ shown o ++ codes " " ++ word_text l.word)) (sym algo)

-- how long the value of an algorithm is
spans : (file : List ℕ) (value : Option Span) → IfSome value (λ s. s.place + s.length ≤ length file) → span_length value ≡ option_map_or (λ v. length v) (bytes_in file value) 0
spans file None within = refl
spans file (Some span) within = sym (length-slice file span.place span.length within)

pub algo_long : (file : List ℕ) (value : Option Span) (found : NodeOf Spot) → IfSome value (λ s. s.place + s.length ≤ length file) → value_bytes found.own (codes "algo") ≡ bytes_in file value
    → span_length value ≡ algo_length found
algo_long file value found within algo = spans file value within ∙ ap (λ (o : Option (List ℕ)). option_map_or (λ v. length v) o 0) (sym algo)

-- the line of a hash node whose word is known
pub puts_line : (name message : List ℕ) (n : ℕ) (hash : NodeOf Spot) (asked middle new : ℕ) (word : Verdict) (r : Result Verdict MoveFault) (failed : Bool) (s t : Sink) → word ≡ word_of message hash
    → IfOk r (λ w. w ≡ word) → is_err r ≡ failed → Written failed s t (verdict_line name word hash) → new ≤ middle + (n + 255 + algo_length hash) → middle ≤ asked + 96
    → PutsHashBetween name message n hash asked new r s t
puts_line name message n hash asked middle new word r failed s t is right ends written paid judged = record {
  word = of_answer r _ _ (λ w same. same ∙ is) right;
  written = subst (λ (b : Bool). Written b s t (hash_line name message hash)) (sym ends) (subst (λ (w : Verdict). Written failed s t (verdict_line name w hash)) is written);
  paid = omega (arith, paid, judged);
}
