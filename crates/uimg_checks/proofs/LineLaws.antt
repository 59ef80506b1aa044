-- A line has no control character of ASCII, if none of the answer's own text is one.
use Rattle.std.proofs.Common.{◌∷◌, ◌≡◌, ℕ, ◌==◌, Bool, true, false, if◌then◌else◌, List, [], ◌++◌, Option, Some, None, Result, Ok, Err, IfOk, refl, ap, ◌∙◌, codes}
use Rattle.std.specs.Borrow.{Bor}
use Rattle.uimg_printing.specs.Counting.{counted}
use Rattle.uimg_printing.specs.Printing.{printed, is_shown}
use Rattle.uimg_printing.proofs.ShownLaws.{joined, shown, counted_shown}
use Rattle.uimg_fit_base.specs.declared.verdicts.Verdict.{Verdict}
use Rattle.uimg_fit_base.specs.declared.verdicts.Verdict.TheVariants as told
use Rattle.uimg_fit_base.specs.Report.{word_text}
use Rattle.uimg_checks.specs.declared.answer.Answer.{Answer}
use Rattle.uimg_checks.specs.declared.answer.Configurations.{Configurations, TheVariants.{Signed, Unchecked}}
use Rattle.uimg_fit_checking.specs.declared.checking.Finding.{Finding}
use Rattle.uimg_fit_checking.specs.declared.checking.Finding.TheVariants.{Right, Unhashed, Wrong, Weak, Overlapping, NoImage}
use Rattle.uimg_checks.specs.declared.answer.Answer.TheVariants.{Found, Missing, Loose, Refused, Failed}
use Rattle.uimg_checks.specs.declared.finding.Checked.{Checked}
use Rattle.uimg_checks.specs.declared.finding.Checked.TheVariants as checked
use Rattle.uimg_strict.specs.declared.loose.Looseness.{Looseness}
use Rattle.uimg_strict.specs.declared.loose.Looseness.TheVariants as loose
use Rattle.uimg_strict.specs.Words.{word_of}
use Rattle.uimg_checks.specs.Answers.{finding_word, found_word, answer_word}
use Rattle.uimg_checks.specs.Lines.{by_text, only_text, nodes_text, some_unchecked, configurations_if, spaced_name, named_if, finding_details, found_details, details_of, answer_line, own_text}

one_of : (b : Bool) (x y : List ℕ) → is_shown x ≡ true → is_shown y ≡ true → is_shown (if b then x else y) ≡ true
one_of true x y p q = p
one_of false x y p q = q

nodes_shown : (n : ℕ) → is_shown (nodes_text n) ≡ true
nodes_shown n =
    let nodes = counted n (codes "node") (codes "nodes") in
    joined (codes ", " ++ nodes) (codes " of configurations unchecked") (joined (codes ", ") nodes refl (counted_shown n (codes "node") (codes "nodes") refl refl)) refl

some_shown : (n : ℕ) → is_shown (some_unchecked n) ≡ true
unfolding some_unchecked
some_shown n = one_of (n == 0) [] (nodes_text n) refl (nodes_shown n)

only_shown : (only : Option (Bor (List ℕ))) → is_shown (only_text only) ≡ true
only_shown None = refl
only_shown (Some name) = joined (codes ", configuration " ++ printed true name.now) (codes " signed") (joined (codes ", configuration ") (printed true name.now) refl (shown true name.now)) refl

by_shown : (by : List ℕ) → is_shown (by_text by) ≡ true
unfolding by_text
by_shown [] = refl
by_shown (byte ∷ rest) = joined (codes " by ") (printed false (byte ∷ rest)) refl (shown false (byte ∷ rest))

configurations_shown : (it : Option Configurations) → is_shown (configurations_if it) ≡ true
configurations_shown None = refl
configurations_shown (Some (Unchecked n)) = some_shown n
configurations_shown (Some (Signed signed)) = joined (only_text signed.only) (by_text signed.by.now) (only_shown signed.only) (by_shown signed.by.now)

named_shown : (name : List ℕ) → is_shown (spaced_name name) ≡ true
named_shown name = joined (codes " ") (printed true name) refl (shown true name)

named_if_shown : (name : Option (Bor (List ℕ))) → is_shown (named_if name) ≡ true
named_if_shown None = refl
named_if_shown (Some name) = named_shown name.now

finding_shown : (finding : Finding (Bor (List ℕ))) (it : Option Configurations) → is_shown (finding_details finding it) ≡ true
finding_shown (Right images hashes) it =
    let payloads = counted images (codes "payload") (codes "payloads") in
    let nodes = counted hashes (codes "hash") (codes "hashes") in
    let first = joined (codes " ") payloads refl (counted_shown images (codes "payload") (codes "payloads") refl refl) in
    let second = joined (codes " " ++ payloads ++ codes ", ") nodes (joined (codes " " ++ payloads) (codes ", ") first refl) (counted_shown hashes (codes "hash") (codes "hashes") refl refl) in
    joined (codes " " ++ payloads ++ codes ", " ++ nodes) (configurations_if it) second (configurations_shown it)
finding_shown (Unhashed image) it = named_shown image.now
finding_shown (Wrong image hash verdict) it = joined (spaced_name image.now) (spaced_name hash.now) (named_shown image.now) (named_shown hash.now)
finding_shown (Weak image) it = named_shown image.now
finding_shown (Overlapping image) it = named_shown image.now
finding_shown NoImage it = refl

found_shown : (found : Checked (Bor (List ℕ))) (it : Option Configurations) → is_shown (found_details found it) ≡ true
found_shown (checked.Fit finding) it = finding_shown finding it
found_shown checked.Right it = refl
found_shown checked.Damaged it = refl
found_shown checked.Weak it = refl

details_shown : (answer : Answer) → is_shown (own_text answer) ≡ true → is_shown (details_of answer) ≡ true
details_shown (Found found it) own = found_shown found it
details_shown (Missing configuration property name) own =
    let giver = joined (named_if configuration) (codes " ") (named_if_shown configuration) refl in
    joined (named_if configuration ++ codes " " ++ property.now) (spaced_name name.now) (joined (named_if configuration ++ codes " ") property.now giver own) (named_shown name.now)
details_shown (Loose format why place signatures) own = named_if_shown place
details_shown (Refused stop) own = joined (codes " ") stop.message.now refl own
details_shown (Failed stop) own = joined (codes " ") stop.message.now refl own

verdict_shown : (verdict : Verdict) → is_shown (word_text verdict) ≡ true
verdict_shown told.Malformed = refl
verdict_shown told.Unsupported = refl
verdict_shown told.Right = refl
verdict_shown told.Wrong = refl

finding_word_shown : {N : Type 0} (finding : Finding N) → is_shown (finding_word finding) ≡ true
finding_word_shown (Right images hashes) = refl
finding_word_shown (Unhashed image) = refl
finding_word_shown (Wrong image hash verdict) = verdict_shown verdict
finding_word_shown (Weak image) = refl
finding_word_shown (Overlapping image) = refl
finding_word_shown NoImage = refl

found_word_shown : {N : Type 0} (found : Checked N) → is_shown (found_word found) ≡ true
found_word_shown (checked.Fit finding) = finding_word_shown finding
found_word_shown checked.Right = refl
found_word_shown checked.Damaged = refl
found_word_shown checked.Weak = refl

why_shown : (why : Looseness) → is_shown (word_of why) ≡ true
why_shown loose.NoDescription = refl
why_shown loose.NoTimestamp = refl
why_shown loose.UnitAddress = refl
why_shown loose.DoubledNode = refl
why_shown loose.DoubledProperty = refl
why_shown loose.IgnoredHash = refl
why_shown loose.OddCell = refl
why_shown loose.TwoPayloads = refl
why_shown loose.HalfPlace = refl
why_shown loose.UnsoundBlob = refl
why_shown loose.Misplaced = refl
why_shown loose.EmptyData = refl
why_shown loose.UnknownType = refl
why_shown loose.UnknownArchitecture = refl
why_shown loose.UnknownSystem = refl
why_shown loose.UnknownCompression = refl
why_shown loose.Unsigned = refl
why_shown loose.UnknownSignature = refl
why_shown loose.WeakSignature = refl
why_shown loose.SignedStrings = refl
why_shown loose.SignedNodes = refl
why_shown loose.SignatureLength = refl
why_shown loose.SignatureRange = refl
why_shown loose.BadSignature = refl

word_shown : (answer : Answer) → is_shown (answer_word answer) ≡ true
word_shown (Found found it) = found_word_shown found
word_shown (Missing configuration property name) = refl
word_shown (Loose format why place signatures) = why_shown why
word_shown (Refused stop) = refl
word_shown (Failed stop) = refl

pub line_shown : (path : List ℕ) (answer : Answer) → is_shown (own_text answer) ≡ true → is_shown (answer_line path answer) ≡ true
line_shown path answer own =
    let first = joined (printed false path) (codes ": ") (shown false path) refl in
    joined (printed false path ++ codes ": " ++ answer_word answer) (details_of answer)
    (joined (printed false path ++ codes ": ") (answer_word answer) first (word_shown answer)) (details_shown answer own)

-- a text that is made of a line
pub shown_as : {X E : Type 0} (text_of : X → List ℕ) (r : Result X E) (line : List ℕ) → is_shown line ≡ true → IfOk r (λ text. text_of text ≡ line) → IfOk r (λ text. is_shown (text_of text) ≡ true)
shown_as text_of (Ok text) line shown same = ap is_shown same ∙ shown
shown_as text_of (Err fault) line shown same = tt
