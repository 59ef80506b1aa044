-- What the report of a check asks of a world, and what its file holds.
use Rattle.std.proofs.Common.{◌≡◌, ℕ, List, [], ◌∷◌, Bool, true, false, Option, Some, None, Result, Ok, Err, IsTrue, OnOk, refl, ap, option_map, sym, subst, subst₂, inr, ◌∙◌, true≢false}
use Rattle.std.specs.{Borrow.Bor, Io.KnownBytes.Appends, Prelude.⊤}
use Rattle.std.specs.declared.io.Error.{Error}
use Rattle.uimg_base.specs.Named.{FileMap}
use Rattle.uimg_checks.specs.TestReports.{report_text, reported}
use Rattle.uimg_checks.specs.declared.test_report.TestReport.{TestReport}
use Rattle.uimg_tool.specs.{Drawing.{DrawsTo, Fills}, Reports.{AsksToReport, FillsReport, HoldsReport, WritesReportIf, beside_it}}
use Rattle.uimg_tool.specs.Writings.{WritesNew}
use Rattle.uimg_tool.specs.declared.request_fault.RequestFault.{RequestFault}
use Rattle.uimg_tool.specs.declared.safe_path.{SafePath.SafePath, Writing.Writing}
use Rattle.uimg_tool.specs.declared.safe_path.Writing.TheVariants as writing
use Rattle.uimg_unpacking.specs.Naming.{GivesName, over, linked, exists, taken, moved}
use Rattle.uimg_world.specs.Deeds.{ClosesFile, Closes, Deed, Renames, answer_of}
use Rattle.uimg_world.specs.declared.call.Answer.{Answer}
use Rattle.uimg_world.specs.declared.call.Answer.TheVariants.{Done}

-- what was empty has just the text
begun : (held : Option (List ℕ)) (text : List ℕ) → Appends (Some []) held text → held ≡ Some text
begun None text appends = absurd appends
begun (Some bytes) text appends = ap (λ (b : List ℕ). Some b) appends

-- a text was written to a file, which was closed
pub filled : (knows : Bool) (path text : List ℕ) (old held : Option (List ℕ)) (closed : Result ⊤ Error) (before after : List Deed) → ClosesFile knows path false held (answer_of closed) before after → Appends old held text
    → FillsReport knows path text old closed before after
filled knows path text old held closed before after closes appends = record { contents = closes.contents; answer = answer_of closed; closes = closes.is; whole = whole closed } where
  whole : (r : Result ⊤ Error) → OnOk r ((answer_of r ≡ Done) × (IsTrue knows → old ≡ Some [] → closes.contents ≡ Some text))
  whole (Ok done) = (refl, λ sure empty. closes.known sure ∙ begun held text (subst (λ (o : Option (List ℕ)). Appends o held text) empty appends))
  whole (Err reason) = tt

-- it could not be written whole
pub unfilled : (knows : Bool) (path text : List ℕ) (old held : Option (List ℕ)) (answer : Answer) (reason : Error) (before after : List Deed) → ClosesFile knows path false held answer before after
    → FillsReport knows path text old (let r : Result ⊤ Error = Err reason in r) before after
unfilled knows path text old held answer reason before after closes = record { contents = closes.contents; answer = answer; closes = closes.is; whole = tt }

pub fills : (knows : Bool) (path text : List ℕ) (held : Option (List ℕ)) (result : Result ⊤ Error) (before after : List Deed) → FillsReport knows path text held result before after → Fills path before after
fills knows path text held result before after it = inr (it.contents, it.answer, it.closes)

-- nothing is in a new file
pub new_empty : {F Z : Type 0} (contents : F → Option (List ℕ)) (result : Result (Writing F) Z) (file : F) (safe : SafePath) → result ≡ Ok (writing.Beside file safe) → WritesNew contents result → contents file ≡ Some []
new_empty {F = F} {Z = Z} contents result file safe is empty = subst (λ (r : Result (Writing F) Z). WritesNew contents r) is empty

-- the file that was closed at last holds the text
whole_at : (knows : Bool) (path text : List ℕ) (held : Option (List ℕ)) (result : Result ⊤ Error) (done : ⊤) (before after : List Deed) → IsTrue knows → held ≡ Some [] → result ≡ Ok done → FillsReport knows path text held result before after
    → after ≡ Closes path false (Some text) Done ∷ before
whole_at knows path text held result done before after sure empty is it =
    let told = subst (λ (r : Result ⊤ Error). OnOk r ((it.answer ≡ Done) × (IsTrue knows → held ≡ Some [] → it.contents ≡ Some text))) is it.whole in
    it.closes ∙ ap (λ (a : Answer). Closes path false it.contents a ∷ before) told.0 ∙ ap (λ (c : Option (List ℕ)). Closes path false c Done ∷ before) (told.1 sure empty)

renamed : (new whole : List ℕ) (before after : List Deed) → GivesName new whole true Done before after → after ≡ Renames new whole Done ∷ before
renamed new whole before after (over forced is) = is
renamed new whole before after (linked removed free done is) = absurd (true≢false free)
renamed new whole before after (exists free done is) = absurd (true≢false free)
renamed new whole before after (taken kind free something failed is) = absurd (true≢false free)
renamed new whole before after (moved free is) = absurd (true≢false free)

-- it then got its path
pub held_beside : (knows : Bool) (at new whole text : List ℕ) (held : Option (List ℕ)) (full : Result ⊤ Error) (done : ⊤) (named : Result ⊤ RequestFault) (before mid after : List Deed) (P : Type 0) → IsTrue knows → held ≡ Some [] → full ≡ Ok done → at ≡ new
    → FillsReport knows at text held full before mid → OnOk named (P × GivesName new whole true Done mid after) → OnOk named (HoldsReport text after)
held_beside knows at new whole text held full done (Err fault) before mid after P sure empty is there it names = tt
held_beside knows at new whole text held full done (Ok end) before mid after P sure empty is there it names =
    beside_it new whole before (renamed new whole mid after names.1 ∙ ap (λ (t : List Deed). Renames new whole Done ∷ t) (whole_at knows at text held full done before mid sure empty is it ∙ ap (λ (p : List ℕ). Closes p false (Some text) Done ∷ before) there))

pub on_ok : (P : Type 0) (named : Result ⊤ RequestFault) → P → OnOk named P
on_ok P (Ok end) held = held
on_ok P (Err fault) held = tt

-- what is asked for a report that is requested, and what its file then holds
pub asks_for : (asked : Option (Bor (List ℕ))) (path : Bor (List ℕ)) (before after : List Deed) → asked ≡ Some path → DrawsTo path.now true before after → AsksToReport asked before after
asks_for asked path before after is draws = subst (λ (o : Option (Bor (List ℕ))). AsksToReport o before after) (sym is) (inr draws)

pub writes_for : (files : FileMap) (asked : Option (Bor (List ℕ))) (path : Bor (List ℕ)) (kept : Option TestReport) (report : TestReport) (named : Result ⊤ RequestFault) (before after : List Deed) → asked ≡ Some path → kept ≡ Some report
    → DrawsTo path.now true before after → (IsTrue files.honest → OnOk named (HoldsReport (report_text (reported report)) after)) → OnOk named (WritesReportIf files asked (option_map reported kept) before after)
writes_for files asked path kept report (Err fault) before after is has draws holds = tt
writes_for files asked path kept report (Ok end) before after is has draws holds =
    subst₂ (λ (o : Option (Bor (List ℕ))) (k : Option TestReport). WritesReportIf files o (option_map reported k) before after) (sym is) (sym has) (draws, holds)
