-- What is answered of a file by its facts.
use Rattle.std.proofs.Common.{◌≡◌, ℕ, List, ◌++◌, length, codes, Bool, true, false, if◌then◌else◌, Option, Some, None, Result, Ok, Err, Vec, inl, inr, refl, ap, sym, subst, ◌∙◌, arith, true≢false}
use Rattle.std.specs.{Borrow.Bor, Prelude.{◌⊎◌, IfErr, IfOk, IsTrue, OnOk}, Io.KnownBytes.Appends}
use Rattle.json.specs.{Json.Json}
use Rattle.uimg_base.specs.{Device.{Device, SameDevice}, Named.FileMap, Results.◌>>=◌, declared.spans.Span.Span}
use Rattle.uimg_blob_reading.specs.Faults.{refuses_memory}
use Rattle.uimg_blob_reading.specs.declared.fault.BlobFault.{BlobFault}
use Rattle.uimg_fit_base.specs.Files.{begins_as_blob}
use Rattle.uimg_fit_base.specs.declared.fault.Fault.TheVariants as fit
use Rattle.uimg_fit_checking.specs.declared.surveying.fault.SurveyFault.{SurveyFault}
use Rattle.uimg_fit_checking.specs.declared.surveying.fault.SurveyFault.TheVariants as survey
use Rattle.uimg_legacy.specs.{Faults.GivesBy, Header.header as header_of, Placing.{GivesPlaces, spans_of_parts}}
use Rattle.uimg_legacy.specs.declared.header.Header.{Header}
use Rattle.uimg_legacy.specs.declared.fault.Fault.{Fault as LegacyEngineFault}
use Rattle.uimg_legacy.specs.declared.fault.Fault.TheVariants as legacy
use Rattle.uimg_legacy.specs.declared.fault.LegacyFault.{LegacyFault}
use Rattle.uimg_legacy.specs.declared.placing.PartsFault.{PartsFault}
use Rattle.uimg_legacy.specs.declared.placing.PartsFault.TheVariants as parts
use Rattle.uimg_info.specs.{Fit.info_of, Legacy.legacy_json, Steps.Informs}
use Rattle.uimg_engine.specs.Faults.{of_fit, of_legacy}
use Rattle.uimg_engine.specs.declared.fault.Fault.{Fault}
use Rattle.uimg_engine.specs.declared.fault.Fault.TheVariants as engine
use Rattle.uimg_engine.specs.FaultTexts.{code_of, text_of}
use Rattle.uimg_checks.specs.{Answers.answer_status, Objects.{check_json, format_if, string_if}}
use Rattle.uimg_checks.specs.declared.answer.{Format.Format, Stop.Stop}
use Rattle.uimg_checks.specs.declared.answer.Answer.{Answer}
use Rattle.uimg_checks.specs.declared.answer.Answer.TheVariants as answer
use Rattle.uimg_printing.specs.Members.{Member, object_of, number_if, number_member, string_member, text_members}
use Rattle.uimg_checks.specs.{CheckEnds.{AnswersFault, AnswersLine, TellsFault, format_of, told_name}, FaultStatuses.fault_status}
use Rattle.uimg_tool.specs.{Answering.{Comes, OfFile}, FaultTexts.told_of_exit, JsonLines.shown_line, Statuses.{exit_status, request_status}}
use Rattle.uimg_tool.specs.declared.request_fault.RequestFault.{RequestFault}
use Rattle.uimg_tool.specs.{InfoEnds.{stop_of_parts, stop_of_survey}, declared.facts.Stop.Stop as NoFacts}
use Rattle.uimg_tool.specs.declared.facts.Stop.TheVariants as stop
use Rattle.uimg_tool.specs.Facts.{GivesFacts, IsFacts, IsObjectOf, IsTextOf, StopsBy, TellsFacts, code_member, facts_in, facts_of, facts_with, fault_as, legacy_facts, refusal_json}

as_blob : (path file : List ℕ) → true ≡ begins_as_blob file → facts_of path file ≡ fault_as of_fit (info_of path file)
as_blob path file blob = ap (λ (b : Bool). facts_in b path file) (sym blob)

refused_blob : (path file : List ℕ) (fault : BlobFault) (at : ℕ) (b : Bool) → refuses_memory fault ≡ b → true ≡ begins_as_blob file
    → (refuses_memory fault ≡ false → info_of path file ≡ Err (fit.Blob fault at))
    → (fault_status (engine.Blob fault at) ≡ 3) ⊎ (facts_of path file ≡ Err (engine.Blob fault at))
refused_blob path file fault at true is blob told = inl (ap (λ (b : Bool). if b then 3 else 1) is)
refused_blob path file fault at false is blob told = inr (as_blob path file blob ∙ ap (fault_as of_fit) (told is))

stops_blob : {X : Type 0} (view : X → List ℕ) (path file : List ℕ) (fault : SurveyFault) → true ≡ begins_as_blob file → Informs view path file (Err fault)
    → StopsBy (facts_of path file) (stop_of_survey fault)
stops_blob view path file (survey.Stopped (fit.Blob fault at)) blob told = refused_blob path file fault at (refuses_memory fault) refl blob told
stops_blob view path file (survey.Stopped (fit.Fit fault)) blob told = inr (as_blob path file blob ∙ ap (fault_as of_fit) told)
stops_blob view path file (survey.Stopped fit.Read) blob told = inl refl
stops_blob view path file (survey.Stopped fit.Put) blob told = absurd told
stops_blob view path file survey.OutOfMemory blob told = tt
stops_blob view path file survey.Changed blob told = absurd told

-- a FIT image that has no facts
pub fit_refused : {X : Type 0} (view : X → List ℕ) (path : List ℕ) (d e : Device) (fault : SurveyFault) → SameDevice d e → (IsTrue d.honest → true ≡ begins_as_blob d.bytes)
    → (IsTrue e.honest → Informs view path e.bytes (Err fault)) → IsTrue d.honest → StopsBy (facts_of path d.bytes) (stop_of_survey fault)
fit_refused view path d e fault same blob told honest =
    stops_blob view path d.bytes fault (blob honest) (subst (λ (file : List ℕ). Informs view path file (Err fault)) same.bytes (told (same.honest ∙ honest)))

-- one that has facts
pub fit_given : {Z : Type 0} (path : List ℕ) (d e : Device) (text : Vec ℕ Z) → SameDevice d e → (IsTrue d.honest → true ≡ begins_as_blob d.bytes)
    → (IsTrue e.honest → Informs (λ (text : Vec ℕ Z). text.items) path e.bytes (Ok text)) → IsTrue d.honest → GivesFacts (facts_of path d.bytes) (Ok text)
fit_given {Z = Z} path d e text same blob told honest =
    let informs = subst (λ (file : List ℕ). Informs (λ (text : Vec ℕ Z). text.items) path file (Ok text)) same.bytes (told (same.honest ∙ honest)) in
    (informs.0, as_blob path d.bytes (blob honest) ∙ ap (fault_as of_fit) informs.1, informs.2)

-- any other file
pub as_legacy : {Z : Type 0} (path : List ℕ) (d e : Device) (result : Result (Vec ℕ Z) NoFacts) → SameDevice d e → (IsTrue d.honest → false ≡ begins_as_blob d.bytes)
    → (IsTrue e.honest → GivesFacts (fault_as engine.Legacy (legacy_facts path e.bytes)) result) → IsTrue d.honest → GivesFacts (facts_of path d.bytes) result
as_legacy path d e result same other told honest =
    let gives = subst (λ (file : List ℕ). GivesFacts (fault_as engine.Legacy (legacy_facts path file)) result) same.bytes (told (same.honest ∙ honest)) in
    subst (λ (b : Bool). GivesFacts (facts_in b path d.bytes) result) (other honest) gives

with_header : (path file : List ℕ) (header : Header) → header_of file ≡ Ok header → legacy_facts path file ≡ facts_with path file header
with_header path file header is = ap (λ (r : Result Header LegacyFault). r >>= facts_with path file) is

-- a legacy image without a header
pub header_refused : (path file : List ℕ) (fault : LegacyEngineFault) → GivesBy header_of file (Err fault)
    → StopsBy (fault_as engine.Legacy (legacy_facts path file)) (stop.Refused (of_legacy fault))
header_refused path file (legacy.Legacy fault) told =
    inr (ap (λ (r : Result Header LegacyFault). fault_as engine.Legacy (r >>= facts_with path file)) told)
header_refused path file legacy.Read told = inl refl
header_refused path file legacy.Put told = inl refl

after_parts : (path file : List ℕ) (header : Header) (r : Result (List Span) LegacyFault) → header_of file ≡ Ok header → spans_of_parts file header ≡ r
    → legacy_facts path file ≡ (r >>= (λ (spans : List Span). Ok (legacy_json path (length file) header spans)))
after_parts path file header r is spans =
    with_header path file header is ∙ ap (λ (it : Result (List Span) LegacyFault). it >>= (λ (spans : List Span). Ok (legacy_json path (length file) header spans))) spans

stops_parts : {X : Type 0} (view : X → List Span) (path file : List ℕ) (header : Header) (fault : PartsFault) → header_of file ≡ Ok header
    → GivesPlaces view (Err fault) (spans_of_parts file header) → StopsBy (fault_as engine.Legacy (legacy_facts path file)) (stop_of_parts fault)
stops_parts view path file header (parts.Stopped (legacy.Legacy fault)) is told =
    inr (ap (fault_as engine.Legacy) (after_parts path file header (Err fault) is told))
stops_parts view path file header (parts.Stopped legacy.Read) is told = inl refl
stops_parts view path file header (parts.Stopped legacy.Put) is told = absurd told
stops_parts view path file header parts.OutOfMemory is told = tt

-- one whose parts are refused
pub parts_refused : {X : Type 0} (view : X → List Span) (path : List ℕ) (d e : Device) (header : Header) (fault : PartsFault) → SameDevice d e → (IsTrue d.honest → header_of d.bytes ≡ Ok header)
    → (IsTrue e.honest → GivesPlaces view (Err fault) (spans_of_parts e.bytes header)) → IsTrue d.honest
    → StopsBy (fault_as engine.Legacy (legacy_facts path d.bytes)) (stop_of_parts fault)
parts_refused view path d e header fault same is told honest =
    stops_parts view path d.bytes header fault (is honest) (subst (λ (file : List ℕ). GivesPlaces view (Err fault) (spans_of_parts file header)) same.bytes (told (same.honest ∙ honest)))

pub legacy_given : {Z : Type 0} (path : List ℕ) (d e f : Device) (size : ℕ) (header : Header) (shown spans : List Span) (text : Vec ℕ Z) → SameDevice d e → SameDevice e f
    → (IsTrue d.honest → header_of d.bytes ≡ Ok header) → (IsTrue e.honest → spans_of_parts e.bytes header ≡ Ok spans) → size ≡ length f.bytes → shown ≡ spans
    → IsTextOf (legacy_json path size header shown) text.items → IsTrue d.honest → GivesFacts (fault_as engine.Legacy (legacy_facts path d.bytes)) (Ok text)
legacy_given path d e f size header shown spans text same next is placed all are told honest =
    let found = subst (λ (file : List ℕ). spans_of_parts file header ≡ Ok spans) same.bytes (placed (same.honest ∙ honest)) in
    let whole = all ∙ ap (λ (file : List ℕ). length file) (next.bytes ∙ same.bytes) in (
      legacy_json path (length d.bytes) header spans,
      ap (fault_as engine.Legacy) (after_parts path d.bytes header (Ok spans) (is honest) found),
      subst (λ (n : ℕ). IsTextOf (legacy_json path n header spans) text.items) whole (subst (λ (it : List Span). IsTextOf (legacy_json path size header it) text.items) are told),
    )

-- an image that has facts
pub facts_told : {Z : Type 0} (path : List ℕ) (facts : Result Json Fault) (text : Vec ℕ Z) → GivesFacts facts (Ok text) → TellsFacts path facts 0 text.items
facts_told path facts text gives = subst (λ (it : Result Json Fault). TellsFacts path it 0 text.items) (sym gives.1) (refl, gives.2)

same_code : (code : Option (Bor (List ℕ))) → string_if (codes "fault") code ≡ code_member (told_name code)
same_code None = refl
same_code (Some code) = refl

-- what is told of a fault makes its object
refusal_object : (path : List ℕ) (fault : Fault) (why : Stop) → TellsFault fault 1 why → check_json path (answer.Refused why) ≡ refusal_json path fault
refusal_object path fault why told =
    let head = λ (format : Option Format). text_members (codes "path") path ++ (number_member (codes "status") 1 ++ (string_member (codes "verdict") (codes "refused") ++ format_if format)) in
    let object = λ (format : Option Format) (code : List Member) (message : List ℕ) (offset : Option ℕ). object_of (head format ++ (code ++ (string_member (codes "message") message ++ number_if (codes "offset") offset))) in
    ap (λ (format : Option Format). object format (string_if (codes "fault") why.code) why.message.now why.offset) told.format
    ∙ ap (λ (code : List Member). object (format_of fault) code why.message.now why.offset) (same_code why.code ∙ ap code_member told.code)
    ∙ ap (λ (message : List ℕ). object (format_of fault) (code_member (code_of fault)) message why.offset) told.message
    ∙ ap (λ (offset : Option ℕ). object (format_of fault) (code_member (code_of fault)) (text_of fault) offset) told.offset

refusal_told : (path : List ℕ) (facts : Result Json Fault) (fault : Fault) (told : Answer) (status : ℕ) (text : List ℕ) → AnswersFault fault told
    → (fault_status fault ≡ 3) ⊎ (facts ≡ Err fault) → status ≡ answer_status told → IsTextOf (check_json path told) text → (status ≡ 3) ⊎ TellsFacts path facts status text
refusal_told path facts fault (answer.Refused why) status text told (inl failed) is spells = absurd (omega (arith, sym told.status ∙ failed))
refusal_told path facts fault (answer.Refused why) status text told (inr same) is spells =
    inr (subst (λ (it : Result Json Fault). TellsFacts path it status text) (sym same) (is, (told.status, subst (λ (object : Json). IsTextOf object text) (refusal_object path fault why told) spells)))
refusal_told path facts fault (answer.Failed why) status text told given is spells = inl is
refusal_told path facts fault (answer.Found found more) status text told given is spells = absurd told
refusal_told path facts fault (answer.Missing _ property name) status text told given is spells = absurd told
refusal_told path facts fault (answer.Loose form why _ _) status text told given is spells = absurd told

-- one that has none
pub refused_told : {Z E : Type 0} (path : List ℕ) (facts : Result Json Fault) (fault : Fault) (told : Answer) (r : Result (Vec ℕ Z × ℕ) E) → AnswersFault fault told
    → (fault_status fault ≡ 3) ⊎ (facts ≡ Err fault) → IfOk r (λ found. found.1 ≡ answer_status told) → IfOk r (λ found. IsTextOf (check_json path told) found.0.items)
    → IfOk r (λ found. (found.1 ≡ 3) ⊎ TellsFacts path facts found.1 found.0.items)
refused_told path facts fault told (Ok found) answers given status text = refusal_told path facts fault told found.1 found.0.items answers given status text
refused_told path facts fault told (Err failed) answers given status text = tt

-- a file that could not be opened
pub line_fails : (told : Answer) → AnswersLine false told → answer_status told ≡ 3
line_fails (answer.Refused why) line = absurd (true≢false (sym line))
line_fails (answer.Failed why) line = refl
line_fails (answer.Found found more) line = absurd line
line_fails (answer.Missing _ property name) line = absurd line
line_fails (answer.Loose form why _ _) line = absurd line

pub unread_told : {Z E : Type 0} (files : FileMap) (path : List ℕ) (told : Answer) (r : Result (Vec ℕ Z × ℕ) E) → AnswersLine false told
    → IfOk r (λ found. found.1 ≡ answer_status told) → IfOk r (λ found. IsObjectOf files path found.1 found.0.items)
unread_told files path told (Ok found) line status = inl (status ∙ line_fails told line)
unread_told files path told (Err failed) line status = tt

-- a file that was opened
pub object_told : {Z E : Type 0} (files : FileMap) (path file : List ℕ) (r : Result (Vec ℕ Z × ℕ) E) → files.bytes path ≡ Some file
    → IfOk r (λ found. (found.1 ≡ 3) ⊎ TellsFacts path (facts_of path file) found.1 found.0.items) → IfOk r (λ found. IsObjectOf files path found.1 found.0.items)
object_told files path file (Ok found) bytes (inl failed) = inl failed
object_told files path file (Ok found) bytes (inr tells) = inr (file, bytes, tells)
object_told files path file (Err failed) bytes told = tt

-- the line of an object
pub facts_come : (files : FileMap) (path text : List ℕ) (given : ℕ) (end : Result ℕ RequestFault) (old new : Option (List ℕ)) → IsObjectOf files path given text → OnOk end (Appends old new (shown_line text))
    → IfOk end (λ status. status ≡ given) → IfErr end (λ fault. request_status fault ≡ 3) → Comes (OfFile files path (IsFacts path)) (exit_status end) (told_of_exit end) old new
facts_come files path text given (Ok status) old new (inl failed) put is fails = inl (is ∙ failed)
facts_come files path text given (Ok status) old new (inr found) put is fails =
    inr (found.0, found.1, (refl, (text, subst (λ (n : ℕ). TellsFacts path (facts_of path found.0) n text) (sym is) found.2, put)))
facts_come files path text given (Err fault) old new object put is fails = inl fails
