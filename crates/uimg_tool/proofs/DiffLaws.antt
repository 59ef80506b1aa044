-- What is told of the comparison of two images.
use Rattle.std.proofs.Common.{◌≡◌, ℕ, List, [], ◌∷◌, ◌++◌, map, Bool, true, false, Option, Some, None, Result, Ok, Err, Vec, inl, inr, refl, ap, sym, subst, ◌∙◌}
use Rattle.std.specs.Prelude.{IsTrue}
use Rattle.std.specs.{Io.KnownBytes.{Appends, Keeps}, List.flat_map}
use Rattle.std.proofs.lemmas.Bool.{false≢true}
use Rattle.uimg_base.specs.{Device.{Device, SameDevice}, Named.{FileMap, SameFiles}, Results.◌>>=◌, declared.spans.Span.Span}
use Rattle.uimg_cli.specs.declared.command_line.diff.DiffRequest.{DiffRequest}
use Rattle.uimg_engine.specs.{Faults.{of_fit, of_legacy}}
use Rattle.uimg_engine.specs.declared.fault.Fault.{Fault}
use Rattle.uimg_engine.specs.declared.fault.Fault.TheVariants as engine
use Rattle.uimg_fit_base.specs.Files.{begins_as_blob}
use Rattle.uimg_fit_base.specs.declared.fault.Fault.TheVariants as fit
use Rattle.uimg_fit_checking.specs.SurveyParts.{is_own}
use Rattle.uimg_fit_checking.specs.declared.surveying.fault.SurveyFault.{SurveyFault}
use Rattle.uimg_fit_checking.specs.declared.surveying.fault.SurveyFault.TheVariants as survey
use Rattle.uimg_info.specs.{Comparing.{Differs, compared, differs}, DifferenceLines.{line_as, line_at}, LegacyFields.legacy_stated, Statement.{Stated, all_stated, stated}, Statements.{StatesFit, fit_stated}}
use Rattle.uimg_info.specs.declared.{comparing.{CompareFault.CompareFault, Difference.Difference}, statement.Statement.Statement}
use Rattle.uimg_info.specs.declared.comparing.CompareFault.TheVariants.{TwiceInOld, TwiceInNew}
use Rattle.uimg_legacy.specs.{Faults.GivesBy, Header.header as header_of, Placing.{GivesPlaces, spans_of_parts}}
use Rattle.uimg_legacy.specs.declared.header.Header.{Header}
use Rattle.uimg_legacy.specs.declared.fault.Fault.{Fault as LegacyEngineFault}
use Rattle.uimg_legacy.specs.declared.fault.Fault.TheVariants as legacy
use Rattle.uimg_legacy.specs.declared.fault.LegacyFault.{LegacyFault}
use Rattle.uimg_legacy.specs.declared.placing.PartsFault.{PartsFault}
use Rattle.uimg_legacy.specs.declared.placing.PartsFault.TheVariants as parts
use Rattle.uimg_tool.specs.{Answering.{Comes, OfFile}, Facts.{StopsBy, fault_as}, FaultTexts.told_of, InfoEnds.{stop_of_parts, stop_of_survey}, Statuses.request_status}
use Rattle.uimg_tool.specs.Diffs.{GivesStated, IsCompared, IsPrinted, MeansDiff, MeansFirst, MeansNext, MeansSecond, ReadsStated, in_image, legacy_states, stated_in, stated_of, stated_with, status_of_differences, twice_text}
use Rattle.uimg_tool.specs.declared.facts.Stop.{Stop}
use Rattle.uimg_tool.specs.declared.facts.Stop.TheVariants as stop
use Rattle.uimg_tool.specs.declared.request_fault.RequestFault.{RequestFault}

as_blob : (file : List ℕ) → true ≡ begins_as_blob file → stated_of file ≡ fault_as of_fit (fit_stated file)
as_blob file blob = ap (λ (b : Bool). stated_in b file) (sym blob)

-- a FIT image
pub fit_given : {Z : Type 0} (d e : Device) (all : Vec Statement Z) → SameDevice d e → (IsTrue d.honest → true ≡ begins_as_blob d.bytes)
    → (IsTrue e.honest → StatesFit e.bytes (Ok all)) → IsTrue d.honest → GivesStated (stated_of d.bytes) (Ok all)
fit_given d e all same blob told honest =
    as_blob d.bytes (blob honest) ∙ ap (fault_as of_fit) (subst (λ (file : List ℕ). StatesFit file (Ok all)) same.bytes (told (same.honest ∙ honest)))

-- any other file
pub as_legacy : {Z : Type 0} (d e : Device) (result : Result (Vec Statement Z) Stop) → SameDevice d e → (IsTrue d.honest → false ≡ begins_as_blob d.bytes)
    → (IsTrue e.honest → GivesStated (fault_as engine.Legacy (legacy_states e.bytes)) result) → IsTrue d.honest → GivesStated (stated_of d.bytes) result
as_legacy d e result same other told honest =
    let gives = subst (λ (file : List ℕ). GivesStated (fault_as engine.Legacy (legacy_states file)) result) same.bytes (told (same.honest ∙ honest)) in
    subst (λ (b : Bool). GivesStated (stated_in b d.bytes) result) (other honest) gives

with_header : (file : List ℕ) (header : Header) → header_of file ≡ Ok header → legacy_states file ≡ stated_with file header
with_header file header is = ap (λ (r : Result Header LegacyFault). r >>= stated_with file) is

-- a legacy image without a header
pub header_refused : (file : List ℕ) (fault : LegacyEngineFault) → GivesBy header_of file (Err fault)
    → StopsBy (fault_as engine.Legacy (legacy_states file)) (stop.Refused (of_legacy fault))
header_refused file (legacy.Legacy fault) told =
    inr (ap (λ (r : Result Header LegacyFault). fault_as engine.Legacy (r >>= stated_with file)) told)
header_refused file legacy.Read told = inl refl
header_refused file legacy.Put told = inl refl

after_parts : (file : List ℕ) (header : Header) (r : Result (List Span) LegacyFault) → header_of file ≡ Ok header → spans_of_parts file header ≡ r
    → legacy_states file ≡ (r >>= (λ (spans : List Span). Ok (legacy_stated file header spans)))
after_parts file header r is spans =
    with_header file header is ∙ ap (λ (it : Result (List Span) LegacyFault). it >>= (λ (spans : List Span). Ok (legacy_stated file header spans))) spans

stops_parts : {X : Type 0} (view : X → List Span) (file : List ℕ) (header : Header) (fault : PartsFault) → header_of file ≡ Ok header
    → GivesPlaces view (Err fault) (spans_of_parts file header) → StopsBy (fault_as engine.Legacy (legacy_states file)) (stop_of_parts fault)
stops_parts view file header (parts.Stopped (legacy.Legacy fault)) is told =
    inr (ap (fault_as engine.Legacy) (after_parts file header (Err fault) is told))
stops_parts view file header (parts.Stopped legacy.Read) is told = inl refl
stops_parts view file header (parts.Stopped legacy.Put) is told = absurd told
stops_parts view file header parts.OutOfMemory is told = tt

-- one whose parts are refused
pub parts_refused : {X : Type 0} (view : X → List Span) (d e : Device) (header : Header) (fault : PartsFault) → SameDevice d e → (IsTrue d.honest → header_of d.bytes ≡ Ok header)
    → (IsTrue e.honest → GivesPlaces view (Err fault) (spans_of_parts e.bytes header)) → IsTrue d.honest
    → StopsBy (fault_as engine.Legacy (legacy_states d.bytes)) (stop_of_parts fault)
parts_refused view d e header fault same is told honest =
    stops_parts view d.bytes header fault (is honest) (subst (λ (file : List ℕ). GivesPlaces view (Err fault) (spans_of_parts file header)) same.bytes (told (same.honest ∙ honest)))

pub legacy_given : {Z : Type 0} (d e f : Device) (header : Header) (shown spans : List Span) (all : Vec Statement Z) → SameDevice d e → SameDevice e f
    → (IsTrue d.honest → header_of d.bytes ≡ Ok header) → (IsTrue e.honest → spans_of_parts e.bytes header ≡ Ok spans) → shown ≡ spans
    → (IsTrue f.honest → all_stated all ≡ legacy_stated f.bytes header shown) → IsTrue d.honest → GivesStated (fault_as engine.Legacy (legacy_states d.bytes)) (Ok all)
legacy_given d e f header shown spans all same next is placed are told honest =
    let there = same.honest ∙ honest in
    let found = subst (λ (file : List ℕ). spans_of_parts file header ≡ Ok spans) same.bytes (placed there) in
    let states = subst (λ (file : List ℕ). all_stated all ≡ legacy_stated file header shown) (next.bytes ∙ same.bytes) (told (next.honest ∙ there)) in
    ap (fault_as engine.Legacy) (after_parts d.bytes header (Ok spans) (is honest) found)
    ∙ ap (λ (l : List Stated). Ok l) (sym (states ∙ ap (legacy_stated d.bytes header) are))

-- a failed read or refused memory
pub own_stops : {X : Type 0} (wanted : Result X Fault) (fault : SurveyFault) → is_own fault ≡ true → StopsBy wanted (stop_of_survey fault)
own_stops wanted (survey.Stopped (fit.Blob fault at)) own = absurd (false≢true own)
own_stops wanted (survey.Stopped (fit.Fit fault)) own = absurd (false≢true own)
own_stops wanted (survey.Stopped fit.Read) own = inl refl
own_stops wanted (survey.Stopped fit.Put) own = absurd (false≢true own)
own_stops wanted survey.OutOfMemory own = tt
own_stops wanted survey.Changed own = absurd (false≢true own)

-- the statements of the file at a path
pub file_read : {Z : Type 0} (files : FileMap) (path file : List ℕ) (all : Vec Statement Z) → files.bytes path ≡ Some file
    → GivesStated (stated_of file) (Ok all) → ReadsStated files path (Ok all)
file_read files path file all is gives = (file, is, gives)

kept : (text : Option (List ℕ)) → Keeps text text
kept None = tt
kept (Some bytes) = refl

module _ (files : FileMap) (request : DiffRequest) (old new : Option (List ℕ)) where
  -- the first image is read, and nothing has changed since
  pub first_read : {Z : Type 0} (later : FileMap) (one : Vec Statement Z) (shown : List Statement) (status : ℕ) (told : Option (Option (List ℕ))) → SameFiles files later
      → ReadsStated files request.old.now (Ok one) → shown ≡ one.items → Comes (OfFile later request.new.now (MeansNext request (map stated shown))) status told old new
      → Comes (MeansDiff request files) status told old new
  first_read later one shown status told same read are (inl failed) = inl failed
  first_read later one shown status told same read are (inr means) = inr (
    read.0,
    read.1,
    subst (λ (r : Result (List Stated) Fault). MeansFirst request files r status told old new) (sym read.2) (
      means.0,
      ap (λ (f : List ℕ → Option (List ℕ)). f request.new.now) (sym same.bytes) ∙ means.1,
      subst (λ (l : List Statement). MeansNext request (map stated l) means.0 status told old new) are means.2,
    ),
  )

  -- the second image is read
  pub both_read : {Z : Type 0} (stated_first : List Stated) (other : Vec Statement Z) (shown : List Statement) (status : ℕ) (told : Option (Option (List ℕ)))
      → ReadsStated files request.new.now (Ok other) → shown ≡ other.items
      → Comes (IsCompared request (compared stated_first (map stated shown))) status told old new
      → Comes (OfFile files request.new.now (MeansNext request stated_first)) status told old new
  both_read stated_first other shown status told read are (inl failed) = inl failed
  both_read stated_first other shown status told read are (inr means) = inr (
    read.0,
    read.1,
    subst (λ (r : Result (List Stated) Fault). MeansSecond request stated_first r status told old new) (sym read.2)
        (subst (λ (l : List Statement). IsCompared request (compared stated_first (map stated l)) status told old new) are means),
  )

module _ (request : DiffRequest) (a b : List Stated) (old new : Option (List ℕ)) where
  -- the images are compared
  pub compared_printed : (found shown : List Difference) (status : ℕ) (told : Option (Option (List ℕ))) → compared a b ≡ Ok (map differs found) → shown ≡ found
      → Comes (IsPrinted request.as_json (map differs shown)) status told old new → Comes (IsCompared request (compared a b)) status told old new
  compared_printed found shown status told is are comes =
      subst (λ (r : Result (List Differs) CompareFault). Comes (IsCompared request r) status told old new) (sym is)
      (subst (λ (l : List Difference). Comes (IsPrinted request.as_json (map differs l)) status told old new) are comes)

  -- one of them has two statements of a key
  pub compared_first : (fault : RequestFault) → compared a b ≡ Err TwiceInOld → request_status fault ≡ 1 → told_of fault ≡ in_image request.old.now twice_text
      → Comes (IsCompared request (compared a b)) (request_status fault) (told_of fault) old old
  compared_first fault is status line =
      subst (λ (r : Result (List Differs) CompareFault). Comes (IsCompared request r) (request_status fault) (told_of fault) old old) (sym is)
      (inr (status, line, kept old))

  pub compared_second : (fault : RequestFault) → compared a b ≡ Err TwiceInNew → request_status fault ≡ 1 → told_of fault ≡ in_image request.new.now twice_text
      → Comes (IsCompared request (compared a b)) (request_status fault) (told_of fault) old old
  compared_second fault is status line =
      subst (λ (r : Result (List Differs) CompareFault). Comes (IsCompared request r) (request_status fault) (told_of fault) old old) (sym is)
      (inr (status, line, kept old))

lines : (as_json : Bool) (found : List Difference) → flat_map (line_at as_json) found ≡ flat_map (line_as as_json) (map differs found)
lines as_json [] = refl
lines as_json (d ∷ found) = ap (λ (l : List ℕ). line_at as_json d ++ l) (lines as_json found)

-- the lines are printed
pub found_printed : (as_json : Bool) (found : List Difference) (status : ℕ) (old new : Option (List ℕ)) → status ≡ status_of_differences (map differs found)
    → Appends old new (flat_map (line_at as_json) found) → Comes (IsPrinted as_json (map differs found)) status None old new
found_printed as_json found status old new is put = inr (is, refl, subst (λ (text : List ℕ). Appends old new text) (lines as_json found) put)
