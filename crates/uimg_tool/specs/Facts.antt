-- The facts of an image, and what is answered of a file by them.
use Rattle.std.specs.Prelude.{◌≡◌, ◌⊎◌, ⊤, ℕ, List, [], ◌++◌, codes, length, Option, Some, None, Bool, true, false, Vec, Result, Ok, Err}
use Rattle.std.specs.Io.KnownBytes.{Appends}
use Rattle.json.specs.{Json.Json, Print.print, Tree.json_tokens}
use Rattle.uimg_base.specs.{Named.FileMap, Results.◌>>=◌}
use Rattle.uimg_fit_base.specs.Files.{begins_as_blob}
use Rattle.uimg_legacy.specs.declared.{fault.LegacyFault.LegacyFault, header.Header.Header}
use Rattle.uimg_legacy.specs.{Header.header as header_of, Placing.spans_of_parts}
use Rattle.uimg_info.specs.{Fit.info_of, Legacy.legacy_json}
use Rattle.uimg_engine.specs.{Faults.of_fit, FaultTexts.{code_of, text_of}}
use Rattle.uimg_engine.specs.declared.fault.Fault.{Fault, TheVariants.Legacy}
use Rattle.uimg_checks.specs.Objects.{format_if}
use Rattle.uimg_printing.specs.Members.{Member, object_of, number_if, number_member, string_member, text_members}
use Rattle.uimg_checks.specs.{CheckEnds.{format_of, offset_of}, FaultStatuses.fault_status}
use Rattle.uimg_tool.specs.{Answering.Meant, JsonLines.shown_line}
use Rattle.uimg_tool.specs.declared.facts.Stop.{Stop as NoFacts}
use Rattle.uimg_tool.specs.declared.facts.Stop.TheVariants as stop

-- the object of a legacy image with this header at a path, or its first fault
abbrev pub facts_with : List ℕ → List ℕ → Header → Result Json LegacyFault
facts_with path file header = do
  parts ← spans_of_parts file header
  Ok (legacy_json path (length file) header parts)

abbrev pub legacy_facts : List ℕ → List ℕ → Result Json LegacyFault
legacy_facts path file = do
  header ← header_of file
  facts_with path file header

-- the same, with the fault as one of any image
abbrev pub fault_as : {X F : Type 0} → (F → Fault) → Result X F → Result X Fault
fault_as name (Ok x) = Ok x
fault_as name (Err fault) = Err (name fault)

-- the object of an image at a path, or its first fault: of a FIT image if it begins as a blob, else
-- of a legacy one
abbrev pub facts_in : Bool → List ℕ → List ℕ → Result Json Fault
facts_in true path file = fault_as of_fit (info_of path file)
facts_in false path file = fault_as Legacy (legacy_facts path file)

abbrev pub facts_of : List ℕ → List ℕ → Result Json Fault
facts_of path file = facts_in (begins_as_blob file) path file

-- The text is that of an object.
abbrev pub IsTextOf : Json → List ℕ → Type 0
IsTextOf told text = text ≡ print (json_tokens told)

-- Facts are not told for this reason: it is their fault, or a read failed or memory was refused.
abbrev pub StopsBy : {X : Type 0} → Result X Fault → NoFacts → Type 0
StopsBy facts (stop.Refused fault) = (fault_status fault ≡ 3) ⊎ (facts ≡ Err fault)
StopsBy facts stop.Changed = ⊥
StopsBy facts stop.NoMemory = ⊤

-- The result is the text of the object, or why there is none.
abbrev pub GivesFacts : {Z : Type 0} → Result Json Fault → Result (Vec ℕ Z) NoFacts → Type 0
GivesFacts facts (Ok text) = (told : Json) × (facts ≡ Ok told) × IsTextOf told text.items
GivesFacts facts (Err why) = StopsBy facts why

-- the member of a fault's code, if it has one
abbrev pub code_member : Option (List ℕ) → List Member
code_member None = []
code_member (Some code) = string_member (codes "fault") code

-- the object of an image at a path that this fault refuses (docs/JSON.md)
abbrev pub refusal_json : List ℕ → Fault → Json
refusal_json path fault = object_of (text_members (codes "path") path
    ++ (number_member (codes "status") 1
    ++ (string_member (codes "verdict") (codes "refused") ++ format_if (format_of fault)))
    ++ (code_member (code_of fault) ++ (string_member (codes "message") (text_of fault)
    ++ number_if (codes "offset") (offset_of fault))))

-- The fault is a refusal, and the text is that of its object.
abbrev pub IsRefusal : List ℕ → Fault → List ℕ → Type 0
IsRefusal path fault text = (fault_status fault ≡ 1) × IsTextOf (refusal_json path fault) text

-- A status and a text are those of facts at a path: 0 and their object, or 1 and a refusal.
abbrev pub TellsFacts : List ℕ → Result Json Fault → ℕ → List ℕ → Type 0
TellsFacts path (Ok told) status text = (status ≡ 0) × IsTextOf told text
TellsFacts path (Err fault) status text = (status ≡ 1) × IsRefusal path fault text

-- the same for the facts of a file, with the text as a line, and nothing is told
abbrev pub IsFacts : List ℕ → List ℕ → Meant
IsFacts path file status told old new = (told ≡ None) × ((text : List ℕ)
    × TellsFacts path (facts_of path file) status text × Appends old new (shown_line text))

-- A status and a text are those of the facts of the file at a path, unless the status is that of a
-- failure.
abbrev pub IsObjectOf : FileMap → List ℕ → ℕ → List ℕ → Type 0
IsObjectOf files path status text = (status ≡ 3)
    ⊎ ((file : List ℕ) × (files.bytes path ≡ Some file)
    × TellsFacts path (facts_of path file) status text)
