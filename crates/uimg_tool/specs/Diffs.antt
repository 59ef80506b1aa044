-- What the comparison of two images means.
use Rattle.std.specs.Prelude.{◌≡◌, ◌⊎◌, ⊤, ℕ, List, [], ◌∷◌, ◌++◌, codes, Bool, true, false, Option, Some, None, Vec, Result, Ok, Err}
use Rattle.std.specs.{Io.KnownBytes.{Appends, Keeps}, List.flat_map}
use Rattle.uimg_base.specs.{Named.FileMap, Results.◌>>=◌}
use Rattle.uimg_checks.specs.FaultStatuses.{fault_status}
use Rattle.uimg_engine.specs.{Faults.of_fit, FaultTexts.text_of}
use Rattle.uimg_engine.specs.declared.fault.Fault.{Fault, TheVariants.Legacy}
use Rattle.uimg_fit_base.specs.Files.{begins_as_blob}
use Rattle.uimg_cli.specs.declared.command_line.diff.DiffRequest.{DiffRequest}
use Rattle.uimg_info.specs.{Comparing.{Differs, compared}, DifferenceLines.line_as}
use Rattle.uimg_info.specs.{LegacyFields.legacy_stated, Statement.{Stated, all_stated}, Statements.fit_stated}
use Rattle.uimg_info.specs.declared.comparing.CompareFault.{CompareFault}
use Rattle.uimg_info.specs.declared.comparing.CompareFault.TheVariants.{TwiceInOld, TwiceInNew, OutOfMemory}
use Rattle.uimg_info.specs.declared.statement.Statement.{Statement}
use Rattle.uimg_legacy.specs.declared.{fault.LegacyFault.LegacyFault, header.Header.Header}
use Rattle.uimg_legacy.specs.{Header.header as header_of, Placing.spans_of_parts}
use Rattle.uimg_printing.specs.Printing.{printed}
use Rattle.uimg_tool.specs.{Answering.{Meant, OfFile}, Facts.{StopsBy, fault_as}, FaultTexts.told_of, Statuses.request_status}
use Rattle.uimg_tool.specs.declared.request_fault.RequestFault.{RequestFault}
use Rattle.uimg_tool.specs.declared.facts.Stop.{Stop}

-- what a legacy image states, or its first fault
abbrev pub stated_with : List ℕ → Header → Result (List Stated) LegacyFault
stated_with file header = do
  parts ← spans_of_parts file header
  Ok (legacy_stated file header parts)

abbrev pub legacy_states : List ℕ → Result (List Stated) LegacyFault
legacy_states file = do
  header ← header_of file
  stated_with file header

-- what an image states, or its first fault: of a FIT image if it begins as a blob, else of a legacy one
abbrev pub stated_in : Bool → List ℕ → Result (List Stated) Fault
stated_in true file = fault_as of_fit (fit_stated file)
stated_in false file = fault_as Legacy (legacy_states file)

abbrev pub stated_of : List ℕ → Result (List Stated) Fault
stated_of file = stated_in (begins_as_blob file) file

-- The result is the statements, or why there are none.
abbrev pub GivesStated : {Z : Type 0} → Result (List Stated) Fault → Result (Vec Statement Z) Stop → Type 0
GivesStated wanted (Ok all) = wanted ≡ Ok (all_stated all)
GivesStated wanted (Err why) = StopsBy wanted why

-- what is told of an image at a path
abbrev pub in_image : List ℕ → List ℕ → Option (Option (List ℕ))
in_image path text = Some (Some (printed false path ++ codes ": " ++ text))

-- The image at a path is refused with a status: this is told, and nothing is printed.
abbrev pub IsRefusedFor : ℕ → List ℕ → List ℕ → Meant
IsRefusedFor wanted path text status told old new =
    (status ≡ wanted) × (told ≡ in_image path text) × Keeps old new

-- what is told of an image with two nodes or two properties of a name
abbrev pub twice_text : List ℕ
twice_text = codes "two nodes or properties have the same name"

-- the status of images with these differences
abbrev pub status_of_differences : List Differs → ℕ
status_of_differences [] = 0
status_of_differences (d ∷ ds) = 1

-- The differences are printed, a line each, and nothing is told.
abbrev pub IsPrinted : Bool → List Differs → Meant
IsPrinted as_json found status told old new = (status ≡ status_of_differences found)
    × (told ≡ None) × Appends old new (flat_map (line_as as_json) found)

-- .. or one of the requested images is refused
abbrev pub IsCompared : DiffRequest → Result (List Differs) CompareFault → Meant
IsCompared request (Ok found) = IsPrinted request.as_json found
IsCompared request (Err TwiceInOld) = IsRefusedFor 1 request.old.now twice_text
IsCompared request (Err TwiceInNew) = IsRefusedFor 1 request.new.now twice_text
IsCompared request (Err OutOfMemory) = λ status told old new. ⊤

-- what is meant after the first image has been read, and by what the second states
abbrev pub MeansSecond : DiffRequest → List Stated → Result (List Stated) Fault → Meant
MeansSecond request old (Err fault) =
    IsRefusedFor (fault_status fault) request.new.now (text_of fault)
MeansSecond request old (Ok new) = IsCompared request (compared old new)

abbrev pub MeansNext : DiffRequest → List Stated → List ℕ → Meant
MeansNext request old file = MeansSecond request old (stated_of file)

-- what is meant by what the first image states
abbrev pub MeansFirst : DiffRequest → FileMap → Result (List Stated) Fault → Meant
MeansFirst request files (Err fault) =
    IsRefusedFor (fault_status fault) request.old.now (text_of fault)
MeansFirst request files (Ok old) = OfFile files request.new.now (MeansNext request old)

-- what the comparison of two images means
abbrev pub MeansDiff : DiffRequest → FileMap → Meant
MeansDiff request files =
    OfFile files request.old.now (λ file. MeansFirst request files (stated_of file))

-- The file at a path is refused.
pub record RefusesFile (files : FileMap) (path : List ℕ) (told : RequestFault) : Type 0 where
  pub file : List ℕ
  pub is : files.bytes path ≡ Some file
  pub fault : Fault
  pub refused : stated_of file ≡ Err fault
  pub status : request_status told ≡ fault_status fault
  pub line : told_of told ≡ in_image path (text_of fault)

-- The result is the statements of the file at a path, or it is refused, or a call failed.
abbrev pub ReadsStated : {Z : Type 0} → FileMap → List ℕ → Result (Vec Statement Z) RequestFault → Type 0
ReadsStated files path (Ok all) =
    (file : List ℕ) × (files.bytes path ≡ Some file) × (stated_of file ≡ Ok (all_stated all))
ReadsStated files path (Err told) = (request_status told ≡ 3) ⊎ RefusesFile files path told
