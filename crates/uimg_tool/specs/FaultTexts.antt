-- What is printed on standard error: about a request not carried out, and about what was found.
use Rattle.std.specs.Prelude.{ℕ, List, ◌++◌, codes, Option, Some, None, Result, Ok, Err, false, string_bytes}
use Rattle.std.specs.Borrow.{Bor}
use Rattle.uimg_base.specs.Outcome.{End, done, not_right, refused}
use Rattle.uimg_base.specs.declared.status.Status.{Status}
use Rattle.uimg_cli.specs.FaultTexts as words
use Rattle.uimg_cli.specs.declared.command_line.words_fault.WordsFault.TheVariants.{NoImages}
use Rattle.uimg_engine.specs.FaultTexts.{text_of}
use Rattle.uimg_engine.specs.declared.fault.Fault.{Fault}
use Rattle.uimg_map.specs.FaultTexts as mapped
use Rattle.uimg_map.specs.declared.fault.MapFault.{MapFault}
use Rattle.uimg_printing.specs.Printing.{printed}
use Rattle.uimg_tool.specs.declared.complaint.Complaint.{Complaint}
use Rattle.uimg_tool.specs.declared.complaint.Complaint.TheVariants as complaint
use Rattle.uimg_tool.specs.declared.request_fault.RequestFault.{RequestFault}
use Rattle.uimg_tool.specs.declared.request_fault.RequestFault.TheVariants as request

-- the text of a picture that would be written to its image
abbrev pub draws_over : List ℕ → List ℕ
draws_over path = printed false path ++ codes " would be written while it is read"

-- the text of any other file that would be
abbrev pub writes_over : Bor (List ℕ) → Option (List ℕ)
writes_over path = Some (path.now ++ codes " would be written while it is read")

-- the text of a fault, unless it has the system's reason or that of another part
abbrev pub request_text : RequestFault → Option (List ℕ)
request_text (request.CannotRead path) = Some (codes "cannot read " ++ path.now)
request_text (request.CannotWrite path reason) = Some (codes "cannot write " ++ path.now)
request_text (request.NotPut path reason) = Some (codes "write failed")
request_text (request.NotPrinted reason) = Some (codes "write failed")
request_text (request.Exists path) =
    Some (printed false path.0.now ++ codes " exists; use --force to replace it")
request_text (request.WritesWhatIsRead path) = writes_over path
request_text (request.DrawsOverWhatIsRead path) = Some (draws_over path.0.now)
request_text (request.IsNoReport path) =
    Some (printed false path.0.now ++ codes " is no report, and is not replaced")
request_text (request.NoRoom path) = Some (codes "-x: " ++ path.now
    ++ codes " does not begin with 64 bytes 0xff, which the header replaces")
request_text request.OutOfMemory = Some (codes "out of memory")
request_text (request.Stopped fault) = Some (text_of fault)
request_text (request.Mapped fault) = Some (mapped.text_of fault)
request_text (request.Unmapped fault) = Some (mapped.text_of fault)
request_text request.NoImages = Some (words.text_of NoImages)
request_text request.NoHash = Some (codes "no image has a hash, as there is none")
request_text (request.InImage path fault) = Some (printed false path.0.now ++ codes ": " ++ text_of fault)
request_text (request.Twice path) =
    Some (printed false path.0.now ++ codes ": two nodes or properties have the same name")
request_text fault = None

-- what is told of a fault: nothing where nobody reads it, or a line
abbrev pub told_of : RequestFault → Option (Option (List ℕ))
told_of request.Closed = None
told_of fault = Some (request_text fault)

-- what is told of the end of a request
abbrev pub told_of_end : Result Status RequestFault → Option (Option (List ℕ))
told_of_end (Ok status) = None
told_of_end (Err fault) = told_of fault

-- the same of a command that gives its status
abbrev pub told_of_exit : Result ℕ RequestFault → Option (Option (List ℕ))
told_of_exit (Ok status) = None
told_of_exit (Err fault) = told_of fault

-- the text of what is told of a command, unless that of a trouble
abbrev pub complaint_text : Complaint → Option (List ℕ)
complaint_text (complaint.Request fault) = request_text fault
complaint_text (complaint.Unsigned line has_failed) = Some (string_bytes line)
complaint_text (complaint.Troubled trouble) = None

abbrev pub told_of_complaint : Result ℕ Complaint → Option (Option (List ℕ))
told_of_complaint (Ok status) = None
told_of_complaint (Err (complaint.Request fault)) = told_of fault
told_of_complaint (Err told) = Some (complaint_text told)

-- what is told of an outcome
abbrev pub told_of_outcome : End Fault → Option (Option (List ℕ))
told_of_outcome done = None
told_of_outcome not_right = None
told_of_outcome (refused fault) = Some (Some (text_of fault))

-- what is told of the making of an image: its fault, if it has one
abbrev pub told_of_made : {K : Type 0} → Result K Fault → Option (Option (List ℕ))
told_of_made (Ok kept) = None
told_of_made (Err fault) = Some (Some (text_of fault))

-- what is told of a map: the fault of its image, if it has one
abbrev pub told_of_map : Option MapFault → Option (Option (List ℕ))
told_of_map None = None
told_of_map (Some fault) = Some (Some (mapped.text_of fault))
