-- Which tool a command line is for, and whether its words ask for nothing.
use Rattle.std.specs.Prelude.{◌≡◌, ℕ, List, [], ◌∷◌, ◌||◌, codes, drop, map, Option, Some, None, Result, is_err, true, if◌then◌else◌}
use Rattle.std.specs.{Option.option_map, Str.bytes_eq}
use Rattle.uimg_cli.specs.Reading.{AsksNothing}
use Rattle.uimg_compat.specs.Asked.{asked_of}
use Rattle.uimg_compat.specs.AutoSource.{file_name}
use Rattle.uimg_compat.specs.Dumpimage.{dumpimage_asked}
use Rattle.uimg_compat.specs.Getopt.{Text}
use Rattle.uimg_compat.specs.Requests.{mkimage_asked}
use Rattle.uimg_compat.specs.Wrong.{Tells}
use Rattle.uimg_compat.specs.declared.{fault.OldFault.OldFault, request.OldRequest.OldRequest}
use Rattle.uimg_tool.specs.declared.command_line.CommandLine.{CommandLine}
use Rattle.uimg_tool.specs.declared.old_tools.Tool.{Tool}
use Rattle.uimg_tool.specs.declared.old_tools.Tool.TheVariants.{Mkimage, Dumpimage}

-- the words of a command line, and the text of SOURCE_DATE_EPOCH
abbrev pub words_of : CommandLine → List Text
words_of line = map (λ word. word.now) line.words.now

abbrev pub epoch_of : CommandLine → Option Text
epoch_of line = option_map (λ text. text.now) line.epoch

-- the tool of a name, with or without `uimg-` before it
unfoldable pub tool_named : Text → Option Tool
tool_named name =
    if bytes_eq name (codes "mkimage") || bytes_eq name (codes "uimg-mkimage") then Some Mkimage
    else if bytes_eq name (codes "dumpimage") || bytes_eq name (codes "uimg-dumpimage") then Some Dumpimage
    else None

-- the name of a tool
abbrev pub name_of : Tool → Text
name_of Mkimage = codes "mkimage"
name_of Dumpimage = codes "dumpimage"

-- the tool of a command line, whose first word is the program's path
abbrev pub tool_of : List Text → Option Tool
tool_of [] = None
tool_of (path ∷ words) = tool_named (file_name path)

-- The answer is what the words behind a tool's name ask for, or what is wrong with them, unless
-- memory ran out.
unfoldable pub ReadsOld : Tool → Option Text → ℕ → List Text → Result OldRequest OldFault → Type 0
ReadsOld Mkimage epoch moment words result =
    Tells asked_of (mkimage_asked (drop 1 words) epoch moment) result
ReadsOld Dumpimage epoch moment words result =
    Tells asked_of (dumpimage_asked (drop 1 words)) result

-- The words behind a tool's name ask for nothing.
unfoldable pub OldAsksNothing : Tool → Option Text → ℕ → List Text → Type 0
OldAsksNothing Mkimage epoch moment words =
    is_err (mkimage_asked (drop 1 words) epoch moment) ≡ true
OldAsksNothing Dumpimage epoch moment words = is_err (dumpimage_asked (drop 1 words)) ≡ true

-- The words of a command line ask for nothing: those of `uimg`, or of the tool whose name it has.
abbrev pub AskNothingOf : Option Tool → Option Text → ℕ → List Text → Type 0
AskNothingOf None epoch moment words = AsksNothing epoch moment words
AskNothingOf (Some tool) epoch moment words = OldAsksNothing tool epoch moment words

abbrev pub AskNothing : Option Text → ℕ → List Text → Type 0
AskNothing epoch moment words = AskNothingOf (tool_of words) epoch moment words
