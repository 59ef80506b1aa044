-- The command line of `uimg`: its commands, and what its words ask for.
use Rattle.std.specs.Prelude.{ℕ, List, [], ◌∷◌, Option, Some, None, Result, Ok, Err, ◌⊎◌, codes, fold, if◌then◌else◌, map, true}
use Rattle.std.specs.Str.{bytes_eq}
use Rattle.clap.specs.Faults.{fault_of}
use Rattle.clap.specs.Kinds.{Kinds}
use Rattle.clap.specs.Simple.{App, new_app, new_rule, on_top, subcommand_of, with_rule, with_subcommand}
use Rattle.clap.specs.Walk.{Row, Rule, Text}
use Rattle.clap.specs.declared.builder.action.ArgAction.TheVariants.{Version}
use Rattle.clap.specs.declared.error.kind.ErrorKind.{ErrorKind}
use Rattle.clap.specs.declared.error.kind.ErrorKind.TheVariants.{DisplayHelp, DisplayVersion}
use Rattle.uimg_cli.specs.Check.{check, check_asked}
use Rattle.uimg_cli.specs.Diff.{diff, diff_asked}
use Rattle.uimg_cli.specs.Dumpimage.{dumpimage, dumpimage_asked}
use Rattle.uimg_cli.specs.Info.{info, info_asked}
use Rattle.uimg_cli.specs.Map.{map_asked, map_command}
use Rattle.uimg_cli.specs.Mkimage.{mkimage, mkimage_asked}
use Rattle.uimg_cli.specs.Unpack.{unpack, unpack_asked}
use Rattle.uimg_cli.specs.Verify.{verify, verify_asked}
use Rattle.uimg_cli.specs.Wanted.{Wanted, checks, compares, informs, maps, runs, shows, unpacks}
use Rattle.uimg_cli.specs.Wrong.{Tells, Wrong, and_then, no_command, no_subcommand}
use Rattle.uimg_cli.specs.declared.command_line.words_fault.WordsFault.{WordsFault}

-- the option --version
abbrev pub version_rule : Rule
version_rule = record (new_rule (codes "version")) {
  long = Some (codes "version");
  action = Some Version;
}

-- The program by itself wants a command. Without any word it prints its help as a complaint.
abbrev pub bare_program : App
bare_program = on_top (λ top. record top {
  has_version = true;
  subcommand_required = true;
  arg_required_else_help = true;
  disable_version_flag = true;
}) (new_app (codes "uimg"))

abbrev pub program : App
program = with_rule bare_program version_rule

abbrev pub with_command : App → App → App
with_command above command = with_subcommand above command.top

-- the program with its commands
unfoldable pub uimg : App
uimg = fold with_command program
    (mkimage ∷ dumpimage ∷ verify ∷ check ∷ unpack ∷ info ∷ map_command ∷ diff ∷ [])

-- what a command is asked for by what the words gave for its arguments
abbrev pub asked_by : Option Text → ℕ → Text → List Row → Result Wanted Wrong
asked_by epoch moment name rows =
    if bytes_eq name (codes "check") then and_then (check_asked rows) (λ it. Ok (checks it))
    else (if bytes_eq name (codes "unpack")
    then and_then (unpack_asked rows) (λ it. Ok (unpacks it))
    else (if bytes_eq name (codes "map")
    then and_then (map_asked rows) (λ it. Ok (maps it))
    else (if bytes_eq name (codes "info")
    then and_then (info_asked rows) (λ it. Ok (informs it))
    else (if bytes_eq name (codes "diff") then Ok (compares (diff_asked rows))
    else (if bytes_eq name (codes "dumpimage")
    then and_then (dumpimage_asked rows) (λ it. Ok (runs it))
    else (if bytes_eq name (codes "mkimage") then mkimage_asked epoch moment rows
    else (if bytes_eq name (codes "verify") then Ok (runs (verify_asked rows))
    else Err no_subcommand)))))))

abbrev pub request_asked : Option Text → ℕ → Option (Text × List Row) → Result Wanted Wrong
request_asked epoch moment None = Err no_subcommand
request_asked epoch moment (Some found) = asked_by epoch moment found.0 found.1

-- what is asked for by words that the library refuses: help or the version, or nothing
abbrev pub refusal : ErrorKind → Result Wanted Wrong
refusal DisplayHelp = Ok (shows DisplayHelp)
refusal DisplayVersion = Ok (shows DisplayVersion)
refusal _ = Err no_command

-- Where the library refuses nothing, the request is the answer; else one of its refusals is. There
-- are two for the command `help`: the word after it has a help, or is no command.
abbrev pub answers : Result Wanted Wrong → Kinds → List (Result Wanted Wrong)
answers asked [] = asked ∷ []
answers asked (kind ∷ kinds) = map refusal (kind ∷ kinds)

-- what the words ask for, by SOURCE_DATE_EPOCH, if it is set, and the current time
abbrev pub words_asked : Option Text → ℕ → List Text → List (Result Wanted Wrong)
words_asked epoch moment words =
    answers (request_asked epoch moment (subcommand_of uimg words)) (fault_of uimg words)

-- the answer is one of these, unless memory ran out
abbrev pub TellsOneOf : {A X : Type 0} → (A → X) → List (Result X Wrong) → Result A WordsFault
    → Type 0
TellsOneOf seen [] result = ⊥
TellsOneOf seen (asked ∷ rest) result = Tells seen asked result ⊎ TellsOneOf seen rest result
