-- What mkimage and dumpimage print of requested texts, and the exit status of these.
use Rattle.std.specs.Prelude.{◌≡◌, ℕ, ◌-◌, ◌^◌, List, [], ◌++◌, codes, Option, if◌then◌else◌}
use Rattle.std.specs.{Fmt.{format_spec, padded}, Str.bytes_eq}
use Rattle.std.specs.Io.KnownBytes.{Appends}
use Rattle.uimg_compat.specs.declared.request.Show.{Show}
use Rattle.uimg_compat.specs.declared.request.Show.TheVariants as show
use Rattle.uimg_texts.specs.declared.field.Field.TheVariants.{Kind}
use Rattle.uimg_tool.specs.Programs.{name_of}
use Rattle.uimg_tool.specs.declared.old_tools.Tool.{Tool}

-- The names of types are asked for by a right command line, those of other fields by a wrong one.
abbrev pub shown_status : Show → ℕ
shown_status (show.Help text) = 0
shown_status show.Version = 0
shown_status (show.Names Kind) = 0
shown_status (show.Names field) = 2

abbrev pub version_line : Tool → List ℕ
version_line tool = name_of tool ++ codes " version 2023.01\n"

-- What is printed on standard output: the names of a field are not.
abbrev pub ShowsText : Tool → Show → (old new : Option (List ℕ)) → Type 0
ShowsText tool (show.Help text) old new = Appends old new text.now
ShowsText tool show.Version old new = Appends old new (version_line tool)
ShowsText tool (show.Names field) old new = new ≡ old

-- A line of a list of names. The originals leave out `ppc`, another name of `powerpc`.
abbrev pub name_line : (name long : List ℕ) → List ℕ
name_line name long = if bytes_eq name (codes "ppc") then []
    else codes "\t" ++ padded (format_spec 32 1 0 15 (2 ^ 64 - 1)) name ++ codes "  " ++ long ++ codes "\n"
