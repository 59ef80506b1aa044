-- The reading of words, for callers: what they ask for stays folded, since it is long.
use Rattle.std.specs.Prelude.{◌≡◌, ℕ, List, Option, Result, true, is_err}
use Rattle.std.specs.List.{list_all}
use Rattle.clap.specs.Walk.{Text}
use Rattle.uimg_cli.specs.CommandLines.{TellsOneOf, words_asked}
use Rattle.uimg_cli.specs.Wanted.{wanted_of}
use Rattle.uimg_cli.specs.declared.command_line.{Asked.Asked, words_fault.WordsFault.WordsFault}

-- The answer is what the words ask for, or what is wrong with them, unless memory ran out.
unfoldable pub ReadsWords : Option Text → ℕ → List Text → Result Asked WordsFault → Type 0
ReadsWords epoch moment words result = TellsOneOf wanted_of (words_asked epoch moment words) result

-- The words ask for nothing.
unfoldable pub AsksNothing : Option Text → ℕ → List Text → Type 0
AsksNothing epoch moment words = list_all is_err (words_asked epoch moment words) ≡ true
