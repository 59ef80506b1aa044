-- What the command line library makes of the arguments.
use Rattle.std.specs.Prelude.{◌≡◌, List, [], Result, Ok, Err}
use Rattle.clap.specs.Faults.{fault_of}
use Rattle.clap.specs.Kinds.{HasKind}
use Rattle.clap.specs.Simple.{App, subcommand_of, subcommand_rows_of}
use Rattle.clap.specs.Walk.{Text}
use Rattle.clap.specs.declared.error.Error.{Error}
use Rattle.clap.specs.declared.parser.matches.ArgMatches.{ArgMatches}

pub record Matched (command : App) (words : List Text) (matches : ArgMatches) : Type 0 where
  pub right : fault_of command words ≡ []
  pub below : subcommand_rows_of matches ≡ subcommand_of command words

-- Either nothing is wrong and the matches are those of the words, or the error has the kind of what
-- is wrong, if memory did not run out.
abbrev pub Parsed : App → List Text → Result ArgMatches Error → Type 0
Parsed command words (Ok matches) = Matched command words matches
Parsed command words (Err error) = HasKind (fault_of command words) error
