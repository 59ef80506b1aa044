-- The request of a command line, as plain values.
use Rattle.clap.specs.Values.{kind_of}
use Rattle.clap.specs.declared.error.kind.ErrorKind.{ErrorKind}
use Rattle.uimg_cli.specs.Check.{Checking, checking_of}
use Rattle.uimg_cli.specs.Diff.{Comparing, comparing_of}
use Rattle.uimg_cli.specs.Info.{Informing, informing_of}
use Rattle.uimg_cli.specs.Makings.{Making, making_of}
use Rattle.uimg_cli.specs.Map.{Mapping, mapping_of}
use Rattle.uimg_cli.specs.Runs.{Run, run_of}
use Rattle.uimg_cli.specs.Unpack.{Unpacking, unpacking_of}
use Rattle.uimg_cli.specs.declared.command_line.Asked.{Asked}
use Rattle.uimg_cli.specs.declared.command_line.Asked.TheVariants as asked
use Rattle.uimg_cli.specs.declared.command_line.Request.{Request}
use Rattle.uimg_cli.specs.declared.command_line.Request.TheVariants as request

-- a command on an image, the making of one, a text (help or the version), a check, an unpacking, a
-- map, the facts of an image, or the differences of two
pub data Wanted : Type 0 where
  runs : Run → Wanted
  makes : Making → Wanted
  shows : ErrorKind → Wanted
  checks : Checking → Wanted
  unpacks : Unpacking → Wanted
  maps : Mapping → Wanted
  informs : Informing → Wanted
  compares : Comparing → Wanted

abbrev pub wanted_by_one : Request → Wanted
wanted_by_one (request.Run command) = runs (run_of command)
wanted_by_one (request.Make command) = makes (making_of command)
wanted_by_one (request.Show error) = shows (kind_of error)

abbrev pub wanted_of : Asked → Wanted
wanted_of (asked.One one) = wanted_by_one one
wanted_of (asked.Check request) = checks (checking_of request)
wanted_of (asked.Unpack request) = unpacks (unpacking_of request)
wanted_of (asked.Map request) = maps (mapping_of request)
wanted_of (asked.Info request) = informs (informing_of request)
wanted_of (asked.Diff request) = compares (comparing_of request)
