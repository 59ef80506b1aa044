use Rattle.clap.specs.declared.parser.matches.ArgMatches.TheViews.{out-ArgMatches}
use Rattle.uimg_cli.specs.Readings.{given}
use Rattle.uimg_cli.proofs.SubcommandLaws.{found_by}
use Rattle.uimg_cli.proofs.command_line.request_of.Goals as goal

pub returns-in-Some : goal.returns-in-Some
returns-in-Some c =
    let found = found_by (out-ArgMatches c.args.matches.now).subcommand c.in-Some.name.now (given c.in-Some.own.now) c.in-Some.ensures.name c.in-Some.ensures.rows in
    rw found c.request_by.ensures
