use Rattle.std.proofs.Common.{◌∙◌, ap, option_map, subst}
use Rattle.clap.specs.Faults.{fault_of, is_simple_and_free}
use Rattle.clap.specs.Values.{kind_of}
use Rattle.clap.specs.Walk.{texts}
use Rattle.uimg_cli.specs.CommandLines.{request_asked, uimg}
use Rattle.uimg_cli.specs.Parsed.{Parsed}
use Rattle.uimg_cli.specs.Wanted.{wanted_of}
use Rattle.uimg_cli.specs.Wrong.{Tells}
use Rattle.uimg_cli.proofs.Refusals.{alone, refused}
use Rattle.uimg_cli.proofs.Simple.{uimg_is_simple}
use Rattle.uimg_cli.proofs.command_line.read_by.Goals as goal

pub parsed-requires : goal.parsed-requires
parsed-requires c = record { simple = ap is_simple_and_free c.requires ∙ uimg_is_simple }

pub returns-in-Ok : goal.returns-in-Ok
returns-in-Ok c =
    let matched = subst (λ app. Parsed app (texts c.args.words.now) c.parsed.result) c.requires c.parsed.ensures in
    let found = rw c.in-Ok.is at matched in
    alone _ _ _ found.right
    (subst (λ below. Tells wanted_of (request_asked (option_map (λ text. text.now) c.args.epoch) c.args.now below) c.request_of.result) found.below c.request_of.ensures)

pub returns-in-Err : goal.returns-in-Err
returns-in-Err c =
    let kinds = subst (λ app. Parsed app (texts c.args.words.now) c.parsed.result) c.requires c.parsed.ensures in
    refused (kind_of c.in-Err.error) (fault_of uimg (texts c.args.words.now)) _ _ (rw c.in-Err.is at kinds)
    c.without_matches.ensures.memory c.without_matches.ensures.asked
