use Rattle.clap.proofs.WalkLemmas.{both}
use Rattle.uimg_cli.proofs.command_line.parsed.Goals as goal

pub returns-in-Ok : goal.returns-in-Ok
returns-in-Ok c =
    let rows = c.in-Ok.ensures.matches (both _ _ c.requires.simple).0 in
    record { right = c.in-Ok.ensures.kinds c.requires.simple; below = rows.1 }

pub returns-in-Err : goal.returns-in-Err
returns-in-Err c = c.in-Err.ensures.kinds c.requires.simple
