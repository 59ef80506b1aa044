use Rattle.std.proofs.Common.{◌≡◌, drop}
use Rattle.clap.specs.Walk.{texts}
use Rattle.uimg_cli.specs.Check.{reads_again}
use Rattle.uimg_cli.proofs.command_line.check.reads_again.Given as goal

-- of what is left the same is asked
abbrev pub invariant-loop-path : goal.invariant-loop-path
invariant-loop-path l = reads_again l.has_read (texts (drop l.path-index l.images)) ≡ reads_again l.is_read (texts l.images)
