use Rattle.uimg_cli.proofs.Refusals.{without_memory}
use Rattle.uimg_cli.specs.Reading.{ReadsWords}
use Rattle.uimg_cli.proofs.command_line.read_words.Goals as goal

pub returns-in-Err : goal.returns-in-Err
unfolding ReadsWords
returns-in-Err c = without_memory _ _
