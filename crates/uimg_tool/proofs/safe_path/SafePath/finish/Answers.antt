use Rattle.std.proofs.Common.{rules}
use Rattle.uimg_world.specs.Deeds.{answer_of}
use Rattle.uimg_unpacking.proofs.Answered.{refusal-undone}
use Rattle.uimg_tool.specs.BesidePaths.{not_named}
use Rattle.uimg_tool.proofs.safe_path.SafePath.finish.Goals as goal

pub returns-in-Err : goal.returns-in-Err
returns-in-Err g c =
    not_named (answer_of c.remove_file-in-Err.result) (search rules) (refusal-undone _) (search rules)
