use Rattle.uimg_tool.proofs.MemoryLaws.{told_or_lost}
use Rattle.uimg_tool.proofs.in_memory.answer_in_memory.Goals as goal

pub returns : goal.returns
returns g c =
    told_or_lost _ _ (record { words = c.args.words; epoch = c.args.epoch; time = c.args.now }) _ _ c.run_as_uimg-status.result.0 (λ it. it.items) _ _ _ _ _ c.new-world.ensures.map c.new-world.ensures.trace c.new-2.ensures.items
    c.run_as_uimg-status.result.1 _ c.unwrap_or.result c.run_as_uimg-status.ensures.lost c.unwrap_or.ensures c.run_as_uimg-status.ensures.answers
