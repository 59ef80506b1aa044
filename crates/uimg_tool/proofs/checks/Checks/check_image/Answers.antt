use Rattle.uimg_tool.proofs.{BelowLaws.image_put, CheckLaws.on_ok}
use Rattle.uimg_tool.proofs.checks.Checks.check_image.Goals as goal

pub returns-in-Some-clause-told : goal.returns-in-Some-clause-told
returns-in-Some-clause-told g c =
    let image = c.in-Some.ensures.image in
    on_ok c.put.result (image_put (g.D.World.map c.args.world.now) c.args.asked.now c.args.path.now c.as_bytes.result.now c.in-Some.answer c.args.self.now c.put.new.self _ _ _ _ image.0 image.1 image.2 c.put.ensures.greatest c.put.ensures.checked c.put.ensures.skipped c.as_bytes.ensures.value) c.put.ensures.put
