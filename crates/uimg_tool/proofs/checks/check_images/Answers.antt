use Rattle.std.proofs.Common.{refl, rules}
use Rattle.uimg_tool.proofs.CheckLaws.{keys_told}
use Rattle.uimg_tool.proofs.checks.check_images.Goals as goal

pub returns-clause-means : goal.returns-clause-means
returns-clause-means g c =
    keys_told (g.D.World.map c.args.world.now) _ _ c.args.request.now _ _ _ _ _ _ _ _ _ refl refl c.in_ok-find_report_if.ensures.same (search rules) c.in_ok-find_report_if.ensures.finds c.in-Ok.ensures.keys c.in-Ok.ensures.noted c.check_by.ensures.means
