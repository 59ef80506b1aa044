use Rattle.uimg_map.specs.FitContents.{fit_contents}
use Rattle.uimg_map.proofs.ContentsLaws.{gathers_then}
use Rattle.uimg_map.proofs.fit_contents.add_fit.Goals as goal

pub returns : goal.returns
unfolding fit_contents
returns g c = gathers_then c.in_ok-add_blocks.ensures c.in_ok-add_surveyed.ensures
