use Rattle.uimg_tool.proofs.MapLaws.{came}
use Rattle.uimg_tool.proofs.maps.print_source.Goals as goal

pub returns-in-Ok-put_lines-clause-means : goal.returns-in-Ok-put_lines-clause-means
returns-in-Ok-put_lines-clause-means g c = λ honest.
    came _ _ c.in-Ok.map _ _ _ c.in-Ok.ensures.uses.same c.in-Ok.ensures.size c.in-Ok.ensures.found c.in-Ok-put_lines.ensures.lines c.end_of.ensures.status c.end_of.ensures.told honest
