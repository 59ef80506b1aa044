use Rattle.std.proofs.Common.{[], ◌∙◌}
use Rattle.uimg_map.proofs.ContentsLaws.{grows_then}
use Rattle.uimg_map.proofs.contents.Contents.refuse_at.Goals as goal

pub returns : goal.returns
returns c = record {
  size = (c.refuse.ensures []).size ∙ c.in_ok-add.ensures.size;
  grows = λ file. grows_then (c.in_ok-add.ensures.grows file) (c.refuse.ensures file);
  memory = tt;
}
