use Rattle.std.proofs.Common.{◌∙◌, List, ℕ, sym}
use Rattle.uimg_map.specs.{Contents.GrowsBy, FitContents.header_and_blocks}
use Rattle.uimg_map.proofs.{ContentsLaws.grows_then, FitLaws.blocks_then}
use Rattle.uimg_map.proofs.fit_contents.add_blocks.Goals as goal

pub returns : goal.returns
returns g c =
    let grows : (file : List ℕ) → GrowsBy file (header_and_blocks c.in-Some.header c.in_ok-end.end c.args.contents.now.size) c.args.contents.now c.add-4.new.self = λ file.
    rw c.blocks_of.ensures at (grows_then (c.in_ok-add.ensures.grows file) (grows_then (c.in_ok-add-2.ensures.grows file) (grows_then (c.in_ok-add-3.ensures.grows file) (c.in_ok-add-4.ensures.grows file)))) in
    blocks_then c.in-Some.header c.in_ok-end.end c.in_ok-header.ensures.uses c.in_ok-end.ensures.uses (λ h. sym c.in-Some.is ∙ c.in_ok-header.ensures.found h) c.in_ok-end.ensures.found c.requires grows
