use Rattle.std.proofs.Common.{List, map, ap, ◌∙◌, min, ◌^◌, ℕ}
use Rattle.uimg_blob_reading.specs.LookUps.{NodeOf}
use Rattle.uimg_blob_writing.specs.{Content.Content, Trees.node_of}
use Rattle.uimg_fit_base.specs.Placements.{align_of}
use Rattle.uimg_fit_building.specs.Behind.{entry, images_in, padded_sizes, end_fault}
use Rattle.uimg_fit_building.proofs.BehindLaws.{end-capped}
use Rattle.uimg_fit_building.proofs.building.behind.check_payloads.Goals as goal

pub returns : goal.returns
returns g c =
    let size = c.args.size in
    let placement = c.args.placement in
    c.check_end.ensures
    ∙ ap (λ (n : ℕ). end_fault size n placement) (c.payloads_size-padded.ensures ∙ ap (λ (a : ℕ). min (padded_sizes a (map entry c.images_of.result.now)) (2 ^ 36)) c.align.ensures ∙ ap (λ (l : List (NodeOf Content)). min (padded_sizes (align_of placement) l) (2 ^ 36)) c.images_of.ensures)
    ∙ end-capped size (padded_sizes (align_of placement) (images_in (node_of c.args.tree.now.root))) placement
