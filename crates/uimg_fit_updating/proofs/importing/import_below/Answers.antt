use Rattle.std.proofs.Common.{◌≡◌, ◌∙◌, ◌<◌, ℕ, length, get_or, set, ap, arith}
use Rattle.uimg_blob_writing.specs.{declared.tree.Node.Node, Trees.siblings}
use Rattle.uimg_fit_building.specs.Filling.{each}
use Rattle.uimg_fit_building.proofs.{FilledHashLaws.on-ok, FillTreeLaws.{before, with_children, set-images}}
use Rattle.uimg_fit_updating.specs.Importing.{imported}
use Rattle.uimg_fit_updating.proofs.ImportLaws.{bytes_at, bytes_set}
use Rattle.uimg_fit_updating.proofs.importing.import_below.Goals as goal

pub returns-clause-in_memory : goal.returns-clause-in_memory
returns-clause-in_memory g c =
    let ns = c.args.nodes.now in
    let at = c.before_images-at.result in
    let d = c.index-nodes-at.result in
    let within : at < length ns = omega (arith, c.if-at-nodes.false) in
    on-ok c.import_parent.result (λ keeps all. bytes_set ns at c.import_parent.new.parent all (keeps (bytes_at ns at d all within))) c.import_parent.ensures.in_memory

pub returns-clause-told : goal.returns-clause-told
returns-clause-told g c = λ honest.
    let f = each (imported (g.S.Source.device c.args.source.now).bytes c.args.totalsize) in
    let ns = c.args.nodes.now in
    let d = c.index-nodes-at.result in
    let new = c.import_parent.new.parent in
    let within : before ns < length ns = omega (arith, c.if-at-nodes.false, c.before_images-at.ensures) in
    let is : get_or ns c.before_images-at.result d ≡ get_or ns (before ns) d = ap (λ (k : ℕ). get_or ns k d) c.before_images-at.ensures in
    on-ok c.import_parent.result
    (λ same. ap (λ (k : ℕ). siblings (set ns k new)) c.before_images-at.ensures ∙ set-images f ns d new within (same ∙ ap (λ (n : Node _). with_children f n) is))
    (c.import_parent.ensures.told honest)
