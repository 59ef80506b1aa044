use Rattle.std.{proofs.Common.{◌∙◌, sym, ap, ℕ, List, length, get_or}, specs.List.slice_get}
use Rattle.uimg_blob_reading.specs.Kept.{entry_under}
use Rattle.uimg_blob_reading.proofs.LookLaws.{row_entry, entry_is, ends_later, later_by}
use Rattle.uimg_blob_reading.proofs.nodes.Blob.next_sibling.Goals as goal

pub returns-clause-sibling : goal.returns-clause-sibling
returns-clause-sibling g c row h =
    let es = c.args.room.now.entries in
    let e = c.entry-entry.result in
    let r = row_entry c.args.self.now es c.args.node row e h c.entry-entry.ensures in
    c.node_under.ensures.under
    ∙ ap (λ (m : ℕ). entry_under m (get_or e 1 0) (slice_get es m)) (ap (λ (x : List ℕ). get_or x 2 0) r.1)
    ∙ ap (λ (w : ℕ). entry_under r.0 w (slice_get es r.0)) (ap (λ (x : List ℕ). get_or x 1 0) r.1)
    ∙ sym r.3

pub returns-clause-later : goal.returns-clause-later
returns-clause-later g c t h =
    let es = c.args.room.now.entries in
    let e = c.entry-entry.result in
    later_by c.node_under.result c.args.node (get_or e 2 0) (length es) c.node_under.ensures.within
    (ends_later t c.args.self.now.totalsize c.args.node e (entry_is t c.args.self.now es c.args.node e h c.entry-entry.ensures))
