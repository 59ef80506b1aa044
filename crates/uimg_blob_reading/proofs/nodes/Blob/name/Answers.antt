use Rattle.std.proofs.Common.{ap, ℕ, List, length, get_or, ◌+◌, arith}
use Rattle.uimg_base.specs.declared.spans.Span.{Span}
use Rattle.uimg_blob_reading.proofs.LookLaws.{row_entry, entry_is}
use Rattle.uimg_blob_reading.proofs.nodes.Blob.name.Goals as goal

pub returns-clause-name : goal.returns-clause-name
returns-clause-name g c row h =
    let r = row_entry c.args.self.now c.args.room.now.entries c.args.node row c.entry.result h c.entry.ensures in
    c.span_in.ensures (row.at + 4) (length row.name) (omega (arith, r.2.named, h.indexed.small)) (ap (λ (x : List ℕ). get_or x 0 0) r.1)

pub returns-clause-inside : goal.returns-clause-inside
returns-clause-inside g c t h =
    let x = entry_is t c.args.self.now c.args.room.now.entries c.args.node c.entry.result h c.entry.ensures in
    let s = c.span_in.ensures (x.kept.at + 4) (length x.kept.name) (omega (arith, x.lies.named, h.small)) (ap (λ (w : List ℕ). get_or w 0 0) x.is) in
    omega (arith, x.lies.named, ap (λ (k : Span). k.place) s, ap (λ (k : Span). k.length) s)
