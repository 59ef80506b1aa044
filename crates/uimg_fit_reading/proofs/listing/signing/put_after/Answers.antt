use Rattle.std.proofs.Common.{ℕ, List, Option, Ok, sym, subst, arith}
use Rattle.uimg_texts.specs.{Nul.text, Slices.slice}
use Rattle.uimg_base.specs.declared.spans.Span.{Span}
use Rattle.uimg_fit_base.specs.Files.{bytes_in}
use Rattle.uimg_fit_reading.specs.{Heads.span_size, Puts.PutsBetween, Rows.text_after}
use Rattle.uimg_fit_reading.proofs.PutLaws.{from_then, of_own, puts_from}
use Rattle.uimg_fit_reading.proofs.listing.signing.put_after.Goals as goal

pub returns : goal.returns
returns g c =
    let d = g.S.Source.device c.args.source.now in
    let f = g.S.Source.device c.put_text.new.source in
    let span = c.in-Some.span in
    subst (λ (v : Option Span). PutsBetween {X = Unit} (span_size v) c.put_text.result d f c.args.room.now c.put_text.new.room c.args.out.now c.put_text.new.out (text_after c.args.before.now (bytes_in d.bytes v))) (sym c.in-Some.is)
    (puts_from c.put_text.ensures.room
    (from_then 0 span.length span.length tt c.put_text.result d d f c.args.out.now c.put.new.out c.put_text.new.out c.args.before.now (λ (file : List ℕ). text (slice file span.place span.length)) (omega arith)
    (of_own {X = Unit} (Ok tt) d c.args.out.now c.put.new.out c.args.before.now c.in_ok-put.ensures)
    (record { uses = c.put_text.ensures.uses; faults = c.put_text.ensures.faults; told = c.put_text.ensures.told })))
