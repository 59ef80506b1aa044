use Rattle.std.proofs.Common.{Option, Ok, sym, subst}
use Rattle.uimg_base.specs.declared.spans.Span.{Span}
use Rattle.uimg_fit_base.specs.Files.{bytes_in}
use Rattle.uimg_fit_reading.specs.{Heads.{span_size, default_line}, Puts.PutsBetween}
use Rattle.uimg_fit_reading.proofs.PutLaws.{puts_none}
use Rattle.uimg_fit_reading.proofs.listing.heads.put_default.Goals as goal

pub returns-in-Some : goal.returns-in-Some
returns-in-Some g c =
    let d = g.S.Source.device c.args.source.now in
    subst (λ (o : Option Span). PutsBetween (span_size o) c.put_default_line.result d (g.S.Source.device c.put_default_line.new.source) c.args.room.now c.put_default_line.new.room
    c.args.out.now c.put_default_line.new.out (default_line (bytes_in d.bytes o))) (sym c.in-Some.is) c.put_default_line.ensures

pub returns-in-None : goal.returns-in-None
returns-in-None g c =
    let d = g.S.Source.device c.args.source.now in
    subst (λ (o : Option Span). PutsBetween {X = Unit} (span_size o) (Ok tt) d d c.args.room.now c.args.room.now c.args.out.now c.args.out.now (default_line (bytes_in d.bytes o)))
    (sym c.in-None.is) (puts_none tt d c.args.room.now c.args.out.now)
