use Rattle.std.proofs.Common.{◌≡◌, length, ap, arith}
use Rattle.uimg_base.specs.declared.spans.Span.{Span}
use Rattle.uimg_signing.proofs.ShortLaws.{name_short}
use Rattle.uimg_signing.proofs.listing.read_name.Goals as goal

pub returns-then-span-gt255-clause-refused : goal.returns-then-span-gt255-clause-refused
returns-then-span-gt255-clause-refused g c = λ honest t is indexed row at read memory.
    let name = c.name-span.ensures.name row (record { nodes = t; indexed = indexed; is = at }) in
    let long : c.name-span.result.length ≡ length row.name = ap (λ (s : Span). s.length) name in
    absurd (omega (arith, long, name_short (g.S.Source.device c.args.source.now).bytes t c.args.node row is at))
