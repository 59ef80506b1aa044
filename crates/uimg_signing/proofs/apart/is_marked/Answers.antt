use Rattle.std.proofs.Common.{rules, ◌≡◌, ◌∙◌, ap, arith}
use Rattle.uimg_base.specs.declared.spans.Span.{Span}
use Rattle.uimg_signing.specs.Covering.{is_marked}
use Rattle.uimg_signing.proofs.apart.is_marked.Goals as goal

pub returns : goal.returns
returns g c = λ row r.
    let at : c.saturating_sub-at.result ≡ row.at = omega (arith, ap (λ (s : Span). s.place) (c.name.ensures.name row r)) in
    let found : c.contains.result ≡ is_marked c.args.marks.now c.saturating_sub-at.result = search rules in
    found ∙ ap (is_marked c.args.marks.now) at
