use Rattle.std.proofs.Common.{◌∙◌, ℕ, Ok, sym, ap}
use Rattle.uimg_fit_checking.proofs.CountingLaws.{count_is}
use Rattle.uimg_fit_checking.proofs.counting.count_in.Goals as goal

pub returns-clause-told : goal.returns-clause-told
returns-clause-told g c = λ honest.
    let h = c.in_ok-blob.ensures.gives honest in
    let has = c.in_ok-first.ensures.told h.nodes h.read.indexed in
    count_is (g.S.Source.device c.args.source.now).bytes h.nodes has.found h.read.is has.is
    ∙ ap (λ (n : ℕ). Ok n) (sym (c.count_from.ensures h.nodes h.read.indexed has.found has.from))
