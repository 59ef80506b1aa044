use Rattle.std.{proofs.{Common.rules, lemmas.Result.err_from_is_err_and}, specs.Bool.⊤}
use Rattle.uimg_engine.proofs.MakingLaws.{none_fails, no_read_kept}
use Rattle.uimg_engine.proofs.making_parts.build_opened.Goals as goal

pub returns-in_err-build-clause-reads : goal.returns-in_err-build-clause-reads
returns-in_err-build-clause-reads g c = λ steady.
    let p = err_from_is_err_and c.from_residual.result c.from_residual.ensures.1 in
    let none = none_fails g.S.Source.device (λ s. search rules) _ _ _ c.in_err-build.ensures.builds.uses.failures in
    rw (p.1, p.2) (no_read_kept ⊤ ⊤ c.in_err-build.field-0.0 none)
