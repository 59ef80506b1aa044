use Rattle.std.{proofs.Common.{rules, ◌≡◌, true}, specs.Prelude.is_err}
use Rattle.uimg_legacy.proofs.{SourceLaws.honest_still, DevicesLaws.bytes_at}
use Rattle.uimg_legacy.proofs.PartStepsLaws.{whole, written_copy, puts_after}
use Rattle.uimg_legacy.proofs.one_part.put_part.Goals as goal

pub returns-in_err-size-clause-puts : goal.returns-in_err-size-clause-puts
returns-in_err-size-clause-puts g c =
    puts_after _ g.S.Source.device c.args.parts.now c.args.i c.index-parts-i.result c.size.new.self c.args.out.now c.args.out.now c.requires (search rules) (search rules) (search rules) (search rules)

pub returns-in_err-copy_through-clause-puts : goal.returns-in_err-copy_through-clause-puts
returns-in_err-copy_through-clause-puts g c =
    let failed : is_err c.from_residual-in_err-copy_through.result ≡ true = search rules in
    puts_after _ g.S.Source.device c.args.parts.now c.args.i c.index-parts-i.result c.copy_through.new.source c.args.out.now c.copy_through.new.out c.requires (search rules) (search rules) (search rules)
    (λ honest. rw failed (rw (whole _ _ _ c.size.ensures.same.bytes c.in_ok-size.ensures.length) at (written_copy _ _ _ _ _ _ (c.in_err-copy_through.ensures.copied (honest_still c.size.ensures.same honest)))))

pub returns-clause-puts : goal.returns-clause-puts
returns-clause-puts g c =
    puts_after _ g.S.Source.device c.args.parts.now c.args.i c.index-parts-i.result c.copy_through.new.source c.args.out.now c.copy_through.new.out c.requires (search rules) (search rules) (search rules)
    (λ honest. rw (whole _ _ _ c.size.ensures.same.bytes c.in_ok-size.ensures.length) at (written_copy _ _ _ _ _ _ (c.in_ok-copy_through.ensures.copied (honest_still c.size.ensures.same honest))))

pub returns-clause-size : goal.returns-clause-size
returns-clause-size g c = rw (bytes_at g.S.Source.device c.args.parts.now c.args.i c.index-parts-i.result c.requires) c.in_ok-size.ensures.length
