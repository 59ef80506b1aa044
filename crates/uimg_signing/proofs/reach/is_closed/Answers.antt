use Rattle.std.proofs.Common.{rules, ◌≡◌, ◌∙◌, ◌==◌, ◌-◌, ℕ, List, Bool, false, IsTrue, ap, sym, subst, arith}
use Rattle.uimg_texts.specs.{Numbers.be32, Slices.slice}
use Rattle.uimg_signing.proofs.MessageLaws.{structure_end}
use Rattle.uimg_signing.proofs.ReachLaws.{closes_by, closes_not}
use Rattle.uimg_signing.proofs.reach.is_closed.Goals as goal

pub returns-then-extent-lt8-clause-told : goal.returns-then-extent-lt8-clause-told
returns-then-extent-lt8-clause-told g c = λ honest t is total.
    let d = g.S.Source.device c.args.source.now in
    let found = c.in-Ok.ensures.again honest t is (c.totalsize.ensures ∙ total) in
    closes_not d.bytes c.in-Ok.extent.structure_end _ (structure_end d.bytes c.in-Ok.extent found) c.if-extent-lt8.true

pub returns-clause-told : goal.returns-clause-told
returns-clause-told g c = λ honest t is total.
    let d = g.S.Source.device c.args.source.now in
    let found = c.in-Ok.ensures.again honest t is (c.totalsize.ensures ∙ total) in
    let same = c.extent_again.ensures.uses.same in
    let e = g.S.Source.device c.extent_again.new.source in
    let end = c.in-Ok.extent.structure_end in
    let read : (c.be32_at.result == 2) ≡ (be32 (slice e.bytes (end - 8) 4) 0 == 2) = search rules in
    closes_by d.bytes end _ (c.be32_at.result == 2) (structure_end d.bytes c.in-Ok.extent found) (omega arith)
    (read ∙ ap (λ (xs : List ℕ). be32 (slice xs (end - 8) 4) 0 == 2) same.bytes)
