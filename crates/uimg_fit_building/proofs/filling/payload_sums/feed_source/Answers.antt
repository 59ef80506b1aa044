use Rattle.std.proofs.Common.{◌≤◌, ◌∙◌, [], List, ℕ, Bool, length, sym, subst, ap, arith, IsTrue}
use Rattle.std.proofs.lemmas.List.{take_all}
use Rattle.uimg_sums.specs.Bundle.{Holds}
use Rattle.uimg_texts.specs.Slices.{slice}
use Rattle.uimg_base.proofs.RangeLaws.{summed_right}
use Rattle.uimg_fit_building.proofs.filling.payload_sums.feed_source.Goals as goal

pub returns-in-Ok-feed_through-clause-fed : goal.returns-in-Ok-feed_through-clause-fed
returns-in-Ok-feed_through-clause-fed g c = λ honest algos held.
    let same = c.size.ensures.same in
    let bytes = (g.S.Source.device c.args.source.now).bytes in
    let all : length bytes ≤ c.args.size = omega (arith, c.in-Ok.ensures.length, c.if-length-size.true) in
    let now = subst (λ (b : Bool). IsTrue b) (sym same.honest) honest in
    subst (λ (w : List ℕ). Holds c.feed_through.new.sums algos w)
    (ap (λ (w : List ℕ). slice w 0 c.args.size) same.bytes ∙ take_all c.args.size bytes all)
    (summed_right c.in-Ok-feed_through.ensures.fed now algos [] held)
