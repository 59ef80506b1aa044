use Rattle.std.proofs.Common.{◌≡◌, Some, ap, sym, ◌∙◌}
use Rattle.uimg_fit_base.specs.AlgoSets.{set_of}
use Rattle.uimg_fit_checking.specs.Unpacking.{strongest}
use Rattle.uimg_fit_checking.proofs.UnpackLaws.{has_strongest, vouched_is}
use Rattle.uimg_fit_checking.proofs.unpacking.refusals.vouched_by.Goals as goal

pub returns-in-Some : goal.returns-in-Some
returns-in-Some c = λ message are.
    let set = set_of c.args.digests.now in
    let is : strongest set ≡ Some c.in-Some.algo = sym (c.strongest.ensures ∙ ap strongest c.set.ensures) ∙ c.in-Some.is in
    vouched_is set c.in-Some.algo message c.by.result is (c.by.ensures message are (has_strongest set c.in-Some.algo is))
