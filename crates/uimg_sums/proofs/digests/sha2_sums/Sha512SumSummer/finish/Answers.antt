use Rattle.std.proofs.Common.{◌≡◌, ◌∙◌, ◌++◌, List, [], ap, arith, drop, sym, ℕ, append-nil}
use Rattle.std.proofs.Math.ListN.{drop_of_length-le}
use Rattle.sha2.{specs.Sha512.sha512, proofs.Facts512.length-sha512}
use Rattle.uimg_sums.proofs.digests.sha2_sums.Sha512SumSummer.finish.Goals as goal

pub returns-clause-digest : goal.returns-clause-digest
returns-clause-digest c = λ fed held.
    let none : drop 64 c.args.to.now ≡ [] = drop_of_length-le c.args.to.now {i = 64} (omega arith) in
    (sym (length-sha512 fed), c.finalize-digest.ensures fed held ∙ sym (append-nil (sha512 fed)) ∙ sym (ap (λ (w : List ℕ). sha512 fed ++ w) none))
