use Rattle.std.proofs.Common.{[]}
use Rattle.uimg_fit_base.specs.AlgoSets.{chosen}
use Rattle.uimg_fit_checking.proofs.unpacking.copies.take_payload.Goals as goal

pub returns-clause-taken : goal.returns-clause-taken
returns-clause-taken g c =
    let taken = c.in_ok-take_through.ensures.taken in
    record {
      message = taken.sums.piece;
      set = c.of.ensures.set;
      digests = c.of.ensures.digests taken.sums.piece (taken.sums.summed (chosen c.args.set) [] c.sums-sums.ensures);
      wrote = taken.wrote;
      right = taken.sums.right;
    }
