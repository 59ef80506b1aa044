use Rattle.std.proofs.Common.{[], ◌∷◌, arith}
use Rattle.uimg_rsa.proofs.HashLaws.{only-digest}
use Rattle.uimg_rsa.proofs.mgf1.hash_of.Goals as goal

pub returns : goal.returns
returns c =
    let algos = c.args.algo ∷ [] in
    let added = c.add.ensures.added [] c.new-sums.ensures (omega arith) in
    let fed = c.feed-3.ensures algos _ (c.feed-2.ensures algos _ (c.feed.ensures algos [] added)) in
    only-digest c.args.algo _ c.finish.result (c.finish.ensures algos _ fed)
