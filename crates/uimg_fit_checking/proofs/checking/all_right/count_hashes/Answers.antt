use Rattle.std.proofs.Common.{rules, ℕ, Option, subst}
use Rattle.uimg_fit_reading.specs.Nodes.{HashesAt}
use Rattle.uimg_fit_checking.proofs.CheckCountLaws.{hashes_first, hashes_more, hashes_done, hashes_most}
use Rattle.uimg_fit_checking.proofs.checking.all_right.count_hashes.Goals as goal

pub loop-count-init : goal.loop-count-init
loop-count-init g c = record {
  within = search rules;
  left = λ t h hs at. hashes_first t hs _ _ at;
}

pub loop-count-preserved : goal.loop-count-preserved
loop-count-preserved g c = record {
  within = search rules;
  left = λ t h hs at.
      let k = c.loop-count.invariant.left t h hs at in
      let f = subst (λ (x : Option ℕ). HashesAt t x k.left) c.in-Some.is k.at in
      hashes_more t hs _ _ c.in-Some.hash c.loop-count.next k f _ (c.next_hash-next.ensures.hashes t h f.hash f.more f.at);
}

pub returns-in_default : goal.returns-in_default
returns-in_default g c = λ t h hs at few.
    hashes_done t hs _ _ c.loop-count.next (search rules) (c.loop-count.invariant.left t h hs at)

pub returns : goal.returns
returns g c = λ t h hs at few.
    hashes_most t hs _ _ c.count-most.result _ c.loop-count.next (c.loop-count.invariant.left t h hs at) c.count-most.ensures few (search rules)
