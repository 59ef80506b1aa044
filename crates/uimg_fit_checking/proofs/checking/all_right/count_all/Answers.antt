use Rattle.std.proofs.Common.{rules, ℕ, Option, length, subst}
use Rattle.uimg_blob_reading.specs.LookUps.{hashes}
use Rattle.uimg_blob_reading.specs.Roles.{in_images}
use Rattle.uimg_fit_checking.proofs.CheckCountLaws.{LeftSummed, none_summed, one_summed, all_summed}
use Rattle.uimg_fit_checking.proofs.checking.all_right.count_all.Goals as goal

pub loop-next-init : goal.loop-next-init
loop-next-init g c = record {
  within = search rules;
  left = λ t h found from. none_summed t _ _ found _ h from;
}

pub loop-next-preserved : goal.loop-next-preserved
loop-next-preserved g c = record {
  within = search rules;
  left = λ t h found from.
      one_summed t found _ c.loop-next.count c.in-Some.image c.count_hashes-count.result _
      (subst (λ (x : Option ℕ). LeftSummed t found (length c.args.room.now.entries) c.loop-next.count x) c.in-Some.is (c.loop-next.invariant.left t h found from))
      (λ image n few. c.count_hashes-count.ensures t h (hashes image) (c.first_hash.ensures.hashes t h image n) few)
      (c.next_of-next.ensures.next t h in_images);
}

pub returns : goal.returns
returns g c = λ t h found from.
    all_summed t found _ c.loop-next.count c.loop-next.next (search rules) (c.loop-next.invariant.left t h found from)
