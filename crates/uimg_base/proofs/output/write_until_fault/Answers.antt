use Rattle.std.proofs.Common.{◌≤◌, ◌-◌, length, length-take, length-drop, arith}
use Rattle.uimg_base.proofs.SinkLaws.{Appends-next}
use Rattle.uimg_base.proofs.output.write_until_fault.Goals as goal

pub loop-at-preserved : goal.loop-at-preserved
loop-at-preserved g c =
    let xs = c.args.bytes.now in
    let few : c.in-Ok.count ≤ length xs - c.loop-at.at = omega (arith, simp (length-take, length-drop) at c.in-Ok.ensures.bound) in
    record {
      bound = omega arith;
      prefix = Appends-next _ _ _ xs _ _ few c.loop-at.invariant.prefix c.in-Ok.ensures.bytes;
    }
