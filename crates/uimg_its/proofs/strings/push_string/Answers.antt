use Rattle.std.proofs.Common.{◌≤◌, ◌+◌, length, drop, arith, length-drop}
use Rattle.uimg_its.proofs.LexLaws.{bytes_over, bytes_at_end, bytes_at_quote, bytes_at_none, bytes_more}
use Rattle.uimg_its.proofs.strings.push_string.Goals as goal

pub returns-then-text-i-eq34 : goal.returns-then-text-i-eq34
returns-then-text-i-eq34 g c = bytes_over c.args.text.now c.loop-i.out.items _ c.loop-i.i (bytes_at_quote c.args.text.now c.loop-i.i c.loop-i-test.true c.if-text-i-eq34.true) c.loop-i.invariant.1

pub returns-in-None : goal.returns-in-None
returns-in-None g c = bytes_over c.args.text.now c.loop-i.out.items _ c.loop-i.i (bytes_at_none c.args.text.now c.loop-i.i c.loop-i-test.true c.if-text-i-eq34.false (rw c.after.ensures at c.in-None.ensures.unit)) c.loop-i.invariant.1

pub returns : goal.returns
returns g c = bytes_over c.args.text.now c.loop-i.out.items _ c.loop-i.i (bytes_at_end c.args.text.now c.loop-i.i c.loop-i-test.false) c.loop-i.invariant.1

pub loop-i-preserved : goal.loop-i-preserved
loop-i-preserved g c = (
  let h : c.in-Some.more ≤ length (drop (c.loop-i.i + 1) c.args.text.now) = rw c.after.ensures at c.in-Some.ensures.within in omega (arith, h, length-drop (c.loop-i.i + 1) c.args.text.now),
  rw c.in_ok-push-in-Some.ensures.items (bytes_more c.args.text.now c.loop-i.out.items _ c.loop-i.i (c.in-Some.b, c.in-Some.more) c.loop-i-test.true c.if-text-i-eq34.false (rw c.after.ensures at c.in-Some.ensures.unit) c.loop-i.invariant.1),
)
