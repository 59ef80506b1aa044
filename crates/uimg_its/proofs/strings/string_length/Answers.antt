use Rattle.std.proofs.Common.{sym, arith, length, drop, ◌≤◌, ◌+◌, length-drop}
use Rattle.uimg_its.proofs.LexLaws.{shifted_zero, quote_ends, unit_none, unit_some, string_over}
use Rattle.uimg_its.proofs.strings.string_length.Goals as goal

pub loop-i-init : goal.loop-i-init
loop-i-init c = (omega arith, sym (shifted_zero _))

pub returns-then-text-i-eq34-clause-length : goal.returns-then-text-i-eq34-clause-length
returns-then-text-i-eq34-clause-length c = quote_ends c.args.text.now c.loop-i.i c.loop-i-test.true c.if-text-i-eq34.true c.loop-i.invariant.1

pub returns-in_err-more-clause-length : goal.returns-in_err-more-clause-length
returns-in_err-more-clause-length c = rw c.from_residual.ensures (unit_none c.args.text.now c.loop-i.i c.loop-i-test.true c.if-text-i-eq34.false (rw c.after.ensures at c.in_err-more.ensures.unit) c.loop-i.invariant.1)

pub loop-i-preserved : goal.loop-i-preserved
loop-i-preserved c = (let h : c.in_ok-more.more ≤ length (drop (c.loop-i.i + 1) c.args.text.now) = rw c.after.ensures at c.in_ok-more.ensures.within in omega (arith, h, length-drop (c.loop-i.i + 1) c.args.text.now), unit_some c.args.text.now c.loop-i.i (c.in_ok-more.field-0-0, c.in_ok-more.more) c.loop-i-test.true c.if-text-i-eq34.false (rw c.after.ensures at c.in_ok-more.ensures.unit) (rw c.after.ensures at c.in_ok-more.ensures.within) c.loop-i.invariant.1)

pub returns-clause-length : goal.returns-clause-length
returns-clause-length c = string_over c.args.text.now c.loop-i.i c.loop-i-test.false c.loop-i.invariant.1
