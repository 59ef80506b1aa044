use Rattle.std.proofs.Common.{sym, arith}
use Rattle.uimg_its.proofs.LexLaws.{comment_ends, comment_goes_on, comment_over}
use Rattle.uimg_its.proofs.pieces.comment_length.Goals as goal

pub returns-then-starts_with-clause-length : goal.returns-then-starts_with-clause-length
returns-then-starts_with-clause-length c = comment_ends c.args.text.now c.loop-i.i c.loop-i-test.true (sym (rw c.after.ensures at c.if-starts_with.ensures.value)) c.loop-i.invariant.1

pub loop-i-preserved : goal.loop-i-preserved
loop-i-preserved c = (omega arith, comment_goes_on c.args.text.now c.loop-i.i c.loop-i-test.true (sym (rw c.after.ensures at c.if-starts_with.ensures.value)) c.loop-i.invariant.1)

pub returns-clause-length : goal.returns-clause-length
returns-clause-length c = comment_over c.args.text.now c.loop-i.i c.loop-i-test.false c.loop-i.invariant.1
