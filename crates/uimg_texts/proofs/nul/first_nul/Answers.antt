use Rattle.std.proofs.Common.{arith}
use Rattle.uimg_texts.proofs.NulLaws.{before_nul-found, before_nul-none}
use Rattle.uimg_texts.proofs.nul.first_nul.Goals as goal

pub returns-then-byte-eq0-clause-text : goal.returns-then-byte-eq0-clause-text
returns-then-byte-eq0-clause-text c =
    before_nul-found c.args.bytes.now c.loop-i.i c.loop-i-test.true c.loop-i.invariant c.if-byte-eq0.true

pub returns-clause-text : goal.returns-clause-text
returns-clause-text c = before_nul-none c.args.bytes.now (λ k h. c.loop-i.invariant k (omega arith))
