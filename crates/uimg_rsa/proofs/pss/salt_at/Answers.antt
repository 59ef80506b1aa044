use Rattle.std.proofs.Common.{ap, sym, ◌∙◌, arith}
use Rattle.std.proofs.Math.ListN.{drop_of_length-le}
use Rattle.uimg_rsa.specs.Pss.{salt_of}
use Rattle.uimg_rsa.proofs.PssLaws.{salt-at, salt-on, salt-refused, salt-nowhere}
use Rattle.uimg_rsa.proofs.pss.salt_at.Goals as goal

pub returns-then-block-at-eq1-clause-salt : goal.returns-then-block-at-eq1-clause-salt
returns-then-block-at-eq1-clause-salt c =
    sym (salt-at c.args.block.now c.loop-at.at (omega arith) (omega arith)) ∙ c.loop-at.invariant

pub returns-then-block-at-ne0-clause-salt : goal.returns-then-block-at-ne0-clause-salt
returns-then-block-at-ne0-clause-salt c =
    sym (salt-refused c.args.block.now c.loop-at.at (omega arith) (λ e. omega arith) (λ e. omega arith)) ∙ c.loop-at.invariant

pub loop-at-preserved : goal.loop-at-preserved
loop-at-preserved c =
    sym (salt-on c.args.block.now c.loop-at.at (omega arith) (omega arith)) ∙ c.loop-at.invariant

pub returns-clause-salt : goal.returns-clause-salt
returns-clause-salt c =
    sym (ap salt_of (drop_of_length-le c.args.block.now (omega arith)) ∙ salt-nowhere) ∙ c.loop-at.invariant
