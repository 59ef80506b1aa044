use Rattle.std.proofs.Common.{subst, arith}
use Rattle.uimg_blob_reading.specs.ReadTokens.{IsReadAs}
use Rattle.uimg_blob_reading.specs.declared.tokens.ReadToken.{ReadToken}
use Rattle.uimg_signing.proofs.GoingLaws.{end_is_wrong}
use Rattle.uimg_signing.proofs.TurnLaws.{deep_there, shallow_there}
use Rattle.uimg_signing.proofs.turns.turn_at.Goals as goal

pub returns-then-walk-lt8-clause-refused : goal.returns-then-walk-lt8-clause-refused
returns-then-walk-lt8-clause-refused c = λ listed nodes t bits read.
    end_is_wrong listed nodes c.args.walk.bits t c.args.walk.at bits (omega arith) (subst (λ (k : ReadToken). IsReadAs c.args.walk.at t k) c.in-EndNode.is read)

pub returns-then-walk-ge-DEEPEST-clause-refused : goal.returns-then-walk-ge-DEEPEST-clause-refused
returns-then-walk-ge-DEEPEST-clause-refused c = λ listed nodes t bits read.
    deep_there listed nodes c.args.walk.bits c.args.walk.at c.in-BeginNode.length c.in-BeginNode.label t bits (omega arith) (subst (λ (k : ReadToken). IsReadAs c.args.walk.at t k) c.in-BeginNode.is read)

pub returns-after-contains-clause-shallow : goal.returns-after-contains-clause-shallow
returns-after-contains-clause-shallow c = λ listed nodes t bits read.
    shallow_there listed nodes c.args.walk.bits c.args.walk.at c.in-BeginNode.length c.in-BeginNode.label t bits (omega arith) (subst (λ (k : ReadToken). IsReadAs c.args.walk.at t k) c.in-BeginNode.is read)
