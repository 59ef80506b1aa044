use Rattle.std.proofs.Common.{arith}
use Rattle.uimg_blob_reading.proofs.PhaseLaws.{bare_some, bare_none}
use Rattle.uimg_blob_reading.proofs.states.bare.Goals as goal

pub returns-in-Some-clause-bare : goal.returns-in-Some-clause-bare
returns-in-Some-clause-bare g c p h = bare_some p c.args.state c.args.room.now.entries c.in-Some.number h c.in-Some.is (omega arith)

pub returns-in_default-clause-bare : goal.returns-in_default-clause-bare
returns-in_default-clause-bare g c p h = bare_none p c.args.state c.args.room.now.entries c.in-Some.number h c.in-Some.is
    (λ one. c.if-count-number-eq1.false (omega (arith, one)))

pub returns-in_default-2-clause-bare : goal.returns-in_default-2-clause-bare
returns-in_default-2-clause-bare g c p h = bare_none p c.args.state c.args.room.now.entries c.in-Some.number h c.in-Some.is (λ one. omega (arith, one))
