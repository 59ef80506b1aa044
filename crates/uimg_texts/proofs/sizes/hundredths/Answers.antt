use Rattle.uimg_texts.proofs.Nearest.{rounded_tie, rounded_up, rounded_down}
use Rattle.uimg_texts.proofs.sizes.hundredths.Goals as goal
use Rattle.std.proofs.Common.{arith}

pub returns-then-twice_rest-unit : goal.returns-then-twice_rest-unit
returns-then-twice_rest-unit c =
    let r = rounded_tie c.args.number c.args.unit c.requires (omega arith) in record { value = r.value; nearest = r.nearest }

pub returns-then-twice_rest-unit-2 : goal.returns-then-twice_rest-unit-2
returns-then-twice_rest-unit-2 c =
    let r = rounded_up c.args.number c.args.unit c.requires (omega arith) in record { value = r.value; nearest = r.nearest }

pub returns-else-twice_rest-unit-2 : goal.returns-else-twice_rest-unit-2
returns-else-twice_rest-unit-2 c =
    let r = rounded_down c.args.number c.args.unit c.requires (omega arith) in record { value = r.value; nearest = r.nearest }
