use Rattle.std.proofs.Common.{rules, ◌≡◌, true, false, refl}
use Rattle.uimg_unpacking.specs.PartEnds.{is_number}
use Rattle.uimg_unpacking.proofs.NumberLaws.{none_after, number_read, number_unread}
use Rattle.uimg_unpacking.proofs.part_unpacking.number_in.Goals as goal

pub returns-then-not-is_number : goal.returns-then-not-is_number
returns-then-not-is_number c =
    let bad : is_number c.args.digits.now ≡ false = search rules in
    none_after c.args.digits.now 4294967295 refl bad

pub returns-in-Ok : goal.returns-in-Ok
returns-in-Ok c =
    let is : is_number c.args.digits.now ≡ true = search rules in
    number_read c.args.digits.now c.parse.result c.in-Ok.number is c.in-Ok.is c.parse.ensures.value.0

pub returns-in-Err : goal.returns-in-Err
returns-in-Err c = number_unread c.args.digits.now c.parse.result c.in-Err.field-0 4294967295 refl c.in-Err.is c.parse.ensures.value.0
