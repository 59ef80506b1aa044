use Rattle.std.proofs.{Common.sym, lemmas.Str.is_utf8-from_IsUtf8}
use Rattle.uimg_printing.proofs.TextLaws.{utf8_not}
use Rattle.uimg_info.proofs.members.is_utf8.Goals as goal

pub returns-in-Ok : goal.returns-in-Ok
returns-in-Ok c = sym (is_utf8-from_IsUtf8 c.args.bytes.now c.in-Ok.ensures.cases.1)

pub returns-in-Err : goal.returns-in-Err
returns-in-Err c = sym (utf8_not c.args.bytes.now c.in-Err.ensures.cases.0)
