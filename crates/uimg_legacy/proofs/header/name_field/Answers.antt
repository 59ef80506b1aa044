use Rattle.uimg_legacy.proofs.HeaderLaws.{name_cut}
use Rattle.uimg_legacy.proofs.header.name_field.Goals as goal

pub returns : goal.returns
returns c = name_cut c.args.name.now c.copy_from_slice.new.self c.min-len.result c.min-len.ensures c.copy_from_slice.ensures.after
