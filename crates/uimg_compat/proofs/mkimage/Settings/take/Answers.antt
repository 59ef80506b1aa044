use Rattle.uimg_compat.proofs.mkimage.Settings.take.Goals as goal

pub returns-in-Value : goal.returns-in-Value
returns-in-Value c = rw c.in-Value.is c.take_value.ensures
