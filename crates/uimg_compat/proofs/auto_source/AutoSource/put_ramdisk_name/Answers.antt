use Rattle.uimg_compat.proofs.auto_source.AutoSource.put_ramdisk_name.Goals as goal

pub returns-in-Some : goal.returns-in-Some
returns-in-Some g c = rw c.in-Some.is c.put_items.ensures
