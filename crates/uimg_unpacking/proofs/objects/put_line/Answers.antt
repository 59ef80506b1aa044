use Rattle.uimg_unpacking.proofs.objects.put_line.Goals as goal

pub returns-in-Overlapping : goal.returns-in-Overlapping
returns-in-Overlapping c = rw (c.in-Overlapping.is) c.put_about.ensures

pub returns-in-Part : goal.returns-in-Part
returns-in-Part c = rw (c.in-Part.is) c.put_part.ensures
