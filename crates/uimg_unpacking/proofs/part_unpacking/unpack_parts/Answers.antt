use Rattle.std.proofs.Common.{rules, true}
use Rattle.uimg_unpacking.specs.Places.{terms_of}
use Rattle.uimg_unpacking.proofs.PartChanges.{within}
use Rattle.uimg_unpacking.proofs.part_unpacking.unpack_parts.Goals as goal

pub returns-clause-within : goal.returns-clause-within
returns-clause-within g c = within (terms_of c.args.asked.now.folder) true _ _ (search rules)
