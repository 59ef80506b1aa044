use Rattle.std.proofs.Common.{rules}
use Rattle.uimg_fit_reading.proofs.PutLaws.{◌▶◌}
use Rattle.uimg_fit_reading.proofs.listing.fields.put_size.Goals as goal

pub returns-in-Ok : goal.returns-in-Ok
returns-in-Ok g c = record {
  faults = search rules;
  put = search rules;
  told = c.in-Ok.ensures.all ▶ c.put.ensures.told;
}
