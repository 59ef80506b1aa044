use Rattle.std.proofs.Common.{rules}
use Rattle.uimg_fit_reading.proofs.PutLaws.{line_then}
use Rattle.uimg_fit_reading.proofs.listing.addresses.put_address_line.Goals as goal

pub returns : goal.returns
returns g c = record {
  uses = search rules;
  faults = search rules;
  told = λ honest. line_then _ _ _ _ _ _ c.in_ok-put.ensures.told.all (c.put_address.ensures.told honest);
}
