use Rattle.std.proofs.Common.{rules}
use Rattle.uimg_blob_reading.proofs.PropertyLaws.{name_read}
use Rattle.uimg_blob_reading.proofs.places.name_length.Goals as goal

pub returns-clause-name : goal.returns-clause-name
returns-clause-name g c =
    let bytes = (g.S.Source.device c.args.source.now).bytes in
    record {
      uses = search rules;
      told = λ honest. name_read bytes c.args.at c.args.end _ c.first_nul.result (c.in_ok-length.ensures.near.told honest) c.first_nul.ensures.within c.first_nul.ensures.text;
    }
