use Rattle.uimg_blob_reading.proofs.TellLaws.{no_fault}
use Rattle.uimg_blob_reading.proofs.properties.extent_again.Goals as goal

pub returns-in-Err-Blob-clause-again : goal.returns-in-Err-Blob-clause-again
returns-in-Err-Blob-clause-again g c = λ honest t is total.
    no_fault (g.S.Source.device c.args.source.now).bytes t c.in-Err-Blob.field-0 c.in-Err-Blob.field-0-0 c.in-Err-Blob.field-0-1 is c.in-Err-Blob.field-0-is (c.in-Err-Blob.ensures.gives honest)
