use Rattle.std.proofs.Common.{rules, arith}
use Rattle.uimg_blob_reading.specs.Extents.{blocks_of}
use Rattle.uimg_blob_reading.proofs.PropertyLaws.{head_is}
use Rattle.uimg_blob_reading.proofs.tokens.read_head.Goals as goal

pub returns-clause-head : goal.returns-clause-head
returns-clause-head g c =
    let b = blocks_of (g.S.Source.device c.args.source.now).bytes c.args.extent in
    record {
      uses = search rules;
      told = λ honest. head_is b c.args.at c.in_ok-length.length c.in_ok-length.name (c.in_ok-length.ensures.told honest).0 (c.in_ok-length.ensures.told honest).1 (omega arith) (omega arith);
    }
