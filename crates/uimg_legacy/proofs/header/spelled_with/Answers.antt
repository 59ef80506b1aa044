use Rattle.std.proofs.Common.{arith}
use Rattle.uimg_legacy.proofs.HeaderLaws.{fields-spelled}
use Rattle.uimg_legacy.proofs.header.spelled_with.Goals as goal

pub returns-clause-reads_back : goal.returns-clause-reads_back
returns-clause-reads_back c = fields-spelled c.args.sum c.args.header.now (omega arith) (omega arith) (omega arith) (omega arith) (omega arith) (omega arith)
