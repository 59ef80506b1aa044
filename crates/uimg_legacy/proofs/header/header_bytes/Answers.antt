use Rattle.std.proofs.Common.{◌∙◌, ap, List, ℕ, arith}
use Rattle.uimg_sums.specs.Crc.{crc}
use Rattle.uimg_legacy.proofs.HeaderLaws.{header-spelled}
use Rattle.uimg_legacy.proofs.header.header_bytes.Goals as goal

pub returns-clause-reads_back : goal.returns-clause-reads_back
returns-clause-reads_back c =
    let sum = c.crc_of-sum.ensures ∙ ap (λ (w : List ℕ). crc w) c.spelled_with.ensures.bytes in
    rw c.spelled_with-2.ensures.bytes (header-spelled c.args.header.now c.crc_of-sum.result sum c.spelled_with-2.ensures.reads_back (omega arith))
