use Rattle.std.proofs.Common.{◌≢◌, ◌∙◌, get_or, sym, arith}
use Rattle.uimg_legacy.specs.Words.{whole_words}
use Rattle.uimg_legacy.proofs.PartsLaws.{words-at, length-words, sizes_more, sizes_end}
use Rattle.uimg_legacy.proofs.ChunkLaws.{sizes-le-words}
use Rattle.uimg_legacy.proofs.table.leading_sizes.Goals as goal

pub returns-then-be32_at-eq0-clause-count : goal.returns-then-be32_at-eq0-clause-count
returns-then-be32_at-eq0-clause-count c =
    let bytes = c.args.bytes.now in
    let i = c.loop-i.i in
    let few = length-words bytes in
    sizes_end bytes i c.loop-i.invariant (omega (arith, few.1))
    (words-at bytes i (omega arith) ∙ sym c.be32_at.ensures ∙ c.if-be32_at-eq0.true)

pub loop-i-preserved : goal.loop-i-preserved
loop-i-preserved c =
    let bytes = c.args.bytes.now in
    let i = c.loop-i.i in
    let few = length-words bytes in
    let more : get_or (whole_words bytes) i 0 ≢ 0 = λ e. c.if-be32_at-eq0.false (c.be32_at.ensures ∙ sym (words-at bytes i (omega arith)) ∙ e) in
    sizes_more bytes i c.loop-i.invariant (omega (arith, few.1)) more

pub returns-clause-count : goal.returns-clause-count
returns-clause-count c =
    let few = length-words c.args.bytes.now in
    omega (arith, c.loop-i.invariant, few.0, sizes-le-words c.args.bytes.now)
