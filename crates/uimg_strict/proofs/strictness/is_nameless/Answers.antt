use Rattle.std.proofs.Common.{sym, ◌∙◌}
use Rattle.uimg_strict.proofs.BlobLaws.{rootless, root_named}
use Rattle.uimg_strict.proofs.strictness.is_nameless.Goals as goal

pub returns-then-count-eq0 : goal.returns-then-count-eq0
returns-then-count-eq0 g c = λ file t read.
    rootless t c.args.blob.now c.args.room.now.entries read.indexed (sym c.count.ensures ∙ c.if-count-eq0.true)

pub returns : goal.returns
returns g c = λ file t read.
    root_named t c.args.blob.now c.args.room.now.entries c.name.result read.indexed (λ none. c.if-count-eq0.false (c.count.ensures ∙ none)) c.name.ensures.name
