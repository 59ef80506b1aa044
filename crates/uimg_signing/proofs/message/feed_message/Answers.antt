use Rattle.std.proofs.Common.{arith, Ok, Err, ◌∙◌, ap, sym, List, ℕ}
use Rattle.uimg_signing.specs.{Covering.is_marked, Refusing.names_size}
use Rattle.uimg_signing.proofs.StepLaws.{now_honest}
use Rattle.uimg_signing.proofs.MessageLaws.{twice, whole, rooted, refuses_tokens, outside, strings_size}
use Rattle.uimg_signing.proofs.message.feed_message.Goals as goal

pub returns-in-Ok-feed_through-clause-fed : goal.returns-in-Ok-feed_through-clause-fed
returns-in-Ok-feed_through-clause-fed g c = λ honest t is total.
    let device = g.S.Source.device in
    let d = device c.args.source.now in
    whole g.M.Sums.fed g.M.Sums.fed_more (is_marked c.args.marks.now) d (device c.names_size.new.source) (device c.feed_tokens.new.source) c.in-Ok.extent t c.args.strings _ _ _
    (twice c.extent_again.ensures.uses.same c.names_size.ensures.uses.same) c.feed_tokens.ensures.uses.same honest is (c.in-Ok.ensures.again honest t is (c.totalsize.ensures ∙ total)) c.in-Ok-feed_tokens.ensures.feeds c.in-Ok-feed_through.ensures.fed

pub returns-in-Err-feed_tokens-clause-refused : goal.returns-in-Err-feed_tokens-clause-refused
returns-in-Err-feed_tokens-clause-refused g c = λ honest t is total.
    let device = g.S.Source.device in
    let d = device c.args.source.now in
    let e = device c.names_size.new.source in
    let first = c.extent_again.ensures.uses.same in
    let same = twice first c.names_size.ensures.uses.same in
    let found = c.in-Ok.ensures.again honest t is (c.totalsize.ensures ∙ total) in
    let names = c.in-Ok-names_size.ensures.told (now_honest first honest) ∙ ap (λ (xs : List ℕ). names_size xs c.in-Ok.extent.strings c.args.strings) first.bytes in
    refuses_tokens (is_marked c.args.marks.now) d e c.in-Ok.extent t c.args.strings c.in-Ok-names_size.names (Err c.in-Err-feed_tokens.fault) same is found (omega arith) names
    (c.in-Err-feed_tokens.ensures.refused (now_honest same honest) t (rooted d e c.in-Ok.extent t same found is))

pub returns-then-strings-extent-clause-refused : goal.returns-then-strings-extent-clause-refused
returns-then-strings-extent-clause-refused g c = λ honest t is total read memory.
    let d = g.S.Source.device c.args.source.now in
    let found = c.in-Ok.ensures.again honest t is (c.totalsize.ensures ∙ total) in
    sym (outside (is_marked c.args.marks.now) d.bytes c.args.strings c.in-Ok.extent.strings_size (strings_size d.bytes c.in-Ok.extent found) (omega arith))

pub returns-in-Ok-feed_through-clause-refused : goal.returns-in-Ok-feed_through-clause-refused
returns-in-Ok-feed_through-clause-refused g c = λ honest t is total.
    let device = g.S.Source.device in
    let d = device c.args.source.now in
    let e = device c.names_size.new.source in
    let first = c.extent_again.ensures.uses.same in
    let same = twice first c.names_size.ensures.uses.same in
    let found = c.in-Ok.ensures.again honest t is (c.totalsize.ensures ∙ total) in
    let names = c.in-Ok-names_size.ensures.told (now_honest first honest) ∙ ap (λ (xs : List ℕ). names_size xs c.in-Ok.extent.strings c.args.strings) first.bytes in
    refuses_tokens (is_marked c.args.marks.now) d e c.in-Ok.extent t c.args.strings c.in-Ok-names_size.names (Ok tt) same is found (omega arith) names
    (c.in-Ok-feed_tokens.ensures.refused (now_honest same honest) t (rooted d e c.in-Ok.extent t same found is))
