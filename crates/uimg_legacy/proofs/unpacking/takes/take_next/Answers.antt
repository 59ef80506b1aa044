use Rattle.std.proofs.Common.{rules, ◌∙◌, ◌+◌, ◌*◌, sym, arith}
use Rattle.uimg_legacy.proofs.{SourceLaws.same_still, TakingLaws.{word_at, padded}}
use Rattle.uimg_legacy.proofs.unpacking.takes.take_next.Goals as goal

pub returns-then-len-eq0-clause-refused : goal.returns-then-len-eq0-clause-refused
returns-then-len-eq0-clause-refused g c = λ honest.
    sym (word_at _ _ _ (c.in_ok-fill_at.ensures.bytes honest)) ∙ sym c.be32_at-len.ensures ∙ c.if-len-eq0.true

pub returns-then-len-left-clause-refused : goal.returns-then-len-left-clause-refused
returns-then-len-left-clause-refused g c = λ honest.
    let word = word_at (g.S.Source.device c.args.source.now).bytes c.fill_at.new.to (64 + 4 * c.args.number) (c.in_ok-fill_at.ensures.bytes honest) in
    omega (arith, word, c.be32_at-len.ensures, c.if-len-left.true, c.requires.place)

pub returns-clause-taken : goal.returns-clause-taken
returns-clause-taken g c =
    let to = c.fill_at.new.to in
    record {
      word = to;
      long = search rules;
      some = λ e. c.if-len-eq0.false (c.be32_at-len.ensures ∙ e);
      fits = omega (arith, c.be32_at-len.ensures, c.if-len-left.false, c.requires.place);
      place = omega (arith, c.be32_at-len.ensures, c.up4.ensures, c.min-all.ensures, c.requires.place);
      sizes = c.feed.ensures;
      read = λ honest. c.in_ok-fill_at.ensures.bytes honest;
      taken = padded _ _ g.T.PartTaker.honest c.args.number _ _ _ _ _ _ _ _ _ _ _ _ _ c.fill_at.ensures.same (same_still c.fill_at.ensures.same c.take_if.ensures.takes.uses.same) c.is_asked-asked.ensures c.be32_at-len.ensures (omega arith)
          (omega (arith, c.up4.ensures, c.min-all.ensures, c.if-len-left.false)) c.in_ok-take_if.ensures.taken c.in_ok-feed_through.ensures.fed;
    }
