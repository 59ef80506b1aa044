use Rattle.std.proofs.Common.{rules, arith, ◌+◌, Some, None}
use Rattle.std.proofs.Common.{inl, inr, refl, sym, ◌∙◌}
use Rattle.uimg_blob_reading.specs.{Extents.blocks_of, Tokens.token_at}
use Rattle.uimg_signing.proofs.GoingLaws.{beyond, true_false}
use Rattle.uimg_signing.proofs.StepLaws.{few, cost, early, passes, stays, moves, refuses_early, turn_token}
use Rattle.uimg_signing.specs.Covering.{is_marked}
use Rattle.uimg_signing.proofs.walking.step.Goals as goal

pub returns-then-turn : goal.returns-then-turn
returns-then-turn g c =
    let d = g.S.Source.device c.args.source.now in
    let e = g.S.Source.device c.read_token.new.source in
    let turn = c.in-Ok-turn_at.turn in
    record {
      uses = search rules;
      asked = omega (arith, c.read_token.ensures.most, c.feed_turn.ensures.asked, few turn.is_property);
      room = search rules;
      refused = search rules;
      ahead = search rules;
      passes = passes g.M.Sums.fed c.args.marks.now d e c.args.extent c.args.walk c.in-Ok.token turn None c.args.sums.now c.feed_turn.new.sums
          c.read_token.ensures.uses.same c.in-Ok.ensures.read c.in-Ok-turn_at.ensures.turns c.in-Ok-turn_at.ensures.shallow c.in-Ok-feed_turn.ensures.named c.in-Ok-feed_turn.ensures.feeds (λ is. omega arith) (stays turn c.args.walk.at c.args.walk.names c.if-turn.true);
    }

pub returns : goal.returns
returns g c =
    let d = g.S.Source.device c.args.source.now in
    let e = g.S.Source.device c.read_token.new.source in
    let turn = c.in-Ok-turn_at.turn in
    record {
      uses = search rules;
      asked = omega (arith, c.read_token.ensures.most, c.feed_turn.ensures.asked, few turn.is_property);
      room = search rules;
      refused = search rules;
      ahead = (refl, omega (arith, c.in-Ok-turn_at.ensures.lies.some), omega arith, omega (arith, c.read_token.ensures.most, c.feed_turn.ensures.asked, cost turn.is_property turn.size c.in-Ok-turn_at.ensures.lies.some c.in-Ok-turn_at.ensures.lies.head));
      passes = passes g.M.Sums.fed c.args.marks.now d e c.args.extent c.args.walk c.in-Ok.token turn (Some (record { at = c.args.walk.at + turn.size; bits = turn.bits; names = c.args.walk.names })) c.args.sums.now c.feed_turn.new.sums
          c.read_token.ensures.uses.same c.in-Ok.ensures.read c.in-Ok-turn_at.ensures.turns c.in-Ok-turn_at.ensures.shallow c.in-Ok-feed_turn.ensures.named c.in-Ok-feed_turn.ensures.feeds (λ is. true_false turn.is_last is c.if-turn.false) (moves turn c.args.walk.at c.args.walk.names c.if-turn.false);
    }

pub returns-then-extent-walk : goal.returns-then-extent-walk
returns-then-extent-walk g c =
    let d = g.S.Source.device c.args.source.now in
    let b = blocks_of d.bytes c.args.extent in
    let at = c.args.walk.at in
    let turn = c.in-Ok-turn_at.turn in
    record {
      uses = search rules;
      asked = search rules;
      room = search rules;
      ahead = search rules;
      refused = λ honest nodes bits.
          let does = c.in-Ok-turn_at.ensures.turns nodes (token_at b at) bits (c.in-Ok.ensures.read honest) in
          inr (inl (refl, inr (beyond b at (token_at b at) turn.is_last turn.size (c.in-Ok-turn_at.ensures.fits c.args.extent.structure_end c.in-Ok.ensures.stands) (omega arith) does.size does.last does.next)));
      passes = search rules;
    }

pub returns-in-Err : goal.returns-in-Err
returns-in-Err g c =
    let d = g.S.Source.device c.args.source.now in
    let b = blocks_of d.bytes c.args.extent in
    let at = c.args.walk.at in
    record {
      uses = search rules;
      asked = search rules;
      room = search rules;
      ahead = search rules;
      refused = λ honest nodes bits.
          turn_token c.in-Err.fault (is_marked c.args.marks.now) b c.args.walk.names nodes at
          (c.in-Err.ensures.refused (is_marked c.args.marks.now) nodes (token_at b at) bits (c.in-Ok.ensures.read honest));
      passes = search rules;
    }

pub returns-then-walk-turn : goal.returns-then-walk-turn
returns-then-walk-turn g c =
    let d = g.S.Source.device c.args.source.now in
    let b = blocks_of d.bytes c.args.extent in
    let at = c.args.walk.at in
    let turn = c.in-Ok-turn_at.turn in
    record {
      uses = search rules;
      asked = omega (arith, c.read_token.ensures.most, c.feed_turn.ensures.asked, few turn.is_property);
      room = search rules;
      ahead = search rules;
      refused = λ honest nodes bits.
          let does = c.in-Ok-turn_at.ensures.turns nodes (token_at b at) bits (c.in-Ok.ensures.read honest) in
          let ended = sym does.last ∙ c.if-turn.true in
          inr (inr (refuses_early (is_marked c.args.marks.now) b c.args.walk.names nodes (token_at b at) ended
          (early (token_at b at) at turn.size c.args.extent.structure_end does.place does.size ended (omega arith))));
      passes = search rules;
    }
