use Rattle.std.proofs.Common.{rules, Some, ◌∙◌, ap, arith}
use Rattle.uimg_map.proofs.TableLaws.{read_word, counted, uncounted, lacks_words, all_words, one_more}
use Rattle.uimg_map.proofs.legacy_contents.count_sizes.Goals as goal

pub returns-in-Some-eq0-clause-count : goal.returns-in-Some-eq0-clause-count
returns-in-Some-eq0-clause-count g c h =
    let device = g.S.Source.device in
    let d = device c.args.source.now in
    let i = c.loop-number.number in
    let word = read_word d (device c.loop-number.source) i c.in_ok-size_at.field-0 (Some 0) c.loop-number.invariant.same c.in_ok-size_at.ensures.word (c.in-Some-eq0.is ∙ ap Some c.in-Some-eq0.field-0-test) h in
    counted d.bytes c.args.size i (omega (arith, c.loop-number-test.true)) (c.loop-number.invariant.before h) word

pub returns-in-None-clause-count : goal.returns-in-None-clause-count
returns-in-None-clause-count g c h =
    let device = g.S.Source.device in
    let d = device c.args.source.now in
    let i = c.loop-number.number in
    let word = read_word d (device c.loop-number.source) i c.in_ok-size_at.field-0 _ c.loop-number.invariant.same c.in_ok-size_at.ensures.word c.in-None.is h in
    uncounted d.bytes c.args.size i (c.loop-number.invariant.before h) (lacks_words d.bytes c.args.size i word)

pub loop-number-preserved : goal.loop-number-preserved
loop-number-preserved g c =
    let device = g.S.Source.device in
    let d = device c.args.source.now in
    let i = c.loop-number.number in
    record {
      same = search rules;
      asked = omega (arith, c.loop-number.invariant.asked, c.in_ok-size_at.ensures.uses.asked);
      failures = search rules;
      before = λ h.
          let word = read_word d (device c.loop-number.source) i c.in_ok-size_at.field-0 (Some c.in-Some.field-0) c.loop-number.invariant.same c.in_ok-size_at.ensures.word c.in-Some.is h in
          one_more d.bytes c.args.size i c.in-Some.field-0 (omega (arith, c.loop-number-test.true)) (c.loop-number.invariant.before h) word c.in-Some.field-0-test.1;
    }

pub returns-clause-count : goal.returns-clause-count
returns-clause-count g c h =
    let d = g.S.Source.device c.args.source.now in
    let i = c.loop-number.number in
    uncounted d.bytes c.args.size i (c.loop-number.invariant.before h) (all_words d.bytes c.args.size i (omega (arith, c.loop-number-test.false)))
