use Rattle.std.proofs.Common.{rules, ◌≡◌, ◌+◌, ◌-◌, ◌≤◌, length, sym}
use Rattle.uimg_base.proofs.StreamLaws.{reads_more}
use Rattle.uimg_base.proofs.reading.fill.Goals as goal

-- src/reading.rt:95:13
pub returns-then-filled-to-clause-filled : goal.returns-then-filled-to-clause-filled
returns-then-filled-to-clause-filled g c =
    let more : length c.read_some.new.to ≡ length c.loop-turn.to - c.loop-turn.filled = search rules in
    let few : c.in-Some.count ≤ length c.loop-turn.to - c.loop-turn.filled = search rules in
    let whole : c.loop-turn.filled + c.in-Some.count ≡ length c.args.to.now = search rules in
    λ _. rw (sym whole) (reads_more _ _ _ _ _ _ _ _ c.loop-turn.invariant.bound more few c.loop-turn.invariant.reads c.in-Some.ensures.reads)

-- src/reading.rt:87:5
pub loop-turn-preserved : goal.loop-turn-preserved
loop-turn-preserved g c =
    let more : length c.read_some.new.to ≡ length c.loop-turn.to - c.loop-turn.filled = search rules in
    let few : c.in-Some.count ≤ length c.loop-turn.to - c.loop-turn.filled = search rules in
    record {
      bound = search rules;
      reads = reads_more _ _ _ _ _ _ _ _ c.loop-turn.invariant.bound more few c.loop-turn.invariant.reads c.in-Some.ensures.reads;
    }
