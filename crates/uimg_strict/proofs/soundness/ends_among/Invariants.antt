use Rattle.std.proofs.Common.{◌≡◌, ◌≤◌, ◌+◌, ◌*◌, length, IsTrue}
use Rattle.uimg_base.specs.Device.{SameDevice}
use Rattle.uimg_strict.specs.Soundness.{ends_among}
use Rattle.uimg_strict.proofs.soundness.ends_among.Given as goal

-- no entry before the next one is the last
abbrev pub invariant-loop-left : goal.invariant-loop-left
invariant-loop-left g l =
    let device = g.S.Source.device in
    let file = (device l.fn.source).bytes in
    record {
      same : SameDevice (device l.fn.source) (device l.source);
      failures : (device l.source).failures ≡ (device l.fn.source).failures;
      within : l.next + 16 * l.left ≤ length file;
      told : IsTrue (device l.fn.source).honest → ends_among file l.next l.left ≡ ends_among file l.at l.count;
    }

abbrev pub decreases-loop-left : goal.decreases-loop-left
decreases-loop-left g l = l.left
