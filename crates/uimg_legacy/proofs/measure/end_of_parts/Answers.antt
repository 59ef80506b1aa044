use Rattle.std.proofs.Common.{◌≡◌, ◌<◌, ◌^◌, ℕ, List, [], length, map, get_or, ◌∙◌, ap, refl, arith}
use Rattle.uimg_legacy.specs.Devices.{bytes_of}
use Rattle.uimg_legacy.proofs.DevicesLaws.{same_then, count_bytes, count_parts}
use Rattle.uimg_legacy.proofs.JoinedLaws.{joined_none, length_more}
use Rattle.uimg_legacy.proofs.measure.end_of_parts.Goals as goal

pub loop-i-init : goal.loop-i-init
loop-i-init g c = record { count = refl; same = record { bytes = refl; honest = refl }; asked = refl; failures = refl; most = omega (arith, joined_none); exact = λ _. omega (arith, joined_none) }

pub loop-i-preserved : goal.loop-i-preserved
loop-i-preserved g c =
    let device = g.S.Source.device in
    let bytes = bytes_of (map device c.args.parts.now) in
    let same = same_then (map device c.args.parts.now) (map device c.loop-i.parts) (map device c.part_size.new.parts) c.loop-i.invariant.same c.part_size.ensures.uses.same in
    let size : c.in_ok-size.size ≡ length (get_or bytes c.loop-i.i []) = c.in_ok-size.ensures.answer ∙ ap (λ (ps : List (List ℕ)). length (get_or ps c.loop-i.i [])) c.loop-i.invariant.same.bytes in
    let more = length_more bytes c.loop-i.i (omega (arith, count_bytes device c.args.parts.now)) in
    record {
      count = count_parts device c.args.parts.now c.part_size.new.parts same;
      same = same;
      asked = c.part_size.ensures.uses.asked ∙ c.loop-i.invariant.asked;
      failures = c.in_ok-size.ensures.uses.failures ∙ c.loop-i.invariant.failures;
      most = omega (arith, size, more, c.requires);
      exact = λ small.
          let before : c.loop-i.end < 2 ^ 32 = omega (arith, small) in
          omega (arith, size, more, c.requires, small, c.loop-i.invariant.exact before);
    }
