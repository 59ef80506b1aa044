use Rattle.std.proofs.Common.{◌≡◌, ◌<◌, ◌+◌, ◌++◌, ℕ, List, [], length, map, take, get_or, append_assoc, append-nil, ◌∙◌, ap, sym, subst, refl, arith}
use Rattle.uimg_legacy.specs.{Building.{padding, joined}, Devices.bytes_of}
use Rattle.uimg_legacy.proofs.DevicesLaws.{same_then, honest_then, count_bytes, count_parts}
use Rattle.uimg_legacy.proofs.JoinedLaws.{joined_none, joined_nil, joined_more, remainder_more}
use Rattle.uimg_legacy.proofs.built_data.feed_joined.Goals as goal

pub loop-i-init : goal.loop-i-init
loop-i-init g c = record {
  count = refl;
  same = record { bytes = refl; honest = refl };
  failures = refl;
  small = omega arith;
  remainder = omega (arith, joined_none);
  fed = λ honest fed held. subst (λ (w : List ℕ). g.M.Summer.holds c.args.sum.now w) (sym (ap (λ (w : List ℕ). fed ++ w) joined_nil ∙ append-nil fed)) held;
}

pub loop-i-preserved : goal.loop-i-preserved
loop-i-preserved g c =
    let device = g.S.Source.device in
    let old = map device c.args.parts.now in
    let bytes = bytes_of old in
    let i = c.loop-i.i in
    let same = same_then old (map device c.loop-i.parts) (map device c.feed_part.new.parts) c.loop-i.invariant.same c.feed_part.ensures.feeds.uses.same in
    let within : i < length bytes = omega (arith, count_bytes device c.args.parts.now) in
    let here : get_or (bytes_of (map device c.loop-i.parts)) i [] ≡ get_or bytes i [] = ap (λ (ps : List (List ℕ)). get_or ps i []) c.loop-i.invariant.same.bytes in
    let size : c.in_ok-remainder.field-0 ≡ length (get_or bytes i []) = c.in_ok-remainder.ensures.size ∙ ap length here in
    record {
      count = count_parts device c.args.parts.now c.feed_part.new.parts same;
      same = same;
      failures = c.in_ok-remainder.ensures.feeds.uses.failures ∙ c.loop-i.invariant.failures;
      small = omega arith;
      remainder = omega (arith, size, remainder_more bytes i within);
      fed = λ honest fed held.
          let now = honest_then old (map device c.loop-i.parts) c.loop-i.invariant.same honest in
          let zeros : c.zeros_after.result.now ≡ padding (length (joined (take i bytes))) = c.zeros_after.ensures (length (joined (take i bytes))) c.loop-i.invariant.remainder in
          let one = c.in_ok-remainder.ensures.feeds.fed now _ (c.feed.ensures _ (c.loop-i.invariant.fed honest fed held)) in
          let all : ((fed ++ joined (take i bytes)) ++ c.zeros_after.result.now) ++ get_or (bytes_of (map device c.loop-i.parts)) i [] ≡ fed ++ joined (take (i + 1) bytes) =
          rw (zeros, here) (
          append_assoc (fed ++ joined (take i bytes)) (padding (length (joined (take i bytes)))) (get_or bytes i [])
          ∙ append_assoc fed (joined (take i bytes)) (padding (length (joined (take i bytes))) ++ get_or bytes i [])
          ∙ ap (λ (w : List ℕ). fed ++ w) (sym (joined_more bytes i within))
          ) in
          subst (λ (w : List ℕ). g.M.Summer.holds c.feed_part.new.sum w) all one;
    }
