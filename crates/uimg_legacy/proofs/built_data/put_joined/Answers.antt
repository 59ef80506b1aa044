use Rattle.std.proofs.Common.{rules, ◌≡◌, ◌<◌, ℕ, List, [], length, map, take, get_or, ◌∙◌, ap, refl, arith}
use Rattle.uimg_base.proofs.SinkLaws.{prefix_all, prefix_first, prefix_then, all_then}
use Rattle.uimg_legacy.specs.{Building.{padding, joined}, Devices.bytes_of, Faults.is_read}
use Rattle.uimg_legacy.proofs.{LinesLaws.all_none, PartStepsLaws.puts_by}
use Rattle.uimg_legacy.proofs.DevicesLaws.{same_then, honest_then, uses_then, count_bytes, count_parts}
use Rattle.uimg_legacy.proofs.JoinedLaws.{joined_none, joined_nil, joined_more, remainder_more, joined_prefix, joined_all}
use Rattle.uimg_legacy.proofs.built_data.put_joined.Goals as goal

pub loop-i-init : goal.loop-i-init
loop-i-init g c = record {
  count = refl;
  same = record { bytes = refl; honest = refl };
  failures = refl;
  faults = refl;
  small = omega arith;
  remainder = omega (arith, joined_none);
  written = λ honest. rw joined_nil (all_none c.args.out.now);
}

pub returns-in_err-put_all : goal.returns-in_err-put_all
returns-in_err-put_all g c = puts_by (search rules) (search rules) (search rules) (λ honest.
    let bytes = bytes_of (map g.S.Source.device c.args.parts.now) in
    let i = c.loop-i.i in
    let zeros : c.zeros_after.result.now ≡ padding (length (joined (take i bytes))) = c.zeros_after.ensures _ c.loop-i.invariant.remainder in
    let here = prefix_first c.loop-i.out c.put_all.new.self (padding (length (joined (take i bytes)))) (get_or bytes i []) (rw zeros at c.put_all.ensures.writes.prefix) in
    record { all = search rules; prefix = joined_prefix c.args.out.now c.loop-i.out c.put_all.new.self bytes i (omega (arith, count_bytes g.S.Source.device c.args.parts.now)) (c.loop-i.invariant.written honest) here })

pub returns-in_err-remainder : goal.returns-in_err-remainder
returns-in_err-remainder g c =
    let failed : is_read c.from_residual-in_err-remainder.result ≡ is_read c.put_part.result = search rules in
    let inv = c.loop-i.invariant in
    puts_by (rw failed (uses_then (record { same = inv.same; failures = inv.failures }) c.put_part.ensures.puts.uses)) (search rules) (search rules) (λ honest.
    let bytes = bytes_of (map g.S.Source.device c.args.parts.now) in
    let i = c.loop-i.i in
    let zeros : c.zeros_after.result.now ≡ padding (length (joined (take i bytes))) = c.zeros_after.ensures _ inv.remainder in
    let here : get_or (bytes_of (map g.S.Source.device c.loop-i.parts)) i [] ≡ get_or bytes i [] = ap (λ (ps : List (List ℕ)). get_or ps i []) inv.same.bytes in
    let part = prefix_then c.loop-i.out c.put_all.new.self c.put_part.new.out (padding (length (joined (take i bytes)))) (get_or bytes i []) (rw zeros at c.in_ok-put_all.ensures.writes.all) (rw here at (c.put_part.ensures.puts.written (honest_then _ _ inv.same honest)).prefix) in
    record { all = search rules; prefix = joined_prefix c.args.out.now c.loop-i.out c.put_part.new.out bytes i (omega (arith, count_bytes g.S.Source.device c.args.parts.now)) (inv.written honest) part })

pub loop-i-preserved : goal.loop-i-preserved
loop-i-preserved g c =
    let device = g.S.Source.device in
    let old = map device c.args.parts.now in
    let bytes = bytes_of old in
    let i = c.loop-i.i in
    let same = same_then old (map device c.loop-i.parts) (map device c.put_part.new.parts) c.loop-i.invariant.same c.put_part.ensures.puts.uses.same in
    let within : i < length bytes = omega (arith, count_bytes device c.args.parts.now) in
    let here : get_or (bytes_of (map device c.loop-i.parts)) i [] ≡ get_or bytes i [] = ap (λ (ps : List (List ℕ)). get_or ps i []) c.loop-i.invariant.same.bytes in
    let size : c.in_ok-remainder.field-0 ≡ length (get_or bytes i []) = c.in_ok-remainder.ensures.size ∙ ap length here in
    record {
      count = count_parts device c.args.parts.now c.put_part.new.parts same;
      same = same;
      failures = c.in_ok-remainder.ensures.puts.uses.failures ∙ c.loop-i.invariant.failures;
      faults = omega (arith, c.in_ok-remainder.ensures.puts.faults, c.in_ok-put_all.ensures.writes.faults);
      small = omega arith;
      remainder = omega (arith, size, remainder_more bytes i within);
      written = λ honest.
          let now = honest_then old (map device c.loop-i.parts) c.loop-i.invariant.same honest in
          let zeros : c.zeros_after.result.now ≡ padding (length (joined (take i bytes))) = c.zeros_after.ensures _ c.loop-i.invariant.remainder in
          let one = all_then c.loop-i.out c.put_all.new.self c.put_part.new.out (padding (length (joined (take i bytes)))) (get_or bytes i [])
          (rw zeros at c.in_ok-put_all.ensures.writes.all) (rw here at (c.in_ok-remainder.ensures.puts.written now).all) in
          rw (joined_more bytes i within) (all_then c.args.out.now c.loop-i.out c.put_part.new.out (joined (take i bytes)) _ (c.loop-i.invariant.written honest) one);
    }

pub returns : goal.returns
returns g c =
    let all = joined_all (bytes_of (map g.S.Source.device c.args.parts.now)) c.loop-i.i (omega (arith, count_bytes g.S.Source.device c.args.parts.now)) in
    puts_by (search rules) (search rules) (search rules) (λ honest.
    let whole = rw all at c.loop-i.invariant.written honest in
    record { all = whole; prefix = prefix_all _ _ _ whole })
