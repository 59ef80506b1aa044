use Rattle.std.proofs.Common.{rules, ◌≡◌, ℕ, List, [], length, map, get_or, ◌∙◌, ap, sym, refl, arith}
use Rattle.uimg_legacy.specs.Devices.{bytes_of}
use Rattle.uimg_legacy.proofs.DevicesLaws.{same_then, count_bytes, count_parts}
use Rattle.uimg_legacy.proofs.EmptyLaws.{empty_none, full_more, empty_at}
use Rattle.uimg_legacy.proofs.measure.has_empty.Goals as goal

pub loop-i-init : goal.loop-i-init
loop-i-init g c = record { count = refl; same = record { bytes = refl; honest = refl }; asked = refl; failures = refl; full = empty_none }

pub loop-i-preserved : goal.loop-i-preserved
loop-i-preserved g c =
    let device = g.S.Source.device in
    let bytes = bytes_of (map device c.args.parts.now) in
    let same = same_then (map device c.args.parts.now) (map device c.loop-i.parts) (map device c.part_size.new.parts) c.loop-i.invariant.same c.part_size.ensures.uses.same in
    let size : c.in_ok-part_size.field-0 ≡ length (get_or bytes c.loop-i.i []) = c.in_ok-part_size.ensures.answer ∙ ap (λ (ps : List (List ℕ)). length (get_or ps c.loop-i.i [])) c.loop-i.invariant.same.bytes in
    record {
      count = count_parts device c.args.parts.now c.part_size.new.parts same;
      same = same;
      asked = c.part_size.ensures.uses.asked ∙ c.loop-i.invariant.asked;
      failures = c.in_ok-part_size.ensures.uses.failures ∙ c.loop-i.invariant.failures;
      full = full_more bytes c.loop-i.i (omega (arith, count_bytes device c.args.parts.now)) c.loop-i.invariant.full (λ none. absurd (omega (arith, size, none)));
    }

pub returns-then-branch-eq0 : goal.returns-then-branch-eq0
returns-then-branch-eq0 g c =
    let device = g.S.Source.device in
    let bytes = bytes_of (map device c.args.parts.now) in
    let size : c.in_ok-part_size.field-0 ≡ length (get_or bytes c.loop-i.i []) = c.in_ok-part_size.ensures.answer ∙ ap (λ (ps : List (List ℕ)). length (get_or ps c.loop-i.i [])) c.loop-i.invariant.same.bytes in
    record { uses = search rules; answer = sym (empty_at bytes c.loop-i.i (omega (arith, count_bytes device c.args.parts.now)) (omega (arith, size))) }
