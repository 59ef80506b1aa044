use Rattle.std.proofs.Common.{◌≡◌, ◌∙◌, ◌+◌, ◌-◌, ℕ, length, ap, arith}
use Rattle.uimg_base.specs.declared.spans.Span.{Span}
use Rattle.uimg_blob_reading.specs.{Indexed.IsRow, Rows.table}
use Rattle.uimg_signing.specs.PathSizes.{climb_size}
use Rattle.uimg_signing.proofs.{ClimbLaws.{climb_end, climb_more, climb_none, climb_past}, NamedLaws.{row_of, rows_count}}
use Rattle.uimg_signing.proofs.path_sizes.path_size.Goals as goal

pub returns-in_default : goal.returns-in_default
returns-in_default g c = λ t indexed.
    let now = c.loop-left in
    let none : climb_size now.left (table t) now.next ≡ 0 = ap (climb_size now.left (table t)) c.in_default.is ∙ climb_none now.left (table t) in
    omega (arith, none, (now.invariant t indexed).0)

pub returns-then-number-count : goal.returns-then-number-count
returns-then-number-count g c = λ t indexed.
    let now = c.loop-left in
    let past = climb_past now.left (table t) c.in-Some.number (omega (arith, rows_count t c.args.blob.now c.args.room.now.entries indexed)) in
    let none : climb_size now.left (table t) now.next ≡ 0 = ap (climb_size now.left (table t)) c.in-Some.is ∙ past in
    omega (arith, none, (now.invariant t indexed).0)

pub loop-left-preserved : goal.loop-left-preserved
loop-left-preserved g c = λ t indexed.
    let now = c.loop-left in
    let number = c.in-Some.number in
    let n = now.left - 1 in
    let r = row_of t c.args.blob.now c.args.room.now.entries number indexed (omega arith) in
    let there : IsRow c.args.blob.now c.args.room.now.entries number r.0 = record { nodes = t; indexed = indexed; is = r.1 } in
    let long : c.name.result.length ≡ length r.0.name = ap (λ (s : Span). s.length) (c.name.ensures.name r.0 there) in
    let from = ap (climb_size now.left (table t)) c.in-Some.is in
    let one = climb_more n now.left (table t) number r.0 (omega arith) r.1 in
    let around : climb_size n (table t) c.parent-next.result ≡ climb_size n (table t) r.0.parent = ap (climb_size n (table t)) (c.parent-next.ensures r.0 there) in
    let kept = now.invariant t indexed in
    let inside = c.name.ensures.inside t indexed in (
      omega (arith, kept.0, kept.1, long, from, one, around, inside, indexed.small, c.saturating_add.ensures, c.saturating_add-size.ensures),
      omega (arith, kept.1, inside, indexed.small, c.saturating_add.ensures, c.saturating_add-size.ensures),
    )

pub returns : goal.returns
returns g c = λ t indexed.
    let now = c.loop-left in
    let none : climb_size now.left (table t) now.next ≡ 0 = ap (λ (n : ℕ). climb_size n (table t) now.next) (let z : now.left ≡ 0 = omega arith in z) ∙ climb_end (table t) now.next in
    omega (arith, none, (now.invariant t indexed).0)
