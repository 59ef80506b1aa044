use Rattle.std.proofs.Common.{rules, ◌≡◌, ◌∙◌, ◌+◌, ◌*◌, ℕ, length, ap, arith}
use Rattle.std.specs.{Int.from_bool, Prelude.nat_lt}
use Rattle.uimg_blob_reading.specs.Rows.{Row, table}
use Rattle.uimg_signing.specs.Apart.{count_apart, is_apart}
use Rattle.uimg_signing.proofs.{NamedLaws.{row_of, rows_count}, SumLaws.{sum_end, sum_more}, LookLaws.at_most_one}
use Rattle.uimg_signing.proofs.apart.are_apart.Goals as goal

pub loop-node-preserved : goal.loop-node-preserved
loop-node-preserved g c =
    let now = c.loop-node in
    let next : c.count_if-found.result ≡ now.found + from_bool c.is_apart.result = search rules in
    record {
      few = omega (arith, now.invariant.few, next, at_most_one c.is_apart.result);
      left = λ t indexed.
          let r = row_of t c.args.blob.now c.args.room.now.entries now.node indexed (omega arith) in
          sum_more (λ (i : ℕ) (row : Row). from_bool (is_apart c.args.marks.now (table t) row)) (table t) now.node now.found (count_apart c.args.marks.now (table t)) (now.invariant.left t indexed) r.0 c.count_if-found.result r.2
          (next ∙ ap (λ b. now.found + from_bool b) (c.is_apart.ensures t indexed r.0 r.1));
    }

pub returns : goal.returns
returns g c = λ t indexed.
    let now = c.loop-node in
    ap (nat_lt (17 + 2 * length c.args.marks.now))
    (sum_end (λ (i : ℕ) (row : Row). from_bool (is_apart c.args.marks.now (table t) row)) (table t) now.node now.found (count_apart c.args.marks.now (table t)) (now.invariant.left t indexed)
    (omega (arith, rows_count t c.args.blob.now c.args.room.now.entries indexed)))
