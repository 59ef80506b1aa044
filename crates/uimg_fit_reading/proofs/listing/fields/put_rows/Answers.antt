use Rattle.std.proofs.Common.{◌≡◌, ◌<◌, List, length, false, refl, take, subst, arith, Err}
use Rattle.std.{specs.List.sum_by, proofs.lemmas.List.take_all}
use Rattle.uimg_fit_reading.specs.{declared.listing.rows.Row.Row, Telling.ListsBetween}
use Rattle.uimg_fit_reading.specs.Rows.{keeps_row, row_cost, row_lines, rows_lines}
use Rattle.uimg_fit_reading.proofs.{RowLaws.{passes_at, rows_more, rows_fail}, TellingLaws.no_lists}
use Rattle.uimg_fit_reading.proofs.OpenedLaws.{kept, stays}
use Rattle.uimg_fit_reading.proofs.PassedLaws.{failed_of, leaves_stops, leaves_then}
use Rattle.uimg_fit_reading.proofs.listing.fields.put_rows.Goals as goal

pub loop-row-init : goal.loop-row-init
unfolding rows_lines
loop-row-init g c = record {
  leaves = record { keeps = kept; faults = refl };
  told = λ t o level found n keeps. no_lists 0 (g.S.Source.device c.args.fit.now.source.now) c.args.out.now;
}

pub loop-row-preserved : goal.loop-row-preserved
unfolding rows_lines
loop-row-preserved g c =
    let before = c.loop-row.invariant in
    record {
      leaves = leaves_then tt _ before.leaves c.in_ok-put_row.ensures.leaves;
      told = λ t o level found n keeps.
          let within : c.loop-row.row-index < length c.args.rows.now = omega (arith, c.loop-row-test.true) in
          let here = stays before.leaves.keeps o in
          let kept = passes_at (keeps_row level found.name) c.args.rows.now c.loop-row.row-index _ keeps within in
          rows_more (row_cost found.own) (row_lines c.args.facts found.own) c.args.rows.now c.loop-row.row-index _ _ _ _ _ _ _ within
          (before.told t o level found n keeps) (c.in_ok-put_row.ensures.told t here level found n kept);
    }

pub returns-in_err-put_row-clause-told : goal.returns-in_err-put_row-clause-told
unfolding rows_lines
returns-in_err-put_row-clause-told g c = λ t o level found n keeps.
    let failed = failed_of c.from_residual.result c.from_residual.ensures.0 in
    let before = c.loop-row.invariant in
    let within : c.loop-row.row-index < length c.args.rows.now = omega (arith, c.loop-row-test.true) in
    let here = stays before.leaves.keeps o in
    let kept = passes_at (keeps_row level found.name) c.args.rows.now c.loop-row.row-index _ keeps within in
    rw failed (rows_fail (row_cost found.own) (row_lines c.args.facts found.own) c.args.rows.now c.loop-row.row-index _ _ _ _ _ _ _ within
    (before.told t o level found n keeps) (c.in_err-put_row.ensures.told t here level found n kept))

pub returns-clause-told : goal.returns-clause-told
returns-clause-told g c = λ t o level found n keeps.
    let d = g.S.Source.device c.args.fit.now.source.now in
    let f = g.S.Source.device c.loop-row.fit.source.now in
    let all : take c.loop-row.row-index c.args.rows.now ≡ c.args.rows.now = take_all c.loop-row.row-index c.args.rows.now (omega (arith, c.loop-row-test.false)) in
    subst (λ (rows : List Row). ListsBetween false (sum_by (row_cost found.own) rows) d f c.args.out.now c.loop-row.out (rows_lines c.args.facts found.own rows)) all
    (c.loop-row.invariant.told t o level found n keeps)

pub returns-in_err-put_row-clause-leaves : goal.returns-in_err-put_row-clause-leaves
returns-in_err-put_row-clause-leaves g c =
    let k = c.loop-row.invariant in
    leaves_stops _ _ c.from_residual.ensures.1
    (leaves_then {X = Unit} tt (Err c.in_err-put_row.field-0.0) k.leaves c.in_err-put_row.ensures.leaves)
