use Rattle.std.{proofs.Common.{◌≡◌, Ok, take, true, false}, specs.List.{list_all, sum_by}}
use Rattle.uimg_fit_reading.specs.{Nodes.OfAnyNode, OpenFits.InFit, Puts.LeavesBetween}
use Rattle.uimg_fit_reading.specs.{Rows.{keeps_row, row_cost, rows_lines}, Telling.ListsBetween}
use Rattle.uimg_fit_reading.proofs.listing.fields.put_rows.Given as goal

-- the lines of the rows so far were written
abbrev pub invariant-loop-row : goal.invariant-loop-row
invariant-loop-row g l =
    let device = g.S.Source.device in
    record {
      leaves : LeavesBetween {X = Unit} (Ok tt) device l.fn.fit l.fit l.fn.out l.out;
      told : InFit device l.fn.fit OfAnyNode l.node (λ level found. list_all (keeps_row level found.name) l.rows ≡ true
          → ListsBetween false (sum_by (row_cost found.own) (take l.row-index l.rows)) (device l.fn.fit.source.now) (device l.fit.source.now) l.fn.out l.out (rows_lines l.facts found.own (take l.row-index l.rows)));
    }
