use Rattle.std.{proofs.Common.{refl, List, ℕ, true, false, is_err, subst, arith}, specs.List.sum_by}
use Rattle.uimg_base.specs.Writing.{Written}
use Rattle.uimg_fit_reading.specs.{Rows.{row_cost, rows_lines, title}, Telling.ListsBetween}
use Rattle.uimg_fit_reading.proofs.{OpenedLaws.still, TellingLaws.{then_lists, cut_lists}}
use Rattle.uimg_fit_reading.proofs.PassedLaws.{failed_of, leaves_stops, leaves_then, puts_leave}
use Rattle.uimg_fit_reading.proofs.listing.titles.put_node.Goals as goal

pub returns-in_err-put_title-clause-told : goal.returns-in_err-put_title-clause-told
returns-in_err-put_title-clause-told g c = λ t o level found n keeps.
    let failed = failed_of c.from_residual.result c.from_residual.ensures.0 in
    let d = g.S.Source.device c.args.fit.now.source.now in
    let m = g.S.Source.device c.put_title.new.source in
    let head : ListsBetween true 255 d m c.args.out.now c.put_title.new.out (title c.args.before.now c.args.at.number found.name) = record {
      asked = omega (arith, c.put_title.ensures.uses.asked, c.name_of-name.ensures.short d.bytes t o.read level found n);
      written = subst (λ (w : List ℕ). Written true c.args.out.now c.put_title.new.out (title c.args.before.now c.args.at.number w)) (c.name_of-name.ensures.name d.bytes t o.read level found n) (c.in_err-put_title.ensures.told o.honest);
    } in
    rw failed (cut_lists 255 (sum_by (row_cost found.own) c.args.rows.now) d m c.args.out.now c.put_title.new.out (title c.args.before.now c.args.at.number found.name) (rows_lines c.args.facts found.own c.args.rows.now) head)

pub returns-clause-told : goal.returns-clause-told
returns-clause-told g c = λ t o level found n keeps.
    let d = g.S.Source.device c.args.fit.now.source.now in
    let m = g.S.Source.device c.put_title.new.source in
    let f = g.S.Source.device c.put_rows.new.fit.source.now in
    let here = still c.put_title.ensures.uses.same c.put_title.ensures.room o in
    let head : ListsBetween false 255 d m c.args.out.now c.put_title.new.out (title c.args.before.now c.args.at.number found.name) = record {
      asked = omega (arith, c.put_title.ensures.uses.asked, c.name_of-name.ensures.short d.bytes t o.read level found n);
      written = subst (λ (w : List ℕ). Written false c.args.out.now c.put_title.new.out (title c.args.before.now c.args.at.number w)) (c.name_of-name.ensures.name d.bytes t o.read level found n) (c.in_ok-put_title.ensures.told o.honest);
    } in
    then_lists (is_err c.put_rows.result) 255 (sum_by (row_cost found.own) c.args.rows.now) d m f c.args.out.now c.put_title.new.out c.put_rows.new.out
    (title c.args.before.now c.args.at.number found.name) (rows_lines c.args.facts found.own c.args.rows.now) head (c.put_rows.ensures.told t here level found n keeps)

pub returns-in_err-put_title-clause-leaves : goal.returns-in_err-put_title-clause-leaves
returns-in_err-put_title-clause-leaves g c = leaves_stops _ _ c.from_residual.ensures.1 (puts_leave (record { source = refl; blob = refl; room = refl }) c.in_err-put_title.ensures)

pub returns-clause-leaves : goal.returns-clause-leaves
returns-clause-leaves g c = leaves_then tt _ (puts_leave (record { source = refl; blob = refl; room = refl }) c.in_ok-put_title.ensures) c.put_rows.ensures.leaves
