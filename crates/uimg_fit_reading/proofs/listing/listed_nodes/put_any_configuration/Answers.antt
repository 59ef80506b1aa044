use Rattle.std.proofs.Common.{◌≤◌, ◌+◌, ◌*◌, ℕ, List, true, false, refl, is_err, subst, append_assoc, codes, arith}
use Rattle.std.specs.List.{flat_map, sum_by}
use Rattle.uimg_blob_reading.specs.{Roles.in_configurations, LookUps.{NodeOf, listed}, Spots.Spot}
use Rattle.uimg_texts.specs.declared.naming.Naming.TheVariants.{All}
use Rattle.uimg_fit_reading.specs.{Allowances.{text_sizes, node_allowance}, Listing.sum_lines}
use Rattle.uimg_fit_reading.specs.{Rows.{all_configuration_rows, no_facts, row_cost, rows_lines, title}, Telling.ListsBetween}
use Rattle.uimg_fit_reading.proofs.{TellingLaws.{then_lists, cut_lists, more_lists}, OpenedLaws.stays}
use Rattle.uimg_fit_reading.proofs.SharesLaws.{two_texts, one_text, children_allowed}
use Rattle.uimg_fit_reading.proofs.PassedLaws.{failed_of, leaves_stops, leaves_then}
use Rattle.uimg_fit_reading.proofs.listing.listed_nodes.put_any_configuration.Goals as goal

-- what the rows of a configuration pay
rows_paid : (found : NodeOf Spot) → 255 + sum_by (row_cost found.own) all_configuration_rows ≤ 760 + 4 * text_sizes All found.own
rows_paid found =
    let a = two_texts All found.own (codes "description") (codes "kernel") refl refl refl in
    let b = two_texts All found.own (codes "ramdisk") (codes "fdt") refl refl refl in
    let d = two_texts All found.own (codes "firmware") (codes "fpga") refl refl refl in
    let e = one_text All found.own (codes "loadables") refl in
    omega (arith, a, b, d, e)

pub returns-in_err-put_node-clause-told : goal.returns-in_err-put_node-clause-told
returns-in_err-put_node-clause-told g c = λ t o found n.
    let failed = failed_of c.from_residual.result c.from_residual.ensures.0 in
    let d = g.S.Source.device c.args.fit.now.source.now in
    let m = g.S.Source.device c.put_node.new.fit.source.now in
    let sums = flat_map (sum_lines All) (listed found.below) in
    let head = more_lists true _ (760 + 4 * text_sizes All found.own) d m c.args.out.now c.put_node.new.out _ (rows_paid found) (c.in_err-put_node.ensures.told t o in_configurations found n refl) in
    rw failed (more_lists true _ (node_allowance All found) d m c.args.out.now c.put_node.new.out _ (omega (arith, children_allowed All found))
    (subst (λ (w : List ℕ). ListsBetween true (760 + 4 * text_sizes All found.own + sum_by (node_allowance All) (listed found.below)) d m c.args.out.now c.put_node.new.out w)
    (append_assoc (title (codes " Configuration ") c.args.at.number found.name) (rows_lines no_facts found.own all_configuration_rows) sums)
    (cut_lists _ _ _ _ _ _ _ sums head)))

pub returns-clause-told : goal.returns-clause-told
returns-clause-told g c = λ t o found n.
    let d = g.S.Source.device c.args.fit.now.source.now in
    let m = g.S.Source.device c.put_node.new.fit.source.now in
    let f = g.S.Source.device c.put_sums.new.fit.source.now in
    let e = is_err c.put_sums.result in
    let here = stays c.put_node.ensures.leaves.keeps o in
    let sums = flat_map (sum_lines All) (listed found.below) in
    let head = more_lists false _ (760 + 4 * text_sizes All found.own) d m c.args.out.now c.put_node.new.out _ (rows_paid found) (c.in_ok-put_node.ensures.told t o in_configurations found n refl) in
    let tail = c.put_sums.ensures.told t here (listed found.below) (c.child_of-first.ensures.children t here.read.indexed in_configurations found n) in
    more_lists e _ (node_allowance All found) d f c.args.out.now c.put_sums.new.out _ (omega (arith, children_allowed All found))
    (subst (λ (w : List ℕ). ListsBetween e (760 + 4 * text_sizes All found.own + sum_by (node_allowance All) (listed found.below)) d f c.args.out.now c.put_sums.new.out w)
    (append_assoc (title (codes " Configuration ") c.args.at.number found.name) (rows_lines no_facts found.own all_configuration_rows) sums)
    (then_lists e _ _ d m f c.args.out.now c.put_node.new.out c.put_sums.new.out _ _ head tail))

pub returns-in_err-put_node-clause-leaves : goal.returns-in_err-put_node-clause-leaves
returns-in_err-put_node-clause-leaves g c = leaves_stops _ _ c.from_residual.ensures.1 c.in_err-put_node.ensures.leaves

pub returns-clause-leaves : goal.returns-clause-leaves
returns-clause-leaves g c = leaves_then tt _ c.in_ok-put_node.ensures.leaves c.put_sums.ensures.leaves
