use Rattle.std.proofs.Common.{◌+◌, ◌*◌, ℕ, List, true, false, is_err, subst, append_assoc, codes}
use Rattle.std.specs.List.{flat_map, sum_by}
use Rattle.uimg_blob_reading.specs.{Roles.in_images, LookUps.listed}
use Rattle.uimg_fit_reading.specs.{Allowances.{text_sizes, node_allowance}, Listing.sum_lines}
use Rattle.uimg_fit_reading.specs.{Rows.{image_rows, rows_lines, title}, Telling.ListsBetween}
use Rattle.uimg_fit_reading.proofs.{TellingLaws.{then_lists, cut_lists}, OpenedLaws.stays}
use Rattle.uimg_fit_reading.proofs.PassedLaws.{failed_of, leaves_stops, leaves_then}
use Rattle.uimg_fit_reading.proofs.listing.listed_nodes.put_known_image.Goals as goal

pub returns-in_err-put_image_rows-clause-told : goal.returns-in_err-put_image_rows-clause-told
returns-in_err-put_image_rows-clause-told g c = λ t o found n.
    let failed = failed_of c.from_residual.result c.from_residual.ensures.0 in
    let d = g.S.Source.device c.args.fit.now.source.now in
    let m = g.S.Source.device c.put_image_rows.new.fit.source.now in
    let sums = flat_map (sum_lines c.args.naming) (listed found.below) in
    rw failed (subst (λ (w : List ℕ). ListsBetween true (748 + 4 * text_sizes c.args.naming found.own + sum_by (node_allowance c.args.naming) (listed found.below)) d m c.args.out.now c.put_image_rows.new.out w)
    (append_assoc (title (codes " Image ") c.args.image.number found.name) (rows_lines c.args.facts found.own (image_rows c.args.naming found.own)) sums)
    (cut_lists _ _ _ _ _ _ _ sums (c.in_err-put_image_rows.ensures.told t o found n)))

pub returns-clause-told : goal.returns-clause-told
returns-clause-told g c = λ t o found n.
    let d = g.S.Source.device c.args.fit.now.source.now in
    let f = g.S.Source.device c.put_sums.new.fit.source.now in
    let here = stays c.put_image_rows.ensures.leaves.keeps o in
    let tail = c.put_sums.ensures.told t here (listed found.below) (c.child_of-first.ensures.children t here.read.indexed in_images found n) in
    subst (λ (w : List ℕ). ListsBetween (is_err c.put_sums.result) (748 + 4 * text_sizes c.args.naming found.own + sum_by (node_allowance c.args.naming) (listed found.below)) d f c.args.out.now c.put_sums.new.out w)
    (append_assoc (title (codes " Image ") c.args.image.number found.name) (rows_lines c.args.facts found.own (image_rows c.args.naming found.own)) (flat_map (sum_lines c.args.naming) (listed found.below)))
    (then_lists (is_err c.put_sums.result) _ _ _ _ _ _ _ _ _ _ (c.in_ok-put_image_rows.ensures.told t o found n) tail)

pub returns-in_err-put_image_rows-clause-leaves : goal.returns-in_err-put_image_rows-clause-leaves
returns-in_err-put_image_rows-clause-leaves g c = leaves_stops _ _ c.from_residual.ensures.1 c.in_err-put_image_rows.ensures.leaves

pub returns-clause-leaves : goal.returns-clause-leaves
returns-clause-leaves g c = leaves_then tt _ c.in_ok-put_image_rows.ensures.leaves c.put_sums.ensures.leaves
