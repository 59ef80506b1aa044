use Rattle.std.{proofs.Common.is_err, specs.List.sum_by}
use Rattle.uimg_blob_reading.specs.{LookUps.configurations, Spots.spots}
use Rattle.uimg_fit_reading.specs.{Allowances.node_allowance, ListingParts.configurations_allowance}
use Rattle.uimg_fit_reading.specs.Listing.{configurations_lines, image_lines, numbered_lines}
use Rattle.uimg_fit_reading.proofs.{TellingLaws.{then_lists, cut_lists}, OpenedLaws.stays}
use Rattle.uimg_fit_reading.proofs.PassedLaws.{failed_of, leaves_stops, leaves_then}
use Rattle.uimg_fit_reading.proofs.listing.put_body.Goals as goal

pub returns-in_err-put_listed_nodes-clause-told : goal.returns-in_err-put_listed_nodes-clause-told
returns-in_err-put_listed_nodes-clause-told g c = λ t o found at.
    let failed = failed_of c.from_residual.result c.from_residual.ensures.0 in
    let d = g.S.Source.device c.args.fit.now.source.now in
    let m = g.S.Source.device c.put_listed_nodes.new.fit.source.now in
    rw failed (cut_lists (sum_by (node_allowance c.args.naming) found) (configurations_allowance c.args.naming (configurations (spots t))) d m c.args.out.now c.put_listed_nodes.new.out
    (numbered_lines (image_lines c.args.naming d.bytes c.args.time) 0 found) (configurations_lines c.args.naming (configurations (spots t))) (c.in_err-put_listed_nodes.ensures.told t o found at))

pub returns-clause-told : goal.returns-clause-told
returns-clause-told g c = λ t o found at.
    let d = g.S.Source.device c.args.fit.now.source.now in
    let m = g.S.Source.device c.put_listed_nodes.new.fit.source.now in
    let f = g.S.Source.device c.put_configurations.new.fit.source.now in
    let e = is_err c.put_configurations.result in
    let here = stays c.put_listed_nodes.ensures.leaves.keeps o in
    let tail = c.put_configurations.ensures.told t here in
    then_lists e (sum_by (node_allowance c.args.naming) found) (configurations_allowance c.args.naming (configurations (spots t))) d m f c.args.out.now c.put_listed_nodes.new.out c.put_configurations.new.out
    (numbered_lines (image_lines c.args.naming d.bytes c.args.time) 0 found) (configurations_lines c.args.naming (configurations (spots t))) (c.in_ok-put_listed_nodes.ensures.told t o found at) tail

pub returns-in_err-put_listed_nodes-clause-leaves : goal.returns-in_err-put_listed_nodes-clause-leaves
returns-in_err-put_listed_nodes-clause-leaves g c = leaves_stops _ _ c.from_residual.ensures.1 c.in_err-put_listed_nodes.ensures.leaves

pub returns-clause-leaves : goal.returns-clause-leaves
returns-clause-leaves g c = leaves_then tt _ c.in_ok-put_listed_nodes.ensures.leaves c.put_configurations.ensures.leaves
