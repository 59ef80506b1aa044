use Rattle.std.proofs.Common.{◌++◌, ℕ, Option, refl, is_err, ap, subst, ◌∙◌, arith, codes}
use Rattle.std.specs.List.{flat_map}
use Rattle.uimg_base.specs.Writing.{Written}
use Rattle.uimg_fit_reading.specs.Listing.{size_in, sum_lines}
use Rattle.uimg_fit_reading.specs.Rows.{image_rows, rows_lines, title}
use Rattle.uimg_blob_reading.specs.LookUps.{listed}
use Rattle.uimg_fit_reading.proofs.{OpenedLaws.still, SharesLaws.children_allowed}
use Rattle.uimg_fit_reading.proofs.listing.listed_nodes.put_image.Goals as goal

pub returns-in-Ok-clause-told : goal.returns-in-Ok-clause-told
returns-in-Ok-clause-told g c = λ t o found n.
    let here = still c.find_place.ensures.uses.same refl o in
    let told = c.put_known_image.ensures.told t here found n in
    let size = c.size_in-size.ensures ∙ ap size_in (c.in-Ok.ensures.place o.honest t o.read found n) in
    record {
      asked = omega (arith, told.asked, c.find_place.ensures.uses.asked, children_allowed c.args.naming found);
      written = subst (λ (o : Option ℕ). Written (is_err c.put_known_image.result) c.args.out.now c.put_known_image.new.out
          (title (codes " Image ") c.args.image.number found.name ++ (rows_lines (record { time = c.args.time; size = o }) found.own (image_rows c.args.naming found.own) ++ flat_map (sum_lines c.args.naming) (listed found.below)))) size told.written;
    }
