use Rattle.std.proofs.Common.{◌≤◌, ◌+◌, ◌*◌, ◌++◌, ℕ, List, Option, true, false, refl, ap, ◌∙◌, sym, subst, is_err, arith, codes}
use Rattle.std.specs.List.{list_all, sum_by}
use Rattle.uimg_blob_reading.specs.{Roles.in_images, LookUps.NodeOf, Spots.Spot}
use Rattle.uimg_texts.specs.declared.field.Field.TheVariants.{Architecture, System, Kind, Compression}
use Rattle.uimg_texts.specs.declared.naming.Naming.{Naming, TheVariants.{Profile, All}}
use Rattle.uimg_fit_base.specs.Files.{value_bytes}
use Rattle.uimg_fit_reading.specs.{Allowances.text_sizes, Telling.ListsBetween}
use Rattle.uimg_fit_reading.specs.Rows.{all_image_rows, image_rows, keeps_row, kind_of, kind_said, profile_image_rows, row_cost, rows_lines, title}
use Rattle.uimg_fit_reading.proofs.OpenedLaws.{still}
use Rattle.uimg_fit_reading.proofs.{RowLaws.{all_image_cost, image_cost, keeps_image}, TellingLaws.more_lists}
use Rattle.uimg_fit_reading.proofs.listing.listed_nodes.put_image_rows.Goals as goal

pub returns-in-Profile-clause-told : goal.returns-in-Profile-clause-told
returns-in-Profile-clause-told g c = λ t o found n.
    let d = g.S.Source.device c.args.fit.now.source.now in
    let m = g.S.Source.device c.put_node.new.fit.source.now in
    subst (λ (s : Naming). ListsBetween (is_err c.put_node.result) (748 + 4 * text_sizes s found.own) d m c.args.out.now c.put_node.new.out
    (title (codes " Image ") c.args.image.number found.name ++ rows_lines c.args.facts found.own (image_rows s found.own))) (sym c.in-Profile.is)
    (more_lists _ _ _ d m c.args.out.now c.put_node.new.out _ (image_cost found.own) (c.put_node.ensures.told t o in_images found n refl))

pub returns-in_ok-kind-in-All-clause-told : goal.returns-in_ok-kind-in-All-clause-told
returns-in_ok-kind-in-All-clause-told g c = λ t o found n.
    let d = g.S.Source.device c.args.fit.now.source.now in
    let m = g.S.Source.device c.kind_in.new.source in
    let f = g.S.Source.device c.put_node-in-All.new.fit.source.now in
    let here = still c.kind_in.ensures.uses.same refl o in
    let said = c.in_ok-kind-in-All.ensures.kind o.honest ∙ ap kind_said (sym (c.value_of-value.ensures.bytes d.bytes t o.read in_images found n refl)) in
    let known = c.all_image_rows.ensures ∙ ap all_image_rows said in
    let keeps = ap (list_all (keeps_row in_images found.name)) known ∙ keeps_image found.name (kind_of found.own) in
    let told = rw known at (c.put_node-in-All.ensures.told t here in_images found n keeps) in
    subst (λ (s : Naming). ListsBetween (is_err c.put_node-in-All.result) (748 + 4 * text_sizes s found.own) d f c.args.out.now c.put_node-in-All.new.out
    (title (codes " Image ") c.args.image.number found.name ++ rows_lines c.args.facts found.own (image_rows s found.own))) (sym c.in-All.is)
    (record { asked = omega (arith, told.asked, c.kind_in.ensures.uses.asked, all_image_cost (kind_of found.own) found.own); written = told.written })
