use Rattle.std.proofs.Common.{◌≡◌, Bool, List, Option, ap, ◌∙◌, is_err, arith, codes}
use Rattle.std.specs.{List.list_all, Option.is_some}
use Rattle.uimg_blob_reading.specs.Roles.{in_image}
use Rattle.uimg_fit_base.specs.Files.{value_bytes}
use Rattle.uimg_fit_reading.specs.{Rows.{keeps_row, sum_named, sum_rows}, declared.nodes.Sum.Sum}
use Rattle.uimg_fit_reading.proofs.{RowLaws.{keeps_sum, sum_cost, sums_same}, TellingLaws.more_lists}
use Rattle.uimg_fit_reading.proofs.listing.sums.put_sum.Goals as goal

pub returns-clause-told : goal.returns-clause-told
returns-clause-told g c = λ t o found n.
    let naming = c.args.naming in
    let d = g.S.Source.device c.args.fit.now.source.now in
    let has_algo = is_some (value_bytes found.own (codes "algo")) in
    let known : c.rows_of-rows.result.now ≡ sum_rows naming (sum_named found.name) has_algo =
    c.rows_of-rows.ensures
    ∙ ap (λ (b : Bool). sum_rows naming c.sum_of-sum.result b) c.is_some.ensures
    ∙ ap (λ (s : Option Sum). sum_rows naming s (is_some c.value_of-algo.result)) (c.sum_of-sum.ensures t o.read.indexed found n)
    ∙ sums_same naming found.name found.own d.bytes c.value_of-algo.result (c.value_of-algo.ensures.bytes d.bytes t o.read in_image found n) in
    let keeps = ap (list_all (keeps_row in_image found.name)) known ∙ keeps_sum naming found.name has_algo in
    more_lists (is_err c.put_rows.result) _ _ _ _ _ _ _ (omega (arith, sum_cost naming (sum_named found.name) has_algo found.own))
    (rw known at (c.put_rows.ensures.told t o in_image found n keeps))
