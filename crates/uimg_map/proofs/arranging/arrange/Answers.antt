use Rattle.std.proofs.{Common.{◌≡◌, None, ◌∙◌, ap}, lemmas.Result.IfOk-weaker}
use Rattle.uimg_map.specs.{Arranging.Arranges, Rows.rows_from}
use Rattle.uimg_map.proofs.ArrangeLaws.{arranged}
use Rattle.uimg_map.proofs.arranging.arrange.Goals as goal

-- the sorted things are a permutation of the given ones, and the rows are theirs
pub returns : goal.returns
returns c =
    let size = c.args.size in
    let given = c.args.things.items in
    let sorted = c.sort_unstable.new.self.items in
    let sorting = c.sort_unstable.ensures in
    IfOk-weaker c.rows_of.result (λ rows. rows.items ≡ rows_from size None c.deref.result.now) (λ rows. Arranges size given rows.items) (λ rows are. arranged size given sorted sorting.permutation sorting.sorted rows.items (are ∙ ap (rows_from size None) c.deref.ensures.value)) c.rows_of.ensures
