use Rattle.std.proofs.Common.{◌<◌, ℕ, nat_lt, ◌&&◌, ◌+◌, ◌*◌, ap, ◌∙◌, arith}
use Rattle.uimg_map.specs.Bars.{is_filled}
use Rattle.uimg_map.proofs.BarLaws.{filled}
use Rattle.uimg_map.proofs.bar.bar_of.Goals as goal

pub returns-clause-filled : goal.returns-clause-filled
unfolding is_filled
returns-clause-filled c j h =
    let cells = c.args.cells in
    let size = c.args.size in
    let place = c.args.place in
    let stop = c.min-stop.result in
    let some : place < stop = omega arith in
    let least : 0 < size = omega arith in
    filled cells size place stop j least some
    ∙ ap (λ (n : ℕ). nat_lt place n && (nat_lt (j * size) (n * cells) && nat_lt (place * cells) ((j + 1) * size))) c.min-stop.ensures
