use Rattle.std.proofs.Common.{◌≡◌, ◌≤◌, rules, arith}
use Rattle.uimg_texts.specs.Numbers.{be32}
use Rattle.uimg_info.proofs.EntryLaws.{none_behind}
use Rattle.uimg_info.proofs.reservations.read_reservations.Goals as goal

pub returns-then-place-totalsize-clause-told : goal.returns-then-place-totalsize-clause-told
returns-then-place-totalsize-clause-told g c = λ honest.
    let file = (g.S.Source.device c.args.source.now).bytes in
    let place : c.in-Ok.place ≡ be32 file 16 = search rules in
    let behind : c.args.totalsize ≤ be32 file 16 = omega (arith, place, c.if-place-totalsize.true) in
    none_behind file c.args.totalsize behind
