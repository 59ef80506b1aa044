use Rattle.std.proofs.Common.{rules, arith}
use Rattle.uimg_tool.proofs.BodyLaws.{part_of_rest, rest_length}
use Rattle.uimg_tool.proofs.body_source.BodySourceSource.fill_at.Goals as goal

pub overflow_add-at : goal.overflow_add-at
overflow_add-at g c =
    let own = c.args.self.now in let bytes = (g.S.Source.device own.source).bytes in
    let rest = rest_length own.skipped bytes in let inside = own.inside in let short = g.met.S.Source.short own.source in let r = c.requires in omega arith

pub fill_at-requires : goal.fill_at-requires
fill_at-requires g c =
    let own = c.args.self.now in let bytes = (g.S.Source.device own.source).bytes in
    let rest = rest_length own.skipped bytes in let inside = own.inside in let r = c.requires in omega arith

pub returns-then-is_ok-clause-bytes : goal.returns-then-is_ok-clause-bytes
returns-then-is_ok-clause-bytes g c = search (rules, part_of_rest)
