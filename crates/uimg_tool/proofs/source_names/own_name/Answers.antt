use Rattle.std.proofs.Common.{rules, arith}
use Rattle.uimg_tool.proofs.SearchedLaws.{one_more, nothing_left}
use Rattle.uimg_tool.proofs.source_names.own_name.Goals as goal

pub loop-next-preserved-in-Some-strip_prefix : goal.loop-next-preserved-in-Some-strip_prefix
loop-next-preserved-in-Some-strip_prefix c = let e = one_more c.in-Some.field-0-0.now c.in-Some.next.now c.loop-next.own.now in grind arith

pub loop-next-preserved : goal.loop-next-preserved
loop-next-preserved c = let e = one_more c.in-Some.field-0-0.now c.in-Some.next.now c.loop-next.own.now in grind arith

pub returns : goal.returns
returns c = search (rules, nothing_left)
