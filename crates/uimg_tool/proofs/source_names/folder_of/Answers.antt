use Rattle.std.proofs.Common.{rules, arith}
use Rattle.uimg_tool.proofs.SearchedLaws.{without_last, up_to_slash, no_folder}
use Rattle.uimg_tool.proofs.source_names.folder_of.Goals as goal

pub returns-then-last-eq47 : goal.returns-then-last-eq47
returns-then-last-eq47 c = let e = up_to_slash c.in-Some.last.now c.in-Some.before.now in grind arith

pub loop-last-preserved : goal.loop-last-preserved
loop-last-preserved c = let e = without_last c.in-Some.last.now c.in-Some.before.now in grind arith

pub returns : goal.returns
returns c = search (rules, no_folder)
