use Rattle.std.proofs.Common.{◌≡◌, true, false, sym, ◌∙◌, ap, rules, length, ◌≤◌}
use Rattle.std.specs.{List.list_all, Str.is_utf8}
use Rattle.uimg_info.proofs.PieceLaws.{one_not, one_is, no_pieces}
use Rattle.uimg_info.proofs.members.are_utf8.Goals as goal

pub returns-then-not-is_utf8 : goal.returns-then-not-is_utf8
returns-then-not-is_utf8 c =
    let no : is_utf8 c.cut.result.0.now ≡ false = search rules in
    sym (one_not c.loop-rest.rest.now c.cut.result.0.now c.cut.result.1.now c.cut.ensures.pieces no) ∙ c.loop-rest.invariant

pub loop-rest-preserved : goal.loop-rest-preserved
loop-rest-preserved c =
    let is : is_utf8 c.cut.result.0.now ≡ true = search rules in
    sym (one_is c.loop-rest.rest.now c.cut.result.0.now c.cut.result.1.now c.cut.ensures.pieces is) ∙ c.loop-rest.invariant

pub returns : goal.returns
returns c =
    let none : length c.loop-rest.rest.now ≤ 0 = search rules in
    ap (list_all is_utf8) (sym (no_pieces c.loop-rest.rest.now none)) ∙ c.loop-rest.invariant
