use Rattle.std.proofs.{Common.{rules, ◌∙◌, ap, lit<}, lemmas.Iterator.Consumers.YieldsList-end}
use Rattle.std.proofs.lemmas.Iterator.Splits.{YieldsList-from_str_split}
use Rattle.std.specs.Str.Iter.{split_text, split_has_more, split_pattern}
use Rattle.uimg_requests.proofs.NameLaws.{map_one_more}
use Rattle.uimg_requests.proofs.names.cut_at_colons.Goals as goal

pub loop-name-preserved : goal.loop-name-preserved
loop-name-preserved c =
    map_one_more _ _ _ _ _ _ _ c.in_ok-push.ensures.items c.loop-name.invariant (search rules)

pub returns : goal.returns
returns c =
    let same = c.into_iter-name-iterator.ensures.into_iter_gives in
    let parts = YieldsList-from_str_split 58 c.args.word.now (lit< tt) (ap split_text same ∙ c.split-name-items.ensures.text) (ap split_has_more same ∙ c.split-name-items.ensures.has_more) (ap split_pattern same ∙ c.split-name-items.ensures.pattern) in
    let end = YieldsList-end parts c.loop-name.yielded _ c.loop-name.yielded_by _ _ c.in-None.is c.next.ensures.steps in
    c.loop-name.invariant ∙ end.0
