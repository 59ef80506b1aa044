use Rattle.std.proofs.{Common.{◌∙◌, ap, lit<, filter, length, nat_lt}, lemmas.Iterator.Consumers.YieldsList-end}
use Rattle.std.proofs.lemmas.Iterator.Splits.{YieldsList-from_str_split}
use Rattle.std.specs.Str.Iter.{split_text, split_has_more, split_pattern}
use Rattle.uimg_compat.proofs.dtc_words.words_of.Goals as goal

pub returns : goal.returns
returns c =
    let same = c.into_iter-word-iterator.ensures.into_iter_gives in
    let parts = YieldsList-from_str_split 32 c.args.text.now (lit< tt) (ap split_text same ∙ c.split-word-items.ensures.text) (ap split_has_more same ∙ c.split-word-items.ensures.has_more) (ap split_pattern same ∙ c.split-word-items.ensures.pattern) in
    let end = YieldsList-end parts c.loop-word.yielded _ c.loop-word.yielded_by _ _ c.in-None.is c.next.ensures.steps in
    c.loop-word.invariant ∙ ap (filter (λ word. nat_lt 0 (length word))) end.0
