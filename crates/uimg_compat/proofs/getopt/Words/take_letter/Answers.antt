use Rattle.std.proofs.Common.{rules, arith, ◌∙◌}
use Rattle.uimg_compat.specs.Getopt.{words_left}
use Rattle.uimg_compat.proofs.Letters.{unknown, flag_next, value_next, waits_next, waited, waited_in_vain}
use Rattle.uimg_compat.proofs.getopt.Words.take_letter.Goals as goal

pub returns-in_default-clause-next : goal.returns-in_default-clause-next
returns-in_default-clause-next c = unknown _ _ _ c.requires.some (search rules) ∙ search rules

pub returns-then-not-has_value-clause-next : goal.returns-then-not-has_value-clause-next
returns-then-not-has_value-clause-next c = flag_next _ _ _ _ _ c.requires.some c.in-Some.ensures.met (search rules)

pub returns-then-not-is_empty-clause-next : goal.returns-then-not-is_empty-clause-next
returns-then-not-is_empty-clause-next c =
    value_next _ _ _ _ _ c.requires.some c.in-Some.ensures.met (search rules) (search (rules, arith))

pub returns-in-Some-take_word-clause-next : goal.returns-in-Some-take_word-clause-next
returns-in-Some-take_word-clause-next c =
    waits_next _ _ _ _ _ c.requires.some c.in-Some.ensures.met (search rules) c.in-Some.ensures.letter (search (rules, arith))
    ∙ waited _ _ _ _ c.in-Some-take_word.value.now (words_left c.take_word.new.self) c.take_word.new.self.letters.now c.take_word.new.self.has_operands_alone
    (search rules) (search rules) (search rules)

pub returns-in-None-clause-next : goal.returns-in-None-clause-next
returns-in-None-clause-next c =
    waits_next _ _ _ _ _ c.requires.some c.in-Some.ensures.met (search rules) c.in-Some.ensures.letter (search (rules, arith))
    ∙ waited_in_vain _ _ _ _ (search rules) ∙ search rules
