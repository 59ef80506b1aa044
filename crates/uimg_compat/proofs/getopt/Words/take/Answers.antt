use Rattle.std.proofs.Common.{refl, rules, map, ◌∙◌, true}
use Rattle.uimg_compat.specs.Getopt.{row_of, behind_word, words_left}
use Rattle.uimg_compat.proofs.Letters.{takes_as, no_letters, at_end, operand_next, opened_next, no_hyphen, lone, more, behind_two}
use Rattle.uimg_compat.proofs.getopt.Words.take.Goals as goal

pub returns-in_default-clause-next : goal.returns-in_default-clause-next
returns-in_default-clause-next c =
    no_letters (map row_of c.args.rows.now) c.args.self.now.letters.now (behind_word (map row_of c.args.rows.now) c.args.self.now) (search rules) ∙ at_end (map row_of c.args.rows.now) (words_left c.args.self.now) c.args.self.now.has_operands_alone (search rules)

pub returns-then-self-clause-next : goal.returns-then-self-clause-next
returns-then-self-clause-next c =
    no_letters (map row_of c.args.rows.now) c.args.self.now.letters.now (behind_word (map row_of c.args.rows.now) c.args.self.now) (search rules)
    ∙ operand_next (map row_of c.args.rows.now) (words_left c.args.self.now) c.args.self.now.has_operands_alone c.in-Some.word.now (words_left c.take_word.new.self) c.take_word.new.self.letters.now c.take_word.new.self.has_operands_alone
    (search rules) (search rules) (search rules) (search rules)

pub returns-in-None-clause-next : goal.returns-in-None-clause-next
returns-in-None-clause-next c =
    no_letters (map row_of c.args.rows.now) c.args.self.now.letters.now (behind_word (map row_of c.args.rows.now) c.args.self.now) (search rules)
    ∙ opened_next (map row_of c.args.rows.now) (words_left c.args.self.now) c.args.self.now.has_operands_alone c.in-Some.word.now (words_left c.take_word.new.self) (search rules) (search rules)
    ∙ no_hyphen (map row_of c.args.rows.now) c.in-Some.word.now (words_left c.take_word.new.self) c.take_word.new.self.letters.now c.take_word.new.self.has_operands_alone (search rules) (search rules) (search rules)

pub returns-in-Some-empty-clause-next : goal.returns-in-Some-empty-clause-next
returns-in-Some-empty-clause-next c =
    no_letters (map row_of c.args.rows.now) c.args.self.now.letters.now (behind_word (map row_of c.args.rows.now) c.args.self.now) (search rules)
    ∙ opened_next (map row_of c.args.rows.now) (words_left c.args.self.now) c.args.self.now.has_operands_alone c.in-Some.word.now (words_left c.take_word.new.self) (search rules) (search rules)
    ∙ lone (map row_of c.args.rows.now) c.in-Some.word.now c.in-Some-empty.field-0.now (words_left c.take_word.new.self) c.take_word.new.self.letters.now c.take_word.new.self.has_operands_alone (search rules) (search rules) (search rules) (search rules)

pub returns-in-Some-behind-clause-next : goal.returns-in-Some-behind-clause-next
returns-in-Some-behind-clause-next c =
    takes_as _ _ _ _
    (no_letters (map row_of c.args.rows.now) c.args.self.now.letters.now (behind_word (map row_of c.args.rows.now) c.args.self.now) (search rules)
    ∙ opened_next (map row_of c.args.rows.now) (words_left c.args.self.now) c.args.self.now.has_operands_alone c.in-Some.word.now (words_left c.take_word.new.self) (search rules) (search rules)
    ∙ more (map row_of c.args.rows.now) c.in-Some.word.now c.in-Some-behind.text.now (words_left c.take_word.new.self) c.take_word.new.self.has_operands_alone (search rules) (search rules) (search rules) (search rules))
    c.take_option.ensures.next

pub returns-in-Some-take_word-clause-next : goal.returns-in-Some-take_word-clause-next
returns-in-Some-take_word-clause-next c =
    no_letters (map row_of c.args.rows.now) c.args.self.now.letters.now (behind_word (map row_of c.args.rows.now) c.args.self.now) (search rules)
    ∙ opened_next (map row_of c.args.rows.now) (words_left c.args.self.now) c.args.self.now.has_operands_alone c.in-Some.word.now (words_left c.take_word.new.self) (search rules) (search rules)
    ∙ behind_two (map row_of c.args.rows.now) c.in-Some.word.now c.in-Some-text.field-0.now (words_left c.take_word.new.self) (search rules) (search rules) (search rules)
    ∙ operand_next (map row_of c.args.rows.now) (words_left c.take_word.new.self) true c.in-Some-take_word.operand.now (words_left c.take_word-in-Some-text.new.self)
    c.take_word-in-Some-text.new.self.letters.now c.take_word-in-Some-text.new.self.has_operands_alone (search rules) refl (search rules) (search rules)

pub returns-in-None-take_word-clause-next : goal.returns-in-None-take_word-clause-next
returns-in-None-take_word-clause-next c =
    no_letters (map row_of c.args.rows.now) c.args.self.now.letters.now (behind_word (map row_of c.args.rows.now) c.args.self.now) (search rules)
    ∙ opened_next (map row_of c.args.rows.now) (words_left c.args.self.now) c.args.self.now.has_operands_alone c.in-Some.word.now (words_left c.take_word.new.self) (search rules) (search rules)
    ∙ behind_two (map row_of c.args.rows.now) c.in-Some.word.now c.in-Some-text.field-0.now (words_left c.take_word.new.self) (search rules) (search rules) (search rules)
    ∙ at_end (map row_of c.args.rows.now) (words_left c.take_word.new.self) true (search rules)
