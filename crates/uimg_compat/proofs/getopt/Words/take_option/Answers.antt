use Rattle.std.proofs.Common.{rules, map}
use Rattle.uimg_compat.specs.Getopt.{row_of, behind_word}
use Rattle.uimg_compat.proofs.Letters.{takes_as, leaves_as, no_letters, is_long}
use Rattle.uimg_compat.proofs.getopt.Words.take_option.Goals as goal

pub returns-in-Some-clause-next : goal.returns-in-Some-clause-next
returns-in-Some-clause-next c =
    takes_as _ _ _ _ (is_long (map row_of c.args.rows.now) c.args.text.now c.in-Some.name.now (behind_word (map row_of c.args.rows.now) c.args.self.now) (search rules))
    (leaves_as _ _ _ _ (no_letters (map row_of c.args.rows.now) c.take_long.new.self.letters.now (behind_word (map row_of c.args.rows.now) c.take_long.new.self) (search rules))
    c.take_long.ensures.next)
