use Rattle.uimg_compat.proofs.Letters.{met_is, letter_is}
use Rattle.uimg_compat.specs.Getopt.{row_of}
use Rattle.std.proofs.Common.{map, rules, arith}
use Rattle.uimg_compat.proofs.getopt.option_by_letter.Goals as goal

pub returns-clause-met : goal.returns-clause-met
returns-clause-met c = met_is (map row_of c.args.rows.now) c.args.letters.now _ _ _ (search (rules, arith)) c.in_ok-row.ensures c.in_ok-rest.ensures.rest

pub returns-clause-letter : goal.returns-clause-letter
returns-clause-letter c = letter_is (map row_of c.args.rows.now) c.args.letters.now _ _ _ c.in_ok-row.ensures c.in_ok-rest.ensures.rest
