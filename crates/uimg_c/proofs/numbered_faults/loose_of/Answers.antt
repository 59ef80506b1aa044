use Rattle.std.proofs.Common.{rules, ◌+◌, ◌*◌, ◌==◌, ◌∙◌, sym}
use Rattle.uimg_c.specs.{Strict.loose_number, Numbers.loosenesses}
use Rattle.uimg_strict.specs.declared.loose.Looseness.TheVariants.{NoDescription}
use Rattle.uimg_c.proofs.FindLaws.{found_at, found_past}
use Rattle.uimg_c.proofs.numbered_faults.loose_of.Goals as goal

pub returns-then-fault-number_of_loose : goal.returns-then-fault-number_of_loose
returns-then-fault-number_of_loose c =
    sym (found_at (λ own. c.args.fault == 256 * 83 + loose_number own) loosenesses c.loop-own.own-index _ (search rules) (search rules)) ∙ c.loop-own.invariant

pub loop-own-preserved : goal.loop-own-preserved
loop-own-preserved c =
    found_past (λ own. c.args.fault == 256 * 83 + loose_number own) loosenesses c.loop-own.own-index NoDescription (search rules) (search rules) ∙ c.loop-own.invariant
