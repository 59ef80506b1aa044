use Rattle.std.proofs.Common.{rules}
use Rattle.uimg_base.proofs.RangeLaws.{taken_if}
use Rattle.uimg_base.proofs.source.Source.take_at.Goals as goal

pub returns-clause-taken : goal.returns-clause-taken
returns-clause-taken g c =
    taken_if _ _ (record { piece = c.fill_at.new.to; size = search rules; summed = c.put_fed.ensures.fed; right = search rules }) c.put_fed.result c.put_fed.ensures.all
