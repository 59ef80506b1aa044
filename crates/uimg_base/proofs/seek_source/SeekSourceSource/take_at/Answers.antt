use Rattle.std.proofs.Common.{rules}
use Rattle.uimg_base.proofs.RangeLaws.{taken_if}
use Rattle.uimg_base.proofs.seek_source.SeekSourceSource.take_at.Goals as goal

pub returns-then-not-hold-clause-taken : goal.returns-then-not-hold-clause-taken
returns-then-not-hold-clause-taken g c =
    taken_if _ _ (record { piece = c.fill_beside.new.to; size = search rules; summed = c.put_fed.ensures.fed; right = search rules }) c.put_fed.result c.put_fed.ensures.all

pub returns-clause-taken : goal.returns-clause-taken
returns-clause-taken g c =
    taken_if _ _ (record { piece = c.part.result.now; size = search rules; summed = c.put_fed-put.ensures.fed; right = search rules }) c.put_fed-put.result c.put_fed-put.ensures.all
