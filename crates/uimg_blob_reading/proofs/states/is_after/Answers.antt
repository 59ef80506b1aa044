use Rattle.uimg_blob_reading.proofs.{PhaseLaws.is_after_by, KeyLaws.none_from}
use Rattle.uimg_blob_reading.proofs.states.is_after.Goals as goal

pub returns-then-is_none : goal.returns-then-is_none
returns-then-is_none g c p h = is_after_by p c.args.state c.args.room.now.entries c.count.result h (none_from c.args.state.current c.if-is_none.ensures) c.count.ensures
