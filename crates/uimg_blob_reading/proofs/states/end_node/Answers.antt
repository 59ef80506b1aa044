use Rattle.std.proofs.Common.{refl}
use Rattle.uimg_blob_reading.proofs.{PassLaws.{end_goes, length_ended}, ActLaws.end_does}
use Rattle.uimg_blob_reading.proofs.states.end_node.Goals as goal

pub returns : goal.returns
returns g c = rw c.leave.ensures
    (end_does c.args.state _ c.args.room.now _ refl
    (record { count = length_ended c.in-Some.number c.args.room.now.entries; peak = refl; refused = refl })
    (λ p h. end_goes p c.args.state c.args.room.now.entries c.in-Some.number c.entry.result c.number_in-parent.result h c.in-Some.is c.entry.ensures c.number_in-parent.ensures))
