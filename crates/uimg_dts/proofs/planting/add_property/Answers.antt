use Rattle.uimg_dts.proofs.planting.add_property.Goals as goal

pub returns-clause-sound : goal.returns-clause-sound
returns-clause-sound g c = λ sound.
    c.in_ok-push_property.ensures (g.F.Files.map c.args.files.now) sound (rw c.in_ok-name.ensures c.in_ok-value.ensures.sound)
