use Rattle.std.proofs.Common.{rules, ℕ, List, Option, IfErr, ap, subst, refl}
use Rattle.uimg_base.specs.Named.{FileMap}
use Rattle.uimg_engine.specs.Commands.{LacksFile, HoldsCommandBetween}
use Rattle.uimg_engine.proofs.CommandLaws.{made_of_same, lacks_file}
use Rattle.uimg_engine.proofs.in_memory.make_in_memory.Goals as goal

pub returns-clause-made : goal.returns-clause-made
returns-clause-made g c =
    made_of_same _ _ _ _ _ _ _ c.make_by.result _ _ (ap (λ (m : FileMap). m.bytes) c.new.ensures) (c.make_by.ensures.made (search rules) refl (search rules))

pub returns-clause-missing : goal.returns-clause-missing
returns-clause-missing g c =
    subst (λ (files : List ℕ → Option (List ℕ)). IfErr c.make_by.result (LacksFile c.args.command.now files))
    (ap (λ (m : FileMap). m.bytes) c.new.ensures)
    (lacks_file c.args.command.now c.make_by.result _ _ c.make_by.ensures.makes.files (search rules) (search rules))

pub returns-clause-peak : goal.returns-clause-peak
returns-clause-peak g c =
    subst (λ (files : List ℕ → Option (List ℕ)). HoldsCommandBetween c.args.command.now c.args.manner.time c.args.manner.align files c.args.room.now c.make_by.new.room)
    (ap (λ (m : FileMap). m.bytes) c.new.ensures) (c.make_by.ensures.peak (search rules) refl (search rules))
