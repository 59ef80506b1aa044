use Rattle.std.proofs.Common.{◌∙◌, ap}
use Rattle.uimg_unpacking.specs.Places.{is_temporary_folder}
use Rattle.uimg_unpacking.proofs.PartChanges.{changed_none, changed_since, looked}
use Rattle.uimg_unpacking.proofs.folder.clean_at.Goals as goal

pub returns-then-is_or_has : goal.returns-then-is_or_has
returns-then-is_or_has g c = λ folder inside. changed_none folder (g.W.World.trace c.args.world.now) (g.W.World.trace c.is_or_has.new.world) c.is_or_has.ensures

pub returns-then-not-is_something : goal.returns-then-not-is_something
returns-then-not-is_something g c = λ folder inside.
    changed_none folder (g.W.World.trace c.args.world.now) (g.W.World.trace c.kind_at-kind.new.self) (looked _ _ _ _ c.kind_at-kind.ensures.noted ∙ c.is_or_has.ensures)

pub returns-in-Ok : goal.returns-in-Ok
returns-in-Ok g c = λ folder inside.
    changed_since folder (g.W.World.trace c.args.world.now) (g.W.World.trace c.kind_at-kind.new.self) (g.W.World.trace c.remove_at.new.world) (looked _ _ _ _ c.kind_at-kind.ensures.noted ∙ c.is_or_has.ensures)
    (c.remove_at.ensures folder (ap (is_temporary_folder folder) c.as_str-3.ensures.value ∙ inside))

pub returns-in-Err : goal.returns-in-Err
returns-in-Err g c = λ folder inside.
    changed_since folder (g.W.World.trace c.args.world.now) (g.W.World.trace c.kind_at-kind.new.self) (g.W.World.trace c.remove_at.new.world) (looked _ _ _ _ c.kind_at-kind.ensures.noted ∙ c.is_or_has.ensures)
    (c.remove_at.ensures folder (ap (is_temporary_folder folder) c.as_str-3.ensures.value ∙ inside))
