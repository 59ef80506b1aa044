use Rattle.std.proofs.Common.{◌≡◌, drop, map}
use Rattle.uimg_base.specs.Named.{SameFiles}
use Rattle.uimg_tool.specs.{Below.AnswersAllGiven, Checks.{Told, told}}
use Rattle.uimg_world.specs.Deeds.{changes}
use Rattle.uimg_tool.specs.Statuses.{Grows}
use Rattle.uimg_tool.proofs.checks.Checks.check_all.Given as goal

-- what is answered of the rest is answered of all; the greatest status did not fall, and no file was changed
abbrev pub invariant-loop-path : goal.invariant-loop-path
invariant-loop-path g l =
    Grows l.fn.self.greatest l.self.greatest
    × SameFiles (g.D.World.map l.fn.world) (g.D.World.map l.world)
    × (changes (g.D.World.trace l.world) ≡ changes (g.D.World.trace l.fn.world))
    × ((last : Told) → AnswersAllGiven (g.D.World.map l.fn.world) l.asked (map (λ path. path.now) (drop l.path-index l.path-items)) (told l.self (g.W.Write.contents l.out) (g.D.World.trace l.world)) last
    → AnswersAllGiven (g.D.World.map l.fn.world) l.asked (map (λ path. path.now) l.path-items) (told l.fn.self (g.W.Write.contents l.fn.out) (g.D.World.trace l.fn.world)) last)
