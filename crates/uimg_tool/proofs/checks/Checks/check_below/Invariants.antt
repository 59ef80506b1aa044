use Rattle.std.proofs.Common.{◌≡◌, [], ◌∷◌}
use Rattle.uimg_base.specs.Named.{SameFiles}
use Rattle.uimg_tool.specs.{Below.AnswersBelow, Checks.{Told, told}, Statuses.Grows}
use Rattle.uimg_tool.proofs.BelowLaws.{from_end}
use Rattle.uimg_tool.proofs.checks.Checks.check_below.Given as goal
use Rattle.uimg_world.specs.Deeds.{changes}

-- what is answered of the paths that are left is answered of all
abbrev pub invariant-loop : goal.invariant-loop
invariant-loop g l =
    Grows l.fn.self.greatest l.self.greatest
    × SameFiles (g.D.World.map l.fn.world) (g.D.World.map l.world)
    × (changes (g.D.World.trace l.world) ≡ changes (g.D.World.trace l.fn.world))
    × ((last : Told) → AnswersBelow (g.D.World.map l.fn.world) l.asked (from_end l.left.items) (told l.self (g.W.Write.contents l.out) (g.D.World.trace l.world)) last
    → AnswersBelow (g.D.World.map l.fn.world) l.asked (l.fn.path ∷ []) (told l.fn.self (g.W.Write.contents l.fn.out) (g.D.World.trace l.fn.world)) last)
