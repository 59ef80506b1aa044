use Rattle.std.proofs.Common.{◌≡◌}
use Rattle.uimg_base.specs.Named.{SameFiles}
use Rattle.uimg_world.specs.Deeds.{changes}
use Rattle.uimg_tool.proofs.sources.open_source.Given as goal

abbrev pub invariant-loop-folder : goal.invariant-loop-folder
invariant-loop-folder g l = SameFiles (g.D.World.map l.fn.world) (g.D.World.map l.world) × (changes (g.D.World.trace l.world) ≡ changes (g.D.World.trace l.fn.world))
