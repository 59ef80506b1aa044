use Rattle.std.proofs.Common.{◌≡◌, ℕ, List, true}
use Rattle.std.specs.{Io.Iter.split_byte, List.list_all}
use Rattle.uimg_base.specs.Named.{SameFiles}
use Rattle.uimg_tool.specs.Checks.{AnswersEach, after_names, names_end, told}
use Rattle.uimg_tool.specs.Paths.{bytes_left, is_name}
use Rattle.uimg_world.specs.Deeds.{changes}
use Rattle.uimg_tool.specs.Statuses.{Grows}
use Rattle.uimg_tool.proofs.PathLaws.{Left}
use Rattle.uimg_tool.proofs.checks.Checks.check_named.Given as goal

-- names of the file were answered; the greatest status did not fall, and no file was changed
abbrev pub invariant-loop-name : goal.invariant-loop-name
invariant-loop-name g l =
    let files = g.D.World.map l.fn.world in
    let whole = bytes_left g.D.File.Read.remaining l.initial.name-iterator in
    let known = bytes_left g.D.File.Read.remaining l.name-iterator in
    (goal.iterator-loop-name g).can_next l.name-iterator
    × (goal.iterator-loop-name g).is_finite l.name-iterator
    × Grows l.fn.self.greatest l.self.greatest
    × SameFiles files (g.D.World.map l.world)
    × (changes (g.D.World.trace l.world) ≡ changes (g.D.World.trace l.fn.world))
    × (split_byte l.name-iterator ≡ names_end l.asked)
    × ((names : List (List ℕ)) × (list_all is_name names ≡ true) × Left (names_end l.asked) whole known names
    × AnswersEach files l.asked names (after_names l.fn.path (told l.fn.self (g.W.Write.contents l.fn.out) (g.D.World.trace l.fn.world)))
    (told l.self (g.W.Write.contents l.out) (g.D.World.trace l.world)))
