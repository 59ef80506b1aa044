use Rattle.std.proofs.Common.{◌++◌, ℕ, List, IsTrue, drop}
use Rattle.std.specs.Io.KnownBytes.{Appends}
use Rattle.uimg_base.specs.Device.{SameDevice}
use Rattle.uimg_map.specs.Lines.{Lines}
use Rattle.uimg_map.proofs.lines.put_lines.Given as goal

-- the lines of the rows so far were appended: with those of the rest they are all
abbrev pub invariant-loop-row : goal.invariant-loop-row
invariant-loop-row g l =
    let device = g.S.Source.device in
    let file = (device l.fn.source).bytes in
    SameDevice (device l.fn.source) (device l.source)
    × (IsTrue (device l.fn.source).honest → (done : List ℕ)
    × Appends (g.W.Write.contents l.fn.out) (g.W.Write.contents l.out) done
    × ((others : List ℕ) → Lines file l.map (drop l.row-index l.map.rows.items) others → Lines file l.map l.map.rows.items (done ++ others)))
