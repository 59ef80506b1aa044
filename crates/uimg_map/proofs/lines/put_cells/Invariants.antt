use Rattle.std.proofs.Common.{map}
use Rattle.std.specs.{Fmt.{HasWritten, IsPlainFormatter}, List.range_with_len}
use Rattle.uimg_map.specs.Lines.{cell_glyph}
use Rattle.uimg_map.proofs.lines.put_cells.Given as goal

-- the cells so far were written
abbrev pub invariant-loop-cell : goal.invariant-loop-cell
invariant-loop-cell g l =
    IsPlainFormatter l.fn.f → HasWritten g.W.Write.write_str_gives l.fn.f (map (cell_glyph l.size l.row) (range_with_len 0 l.cell)) l.f
