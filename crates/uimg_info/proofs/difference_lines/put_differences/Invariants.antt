use Rattle.std.proofs.Common.{take}
use Rattle.std.specs.{Io.KnownBytes.Appends, List.flat_map}
use Rattle.uimg_info.specs.DifferenceLines.{line_at}
use Rattle.uimg_info.proofs.difference_lines.put_differences.Given as goal

-- the lines before the index were written
abbrev pub invariant-loop-difference : goal.invariant-loop-difference
invariant-loop-difference g l = Appends (g.W.Write.contents l.fn.out) (g.W.Write.contents l.out) (flat_map (line_at l.fn.as_json) (take l.difference-index l.differences))
