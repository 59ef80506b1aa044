use Rattle.std.proofs.Common.{rules, ◌≡◌, ℕ, ◌∙◌, ap, subst, map, arith}
use Rattle.std.proofs.Output.{has_written_append, has_written_of_eq}
use Rattle.std.specs.{Fmt.HasWritten, List.range_with_len}
use Rattle.uimg_map.specs.{Bars.is_filled, Cover.place_of, Lines.{cell_glyph, bar_text}}
use Rattle.uimg_map.proofs.LineLaws.{cells_more}
use Rattle.uimg_map.proofs.lines.put_cells.Goals as goal

pub loop-cell-preserved : goal.loop-cell-preserved
loop-cell-preserved g c = λ plain.
    has_written_of_eq _ _ _ _ _ (cells_more c.args.size c.args.row.now c.loop-cell.cell c.glyph_of.result c.has.result (c.has.ensures ∙ c.bar_of-bar.ensures.filled c.loop-cell.cell (search rules) ∙ ap (λ (p : ℕ). is_filled 32 c.args.size p c.end.result c.loop-cell.cell) c.place.ensures ∙ ap (λ (e : ℕ). is_filled 32 c.args.size (place_of c.args.row.now) e c.loop-cell.cell) c.end.ensures) c.glyph_of.ensures)
    (has_written_append _ _ _ _ _ _ (c.loop-cell.invariant plain) (search rules))

pub returns : goal.returns
unfolding bar_text
returns g c = λ plain ok.
    let all : c.loop-cell.cell ≡ 32 = omega (arith, c.loop-cell-test.false, c.loop-cell.auto.cell-end) in
    subst (λ (n : ℕ). HasWritten g.W.Write.write_str_gives c.args.f.now (map (cell_glyph c.args.size c.args.row.now) (range_with_len 0 n)) c.loop-cell.f) all (c.loop-cell.invariant plain)
