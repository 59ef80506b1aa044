-- Lines grow by a row, bars by a cell.
use Rattle.std.proofs.Common.{◌≡◌, [], ◌∷◌, ◌++◌, ◌+◌, ℕ, List, Bool, true, false, refl, ap, ◌∙◌, sym, subst, append_assoc, map, drop, arith}
use Rattle.std.specs.{Prelude.encode_utf8, List.range_with_len}
use Rattle.std.proofs.lemmas.List.FromFn.{map-range_with_len_more}
use Rattle.uimg_map.specs.declared.{map.Map.Map, row.Row.Row}
use Rattle.uimg_map.specs.{Bars.is_filled, Cover.{place_of, row_end}, Labels.Tells, Lines.{Lines, line_text, glyph_of, cell_glyph}}

glyph_bytes : (b : Bool) → encode_utf8 (glyph_of b) ≡ glyph_of b ∷ []
unfolding lib.Utf8.encode
glyph_bytes true = refl
glyph_bytes false = refl

-- the cells so far and the next one
pub cells_more : (size : ℕ) (row : Row) (cell glyph : ℕ) (b : Bool) → b ≡ is_filled 32 size (place_of row) (row_end row) cell → glyph ≡ glyph_of b → map (cell_glyph size row) (range_with_len 0 cell) ++ encode_utf8 glyph ≡ map (cell_glyph size row) (range_with_len 0 (cell + 1))
cells_more size row cell glyph b is told =
    let f = cell_glyph size row in
    ap (λ (t : List ℕ). map f (range_with_len 0 cell) ++ t) (ap encode_utf8 told ∙ glyph_bytes b ∙ ap (λ (x : Bool). glyph_of x ∷ []) is)
    ∙ sym (map-range_with_len_more f 0 cell cell (omega arith))

-- the lines so far and the next one
pub lines_more : (file : List ℕ) (map : Map) (rows : List Row) (i : ℕ) (row : Row) (done text : List ℕ) → drop i rows ≡ row ∷ drop (i + 1) rows → Tells file map row text
    → ((others : List ℕ) → Lines file map (drop i rows) others → Lines file map rows (done ++ others))
    → (others : List ℕ) → Lines file map (drop (i + 1) rows) others → Lines file map rows ((done ++ line_text map.size row text) ++ others)
lines_more file map rows i row done text next tells sofar others left =
    let line = line_text map.size row text in
    subst (Lines file map rows) (sym (append_assoc done line others))
    (sofar (line ++ others) (subst (λ (rs : List Row). Lines file map rs (line ++ others)) (sym next) (text, others, tells, left, refl)))
