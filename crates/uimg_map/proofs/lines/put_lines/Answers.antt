use Rattle.std.proofs.Common.{◌≡◌, [], ◌∷◌, ◌++◌, ◌<◌, ◌+◌, None, length, get_or, drop, ◌∙◌, sym, subst, ℕ, List, IsTrue, append-nil, refl, arith}
use Rattle.std.proofs.KnownBytes.{Appends-trans}
use Rattle.std.proofs.lemmas.List.{drop_more, at_drop_all}
use Rattle.std.specs.String.{string_bytes}
use Rattle.uimg_map.specs.declared.row.Row.{Row, TheVariants.Taken}
use Rattle.uimg_map.specs.{Labels.Tells, Lines.{Lines, line_text}}
use Rattle.uimg_map.proofs.LineLaws.{lines_more}
use Rattle.uimg_map.proofs.lines.put_lines.Goals as goal

pub loop-row-preserved : goal.loop-row-preserved
loop-row-preserved g c =
    let device = g.S.Source.device in
    let map = c.args.map.now in
    let before = c.loop-row.invariant.0 in
    let after = c.in_ok-text.ensures.uses.same in
    let text = c.as_str.result.now in (
      record { bytes = after.bytes ∙ before.bytes; honest = after.honest ∙ before.honest },
      λ h.
          let now = c.loop-row.invariant.1 h in
          let i = c.loop-row.row-index in
          let first : Row = Taken (record { place = 0; end = 0; number = 0 }) None in
          let row = get_or c.deref-row-items.result.now i first in
          let more : i < length map.rows.items = omega (arith, c.loop-row-test.true) in
          let next = subst (λ (rs : List Row). drop i map.rows.items ≡ get_or rs i first ∷ drop (i + 1) map.rows.items) (sym c.deref-row-items.ensures.value) (drop_more map.rows.items i first more) in
          let told = c.in_ok-text.ensures.tells (subst IsTrue (sym before.honest) h) in
          let read = subst (λ (f : List ℕ). Tells f map row (string_bytes c.in_ok-text.text)) before.bytes told in (
            now.0 ++ line_text map.size row text,
            Appends-trans _ _ _ _ _ now.1 c.in_ok-put_line.ensures,
            lines_more (device c.args.source.now).bytes map map.rows.items i row now.0 text next (subst (Tells (device c.args.source.now).bytes map row) (sym c.as_str.ensures.value) read) now.2,
          ),
    )

pub returns-clause-lines : goal.returns-clause-lines
returns-clause-lines g c = λ h.
    let map = c.args.map.now in
    let now = c.loop-row.invariant.1 h in
    let none : drop c.loop-row.row-index map.rows.items ≡ [] = at_drop_all (λ (rs : List Row). rs) map.rows.items c.loop-row.row-index (omega (arith, c.loop-row-test.false)) in
    record {
      text = now.0;
      lines = subst (Lines (g.S.Source.device c.args.source.now).bytes map map.rows.items) (append-nil now.0) (now.2 [] (subst (λ (rs : List Row). Lines (g.S.Source.device c.args.source.now).bytes map rs []) (sym none) refl));
      appended = now.1;
    }
