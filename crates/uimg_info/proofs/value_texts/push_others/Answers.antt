use Rattle.std.proofs.Common.{◌++◌, List, ℕ, length, ◌≤◌, ap, sym, ◌∙◌, append_assoc, append-nil, rules}
use Rattle.std.specs.List.{flat_map}
use Rattle.uimg_fit_reading.specs.Values.{pieces}
use Rattle.uimg_info.specs.ValueTexts.{quoted_next}
use Rattle.uimg_info.proofs.PieceLaws.{no_pieces}
use Rattle.uimg_info.proofs.value_texts.push_others.Goals as goal

pub loop-rest-preserved : goal.loop-rest-preserved
loop-rest-preserved c =
    let l = c.loop-rest in
    let rest = flat_map quoted_next (pieces c.cut.result.1.now) in
    ap (λ (t : List ℕ). t ++ rest) c.in_ok-push_next.ensures
    ∙ append_assoc l.to.items (quoted_next c.cut.result.0.now) rest
    ∙ ap (λ (ps : List (List ℕ)). l.to.items ++ flat_map quoted_next ps) (sym c.cut.ensures.pieces)
    ∙ l.invariant

pub returns : goal.returns
returns c =
    let l = c.loop-rest in
    let none : length l.rest.now ≤ 0 = search rules in
    sym (append-nil l.to.items)
    ∙ ap (λ (ps : List (List ℕ)). l.to.items ++ flat_map quoted_next ps) (sym (no_pieces l.rest.now none))
    ∙ l.invariant
