use Rattle.std.proofs.{Common.{◌++◌, ℕ, List, sym, ap, ◌∙◌, subst, append_assoc, append-nil, rules}, Output.has_written_append}
use Rattle.std.specs.Fmt.{HasWritten}
use Rattle.uimg_compat.specs.{Asked.auto_of, AutoSource.{each_from, paths_left, tree_text}}
use Rattle.uimg_compat.proofs.auto_source.AutoSource.put_trees.Goals as goal

pub loop-path-preserved : goal.loop-path-preserved
loop-path-preserved g c = λ plain.
    let now = c.loop-path.invariant plain in
    let each = each_from (tree_text (auto_of c.args.self.now)) in
    let text = tree_text (auto_of c.args.self.now) c.loop-path.number c.in-Some.path.now in (
      now.0 ++ text,
      has_written_append _ _ _ _ _ _ now.1 (search rules),
      append_assoc now.0 text (each c.saturating_add-number.result (paths_left c.take.new.self))
          ∙ ap (λ n. now.0 ++ (text ++ each n (paths_left c.take.new.self))) c.saturating_add-number.ensures
          ∙ ap (λ ps. now.0 ++ each c.loop-path.number ps) (sym c.in-Some.ensures.next) ∙ now.2,
    )

pub returns : goal.returns
returns g c = λ plain ok.
    let now = c.loop-path.invariant plain in
    let each = each_from (tree_text (auto_of c.args.self.now)) in
    subst (λ (t : List ℕ). HasWritten g.W.Write.write_str_gives c.args.f.now t c.loop-path.f)
    (sym (append-nil now.0) ∙ ap (λ ps. now.0 ++ each c.loop-path.number ps) (sym c.in_default.ensures.next) ∙ now.2) now.1
