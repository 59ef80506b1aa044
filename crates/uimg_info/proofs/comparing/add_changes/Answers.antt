use Rattle.std.proofs.Common.{◌≡◌, ◌+◌, List, ◌∷◌, drop, sym, ap, ◌∙◌}
use Rattle.std.proofs.lemmas.List.{drop_more}
use Rattle.uimg_info.specs.Comparing.{changed, text_at}
use Rattle.uimg_info.specs.Statement.{stated}
use Rattle.uimg_info.specs.declared.statement.Statement.{Statement}
use Rattle.uimg_info.proofs.ComparingLaws.{step_more, text_found}
use Rattle.uimg_info.proofs.comparing.add_changes.Goals as goal

pub loop-statement-preserved : goal.loop-statement-preserved
loop-statement-preserved c = λ new has.
    let all = c.args.old.now in
    let i = c.loop-statement.statement-index in
    let s = c.statement-item.result in
    let are : drop i all ≡ s ∷ drop (i + 1) all = drop_more all i s c.loop-statement-test.true ∙ ap (λ (v : Statement). v ∷ drop (i + 1) all) (sym c.statement-item.is) in
    let is = c.changed.ensures ∙ ap (changed (stated s)) (text_found c.args.texts.now new s c.as_slice.result.now c.copied-text.result has c.as_slice.ensures.value (c.copied-text.ensures ∙ c.get.ensures.value)) in
    step_more (λ s. changed s (text_at new s.key)) c.loop-statement.to.items c.push_found.new.to.items c.args.to.now.items (drop i all) (drop (i + 1) all) all s c.changed.result
    are is c.in_ok-push_found.ensures (c.loop-statement.invariant new has)
