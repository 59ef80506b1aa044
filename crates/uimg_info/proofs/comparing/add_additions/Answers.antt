use Rattle.std.proofs.Common.{◌≡◌, ◌+◌, List, ◌∷◌, drop, sym, ap, ◌∙◌}
use Rattle.std.proofs.lemmas.List.{drop_more}
use Rattle.uimg_info.specs.Comparing.{added, text_at}
use Rattle.uimg_info.specs.Statement.{stated}
use Rattle.uimg_info.specs.declared.statement.Statement.{Statement}
use Rattle.uimg_info.proofs.ComparingLaws.{step_more, text_found}
use Rattle.uimg_info.proofs.comparing.add_additions.Goals as goal

pub loop-statement-preserved : goal.loop-statement-preserved
loop-statement-preserved c = λ old has.
    let all = c.args.new.now in
    let i = c.loop-statement.statement-index in
    let s = c.statement-item.result in
    let are : drop i all ≡ s ∷ drop (i + 1) all = drop_more all i s c.loop-statement-test.true ∙ ap (λ (v : Statement). v ∷ drop (i + 1) all) (sym c.statement-item.is) in
    let is = c.added.ensures ∙ ap (added (stated s)) (text_found c.args.texts.now old s c.as_slice.result.now c.copied-text.result has c.as_slice.ensures.value (c.copied-text.ensures ∙ c.get.ensures.value)) in
    step_more (λ s. added s (text_at old s.key)) c.loop-statement.to.items c.push_found.new.to.items c.args.to.now.items (drop i all) (drop (i + 1) all) all s c.added.result
    are is c.in_ok-push_found.ensures (c.loop-statement.invariant old has)
