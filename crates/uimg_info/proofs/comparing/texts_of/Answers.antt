use Rattle.std.proofs.Common.{◌≡◌, ◌+◌, List, ◌∷◌, drop, Bool, sym, ap, subst, ◌∙◌}
use Rattle.std.proofs.lemmas.List.{drop_more, drop_all}
use Rattle.uimg_info.specs.Comparing.{AddsText}
use Rattle.uimg_info.specs.declared.statement.Statement.{Statement}
use Rattle.uimg_info.proofs.ComparingLaws.{empty_texts, none_before, one_more, comes_twice, all_texts}
use Rattle.uimg_info.proofs.comparing.texts_of.Goals as goal

pub loop-statement-init : goal.loop-statement-init
loop-statement-init c = none_before c.new-texts.result c.args.all.now (empty_texts c.new-texts.result c.new-texts.ensures.empty)

pub returns-then-not-is_new : goal.returns-then-not-is_new
returns-then-not-is_new c =
    let all = c.args.all.now in
    let i = c.loop-statement.statement-index in
    let s = c.statement-item.result in
    let are : drop i all ≡ s ∷ drop (i + 1) all = drop_more all i s c.loop-statement-test.true ∙ ap (λ (v : Statement). v ∷ drop (i + 1) all) (sym c.statement-item.is) in
    comes_twice c.loop-statement.texts c.add_text.new.texts (drop i all) (drop (i + 1) all) all s are c.loop-statement.invariant
    (subst (λ (b : Bool). AddsText b s.key.items s.text.items c.loop-statement.texts c.add_text.new.texts) c.if-not-is_new.true c.in_ok-is_new.ensures)

pub loop-statement-preserved : goal.loop-statement-preserved
loop-statement-preserved c =
    let all = c.args.all.now in
    let i = c.loop-statement.statement-index in
    let s = c.statement-item.result in
    let are : drop i all ≡ s ∷ drop (i + 1) all = drop_more all i s c.loop-statement-test.true ∙ ap (λ (v : Statement). v ∷ drop (i + 1) all) (sym c.statement-item.is) in
    one_more c.loop-statement.texts c.add_text.new.texts (drop i all) (drop (i + 1) all) all s are c.loop-statement.invariant
    (subst (λ (b : Bool). AddsText b s.key.items s.text.items c.loop-statement.texts c.add_text.new.texts) c.if-not-is_new.false c.in_ok-is_new.ensures)

pub returns : goal.returns
returns c =
    all_texts c.loop-statement.texts (drop c.loop-statement.statement-index c.args.all.now) c.args.all.now
    (drop_all c.loop-statement.statement-index c.args.all.now c.loop-statement-test.false) c.loop-statement.invariant
