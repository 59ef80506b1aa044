use Rattle.std.proofs.Common.{rules, ◌≡◌, ℕ, List, Bool, Result, true, sym, subst}
use Rattle.uimg_engine.specs.Headline.{is_fit}
use Rattle.uimg_requests.specs.declared.command.Form.TheVariants as form
use Rattle.uimg_checks.specs.Choices.{Chooses, TellsChoice, Unchosen, chosen_by}
use Rattle.uimg_checks.proofs.VerdictLaws.{over}
use Rattle.uimg_checks.proofs.choosing.configuration_images.Goals as goal

pub returns-in-Ok-true-clause-chosen : goal.returns-in-Ok-true-clause-chosen
returns-in-Ok-true-clause-chosen g c = λ honest.
    let d = g.S.Source.device c.args.source.now in
    let e = g.S.Source.device c.is_fit.new.source in
    let f = g.S.Source.device c.choose_in-choice.new.source in
    let first = c.in-Ok-true.ensures.uses.same in
    let second = c.choose_in-choice.ensures.same in
    let fit : is_fit form.Guess d.bytes ≡ true = search rules in
    let name = c.as_bytes.ensures.value in
    let told = over d e (λ (w : List ℕ). TellsChoice (chosen_by true c.as_bytes.result.now w) w c.choose_in-choice.result) first c.choose_in-choice.ensures.told honest in
    let P = λ (w : List ℕ). (chosen : Result (List (List ℕ)) Unchosen) → TellsChoice chosen w c.choose_in-choice.result → Chooses chosen c.answer_of_choice.result in
    let chooses = over d e P first (over e f P second c.answer_of_choice.ensures.chosen) honest _ told in
    subst (λ (n : List ℕ). Chooses (chosen_by (is_fit form.Guess d.bytes) n d.bytes) c.answer_of_choice.result) name
    (subst (λ (b : Bool). Chooses (chosen_by b c.as_bytes.result.now d.bytes) c.answer_of_choice.result) (sym fit) chooses)
