use Rattle.std.proofs.Common.{subst, sym, ap, ◌∙◌}
use Rattle.std.specs.{Prelude.{◌≡◌, List, ℕ, Option, IfOk, length}, Option.option_map}
use Rattle.uimg_texts.specs.Nul.{text}
use Rattle.uimg_base.specs.declared.spans.Span.{Span}
use Rattle.uimg_blob_reading.specs.Roles.{in_image}
use Rattle.uimg_fit_reading.specs.declared.report.plans.Plan.{Plan}
use Rattle.uimg_fit_reading.specs.Plans.{plan_by_name, hash_plan, text_in, word_by}
use Rattle.uimg_fit_base.specs.{Files.bytes_in, Report.{algo_name_of, by_name, named_word}}
use Rattle.uimg_fit_reading.proofs.PlanLaws.{planned_word, of_answer}
use Rattle.uimg_fit_reading.proofs.CompareLaws.{keeps_algo, keeps_value}
use Rattle.uimg_fit_reading.proofs.report.plans.plan_at.Goals as goal

pub returns-clause-plan : goal.returns-clause-plan
returns-clause-plan g c = λ t o found more at.
    let file = (g.S.Source.device c.args.source.now).bytes in
    let algo = c.value_of-algo.result in
    let value = c.value_of-value.result in
    let name = c.value_of-algo.ensures.bytes file t o.read in_image found at.node (keeps_algo found.name at.named) in
    let span = c.value_of-value.ensures.span t o.read.indexed in_image found at.node (keeps_value found.name at.named) in
    let same : plan_by_name c.args.naming (text_in file algo) value ≡ hash_plan c.args.naming found =
    ap (λ (o : Option (List ℕ)). plan_by_name c.args.naming (option_map text o) value) (sym name)
    ∙ ap (λ (v : Option Span). plan_by_name c.args.naming (algo_name_of found) v) span in
    subst (λ (p : Plan). IfOk c.planned.result (λ plan. plan ≡ p)) same (c.planned.ensures.plan o.honest)

pub returns-clause-word : goal.returns-clause-word
returns-clause-word g c = λ t o found more at message.
    let file = (g.S.Source.device c.args.source.now).bytes in
    let algo = c.value_of-algo.result in
    let value = c.value_of-value.result in
    let name = c.value_of-algo.ensures.bytes file t o.read in_image found at.node (keeps_algo found.name at.named) in
    let bytes = c.value_of-value.ensures.bytes file t o.read in_image found at.node (keeps_value found.name at.named) in
    let within = c.value_of-value.ensures.inside (length file) c.requires.file in
    let same : word_by file message (plan_by_name c.args.naming (text_in file algo) value) ≡ named_word c.args.naming message found =
    planned_word c.args.naming file message (text_in file algo) value within
    ∙ ap (λ (o : Option (List ℕ)). by_name c.args.naming (option_map text o) (bytes_in file value) message) (sym name)
    ∙ ap (λ (o : Option (List ℕ)). by_name c.args.naming (algo_name_of found) o message) (sym bytes) in
    of_answer c.planned.result (λ plan. plan ≡ plan_by_name c.args.naming (text_in file algo) value) (λ plan. word_by file message plan ≡ named_word c.args.naming message found)
    (λ plan is. ap (word_by file message) is ∙ same) (c.planned.ensures.plan o.honest)
