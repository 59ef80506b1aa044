use Rattle.std.proofs.Common.{◌∙◌, ap₂}
use Rattle.clap.specs.Simple.{app_of, with_rule}
use Rattle.clap.specs.declared.builder.command.Command.TheViews.{out-Command as fields_of}
use Rattle.uimg_cli.proofs.Chains.{next, onward}
use Rattle.uimg_cli.specs.Check.{check}
use Rattle.uimg_cli.proofs.command_line.check.command.Goals as goal

pub returns-clause-app : goal.returns-clause-app
unfolding check
returns-clause-app c =
    let e1 = c.in_ok-command.ensures.rules ∙ next _ c.titled-command.ensures.app in
    let e2 = c.in_ok-command-2.ensures.rules ∙ next _ e1 in
    let e3 = c.in_ok-command-3.ensures.rules ∙ next _ e2 in
    let e4 = c.in_ok-command-4.ensures.rules ∙ next _ e3 in
    let e5 = c.in_ok-command-5.ensures.rules ∙ next _ e4 in
    let e6 = c.in_ok-command-6.ensures.rules ∙ next _ e5 in
    let e7 = c.in_ok-command-7.ensures.rules ∙ next _ e6 in
    let e8 = c.in_ok-command-8.ensures.rules ∙ next _ e7 in
    let e9 = c.in_ok-command-9.ensures.rules ∙ next _ e8 in
    let e10 = c.in_ok-command-10.ensures.rules ∙ next _ e9 in
    let e11 = c.in_ok-command-11.ensures.rules ∙ next _ e10 in
    let e12 = c.in_ok-command-12.ensures.rules ∙ next _ e11 in
    let e13 = c.in_ok-command-13.ensures.rules ∙ next _ e12 in
    onward app_of c.with.result _ _ c.with.ensures.rules (ap₂ with_rule e13 c.images.ensures.rule)

pub returns-clause-local : goal.returns-clause-local
returns-clause-local c =
    onward (λ it. (fields_of it).has_globals) c.with.result _ _ c.with.ensures.local (c.in_ok-command-13.ensures.local ∙ c.in_ok-command-12.ensures.local ∙ c.in_ok-command-11.ensures.local ∙ c.in_ok-command-10.ensures.local ∙ c.in_ok-command-9.ensures.local ∙ c.in_ok-command-8.ensures.local ∙ c.in_ok-command-7.ensures.local ∙ c.in_ok-command-6.ensures.local ∙ c.in_ok-command-5.ensures.local ∙ c.in_ok-command-4.ensures.local ∙ c.in_ok-command-3.ensures.local ∙ c.in_ok-command-2.ensures.local ∙ c.in_ok-command.ensures.local ∙ c.titled-command.ensures.local)
