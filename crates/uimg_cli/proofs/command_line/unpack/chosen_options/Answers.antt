use Rattle.std.proofs.Common.{◌∙◌, ap₂}
use Rattle.clap.specs.Simple.{app_of, with_rule}
use Rattle.clap.specs.declared.builder.command.Command.TheViews.{out-Command as fields_of}
use Rattle.uimg_cli.proofs.Chains.{next, onward}
use Rattle.uimg_cli.specs.Unpack.{chosen_rules}
use Rattle.uimg_cli.proofs.command_line.unpack.chosen_options.Goals as goal

pub returns-clause-app : goal.returns-clause-app
unfolding chosen_rules
returns-clause-app c =
    let e1 = c.in_ok-command.ensures.rules in
    let e2 = c.in_ok-command-2.ensures.rules ∙ next _ e1 in
    let e3 = c.in_ok-command-3.ensures.rules ∙ next _ e2 in
    let e4 = c.in_ok-command-4.ensures.rules ∙ ap₂ with_rule e3 c.in_ok-need.ensures.rule in
    let e5 = c.in_ok-command-5.ensures.rules ∙ next _ e4 in
    onward app_of c.with_switch.result _ _ c.with_switch.ensures.rules (next _ e5)

pub returns-clause-local : goal.returns-clause-local
returns-clause-local c =
    onward (λ it. (fields_of it).has_globals) c.with_switch.result _ _ c.with_switch.ensures.local (c.in_ok-command-5.ensures.local ∙ c.in_ok-command-4.ensures.local ∙ c.in_ok-command-3.ensures.local ∙ c.in_ok-command-2.ensures.local ∙ c.in_ok-command.ensures.local)
