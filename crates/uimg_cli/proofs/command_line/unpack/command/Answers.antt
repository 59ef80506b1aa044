use Rattle.std.proofs.Common.{◌∙◌, ap, ap₂}
use Rattle.clap.specs.Simple.{app_of, with_rule}
use Rattle.clap.specs.declared.builder.command.Command.TheViews.{out-Command as fields_of}
use Rattle.uimg_cli.proofs.Chains.{next, onward}
use Rattle.uimg_cli.specs.Rules.{with_rules}
use Rattle.uimg_cli.specs.Unpack.{chosen_rules, unpack, written_rules}
use Rattle.uimg_cli.proofs.command_line.unpack.command.Goals as goal

pub returns-clause-app : goal.returns-clause-app
unfolding unpack
returns-clause-app c =
    let e1 = c.in_ok-command.ensures.app ∙ ap (with_rules chosen_rules) c.titled-command.ensures.app in
    let e2 = c.in_ok-command-2.ensures.app ∙ ap (with_rules written_rules) e1 in
    let e3 = c.in_ok-command-3.ensures.rules ∙ next _ e2 in
    let e4 = c.in_ok-command-4.ensures.rules ∙ next _ e3 in
    onward app_of c.with.result _ _ c.with.ensures.rules (ap₂ with_rule e4 c.image.ensures.rule)

pub returns-clause-local : goal.returns-clause-local
returns-clause-local c =
    onward (λ it. (fields_of it).has_globals) c.with.result _ _ c.with.ensures.local (c.in_ok-command-4.ensures.local ∙ c.in_ok-command-3.ensures.local ∙ c.in_ok-command-2.ensures.local ∙ c.in_ok-command.ensures.local ∙ c.titled-command.ensures.local)
