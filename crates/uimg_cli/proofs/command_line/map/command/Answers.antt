use Rattle.std.proofs.Common.{◌∙◌}
use Rattle.clap.specs.Simple.{app_of}
use Rattle.clap.specs.declared.builder.command.Command.TheViews.{out-Command as fields_of}
use Rattle.uimg_cli.proofs.Chains.{next, onward}
use Rattle.uimg_cli.specs.Map.{map_command}
use Rattle.uimg_cli.proofs.command_line.map.command.Goals as goal

pub returns-clause-app : goal.returns-clause-app
unfolding map_command
returns-clause-app c =
    let e1 = c.in_ok-command.ensures.rules ∙ next _ c.titled-command.ensures.app in
    let e2 = c.in_ok-command-2.ensures.rules ∙ next _ e1 in
    let e3 = c.in_ok-command-3.ensures.rules ∙ next _ e2 in
    onward app_of c.with_image.result _ _ c.with_image.ensures.rules (next _ e3)

pub returns-clause-local : goal.returns-clause-local
returns-clause-local c =
    onward (λ it. (fields_of it).has_globals) c.with_image.result _ _ c.with_image.ensures.local (c.in_ok-command-3.ensures.local ∙ c.in_ok-command-2.ensures.local ∙ c.in_ok-command.ensures.local ∙ c.titled-command.ensures.local)
