use Rattle.std.proofs.Common.{◌∙◌, ap}
use Rattle.clap.specs.Simple.{app_of}
use Rattle.clap.specs.declared.builder.command.Command.TheViews.{out-Command as fields_of}
use Rattle.uimg_cli.proofs.Chains.{next, onward}
use Rattle.uimg_cli.specs.Mkimage.{header_rules, mkimage, source_rules}
use Rattle.uimg_cli.specs.Rules.{with_rules}
use Rattle.uimg_cli.proofs.command_line.mkimage.command.Goals as goal

pub returns-clause-app : goal.returns-clause-app
unfolding mkimage
returns-clause-app c =
    let e1 = c.in_ok-command.ensures.app ∙ ap (with_rules header_rules) c.titled-command.ensures.app in
    let e2 = c.in_ok-command-2.ensures.app ∙ ap (with_rules source_rules) e1 in
    let e3 = c.in_ok-command-3.ensures.rules ∙ next _ e2 in
    onward app_of c.with_image.result _ _ c.with_image.ensures.rules (next _ e3)

pub returns-clause-local : goal.returns-clause-local
returns-clause-local c =
    onward (λ it. (fields_of it).has_globals) c.with_image.result _ _ c.with_image.ensures.local (c.in_ok-command-3.ensures.local ∙ c.in_ok-command-2.ensures.local ∙ c.in_ok-command.ensures.local ∙ c.titled-command.ensures.local)
