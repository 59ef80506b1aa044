use Rattle.std.proofs.Common.{◌∙◌}
use Rattle.clap.specs.Simple.{app_of}
use Rattle.clap.specs.declared.builder.command.Command.TheViews.{out-Command as fields_of}
use Rattle.uimg_cli.proofs.Chains.{next, onward}
use Rattle.uimg_cli.specs.Unpack.{written_rules}
use Rattle.uimg_cli.proofs.command_line.unpack.written_options.Goals as goal

pub returns-clause-app : goal.returns-clause-app
unfolding written_rules
returns-clause-app c =
    let e1 = c.in_ok-command.ensures.rules in
    let e2 = c.in_ok-command-2.ensures.rules ∙ next _ e1 in
    let e3 = c.in_ok-command-3.ensures.rules ∙ next _ e2 in
    let e4 = c.in_ok-command-4.ensures.rules ∙ next _ e3 in
    let e5 = c.in_ok-command-5.ensures.rules ∙ next _ e4 in
    onward app_of c.with_long-3.result _ _ c.with_long-3.ensures.rules (next _ e5)

pub returns-clause-local : goal.returns-clause-local
returns-clause-local c =
    onward (λ it. (fields_of it).has_globals) c.with_long-3.result _ _ c.with_long-3.ensures.local (c.in_ok-command-5.ensures.local ∙ c.in_ok-command-4.ensures.local ∙ c.in_ok-command-3.ensures.local ∙ c.in_ok-command-2.ensures.local ∙ c.in_ok-command.ensures.local)
