use Rattle.std.proofs.Common.{◌∙◌, ◌∷◌, [], ap, ap₂, fold}
use Rattle.clap.specs.Simple.{app_of}
use Rattle.uimg_cli.specs.CommandLines.{uimg, with_command}
use Rattle.uimg_cli.specs.Dumpimage.{dumpimage}
use Rattle.uimg_cli.specs.Mkimage.{mkimage}
use Rattle.uimg_cli.specs.Verify.{verify}
use Rattle.uimg_cli.proofs.Chains.{onward}
use Rattle.uimg_cli.proofs.command_line.subcommands.commands.Goals as goal

pub returns : goal.returns
unfolding uimg
returns c =
    let e1 = c.in_ok-command-2.ensures ∙ ap (λ app. fold with_command app (mkimage ∷ dumpimage ∷ verify ∷ [])) c.in_ok-command.ensures in
    let e2 = c.in_ok-command-4.ensures ∙ ap₂ with_command e1 c.in_ok-command-3.ensures.app in
    let e3 = c.in_ok-command-6.ensures ∙ ap₂ with_command e2 c.in_ok-command-5.ensures.app in
    let e4 = c.in_ok-command-8.ensures ∙ ap₂ with_command e3 c.in_ok-command-7.ensures.app in
    let e5 = c.in_ok-command-10.ensures ∙ ap₂ with_command e4 c.in_ok-command-9.ensures.app in
    onward app_of c.with_command-5.result _ _ c.with_command-5.ensures (ap₂ with_command e5 c.in_ok-command-11.ensures.app)
