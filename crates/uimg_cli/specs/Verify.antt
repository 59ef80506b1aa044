-- The arguments of `verify`.
use Rattle.std.specs.Prelude.{List, [], ◌∷◌, None, codes}
use Rattle.clap.specs.Simple.{App, new_app}
use Rattle.clap.specs.Walk.{Row}
use Rattle.uimg_cli.specs.Readings.{text_or}
use Rattle.uimg_cli.specs.Rules.{image_rule, with_rules}
use Rattle.uimg_cli.specs.Runs.{Run, plain_run}
use Rattle.uimg_requests.specs.declared.command.Action.TheVariants.{Verify}
use Rattle.uimg_requests.specs.declared.command.Form.TheVariants.{Guess}

-- verify IMAGE
unfoldable pub verify : App
verify = with_rules (image_rule ∷ []) (new_app (codes "verify"))

abbrev pub verify_asked : List Row → Run
verify_asked rows = plain_run Verify Guess (text_or (codes "image") rows []) None
