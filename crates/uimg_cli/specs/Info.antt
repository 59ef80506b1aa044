-- The arguments of `info`.
use Rattle.std.specs.Prelude.{ℕ, List, [], ◌∷◌, Result, Ok, codes}
use Rattle.clap.specs.Simple.{App, new_app}
use Rattle.clap.specs.Walk.{Row, Text}
use Rattle.uimg_cli.specs.Counts.{most_input_asked}
use Rattle.uimg_cli.specs.Readings.{text_or}
use Rattle.uimg_cli.specs.Rules.{image_rule, long_rule, switch_rule, with_rules}
use Rattle.uimg_cli.specs.Wrong.{Wrong, and_then}
use Rattle.uimg_cli.specs.declared.command_line.info.InfoRequest.{InfoRequest}

-- info [--json] [--max-input NUMBER] IMAGE
unfoldable pub info : App
info = with_rules (switch_rule (codes "json") ∷ long_rule (codes "max-input") ∷ image_rule ∷ [])
    (new_app (codes "info"))

pub record Informing : Type 0 where
  pub most_input : ℕ
  pub image : Text

abbrev pub informing_of : InfoRequest → Informing
informing_of request = record { most_input = request.most_input; image = request.image.now }

-- the image; --json is the default
abbrev pub info_asked : List Row → Result Informing Wrong
info_asked rows = and_then (most_input_asked rows) (λ input. Ok (record {
  most_input = input;
  image = text_or (codes "image") rows [];
}))
