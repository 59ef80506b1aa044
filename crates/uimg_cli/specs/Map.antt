-- The arguments of `map`.
use Rattle.std.specs.Prelude.{ℕ, Bool, List, [], ◌∷◌, Option, Result, Ok, Err, codes, if◌then◌else◌, option_map}
use Rattle.clap.specs.Simple.{App, new_app}
use Rattle.clap.specs.Walk.{Row, Text, first_of}
use Rattle.uimg_cli.specs.Counts.{most_input_asked}
use Rattle.uimg_cli.specs.Readings.{is_output, is_set, text_or}
use Rattle.uimg_cli.specs.Rules.{image_rule, long_rule, switch_rule, with_rules}
use Rattle.uimg_cli.specs.Wrong.{Wrong, and_then, to_output}
use Rattle.uimg_cli.specs.declared.command_line.map.MapRequest.{MapRequest}

-- map [--svg FILE] [--force] [--max-input NUMBER] IMAGE
unfoldable pub map_command : App
map_command = with_rules (
    long_rule (codes "svg")
    ∷ switch_rule (codes "force")
    ∷ long_rule (codes "max-input")
    ∷ image_rule
    ∷ []) (new_app (codes "map"))

pub record Mapping : Type 0 where
  pub picture : Option Text
  pub is_forced : Bool
  pub most_input : ℕ
  pub image : Text

abbrev pub mapping_of : MapRequest → Mapping
mapping_of request = record {
  picture = option_map (λ path. path.now) request.picture;
  is_forced = request.is_forced;
  most_input = request.most_input;
  image = request.image.now;
}

-- no picture is written to standard output
abbrev pub map_asked : List Row → Result Mapping Wrong
map_asked rows = if is_output (first_of (codes "svg") rows) then Err (to_output (codes "svg"))
    else and_then (most_input_asked rows) (λ input. Ok (record {
      picture = first_of (codes "svg") rows;
      is_forced = is_set (codes "force") rows;
      most_input = input;
      image = text_or (codes "image") rows [];
    }))
