-- The arguments of `diff`.
use Rattle.std.specs.Prelude.{Bool, List, [], ◌∷◌, codes}
use Rattle.clap.specs.Simple.{App, new_app}
use Rattle.clap.specs.Walk.{Row, Text}
use Rattle.uimg_cli.specs.Readings.{is_set, text_or}
use Rattle.uimg_cli.specs.Rules.{operand_rule, switch_rule, with_rules}
use Rattle.uimg_cli.specs.declared.command_line.diff.DiffRequest.{DiffRequest}

-- diff [--json] OLD NEW
unfoldable pub diff : App
diff = with_rules
    (switch_rule (codes "json") ∷ operand_rule (codes "old") ∷ operand_rule (codes "new") ∷ [])
    (new_app (codes "diff"))

pub record Comparing : Type 0 where
  pub as_json : Bool
  pub old : Text
  pub new : Text

abbrev pub comparing_of : DiffRequest → Comparing
comparing_of request = record {
  as_json = request.as_json;
  old = request.old.now;
  new = request.new.now;
}

-- whether as JSON, and the two images
abbrev pub diff_asked : List Row → Comparing
diff_asked rows = record {
  as_json = is_set (codes "json") rows;
  old = text_or (codes "old") rows [];
  new = text_or (codes "new") rows [];
}
