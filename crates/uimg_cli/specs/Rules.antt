-- The arguments that commands have, as far as the reading of words depends on them.
use Rattle.std.specs.Prelude.{ℕ, List, Some, codes, fold, true}
use Rattle.clap.specs.Simple.{App, new_rule, with_rule}
use Rattle.clap.specs.Walk.{Rule, Text}
use Rattle.clap.specs.declared.builder.action.ArgAction.TheVariants.{Set, SetTrue}

-- an option without a value, `-s`
abbrev pub flag_rule : Text → ℕ → Rule
flag_rule id short = record (new_rule id) { short = Some short; action = Some SetTrue }

-- an option with a value, `-s VALUE`
abbrev pub value_rule : Text → ℕ → Rule
value_rule id short =
    record (new_rule id) { short = Some short; action = Some Set; value_names = 1 }

-- a long option without a value, `--id`
abbrev pub switch_rule : Text → Rule
switch_rule id = record (new_rule id) { long = Some id; action = Some SetTrue }

-- a long option with a value, `--id VALUE`
abbrev pub long_rule : Text → Rule
long_rule id = record (new_rule id) { long = Some id; action = Some Set; value_names = 1 }

-- an operand, which has to be there
abbrev pub operand_rule : Text → Rule
operand_rule id = record (new_rule id) { required = true }

-- the operand for the image
abbrev pub image_rule : Rule
image_rule = operand_rule (codes "image")

-- the command with these arguments more, in this order
abbrev pub with_rules : List Rule → App → App
with_rules rules app = fold with_rule app rules
