-- The subcommand that the words name, by its name and by what they gave for its arguments.
use Rattle.std.proofs.Common.{◌≡◌, List, Option, Some, None, ap, ap₂, sym, option_map, unwrap_or, [], Box}
use Rattle.std.specs.Box.{box_value}
use Rattle.clap.specs.Simple.{subcommand_rows}
use Rattle.clap.specs.Walk.{Row, Text}
use Rattle.clap.specs.declared.parser.matches.ArgMatches.TheViews.{out-SubCommand}
use Rattle.clap.specs.declared.parser.matches.SubCommand.{SubCommand}

pub found_by : {Z : Type 0} (found : Option (Box SubCommand Z)) (name : Text) (rows : List Row)
    → Some name ≡ option_map (λ b. (out-SubCommand (box_value b)).name.now) found
    → Some rows ≡ option_map (λ p. p.1) (subcommand_rows found)
    → subcommand_rows found ≡ Some (name, rows)
found_by None name rows named given = absurd (cc)
found_by (Some b) name rows named given =
    let first = ap (λ o. unwrap_or o []) named in
    let second = ap (λ o. unwrap_or o []) given in
    ap₂ (λ x y. Some (x, y)) (sym first) (sym second)
