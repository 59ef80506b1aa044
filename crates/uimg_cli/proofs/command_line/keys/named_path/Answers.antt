use Rattle.std.proofs.Common.{◌≡◌, ◌∙◌, Some, None, arith, ap, sym}
use Rattle.std.proofs.lemmas.Str.Pattern.{split_parts}
use Rattle.clap.specs.Lexer.{name_and_value}
use Rattle.clap.proofs.LexerLemmas.{name_and_value-at, name_and_value-without}
use Rattle.uimg_cli.proofs.KeyLaws.{is_named, is_path, is_unnamed}
use Rattle.uimg_cli.proofs.command_line.keys.named_path.Goals as goal

pub returns-then-is_name : goal.returns-then-is_name
returns-then-is_name c =
    let parts = split_parts 61 c.args.text.now (Some (c.in-Some.name, c.in-Some.path)) c.in-Some.ensures.cases (omega arith) in
    is_named c.args.text.now c.in-Some.name.now c.in-Some.path.now (ap name_and_value parts.0 ∙ name_and_value-at c.in-Some.name.now c.in-Some.path.now parts.1)
    (sym c.is_name.ensures ∙ c.if-is_name.true)

pub returns-else-is_name : goal.returns-else-is_name
returns-else-is_name c =
    let parts = split_parts 61 c.args.text.now (Some (c.in-Some.name, c.in-Some.path)) c.in-Some.ensures.cases (omega arith) in
    is_unnamed c.args.text.now c.in-Some.name.now c.in-Some.path.now (ap name_and_value parts.0 ∙ name_and_value-at c.in-Some.name.now c.in-Some.path.now parts.1)
    (sym c.is_name.ensures ∙ c.if-is_name.false)

pub returns-in-None : goal.returns-in-None
returns-in-None c =
    let lacks = split_parts 61 c.args.text.now None c.in-None.ensures.cases (omega arith) in
    is_path c.args.text.now (name_and_value-without c.args.text.now lacks)
