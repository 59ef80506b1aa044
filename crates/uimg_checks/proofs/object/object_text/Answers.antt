use Rattle.std.proofs.Common.{◌≡◌, ap, ◌∙◌, subst, arith, rules}
use Rattle.std.specs.Str.{IsUtf8}
use Rattle.json.specs.Lex.{tokens}
use Rattle.json.specs.Print.{print}
use Rattle.json.specs.Tree.{json_tokens}
use Rattle.uimg_printing.specs.Objects.{is_one_line}
use Rattle.uimg_printing.proofs.SoundLaws.{one_line, reads_back}
use Rattle.uimg_checks.specs.Objects.{check_json}
use Rattle.uimg_checks.proofs.ObjectLaws.{check_sound}
use Rattle.uimg_checks.proofs.object.object_text.Goals as goal

pub returns-clause-reads_back : goal.returns-clause-reads_back
returns-clause-reads_back c =
    let j = check_json c.args.path.now c.args.answer.now in
    let text : c.into_inner.result.items ≡ print c.put_object.new.writer.tokens = search rules in
    let written : c.put_object.new.writer.tokens ≡ json_tokens j = search rules in
    reads_back 3 j c.into_inner.result.items (check_sound c.args.path.now c.args.answer.now) (omega arith) (ap tokens text ∙ c.into_inner.ensures.reads_back ∙ written)

pub returns-clause-utf8 : goal.returns-clause-utf8
returns-clause-utf8 c =
    let text : print c.put_object.new.writer.tokens ≡ c.into_inner.result.items = search rules in
    subst IsUtf8 text c.into_inner.ensures.utf8

pub returns-clause-one_line : goal.returns-clause-one_line
returns-clause-one_line c =
    let j = check_json c.args.path.now c.args.answer.now in
    let text : c.into_inner.result.items ≡ print c.put_object.new.writer.tokens = search rules in
    let written : c.put_object.new.writer.tokens ≡ json_tokens j = search rules in
    ap is_one_line (text ∙ ap print written) ∙ one_line 3 j (check_sound c.args.path.now c.args.answer.now)
