use Rattle.std.{proofs.Common.{◌≡◌, ap, ◌∙◌, subst, arith, rules}, specs.Str.IsUtf8}
use Rattle.json.specs.{Lex.tokens, Print.print, Tree.json_tokens}
use Rattle.uimg_printing.{specs.Objects.is_one_line, proofs.SoundLaws.{one_line, reads_back}}
use Rattle.uimg_info.specs.Legacy.{legacy_json}
use Rattle.uimg_info.proofs.LegacyLaws.{legacy_sound}
use Rattle.uimg_info.proofs.legacy.legacy_text.Goals as goal

pub returns-clause-reads_back : goal.returns-clause-reads_back
returns-clause-reads_back c =
    let j = legacy_json c.args.path.now c.args.size c.args.header.now c.args.parts.now in
    let text : c.into_inner.result.items ≡ print c.put_legacy.new.writer.tokens = search rules in
    let written : c.put_legacy.new.writer.tokens ≡ json_tokens j = search rules in
    reads_back 3 j c.into_inner.result.items (legacy_sound c.args.path.now c.args.size c.args.header.now c.args.parts.now) (omega arith) (ap tokens text ∙ c.into_inner.ensures.reads_back ∙ written)

pub returns-clause-utf8 : goal.returns-clause-utf8
returns-clause-utf8 c =
    let text : print c.put_legacy.new.writer.tokens ≡ c.into_inner.result.items = search rules in
    subst IsUtf8 text c.into_inner.ensures.utf8

pub returns-clause-one_line : goal.returns-clause-one_line
returns-clause-one_line c =
    let j = legacy_json c.args.path.now c.args.size c.args.header.now c.args.parts.now in
    let text : c.into_inner.result.items ≡ print c.put_legacy.new.writer.tokens = search rules in
    let written : c.put_legacy.new.writer.tokens ≡ json_tokens j = search rules in
    ap is_one_line (text ∙ ap print written) ∙ one_line 3 j (legacy_sound c.args.path.now c.args.size c.args.header.now c.args.parts.now)
