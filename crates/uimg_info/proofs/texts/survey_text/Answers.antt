use Rattle.std.{proofs.Common.{◌≡◌, map, ap, ◌∙◌, subst, arith, rules}, specs.Str.IsUtf8}
use Rattle.json.specs.{Lex.tokens, Print.print, Tree.json_tokens}
use Rattle.uimg_printing.{specs.Objects.is_one_line, proofs.SoundLaws.{one_line, reads_back}}
use Rattle.uimg_fit_checking.specs.{FullSurvey.read_properties, Survey.read_survey}
use Rattle.uimg_info.specs.{Reservations.reservations_of, Fit.fit_json, Signatures.read_signature}
use Rattle.uimg_info.proofs.ObjectLaws.{fit_sound}
use Rattle.uimg_info.proofs.texts.survey_text.Goals as goal

pub returns-clause-reads_back : goal.returns-clause-reads_back
returns-clause-reads_back g c = λ honest.
    let file = (g.S.Source.device c.args.source.now).bytes in
    let said = read_survey file c.args.facts.now.full.survey in
    let properties = map (read_properties file) c.args.facts.now.full.properties.items in
    let signatures = map (read_signature file) c.args.facts.now.signatures.items in
    let reserved = reservations_of file c.args.facts.now.full.survey.totalsize in
    let j = fit_json c.args.path.now c.args.size reserved said properties signatures in
    let text : c.into_inner.result.items ≡ print c.put_fit.new.writer.tokens = search rules in
    let written : c.put_fit.new.writer.tokens ≡ json_tokens j = search rules in
    reads_back 6 j c.into_inner.result.items (fit_sound c.args.path.now c.args.size reserved said properties signatures) (omega arith) (ap tokens text ∙ c.into_inner.ensures.reads_back ∙ written)

pub returns-clause-utf8 : goal.returns-clause-utf8
returns-clause-utf8 g c =
    let text : print c.put_fit.new.writer.tokens ≡ c.into_inner.result.items = search rules in
    subst IsUtf8 text c.into_inner.ensures.utf8

pub returns-clause-one_line : goal.returns-clause-one_line
returns-clause-one_line g c = λ honest.
    let file = (g.S.Source.device c.args.source.now).bytes in
    let said = read_survey file c.args.facts.now.full.survey in
    let properties = map (read_properties file) c.args.facts.now.full.properties.items in
    let signatures = map (read_signature file) c.args.facts.now.signatures.items in
    let reserved = reservations_of file c.args.facts.now.full.survey.totalsize in
    let j = fit_json c.args.path.now c.args.size reserved said properties signatures in
    let text : c.into_inner.result.items ≡ print c.put_fit.new.writer.tokens = search rules in
    let written : c.put_fit.new.writer.tokens ≡ json_tokens j = search rules in
    ap is_one_line (text ∙ ap print written) ∙ one_line 6 j (fit_sound c.args.path.now c.args.size reserved said properties signatures)
