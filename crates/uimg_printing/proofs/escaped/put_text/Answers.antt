use Rattle.std.proofs.Common.{◌≡◌, [], ◌++◌, ℕ, List, chars, sym, ap, ◌∙◌, subst, append_assoc, append-nil, rules}
use Rattle.std.proofs.{Output.has_written_append, lemmas.List.nil_from_length}
use Rattle.std.proofs.lemmas.Str.{chars-nil, chars_past_char, IsUtf8-past_char}
use Rattle.std.specs.{Fmt.HasWritten, List.flat_map, Str.Iter.chars_rest}
use Rattle.uimg_printing.specs.Escaping.{escaped_letter}
use Rattle.uimg_printing.proofs.escaped.put_text.Goals as goal

pub loop-letter-preserved : goal.loop-letter-preserved
loop-letter-preserved g c =
    let step = c.in-Some.ensures.steps.0 in
    let utf8 = c.loop-letter.invariant.0 in
    let text = escaped_letter in
    let letter = c.in-Some.letter in
    let later = chars (chars_rest c.next.new.self) in (
      IsUtf8-past_char _ _ _ utf8 step,
      λ plain.
          let now = c.loop-letter.invariant.1 plain in (
            now.0 ++ text letter,
            has_written_append _ _ _ _ _ _ now.1 (search rules),
            append_assoc now.0 (text letter) (flat_map text later)
                ∙ ap (λ (cs : List ℕ). now.0 ++ flat_map text cs) (sym (chars_past_char _ _ _ utf8 step)) ∙ now.2,
          ),
    )

pub returns : goal.returns
returns g c = λ plain ok.
    let text = escaped_letter in
    let now = c.loop-letter.invariant.1 plain in
    let none : chars (chars_rest c.loop-letter.rest) ≡ [] = ap chars (nil_from_length _ c.in_default.ensures.steps.0.0) ∙ chars-nil in
    subst (λ (t : List ℕ). HasWritten g.W.Write.write_str_gives c.args.f.now t c.loop-letter.f)
    (sym (append-nil now.0) ∙ ap (λ (cs : List ℕ). now.0 ++ flat_map text cs) (sym none) ∙ now.2) now.1
