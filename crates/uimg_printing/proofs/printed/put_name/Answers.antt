use Rattle.std.{proofs.Common.{◌∙◌, List, ℕ, sym, ap, subst}, specs.{Prelude.chars, Fmt.HasWritten}}
use Rattle.std.{specs.List.flat_map, proofs.lemmas.Str.is_utf8-from_IsUtf8}
use Rattle.uimg_printing.specs.Printing.{letter_text}
use Rattle.uimg_printing.proofs.PrintingLaws.{printed_letters, printed_odd, utf8_not}
use Rattle.uimg_printing.proofs.printed.put_name.Goals as goal

pub returns-in-Ok : goal.returns-in-Ok
returns-in-Ok g c = λ plain ok.
    let name = c.args.name.now in
    subst (λ (t : List ℕ). HasWritten g.W.Write.write_str_gives c.args.f.now t c.put_text.new.f)
    (ap (λ (t : List ℕ). flat_map (letter_text c.args.is_word) (chars t)) c.in-Ok.ensures.cases.0 ∙ sym (printed_letters c.args.is_word name (is_utf8-from_IsUtf8 name c.in-Ok.ensures.cases.1)))
    (c.put_text.ensures plain ok)

pub returns-in-Err : goal.returns-in-Err
returns-in-Err g c = λ plain ok.
    let name = c.args.name.now in
    subst (λ (t : List ℕ). HasWritten g.W.Write.write_str_gives c.args.f.now t c.put_odd.new.f)
    (sym (printed_odd c.args.is_word name (utf8_not name c.in-Err.ensures.cases.0))) (c.put_odd.ensures plain ok)
