use Rattle.std.proofs.Common.{rules, ◌≡◌, ◌+◌, ◌≤◌, ℕ, List, length, is_err, ap, sym, subst, ◌∙◌, ◌++◌, codes}
use Rattle.hex.specs.Hex.{encode_lower}
use Rattle.uimg_base.{specs.{Outcome.line, Writing.Written}, proofs.Slices.length-slice}
use Rattle.uimg_texts.specs.Slices.{slice}
use Rattle.uimg_fit_reading.specs.Values.{address_text, eight_or_more}
use Rattle.uimg_fit_reading.proofs.ShowLaws.{one_cell, two_cells, no_address}
use Rattle.uimg_fit_reading.proofs.listing.addresses.put_address.Goals as goal

pub returns-in_ok-read-in-4 : goal.returns-in_ok-read-in-4
returns-in_ok-read-in-4 g c = record {
  uses = search rules;
  faults = search rules;
  told = λ honest.
      let file = (g.S.Source.device c.args.source.now).bytes in
      let at = c.args.span.place in
      let size : c.args.span.length ≡ 4 = c.in-4.is in
      let inside : at + c.args.span.length ≤ length file = c.requires in
      let read : c.read.new.to ≡ slice file at c.args.span.length = c.in_ok-read-in-4.ensures.bytes honest ∙ ap (slice file at) (sym size) in
      let text : codes "0x" ++ encode_lower c.read.new.to ≡ address_text (slice file at c.args.span.length) =
      ap (λ (w : List ℕ). codes "0x" ++ encode_lower w) read ∙ sym (one_cell (slice file at c.args.span.length) (length-slice file at c.args.span.length inside ∙ size)) in
      subst (λ (w : List ℕ). Written (is_err c.put_one_cell.result) c.args.out.now c.put_one_cell.new.out (line w)) text c.put_one_cell.ensures.told;
}

pub returns-in_ok-read-in-8 : goal.returns-in_ok-read-in-8
returns-in_ok-read-in-8 g c = record {
  uses = search rules;
  faults = search rules;
  told = λ honest.
      let file = (g.S.Source.device c.args.source.now).bytes in
      let at = c.args.span.place in
      let size : c.args.span.length ≡ 8 = c.in-8.is in
      let inside : at + c.args.span.length ≤ length file = c.requires in
      let read : c.read-in-8.new.to ≡ slice file at c.args.span.length = c.in_ok-read-in-8.ensures.bytes honest ∙ ap (slice file at) (sym size) in
      let text : codes "0x" ++ eight_or_more (encode_lower c.read-in-8.new.to) ≡ address_text (slice file at c.args.span.length) =
      ap (λ (w : List ℕ). codes "0x" ++ eight_or_more (encode_lower w)) read ∙ sym (two_cells (slice file at c.args.span.length) (length-slice file at c.args.span.length inside ∙ size)) in
      subst (λ (w : List ℕ). Written (is_err c.put_two_cells.result) c.args.out.now c.put_two_cells.new.out (line w)) text c.put_two_cells.ensures.told;
}

pub returns-in_default : goal.returns-in_default
returns-in_default g c = record {
  uses = search rules;
  faults = search rules;
  told = λ honest.
      let file = (g.S.Source.device c.args.source.now).bytes in
      let at = c.args.span.place in
      let inside : at + c.args.span.length ≤ length file = c.requires in
      let size = length-slice file at c.args.span.length inside in
      let text = no_address (slice file at c.args.span.length) (λ is. let k : c.args.span.length ≡ 4 = sym size ∙ is in search rules) (λ is. let k : c.args.span.length ≡ 8 = sym size ∙ is in search rules) in
      subst (λ (w : List ℕ). Written (is_err c.put_line.result) c.args.out.now c.put_line.new.out (line w)) (sym text) c.put_line.ensures.told;
}
