use Rattle.std.proofs.Common.{rules, ◌≡◌, ◌≤◌, ◌+◌, ℕ, List, length, Some, ap, sym, ◌∙◌}
use Rattle.uimg_texts.specs.{Slices.slice, Numbers.be32}
use Rattle.uimg_base.proofs.Slices.{length-slice}
use Rattle.uimg_fit_base.specs.Files.{number_in}
use Rattle.uimg_fit_reading.proofs.CellLaws.{number_of_four, no_number}
use Rattle.uimg_fit_reading.proofs.places.cell.Goals as goal

pub returns-then-span-ne4-clause-number : goal.returns-then-span-ne4-clause-number
returns-then-span-ne4-clause-number g c = λ honest.
    let file = (g.S.Source.device c.args.source.now).bytes in
    let span = c.in-Some.span in
    let inside : span.place + span.length ≤ length file = search rules in
    sym (no_number (slice file span.place span.length) (λ four. c.if-span-ne4.true (sym (length-slice file span.place span.length inside) ∙ four)))
    ∙ ap (number_in file) (sym c.in-Some.is)

pub returns-clause-number : goal.returns-clause-number
returns-clause-number g c = λ honest.
    let file = (g.S.Source.device c.args.source.now).bytes in
    let span = c.in-Some.span in
    let inside : span.place + span.length ≤ length file = search rules in
    let four : span.length ≡ 4 = search rules in
    let read : c.fill_at.new.to ≡ slice file span.place span.length = c.in_ok-fill_at.ensures.bytes honest ∙ ap (slice file span.place) (sym four) in
    ap Some (c.be32_at.ensures ∙ ap (λ (b : List ℕ). be32 b 0) read)
    ∙ sym (number_of_four (slice file span.place span.length) (length-slice file span.place span.length inside ∙ four))
    ∙ ap (number_in file) (sym c.in-Some.is)
