use Rattle.std.proofs.Common.{rules, ◌≡◌, ◌++◌, ◌∷◌, [], true, ◌∙◌, ℕ, List, subst, sym, append_assoc}
use Rattle.std.specs.Prelude.{codes, decimal, is_err}
use Rattle.uimg_base.{specs.Writing.Writes, proofs.WritingLaws.{stops, ◌▷◌}}
use Rattle.uimg_texts.specs.Sizes.{size_text}
use Rattle.uimg_legacy.specs.Listing.{part_line}
use Rattle.uimg_legacy.proofs.lines.put_part_line.Goals as goal

pub returns-in_err-put_pieces : goal.returns-in_err-put_pieces
unfolding part_line
returns-in_err-put_pieces g c =
    let failed : is_err c.from_residual.result ≡ true = search rules in
    let number = c.as_bytes.ensures.value ∙ c.format.ensures.text in
    let head = subst (λ (d : List ℕ). Writes true c.args.out.now c.put_pieces.new.self (codes "   Image " ++ d ++ codes ": ")) number c.in_err-put_pieces.ensures.writes in
    rw failed (stops _ _ _ _ (stops _ _ _ _ head))

pub returns : goal.returns
unfolding part_line
returns g c =
    let number = c.as_bytes.ensures.value ∙ c.format.ensures.text in
    let head = rw number at c.in_ok-put_pieces.ensures.writes in
    subst (λ (w : List ℕ). Writes (is_err c.put_size.result) c.args.out.now c.put_size.new.out w) (sym (append_assoc (codes "   Image " ++ decimal c.args.i ++ codes ": ") (size_text c.args.size) (10 ∷ [])))
    (head ▷ c.put_size.ensures)
