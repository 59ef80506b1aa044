use Rattle.std.proofs.Common.{◌∙◌, ◌+◌, ◌++◌, ◌∷◌, [], sym, ap, ℕ, arith}
use Rattle.uimg_blob_reading.specs.Entering.{begun_entry}
use Rattle.uimg_blob_reading.proofs.{PassLaws.begin_goes, ActLaws.{begin_does, was_entered}}
use Rattle.uimg_blob_reading.proofs.states.begin.Goals as goal

pub returns : goal.returns
returns g c =
    let s = c.args.state in
    let es = c.args.room.now.entries in
    let added = was_entered c.enter.result (begun_entry s.at c.args.size s.current c.role_for-role.result) c.args.room.now c.enter.new.room c.if-is_err.ensures.negation c.enter.ensures in
    begin_does s _ c.args.size c.args.label c.args.room.now c.enter.new.room (ap (λ (n : ℕ). s.at + 4 + n) c.up4.ensures) added.1 (λ p name h long label.
    begin_goes p s es c.enter.new.room.entries name c.role_for-role.result (s.at + 4 + c.up4.result) c.count-number.result c.noted-images.result.0 c.noted-images.result.1
    h (sym c.if-is_after.false ∙ c.is_after.ensures p h) (c.role_for-role.ensures p name h label)
    (added.0 ∙ ap (λ (n : ℕ). es ++ begun_entry s.at n s.current c.role_for-role.result ∷ []) long)
    c.noted-images.ensures.images c.noted-images.ensures.configurations (omega (arith, c.up4.ensures)) c.count-number.ensures)
