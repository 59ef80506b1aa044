use Rattle.std.proofs.Common.{List, ℕ, [], ◌∷◌, ap, decimal}
use Rattle.json.specs.Token.{Token}
use Rattle.uimg_printing.proofs.StepLaws.{after, appended_as}
use Rattle.uimg_info.proofs.legacy.put_code.Goals as goal

pub returns : goal.returns
returns c =
    appended_as _ _ _ _ (ap (λ (t : List ℕ). Token.key c.args.name.now ∷ Token.string t ∷ Token.key c.args.of_code.now ∷ Token.number (decimal c.args.code) ∷ []) c.code_text.ensures)
    (after c.in_ok-put_string.ensures c.in_ok-put_number.ensures)
