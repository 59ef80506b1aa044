use Rattle.std.proofs.Common.{ℕ, List, ◌++◌, codes, decimal, ap, ◌∙◌}
use Rattle.uimg_info.proofs.value_texts.digest_text.Goals as goal

pub returns-clause-told : goal.returns-clause-told
returns-clause-told g c = λ honest.
    c.in_ok-text.ensures
    ∙ ap (λ (digits : List ℕ). decimal c.args.span.length ++ codes " bytes sha256 " ++ digits) (c.as_str.ensures.value ∙ c.in_ok-digits.ensures.told honest)
