use Rattle.std.proofs.Common.{rules, ◌∙◌, ap, List, ℕ}
use Rattle.std.proofs.lemmas.Fn.{filter_same}
use Rattle.uimg_keys.specs.Pem.{flat, is_in_line}
use Rattle.uimg_keys.proofs.pem.flat.Goals as goal

pub returns : goal.returns
returns c = filter_same _ is_in_line _ (λ x b f k. search rules) _ _ c.retain.ensures.filtered ∙ ap (λ (text : List ℕ). flat text) c.in_ok-all.ensures.items
