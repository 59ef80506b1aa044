use Rattle.std.proofs.Common.{rules, ◌≡◌, ◌∙◌, List, ℕ, subst}
use Rattle.uimg_keys.specs.Keys.{HasKeys}
use Rattle.uimg_keys.proofs.reading.read_keys.Goals as goal

pub returns : goal.returns
returns g c = λ honest.
    let same : c.as_slice.result.now ≡ c.in_ok-file.file.items = search rules in
    subst (λ (bytes : List ℕ). HasKeys bytes c.in_ok-keys.keys) (same ∙ c.in_ok-file.ensures honest) c.in_ok-keys.ensures
