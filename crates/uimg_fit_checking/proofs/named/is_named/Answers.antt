use Rattle.std.proofs.Common.{rules, ◌≡◌, ℕ, List, ◌∙◌, subst}
use Rattle.std.specs.Str.{bytes_eq}
use Rattle.uimg_blob_reading.specs.Roles.{in_images}
use Rattle.uimg_fit_checking.proofs.named.is_named.Goals as goal

pub returns : goal.returns
returns g c = λ t r found n.
    subst (λ (bytes : List ℕ). c.eq.result ≡ bytes_eq c.args.name.now bytes)
    (c.bytes_at-its_name.ensures ∙ c.name_of.ensures.name c.args.file.now t r in_images found n) (search rules)
