use Rattle.std.proofs.Common.{◌≡◌, List, ℕ, refl, ap, subst}
use Rattle.uimg_base.specs.Device.{Device}
use Rattle.uimg_keys.specs.Keys.{HasKeys}
use Rattle.uimg_c.proofs.signed_checks.required_by.Goals as goal

pub returns : goal.returns
returns c =
    let all : c.new.result.bytes.now ≡ c.args.keys.now = ap (λ (d : Device). d.bytes) c.new.ensures in
    record { has = subst (λ (file : List ℕ). HasKeys file c.in_ok-keys.keys) all (c.in_ok-keys.ensures refl); only = c.only.ensures; sha1 = refl }
