use Rattle.std.proofs.Common.{◌≤◌, length, sym}
use Rattle.uimg_rsa.proofs.KeyLaws.{sizes, on-ok}
use Rattle.uimg_rsa.proofs.opening.open.Goals as goal

pub rsavp1-requires-clause-size : goal.rsavp1-requires-clause-size
rsavp1-requires-clause-size c =
    let s = sizes _ (sym c.if-not-is_modulus.ensures) in
    (s.0, s.1, s.2)

pub rsavp1-requires-clause-full : goal.rsavp1-requires-clause-full
rsavp1-requires-clause-full c = (sizes _ (sym c.if-not-is_modulus.ensures)).3

pub returns-clause-size : goal.returns-clause-size
returns-clause-size c =
    let s = sizes _ (sym c.if-not-is_modulus.ensures) in
    let size : (256 ≤ length c.args.modulus.now) × (length c.args.modulus.now ≤ 512) = (s.1, s.2) in
    on-ok _ size
