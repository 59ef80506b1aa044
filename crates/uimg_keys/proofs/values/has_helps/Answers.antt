use Rattle.std.proofs.Common.{rules, ◌≡◌, ◌∙◌, ◌&&◌, codes, map, false}
use Rattle.uimg_rsa.specs.RSquared.{is_r_squared}
use Rattle.uimg_keys.specs.Trees.{is_inverse}
use Rattle.uimg_blob_reading.specs.Places.{read_place}
use Rattle.uimg_keys.proofs.TreeLaws.{helps_said}
use Rattle.uimg_keys.proofs.values.has_helps.Goals as goal

pub returns-then-is_inverse : goal.returns-then-is_inverse
returns-then-is_inverse c =
    let it = c.in-Some-Some in
    let name : c.as_slice.result.now ≡ codes "rsa,n0-inverse" = search rules in
    let other : c.as_slice-2.result.now ≡ codes "rsa,r-squared" = search rules in
    let said : c.is_r_squared.result ≡ (is_inverse c.args.modulus.now it.inverse.now && is_r_squared c.args.modulus.now it.r_squared.now) = search rules in
    said ∙ helps_said c.args.file.now (map (read_place c.args.file.now) c.args.places.now) c.as_slice.result.now c.as_slice-2.result.now c.args.modulus.now it.inverse.now it.r_squared.now name other it.ensures it.ensures'

pub returns-else-is_inverse : goal.returns-else-is_inverse
returns-else-is_inverse c =
    let it = c.in-Some-Some in
    let name : c.as_slice.result.now ≡ codes "rsa,n0-inverse" = search rules in
    let other : c.as_slice-2.result.now ≡ codes "rsa,r-squared" = search rules in
    let said : c.is_inverse.result ≡ (is_inverse c.args.modulus.now it.inverse.now && is_r_squared c.args.modulus.now it.r_squared.now) = search rules in
    said ∙ helps_said c.args.file.now (map (read_place c.args.file.now) c.args.places.now) c.as_slice.result.now c.as_slice-2.result.now c.args.modulus.now it.inverse.now it.r_squared.now name other it.ensures it.ensures'
