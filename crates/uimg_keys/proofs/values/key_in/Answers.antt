use Rattle.std.proofs.Common.{rules, ◌≡◌, ◌∙◌, codes, map}
use Rattle.uimg_blob_reading.specs.Places.{read_place}
use Rattle.uimg_keys.proofs.TreeLaws.{key_said}
use Rattle.uimg_keys.proofs.values.key_in.Goals as goal

pub returns : goal.returns
returns c =
    let it = c.in-Some-Some-Some-Some in
    let name : c.as_slice.result.now ≡ codes "rsa,modulus" = search rules in
    let other : c.as_slice-2.result.now ≡ codes "rsa,exponent" = search rules in
    let third : c.as_slice-4.result.now ≡ codes "algo" = search rules in
    key_said c.args.file.now (map (read_place c.args.file.now) c.args.places.now) c.as_slice.result.now c.as_slice-2.result.now c.as_slice-4.result.now it.modulus.now it.exponent.now it.algo.now c.in_ok-from_slice.field-0.items c.args.name.now c.in_ok-from_slice-2.field-0.items c.number.result c.rsa_algo-2.result
    name other third it.ensures it.ensures' it.ensures''' c.in_ok-from_slice.ensures.items c.number.ensures c.rsa_algo-2.ensures (c.in_ok-from_slice-2.ensures.items ∙ c.key_name.ensures)
