use Rattle.std.proofs.Common.{rules, refl, ◌≡◌, length, ap, arith}
use Rattle.uimg_rsa.proofs.EncodingLaws.{prefix-short, put-encoded}
use Rattle.uimg_rsa.proofs.HashLaws.{size-most}
use Rattle.uimg_rsa.proofs.pkcs1.encoded.Goals as goal

pub overflow_sub-at-2 : goal.overflow_sub-at-2
overflow_sub-at-2 c = omega (arith, prefix-short c.args.algo, size-most c.args.algo, ap length c.der_prefix-prefix.ensures)

pub overflow_sub-at-3 : goal.overflow_sub-at-3
overflow_sub-at-3 c = omega (arith, prefix-short c.args.algo, size-most c.args.algo, ap length c.der_prefix-prefix.ensures)

pub put-requires-2 : goal.put-requires-2
put-requires-2 c =
    let long : length c.put.new.to ≡ 512 = search rules in
    omega (arith, long, prefix-short c.args.algo, size-most c.args.algo, ap length c.der_prefix-prefix.ensures)

pub put-requires-3 : goal.put-requires-3
put-requires-3 c =
    let long : length c.put-2.new.to ≡ 512 = search rules in
    omega (arith, long, prefix-short c.args.algo, size-most c.args.algo, ap length c.der_prefix-prefix.ensures)

pub returns : goal.returns
returns c =
    put-encoded c.args.len _ c.args.algo c.args.digest.now c.der_prefix-prefix.result.now _ c.put.new.to c.put-2.new.to c.put-3.new.to
    c.der_prefix-prefix.ensures (omega arith) (omega arith) (omega (arith, size-most c.args.algo)) refl refl c.put.ensures c.put-2.ensures c.put-3.ensures
