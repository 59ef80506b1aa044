use Rattle.std.proofs.Common.{◌<◌, ◌+◌, ℕ, List, [], ◌∷◌, ◌++◌, length, get_or, bit_xor, refl, ap, sym, ◌∙◌, arith}
use Rattle.std.proofs.Math.ListN.{length-set}
use Rattle.std.proofs.lemmas.Grind.{take-set_at}
use Rattle.uimg_rsa.proofs.PssLaws.{xor-none, xor-more}
use Rattle.uimg_rsa.proofs.pss.xor_of.Goals as goal

pub loop-i-init : goal.loop-i-init
loop-i-init c = record { long = refl; octets = xor-none }

pub loop-i-preserved : goal.loop-i-preserved
loop-i-preserved c =
    let i : ℕ = c.loop-i.i in
    let within : i < length c.loop-i.octets = omega (arith, c.loop-i.invariant.long) in
    let x : ℕ = bit_xor (get_or c.args.a.now i 0) (get_or c.args.b.now i 0) in record {
      long = length-set c.loop-i.octets i x ∙ c.loop-i.invariant.long;
      octets = take-set_at c.loop-i.octets i (i + 1) x refl within
          ∙ ap (λ (xs : List ℕ). xs ++ x ∷ []) c.loop-i.invariant.octets
          ∙ sym (xor-more i c.args.a.now c.args.b.now (omega arith) (omega arith));
    }
