-- What verifies is valid, and what is valid verifies.
use Rattle.std.proofs.Common.{◌≡◌, ℕ, List, length, Bool, Ok, Err, refl, ap, sym, ◌∙◌, arith}
use Rattle.std.specs.Prelude.{Result, is_ok, IsTrue, ⊤, bytes_eq}
use Rattle.std.proofs.lemmas.Slice.Eq.{bytes_eq-Decides}
use Rattle.uimg_sums.specs.{declared.algo.Algo.Algo}
use Rattle.uimg_rsa.specs.{Rsavp1.{rsavp1, power_octets}, Opening.{opened, judged, Opens}}
use Rattle.uimg_rsa.specs.{Pkcs1.{encoded, pkcs1_verdict, VerifiesPkcs1}, Pss.{is_consistent, pss_verdict, VerifiesPss}}
use Rattle.uimg_rsa.specs.declared.refusal.Refusal.{Refusal}

order-opened : (modulus : List ℕ) (exponent : ℕ) (signature : List ℕ) (algo : Algo) (digest : List ℕ)
    → Opens modulus exponent signature algo digest → opened modulus exponent signature algo digest ≡ Ok (power_octets modulus exponent signature)
unfolding opened rsavp1
order-opened modulus exponent signature algo digest order =
    grind (arith, order.algorithm, order.digest_length, order.key_size, order.public_exponent, order.signature_length, order.representative)

opened-order : (modulus : List ℕ) (exponent : ℕ) (signature : List ℕ) (algo : Algo) (digest : List ℕ)
    → IsTrue (is_ok (opened modulus exponent signature algo digest)) → Opens modulus exponent signature algo digest
unfolding opened rsavp1
opened-order modulus exponent signature algo digest h = record {
  algorithm = grind arith;
  digest_length = grind arith;
  key_size = grind arith;
  public_exponent = grind arith;
  signature_length = grind arith;
  representative = grind arith;
}

judged-opened : (is_right : List ℕ → Bool) (found : Result (List ℕ) Refusal) → IsTrue (is_ok (judged is_right found)) → IsTrue (is_ok found)
judged-opened is_right (Ok em) h = refl
judged-opened is_right (Err refusal) h = h

judged-right : (is_right : List ℕ → Bool) (em : List ℕ) → IsTrue (is_ok (judged is_right (Ok em))) → IsTrue (is_right em)
judged-right is_right em h = grind arith

right-judged : (is_right : List ℕ → Bool) (em : List ℕ) → IsTrue (is_right em) → IsTrue (is_ok (judged is_right (Ok em)))
right-judged is_right em h = grind arith

-- the same of both schemes
valid : (is_right : List ℕ → Bool) (modulus : List ℕ) (exponent : ℕ) (signature : List ℕ) (algo : Algo) (digest : List ℕ)
    → (IsTrue (is_ok (judged is_right (opened modulus exponent signature algo digest)))
    → Opens modulus exponent signature algo digest × IsTrue (is_right (power_octets modulus exponent signature)))
    × (Opens modulus exponent signature algo digest → IsTrue (is_right (power_octets modulus exponent signature))
    → IsTrue (is_ok (judged is_right (opened modulus exponent signature algo digest))))
valid is_right modulus exponent signature algo digest = (
  λ h.
      let order = opened-order modulus exponent signature algo digest (judged-opened is_right _ h) in
      let em = order-opened modulus exponent signature algo digest order in
      (order, judged-right is_right _ (sym (ap (λ (r : Result (List ℕ) Refusal). is_ok (judged is_right r)) em) ∙ h)),
  λ order h. ap (λ (r : Result (List ℕ) Refusal). is_ok (judged is_right r)) (order-opened modulus exponent signature algo digest order) ∙ right-judged is_right _ h,
)

pub valid-pkcs1 : (modulus : List ℕ) (exponent : ℕ) (signature : List ℕ) (algo : Algo) (digest : List ℕ) (r : Result ⊤ Refusal)
    → r ≡ pkcs1_verdict modulus exponent signature algo digest
    → (IsTrue (is_ok r) → VerifiesPkcs1 modulus exponent signature algo digest) × (VerifiesPkcs1 modulus exponent signature algo digest → IsTrue (is_ok r))
unfolding pkcs1_verdict
valid-pkcs1 modulus exponent signature algo digest r e =
    let is_right : List ℕ → Bool = λ em. bytes_eq em (encoded (length modulus) algo digest) in
    let both = valid is_right modulus exponent signature algo digest in
    let decides = bytes_eq-Decides (power_octets modulus exponent signature) (encoded (length modulus) algo digest) in (
      λ told. let it = both.0 (sym (ap is_ok e) ∙ told) in record { opens = it.0; message = decides.0 it.1 },
      λ v. ap is_ok e ∙ both.1 v.opens (decides.1 v.message),
    )

pub valid-pss : (modulus : List ℕ) (exponent : ℕ) (signature : List ℕ) (algo : Algo) (digest : List ℕ) (r : Result ⊤ Refusal)
    → r ≡ pss_verdict modulus exponent signature algo digest
    → (IsTrue (is_ok r) → VerifiesPss modulus exponent signature algo digest) × (VerifiesPss modulus exponent signature algo digest → IsTrue (is_ok r))
unfolding pss_verdict
valid-pss modulus exponent signature algo digest r e =
    let both = valid (is_consistent algo digest) modulus exponent signature algo digest in (
      λ told. let it = both.0 (sym (ap is_ok e) ∙ told) in record { opens = it.0; message = it.1 },
      λ v. ap is_ok e ∙ both.1 v.opens v.message,
    )
