-- What values are printed as.
use Rattle.std.proofs.Common.{◌≡◌, ◌≢◌, ℕ, List, [], ◌∷◌, ◌++◌, length, ◌==◌, codes, refl}
use Rattle.std.proofs.lemmas.Bool.{eqb-true}
use Rattle.hex.specs.Hex.{encode_with, encode_lower}
use Rattle.uimg_blob_reading.proofs.PhaseLaws.{by_bool}
use Rattle.uimg_fit_reading.specs.Values.{address_text, eight_or_more}

-- the digits of two parts
pub encode_append : (a b : List ℕ) → encode_lower (a ++ b) ≡ encode_lower a ++ encode_lower b
unfolding encode_with
encode_append [] b = refl
encode_append (x ∷ a) b = rw (encode_append a b) refl

-- addresses by the length of their values
pub one_cell : (value : List ℕ) → length value ≡ 4 → address_text value ≡ codes "0x" ++ encode_lower value
unfolding address_text
one_cell value is = rw is refl

pub two_cells : (value : List ℕ) → length value ≡ 8 → address_text value ≡ codes "0x" ++ eight_or_more (encode_lower value)
unfolding address_text
two_cells value is = rw is refl

pub no_address : (value : List ℕ) → length value ≢ 4 → length value ≢ 8 → address_text value ≡ codes "unavailable"
unfolding address_text
no_address value four eight = by_bool (length value == 4)
    (λ is. absurd (four (eqb-true (length value) 4 is)))
    (λ other. by_bool (length value == 8)
    (λ is. absurd (eight (eqb-true (length value) 8 is)))
    (λ both. rw (other, both) refl))
