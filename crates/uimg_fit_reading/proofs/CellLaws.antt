-- The numbers of cells.
use Rattle.std.proofs.Common.{◌≡◌, ◌≢◌, ℕ, List, length, Some, None, ◌==◌, refl, ap, sym, arith}
use Rattle.std.{specs.Int.{from_be_bytes, w32}, proofs.lemmas.{Bool.eqb-true, List.take_all}}
use Rattle.uimg_texts.specs.Numbers.{be32}
use Rattle.uimg_blob_reading.proofs.PhaseLaws.{by_bool}
use Rattle.uimg_fit_base.specs.Files.{number}

-- a value of four bytes has their number
pub number_of_four : (bytes : List ℕ) → length bytes ≡ 4 → number bytes ≡ Some (be32 bytes 0)
unfolding number be32
number_of_four bytes four =
    rw four (ap (λ (w : List ℕ). Some (from_be_bytes w32 w)) (sym (take_all 4 bytes (omega (arith, four)))))

-- a value of another length has none
pub no_number : (bytes : List ℕ) → length bytes ≢ 4 → number bytes ≡ None
unfolding number
no_number bytes other = by_bool (length bytes == 4)
    (λ same. absurd (other (eqb-true (length bytes) 4 same)))
    (λ differs. rw differs refl)
