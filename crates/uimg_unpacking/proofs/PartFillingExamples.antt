-- Worked cases of what the files of parts hold.
use Rattle.std.proofs.Common.{◌≡◌, ◌+◌, ◌-◌, ◌^◌, ◌<◌, ◌++◌, ◌∷◌, [], List, ℕ, codes, decimal, get_or, inl, inr, false, Some, refl, ap, sym, ◌∙◌, arith}
use Rattle.std.proofs.lemmas.Fmt.{decimal_digit, decimal_injective}
use Rattle.uimg_legacy.specs.Unpacking.{Part}
use Rattle.uimg_unpacking.specs.Contents.{held_in}
use Rattle.uimg_world.specs.Deeds.{Deed, Closes, Links, Removes}
use Rattle.uimg_world.specs.declared.call.Answer.TheVariants.{Done, Failed}
use Rattle.uimg_unpacking.specs.FileNames.{image_name}
use Rattle.uimg_unpacking.specs.PartFilling.{parts_by, IsNumberOf}
use Rattle.uimg_unpacking.proofs.Placing.{cancel}

name_of : (n : ℕ) → n < 10 → image_name n ≡ codes "image-" ++ (48 + n) ∷ []
name_of n small = ap (λ (digits : List ℕ). codes "image-" ++ digits) (decimal_digit n small)

-- the part of number 0 as its file in a folder holds it
abbrev parts_in : List ℕ → List Deed → List Part
parts_in folder calls = parts_by ((0, 3) ∷ []) (held_in folder calls (image_name 0 ∷ []))

-- a part that was written in the temporary folder and has its name
abbrev named : List Deed
named =
    Removes (codes "d/.uimg-new0/new-0") Done ∷ Links (codes "d/.uimg-new0/new-0") (codes "d/image-0") Done
    ∷ Closes (codes "d/.uimg-new0/new-0") false (Some (codes "abc")) Done ∷ []

kept : parts_in (codes "d") named ≡ record { number = 0; bytes = codes "abc" } ∷ []
kept = ap (λ (name : List ℕ). parts_by ((0, 3) ∷ []) (held_in (codes "d") named (name ∷ []))) (name_of 0 (omega arith))

-- it has none in another folder, nor if it could not be linked
elsewhere : parts_in (codes "e") named ≡ []
elsewhere = ap (λ (name : List ℕ). parts_by ((0, 3) ∷ []) (held_in (codes "e") named (name ∷ []))) (name_of 0 (omega arith))

unlinked : parts_in (codes "d") (Links (codes "d/.uimg-new0/new-0") (codes "d/image-0") Failed ∷ Closes (codes "d/.uimg-new0/new-0") false (Some (codes "abc")) Done ∷ []) ≡ []
unlinked =
    ap (λ (name : List ℕ). parts_by ((0, 3) ∷ []) (held_in (codes "d") (Links (codes "d/.uimg-new0/new-0") (codes "d/image-0") Failed ∷ Closes (codes "d/.uimg-new0/new-0") false (Some (codes "abc")) Done ∷ []) (name ∷ []))) (name_of 0 (omega arith))

-- numbers of names
of_its_name : IsNumberOf (codes "image-3") 3
of_its_name = record {
  own = λ its small is. decimal_injective 3 its (omega arith) (omega (arith, small)) (cancel (codes "image-") (decimal 3) (decimal its) (name_of 3 (omega arith) ∙ is));
  other = inl (sym (name_of 3 (omega arith)));
}

of_another_name : IsNumberOf (codes "kernel") (2 ^ 32 - 1)
of_another_name = record {
  own = λ its small is. absurd (omega (arith, ap (λ (name : List ℕ). get_or name 0 0) is));
  other = inr refl;
}
