-- Worked cases of the names that files get.
use Rattle.std.proofs.Common.{◌≡◌, ◌∷◌, [], codes, None, refl}
use Rattle.uimg_fit_checking.specs.Unpacking.{kept, refused}
use Rattle.uimg_fit_checking.specs.declared.checking.Finding.TheVariants as finding
use Rattle.uimg_unpacking.specs.FileNames.{image_name, first_free, file_name}
use Rattle.uimg_unpacking.specs.Filling.{names_of_kept}

-- the name of the image
own : names_of_kept [] (kept (codes "kernel") [] None ∷ kept (codes "fdt@1") [] None ∷ []) ≡ codes "kernel" ∷ codes "fdt@1" ∷ []
unfolding file_name
own = refl

-- a number for one that is no file name
path : names_of_kept [] (kept (codes "a/b") [] None ∷ []) ≡ image_name 0 ∷ []
unfolding file_name first_free
path = refl

hidden : names_of_kept [] (kept (codes "kernel") [] None ∷ kept (codes ".fdt") [] None ∷ []) ≡ codes "kernel" ∷ image_name 1 ∷ []
unfolding file_name first_free
hidden = refl

-- and for one that is used, also in other letters, also by a refused payload
twice : names_of_kept [] (refused (codes "kernel") (finding.Weak []) ∷ kept (codes "Kernel") [] None ∷ []) ≡ image_name 1 ∷ []
unfolding file_name first_free
twice = refl

-- the next free number
further : names_of_kept [] (kept (codes "image-1") [] None ∷ kept [] [] None ∷ []) ≡ codes "image-1" ∷ first_free (codes "image-1" ∷ []) 1 100 ∷ []
unfolding file_name
further = refl
