-- What reading a table of sizes returns.
use Rattle.std.specs.Prelude.{◌≡◌, ℕ, ◌+◌, ◌*◌, ⊤, List, length, Result, Ok, Err}
use Rattle.uimg_texts.specs.Slices.{slice}
use Rattle.uimg_legacy.specs.declared.fault.Fault.{Fault, TheVariants.Legacy}
use Rattle.uimg_legacy.specs.Parts.{sizes, part_sizes}

-- The result is the number of sizes, or that the table has no end, unless a device failed.
abbrev pub CountsSizes : List ℕ → Result ℕ Fault → Type 0
CountsSizes payload (Ok n) =
    (part_sizes payload ≡ Ok (sizes payload)) × (n ≡ length (sizes payload))
CountsSizes payload (Err (Legacy fault)) = part_sizes payload ≡ Err fault
CountsSizes payload (Err _) = ⊤

-- the same for an image with `size` bytes of data
abbrev pub Counts : ℕ → List ℕ → Result ℕ Fault → Type 0
Counts size image result = CountsSizes (slice image 64 size) result

-- the most bytes requested to count the sizes of such data
abbrev pub sizes_work : ℕ → List ℕ → ℕ
sizes_work size image = 8 * (length (sizes (slice image 64 size)) + 1)
