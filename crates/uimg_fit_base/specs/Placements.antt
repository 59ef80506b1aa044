-- Where payloads go.
use Rattle.std.specs.Prelude.{ℕ}
use Rattle.uimg_fit_base.specs.declared.placement.Placement.{Placement}
use Rattle.uimg_fit_base.specs.declared.placement.Placement.TheVariants as placement
use Rattle.uimg_fit_base.specs.declared.placement.AlignedPlacement.{AlignedPlacement}
use Rattle.uimg_fit_base.specs.declared.placement.AlignedPlacement.TheVariants.{Inside, After, At}

-- the alignment of the blob's end and of each payload's: that of the blob's own values, or the
-- given one
abbrev pub align_of : AlignedPlacement → ℕ
align_of (Inside least) = 4
align_of (After align) = align
align_of (At position align) = align

-- the least size of the blob
abbrev pub least_of : AlignedPlacement → ℕ
least_of (Inside least) = least
least_of (After align) = 0
least_of (At position align) = 0

-- a placement with an alignment
abbrev pub aligned_by : Placement → ℕ → AlignedPlacement
aligned_by placement.Inside align = Inside 0
aligned_by placement.After align = After align
aligned_by (placement.At position) align = At position align
