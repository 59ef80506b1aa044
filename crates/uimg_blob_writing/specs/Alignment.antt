-- Sizes rounded up to an alignment: the end of a blob, and the offsets of payloads after it.
use Rattle.std.specs.Prelude.{ℕ, ◌+◌, ◌-◌, ◌*◌, ◌/◌, max, List, ◌++◌, length, replicate, bit_and}
use Rattle.uimg_blob_writing.specs.declared.blob_end.BlobEnd.{BlobEnd}

-- A number rounded up by a mask, like ALIGN of U-Boot's tools: (n + mask) & ~mask.
abbrev pub rounded : ℕ → ℕ → ℕ
rounded mask n = n + mask - bit_and (n + mask) mask

-- A number of bytes rounded up to an alignment, both in words of four bytes. For a power of two
-- from four on this is the next multiple of it; for four or less, the next multiple of four.
unfoldable pub aligned : ℕ → ℕ → ℕ
aligned align n = rounded ((align - 1) / 4) ((n + 3) / 4) * 4

-- the zeros that pad n bytes to an alignment
abbrev pub padding_by : ℕ → ℕ → List ℕ
padding_by align n = replicate (aligned align n - n) 0

-- bytes followed by that padding
abbrev pub padded_by : ℕ → List ℕ → List ℕ
padded_by align bytes = bytes ++ padding_by align (length bytes)

-- the size of a blob whose strings block ends at n: rounded up, and not less than is asked
abbrev pub sized : BlobEnd → ℕ → ℕ
sized ending n = max (aligned ending.align n) ending.least

-- the zeros behind n bytes of a blob
abbrev pub filling : BlobEnd → ℕ → List ℕ
filling ending n = replicate (sized ending n - n) 0

-- bytes followed by these zeros
abbrev pub filled : BlobEnd → List ℕ → List ℕ
filled ending bytes = bytes ++ filling ending (length bytes)

-- the end at an alignment, without free room
abbrev pub ends_at : ℕ → BlobEnd
ends_at align = record { align = align; least = 0 }
