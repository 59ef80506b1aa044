-- The offsets of a blob's blocks.
use Rattle.std.specs.Prelude.{◌≡◌, ℕ, ◌+◌, ◌%◌, ◌^◌, ◌<◌, ◌≤◌, List, Result, Ok, Err, ⊤}
use Rattle.uimg_blob_reading.specs.declared.fault.IndexFault.{IndexFault, TheVariants.{Blob, Read}}
use Rattle.uimg_blob_reading.specs.{declared.extent.Extent.Extent, Tokens.Blocks, Blob.blocks}
use Rattle.uimg_texts.specs.Numbers.{be32}

-- the blocks at these offsets in a file
abbrev pub blocks_of : List ℕ → Extent → Blocks
blocks_of file x = record {
  bytes = file;
  structure = x.structure;
  structure_end = x.structure_end;
  strings = x.strings;
  strings_size = x.strings_size;
}

-- Both blocks are inside the blob, it is inside the file, and the structure block is aligned to 4.
pub record IsInside (x : Extent) (size : ℕ) : Type 0 where
  pub ordered : x.structure ≤ x.structure_end
  pub structure_within : x.structure_end ≤ x.totalsize
  pub strings_within : x.strings + x.strings_size ≤ x.totalsize
  pub within : x.totalsize ≤ size
  pub fits : x.totalsize < 2 ^ 32
  pub aligned : x.structure % 4 ≡ 0

-- The fields of the header are those of the file that begins with it.
pub record HeadsFile (header file : List ℕ) : Type 0 where
  pub magic : be32 file 0 ≡ be32 header 0
  pub totalsize : be32 file 4 ≡ be32 header 4
  pub structure : be32 file 8 ≡ be32 header 8
  pub strings : be32 file 12 ≡ be32 header 12
  pub version : be32 file 20 ≡ be32 header 20
  pub compatible : be32 file 24 ≡ be32 header 24
  pub strings_size : be32 file 32 ≡ be32 header 32
  pub structure_size : be32 file 36 ≡ be32 header 36

-- The result is a file's blocks and totalsize, or the header's first fault, unless a read failed.
abbrev pub GivesBlocks : List ℕ → Result Extent IndexFault → Type 0
GivesBlocks file (Ok x) = (blocks file ≡ Ok (blocks_of file x)) × (x.totalsize ≡ be32 file 4)
GivesBlocks file (Err (Blob fault at)) = blocks file ≡ Err (fault, at)
GivesBlocks file (Err Read) = ⊤
