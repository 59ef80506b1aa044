-- Flattened devicetree blobs (Devicetree Specification, chapter 5).
use Rattle.std.specs.Prelude.{ℕ, ◌+◌, ◌%◌, List, [], ◌∷◌, length, Result, Ok, Err, Bool, nat_lt}
use Rattle.std.specs.Prelude.{◌==◌, if◌then◌else◌, not}
use Rattle.uimg_blob_reading.specs.declared.fault.BlobFault.TheVariants.{TooShort, BadMagic}
use Rattle.uimg_blob_reading.specs.declared.fault.BlobFault.TheVariants.{BadVersion, BlockOutside}
use Rattle.uimg_blob_reading.specs.{Reading.Fault, Tokens.{Token, Blocks, offset, tokens}}
use Rattle.uimg_blob_reading.specs.Grammar.{Siblings, root, without_nops}
use Rattle.uimg_texts.specs.Numbers.{be32}
use Rattle.uimg_base.specs.Results.{◌>>=◌}

-- the magic number
abbrev pub magic : ℕ
magic = 0xd00dfeed

-- whether a block ends outside the blob, given the header fields of its offset and its size
abbrev pub ends_outside : List ℕ → ℕ → ℕ → Bool
ends_outside file at size = nat_lt (be32 file 4) (be32 file at + be32 file size)

-- the blocks given in the header
abbrev pub blocks_named : List ℕ → Blocks
blocks_named file = record {
  bytes = file;
  structure = be32 file 8;
  structure_end = be32 file 8 + be32 file 36;
  strings = be32 file 12;
  strings_size = be32 file 32;
}

-- The blocks of a file, or the header's first fault (section 5.2): totalsize at 4, off_dt_struct at
-- 8, off_dt_strings at 12, version at 20, last_comp_version at 24, size_dt_strings at 32,
-- size_dt_struct at 36.
unfoldable pub blocks : List ℕ → Result Blocks Fault
blocks file =
    if nat_lt (length file) 40 then Err (TooShort, 0)
    else if not (be32 file 0 == magic) then Err (BadMagic, 0)
    else if nat_lt (be32 file 20) 17 then Err (BadVersion, 20)
    else if nat_lt 17 (be32 file 24) then Err (BadVersion, 24)
    else if nat_lt (be32 file 4) 40 then Err (BlockOutside, 4)
    else if nat_lt (length file) (be32 file 4) then Err (BlockOutside, 4)
    else if not (be32 file 8 % 4 == 0) then Err (BlockOutside, 8)
    else if ends_outside file 8 36 then Err (BlockOutside, 8)
    else if ends_outside file 12 32 then Err (BlockOutside, 12)
    else Ok (blocks_named file)

-- the root of a file's tree, or the first fault
unfoldable pub tree : List ℕ → Result Siblings Fault
tree file = do
  found ← blocks file
  root (without_nops (tokens found))

-- the tokens up to an offset
unfoldable pub up_to : ℕ → List Token → List Token
up_to at [] = []
up_to at (t ∷ ts) = if nat_lt at (offset t) then [] else t ∷ up_to at ts

-- all tokens of a tree, or those up to its fault
abbrev pub met_in : Result Siblings Fault → List Token → List Token
met_in (Ok t) ts = ts
met_in (Err e) ts = up_to e.1 ts

-- the tokens met in blocks; none if the header is refused
abbrev pub met_from : Result Blocks Fault → List Token
met_from (Ok b) = met_in (root (without_nops (tokens b))) (tokens b)
met_from (Err e) = []

-- the tokens met in a file
abbrev pub met : List ℕ → List Token
met file = met_from (blocks file)
