-- The paths in a file of paths.
use Rattle.std.specs.Prelude.{ℕ, List, [], ◌∷◌, ◌==◌, Bool, true, false, if◌then◌else◌}
use Rattle.std.specs.Io.{Buffered.reader_remaining, Iter.split_known_bytes}
use Rattle.std.specs.{List.filter, Global.Global, Prelude.Option}
use Rattle.std.specs.declared.io.buffered.BufReader.{BufReader}
use Rattle.std.specs.declared.io.traits.Split.{Split}
use Rattle.uimg_tool.specs.declared.path_list.PathList.{PathList}

-- a byte before the first of some pieces
abbrev pub onto : ℕ → List (List ℕ) → List (List ℕ)
onto byte [] = (byte ∷ []) ∷ []
onto byte (piece ∷ pieces) = (byte ∷ piece) ∷ pieces

-- the pieces of some bytes, each up to an end or the last byte
unfoldable pub pieces : ℕ → List ℕ → List (List ℕ)
pieces end [] = []
pieces end (byte ∷ bytes) =
    if byte == end then [] ∷ pieces end bytes else onto byte (pieces end bytes)

abbrev pub is_name : List ℕ → Bool
is_name [] = false
is_name (byte ∷ rest) = true

-- the paths in a file: its pieces that are not empty
abbrev pub paths_in : ℕ → List ℕ → List (List ℕ)
paths_in end file = filter is_name (pieces end file)

-- the bytes from which paths are still to be read, if contracts know them
abbrev pub bytes_left : {F : Type 0} → (F → Option (List ℕ)) → Split (BufReader (PathList F) Global) Global
    → Option (List ℕ)
bytes_left remaining paths = split_known_bytes (reader_remaining (λ list. remaining list.file)) paths
