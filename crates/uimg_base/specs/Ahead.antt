-- What is read ahead of a file.
use Rattle.std.specs.Prelude.{◌≡◌, ◌≤◌, ◌+◌, ◌-◌, ℕ, length, take, Option, IfSome}
use Rattle.uimg_texts.specs.Slices.{slice}
use Rattle.uimg_base.specs.Streams.{Stream}
use Rattle.uimg_base.specs.declared.{piece.Piece.Piece, windows.{Window.Window, Windows.Windows}}

-- The window has the file's bytes at its offset, if they are known.
abbrev pub IsAhead : Window → Option Stream → Type 0
IsAhead w s = IfSome s (λ stream. take w.count w.bytes ≡ slice stream.bytes w.at w.count)

-- Both windows have.
pub record AreAhead (w : Windows) (s : Option Stream) : Type 0 where
  pub first : IsAhead w.first s
  pub second : IsAhead w.second s

-- The piece has the file's bytes at its offset, if they are known.
abbrev pub IsPieceAhead : Piece → Option Stream → Type 0
IsPieceAhead p s =
    IfSome s (λ stream. p.bytes.items ≡ slice stream.bytes p.at (length p.bytes.items))

-- The piece has all of these bytes of the file.
pub record HasPiece (at len : ℕ) (p : Piece) : Type 0 where
  pub begins : p.at ≤ at
  pub ends : (at - p.at) + len ≤ length p.bytes.items
