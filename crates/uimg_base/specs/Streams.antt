-- What contracts know of a file with a position.
use Rattle.std.specs.Prelude.{◌≡◌, ℕ, IfSome, ◌+◌, ◌-◌, ◌^◌, ◌<◌, ◌≤◌, List, take, length, Option}
use Rattle.std.specs.{Prelude.{Some, None, Result, Ok, Err}, Option.option_map}
use Rattle.std.proofs.Common.{subst, sym}
use Rattle.uimg_texts.specs.Slices.{slice}
use Rattle.uimg_base.specs.Zeros.{zeros, zeros_short}

-- its bytes and its position
pub record Stream : Type 0 where
  pub bytes : List ℕ
  pub position : ℕ

-- the stream at another position
abbrev pub moved_to : ℕ → Stream → Stream
moved_to position s = record { bytes = s.bytes; position = position }

-- `to` begins with the next `count` bytes, and the position is after them; of an unknown file
-- nothing is known afterwards
abbrev pub ReadsOn : ℕ → (old new : Option Stream) → List ℕ → Type 0
ReadsOn count None new to = new ≡ None
ReadsOn count (Some s) new to =
    (new ≡ Some (moved_to (s.position + count) s))
    × (take count to ≡ slice s.bytes s.position count)

-- a read returned some of the next bytes; after an error the position is unchanged
abbrev pub ReadsSome : {E : Type 0} → Result ℕ E → (old new : Option Stream) → List ℕ → Type 0
ReadsSome (Ok count) old new to = ReadsOn count old new to
ReadsSome (Err e) old new to = new ≡ old

-- the position is the given offset; after an error it is unchanged
abbrev pub MovesTo : {X E : Type 0} → ℕ → Result X E → (old new : Option Stream) → Type 0
MovesTo at (Ok _) old new = new ≡ option_map (moved_to at) old
MovesTo at (Err e) old new = new ≡ old

-- the result is the length, and the position the end; after an error it is unchanged
abbrev pub MovesToEnd : {E : Type 0} → Result ℕ E → (old new : Option Stream) → Type 0
MovesToEnd (Ok n) None new = new ≡ None
MovesToEnd (Ok n) (Some s) new = (n ≡ length s.bytes) × (new ≡ Some (moved_to n s))
MovesToEnd (Err e) old new = new ≡ old

-- the noted offset, if any, is the file's position
abbrev pub StandsAt : Option ℕ → Option Stream → Type 0
StandsAt noted s = IfSome noted (λ at. IfSome s (λ stream. stream.position ≡ at))

-- the bytes, and whether they are known, are unchanged
abbrev pub SameBytes : (old new : Option Stream) → Type 0
SameBytes old new = option_map (λ s. s.bytes) new ≡ option_map (λ s. s.bytes) old

-- the bytes of a file with this length; zeros if they are unknown
abbrev pub stream_bytes_of : ℕ → Option Stream → List ℕ
stream_bytes_of count None = zeros count
stream_bytes_of count (Some s) = s.bytes

-- the file, if known, has this length
abbrev pub HasLength : ℕ → Option Stream → Type 0
HasLength count s = IfSome s (λ stream. length stream.bytes ≡ count)

-- these bytes from an offset on are in the file, if it is known, or there are none
abbrev pub IsInside : ℕ → ℕ → Option Stream → Type 0
IsInside at count s = IfSome s (λ stream. count ≤ length stream.bytes - at)

-- `to` has the bytes at an offset, if they are known
abbrev pub HoldsFrom : ℕ → Option Stream → List ℕ → Type 0
HoldsFrom at s to = IfSome s (λ stream. to ≡ slice stream.bytes at (length to))

pub short_bytes : (count : ℕ) (s : Option Stream) → count < 2 ^ 64 → HasLength count s
    → length (stream_bytes_of count s) < 2 ^ 64
short_bytes count None small whole = zeros_short count small
short_bytes count (Some s) small whole = subst (λ (n : ℕ). n < 2 ^ 64) (sym whole) small
