-- Buffers that are empty.
use Rattle.std.proofs.Common.{◌≡◌, ℕ, List, [], ◌++◌, Option, Some, None, refl, ap, ◌∙◌}
use mathlib.Core.List.{append-nil}
use Rattle.std.specs.Io.KnownBytes.{append_known}

-- nothing waits in a buffer
pub unbuffered : (known : Option (List ℕ)) (buffer : List ℕ) → buffer ≡ [] → append_known known buffer ≡ known
unbuffered None buffer empty = refl
unbuffered (Some bytes) buffer empty = ap (λ (more : List ℕ). Some (bytes ++ more)) empty ∙ ap Some (append-nil bytes)
