-- What follows the room for a header.
use Rattle.std.{specs.Prelude.{◌≡◌, ℕ, List, ◌<◌, ◌^◌, Bool, false, true, drop, length, Option}, proofs.{Common.arith, lemmas.List.length-drop}}
use Rattle.std.specs.Option.{option_map}
use Rattle.uimg_base.specs.{Device.{Device, IsFresh}, Named.FileMap}

pub short_rest : (bytes : List ℕ) (count : ℕ) → length bytes < 2 ^ 64 → length (drop count bytes) < 2 ^ 64
short_rest bytes count short = let rest = length-drop count bytes in omega (arith, rest, short)

-- bytes without the first 64, or all of them
abbrev pub rest_of : (is_xip : Bool) → List ℕ → List ℕ
rest_of false bytes = bytes
rest_of true bytes = drop 64 bytes

abbrev pub bodies : (is_xip : Bool) → (List ℕ → Option (List ℕ)) → List ℕ → Option (List ℕ)
bodies false files = files
bodies true files = λ name. option_map (λ bytes. drop 64 bytes) (files name)

-- files, each without its first 64 bytes, or the files themselves
abbrev pub bodies_of : (is_xip : Bool) → FileMap → FileMap
bodies_of is_xip files = record files { bytes = bodies is_xip files.bytes }

-- a fresh source of that
pub record IsBody (is_xip : Bool) (source body : Device) : Type 0 where
  pub bytes : body.bytes ≡ rest_of is_xip source.bytes
  pub honest : body.honest ≡ source.honest
  pub fresh : IsFresh body
