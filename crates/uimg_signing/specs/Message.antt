-- The message of a configuration.
use Rattle.std.specs.Prelude.{◌≡◌, ℕ, List, [], ◌++◌, Bool, Result, Ok, OnOk, IsTrue, Option, Some, nat_lt}
use Rattle.std.specs.Prelude.{if◌then◌else◌}
use Rattle.uimg_texts.specs.{Slices.slice, Numbers.be32}
use Rattle.uimg_base.specs.Device.{Device}
use Rattle.uimg_blob_reading.specs.{Grammar.Siblings, Blob.{blocks_named, tree, met}}
use Rattle.uimg_signing.specs.declared.faults.SigningFault.{SigningFault}
use Rattle.uimg_signing.specs.declared.faults.SigningFault.TheVariants.{StringsOutside}
use Rattle.uimg_signing.specs.{Covering.signed_of, Refusing.{names_size, walk_refusal}, Faults.Refuses}

-- what is signed of a file: the covered tokens, and the start of the strings block
abbrev pub message : (ℕ → Bool) → List ℕ → ℕ → List ℕ
message listed file strings = signed_of listed file [] (met file) ++ slice file (be32 file 12) strings

-- Of an honest device with a tree the message was fed.
abbrev pub FeedsMessage : {T : Type 0} → (T → T → List ℕ → Type 0) → (ℕ → Bool) → ℕ → ℕ
    → Result Unit SigningFault → Device → T → T → Type 0
FeedsMessage fed listed strings totalsize result d old new =
    IsTrue d.honest → (t : Siblings) → tree d.bytes ≡ Ok t → totalsize ≡ be32 d.bytes 4
    → OnOk result (fed old new (message listed d.bytes strings))

-- why the message is not fed: the strings block has fewer bytes, or a token is refused
abbrev pub refusal : (ℕ → Bool) → List ℕ → ℕ → Option SigningFault
refusal listed file strings =
    if nat_lt (be32 file 32) strings then Some StringsOutside
    else walk_refusal listed (blocks_named file) (names_size file (be32 file 12) strings) [] (met file)

-- Of an honest device with a tree the result is as the refusal says.
abbrev pub RefusesMessage : (ℕ → Bool) → ℕ → ℕ → Result Unit SigningFault → Device → Type 0
RefusesMessage listed strings totalsize result d =
    IsTrue d.honest → (t : Siblings) → tree d.bytes ≡ Ok t → totalsize ≡ be32 d.bytes 4
    → Refuses (refusal listed d.bytes strings) result
