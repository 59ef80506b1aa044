-- Which bytes may have been fed to a CRC.
use Rattle.std.specs.{Prelude.{◌≡◌, ◌<◌, ℕ, List}, List.AllByRecursion}
use Rattle.uimg_sums.specs.{CrcSteps.register_of, declared.crc.Crc.Crc}

-- These bytes may have been fed to it.
abbrev pub Holds : Crc → List ℕ → Type 0
Holds sum fed = (sum.register ≡ register_of fed) × AllByRecursion (λ b. b < 256) fed
