-- The algorithm that --need names.
use Rattle.std.specs.Prelude.{Bool, true, false, List, Option, Some, None, Result, Ok, codes, is_none, if◌then◌else◌}
use Rattle.clap.specs.Walk.{Row, Text, first_of}
use Rattle.uimg_cli.specs.Readings.{is_set, or_wrong}
use Rattle.uimg_cli.specs.Wrong.{Wrong, and_then, unknown_algo}
use Rattle.uimg_sums.specs.Algorithms.{algo_named}
use Rattle.uimg_sums.specs.declared.algo.Algo.{Algo}
use Rattle.uimg_sums.specs.declared.algo.Algo.TheVariants.{Crc32, Sha1, Sha256}

abbrev pub algo_asked : Option Text → Result (Option Algo) Wrong
algo_asked None = Ok None
algo_asked (Some name) =
    and_then (or_wrong (unknown_algo name) (algo_named name)) (λ algo. Ok (Some algo))

abbrev pub need_asked : List Row → Result (Option Algo) Wrong
need_asked rows = algo_asked (first_of (codes "need") rows)

-- with keys a hash by SHA-256 is needed, or by SHA-1 if that is allowed
abbrev pub need_of_keys : Bool → Algo
need_of_keys true = Sha1
need_of_keys false = Sha256

-- a strict check needs at least a CRC-32
abbrev pub need_of_strict : Bool → Option Algo
need_of_strict true = Some Crc32
need_of_strict false = None

abbrev pub need_without : List Row → Bool → Option Algo
need_without rows is_strict = if is_none (first_of (codes "key") rows) then need_of_strict is_strict
    else Some (need_of_keys (is_set (codes "allow-sha1") rows))

-- the algorithm of --need, or else that of keys or of a strict check
abbrev pub least_need : List Row → Bool → Option Algo → Option Algo
least_need rows is_strict (Some need) = Some need
least_need rows is_strict None = need_without rows is_strict
