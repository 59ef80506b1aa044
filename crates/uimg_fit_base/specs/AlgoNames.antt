-- The algorithms of a set of names.
use Rattle.std.specs.Prelude.{ℕ, List, Option}
use Rattle.uimg_sums.specs.{declared.algo.Algo.Algo, Algorithms.{all_algos, named_among, algo_named}}
use Rattle.uimg_texts.specs.declared.naming.Naming.{Naming, TheVariants.{Profile, All}}

-- the algorithm that has a name: of the profile, or of the tools of U-Boot 2023.01
abbrev pub algo_by : Naming → List ℕ → Option Algo
algo_by Profile name = algo_named name
algo_by All name = named_among all_algos name
