-- The algorithms of the hash nodes of an image whose files are not read.
use Rattle.std.specs.Prelude.{◌≡◌, ℕ, List, [], ◌∷◌, true, Option, Some, None}
use Rattle.std.specs.Option.{option_and_then, IfSome}
use Rattle.uimg_texts.specs.declared.naming.Naming.{Naming}
use Rattle.uimg_blob_reading.specs.LookUps.{NodeOf}
use Rattle.uimg_blob_writing.specs.Content.{Content, content_bytes}
use Rattle.uimg_fit_base.specs.{declared.algo_sets.AlgoSet.AlgoSet, AlgoSets.{has, marked}}
use Rattle.uimg_fit_building.specs.Filling.{hash_algo}

-- no files
abbrev pub no_files : List ℕ → Option (List ℕ)
no_files name = None

-- the bytes of a value in memory
abbrev pub in_memory : Content → List ℕ
in_memory c = content_bytes no_files c

-- a set with the algorithms of hash nodes, if all are known
unfoldable pub all_marked : Naming → AlgoSet → List (NodeOf Content) → Option AlgoSet
all_marked naming set [] = Some set
all_marked naming set (h ∷ hs) =
    option_and_then (λ algo. all_marked naming (marked set algo) hs)
    (hash_algo naming in_memory h.own)

-- The algorithm of a hash node, if it is known, is in the set.
abbrev pub CoversHash : Naming → AlgoSet → NodeOf Content → Type 0
CoversHash naming set h = IfSome (hash_algo naming in_memory h.own) (λ algo. has set algo ≡ true)
