use Rattle.std.{proofs.Common.{◌≡◌, ℕ, List, ◌++◌}, specs.Fmt.{HasWritten, IsPlainFormatter}}
use Rattle.uimg_compat.specs.{Asked.auto_of, AutoSource.{each_from, paths_left, configuration_text, trees_of}, Getopt.left}
use Rattle.uimg_compat.proofs.auto_source.AutoSource.put_tree_configurations.Given as goal

-- what was written and what the paths that are left give is all
abbrev pub invariant-loop-path : goal.invariant-loop-path
invariant-loop-path g l = IsPlainFormatter l.fn.f
    → (done : List ℕ) × HasWritten g.W.Write.write_str_gives l.fn.f done l.f
    × (done ++ each_from (configuration_text (auto_of l.self)) l.number (paths_left l.trees) ≡ each_from (configuration_text (auto_of l.self)) 1 (trees_of (auto_of l.self).words))

-- each path takes something of the words
abbrev pub decreases-loop-path : goal.decreases-loop-path
decreases-loop-path g l = left l.trees.words
