use Rattle.std.{proofs.Common.{◌≡◌, ◌++◌, take}, specs.List.flat_map}
use Rattle.uimg_keys.proofs.TreeLaws.{next_name}
use Rattle.uimg_keys.proofs.keys.add_names.Given as goal

abbrev pub invariant-loop-key : goal.invariant-loop-key
invariant-loop-key l = l.text.items ≡ l.fn.text.items ++ flat_map (next_name l.is_any) (take l.key-index l.keys)
