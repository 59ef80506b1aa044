use Rattle.std.{proofs.Common.{map, take}, specs.{Fmt.{HasWritten, IsPlainFormatter}, List.flat_map}}
use Rattle.uimg_compat.specs.ImageTree.{item_of, item_text}
use Rattle.uimg_compat.proofs.image_tree.put_items.Given as goal

-- the parts so far were written
abbrev pub invariant-loop-item : goal.invariant-loop-item
invariant-loop-item g l = IsPlainFormatter l.fn.f → HasWritten g.W.Write.write_str_gives l.fn.f (flat_map item_text (map item_of (take l.item-index l.items))) l.f
