use Rattle.std.proofs.Common.{◌-◌, ◌<◌, length, IfSome}
use Rattle.std.specs.Option.{option_map_or}
use Rattle.uimg_blob_reading.specs.Grammar.{Siblings}
use Rattle.uimg_fit_reading.specs.Nodes.{IsRead}
use Rattle.uimg_fit_checking.proofs.NamedLaws.{LeftNamed}
use Rattle.uimg_fit_checking.proofs.named.image_named.Given as goal

-- no image before the next one has the name
abbrev pub invariant-loop-next : goal.invariant-loop-next
invariant-loop-next g l = record {
  within : IfSome l.next (λ i. i < length l.room.entries);
  left : (t : Siblings) → IsRead l.file l.blob l.room.entries t → LeftNamed t l.name l.next;
}

abbrev pub decreases-loop-next : goal.decreases-loop-next
decreases-loop-next g l = option_map_or (λ i. length l.room.entries - i) l.next 0
