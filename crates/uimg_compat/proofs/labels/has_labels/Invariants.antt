use Rattle.std.proofs.Common.{◌≡◌, drop}
use Rattle.uimg_compat.specs.Labels.{has_labels, has_labels_from}
use Rattle.uimg_compat.proofs.labels.has_labels.Given as goal

-- what is left gives the same
abbrev pub invariant-loop-byte : goal.invariant-loop-byte
invariant-loop-byte l = has_labels_from l.place (drop l.byte-index l.text) ≡ has_labels l.text
