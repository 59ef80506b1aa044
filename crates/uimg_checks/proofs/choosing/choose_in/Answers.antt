use Rattle.std.proofs.Common.{ℕ, List, length, sym, subst}
use Rattle.uimg_fit_reading.specs.Nodes.{InFile}
use Rattle.uimg_checks.proofs.choosing.choose_in.Goals as goal

pub choose-requires : goal.choose-requires
choose-requires g c =
    c.in_ok-facts.ensures.inside _ (subst (λ (xs : List ℕ). InFile (length xs) c.in_ok-blob.blob c.read_tree.new.room.entries) (sym c.read_tree.ensures.inspects.uses.same.bytes) c.in_ok-blob.ensures.inside)
