use Rattle.std.proofs.Common.{◌≡◌, ◌∙◌, ◌∷◌, ap, subst, sym, Bool, List}
use Rattle.std.specs.IoError.{error_kind}
use Rattle.uimg_unpacking.specs.Contents.{IsTrueTo, files_after}
use Rattle.uimg_world.specs.Deeds.{Deed, Links, answer_of, refusal}
use Rattle.uimg_unpacking.specs.Naming.{Moves}
use Rattle.uimg_unpacking.proofs.Answered.{done-ok, refusal-undone}
use Rattle.uimg_unpacking.proofs.LeavingLaws.{linked_not, linked_to, renamed}
use Rattle.uimg_unpacking.proofs.Placing.{links_within, moves_within, ◌◁◌}
use Rattle.uimg_unpacking.proofs.naming.keep_as.Goals as goal

pub returns-in-Ok-clause-moves : goal.returns-in-Ok-clause-moves
returns-in-Ok-clause-moves g c =
    linked_to c.args.whole.now c.args.old.now (g.W.World.trace c.args.world.now) (g.W.World.trace c.hard_link.new.self) (rw (c.in-Ok.is) at c.hard_link.ensures)

pub returns-in-Err-clause-moves : goal.returns-in-Err-clause-moves
returns-in-Err-clause-moves g c =
    let whole = c.args.whole.now in
    let old = c.args.old.now in
    let before = g.W.World.trace c.args.world.now in
    let middle = g.W.World.trace c.hard_link.new.self in
    let after = g.W.World.trace c.rename.new.self in
    let kind = error_kind c.in-Err.field-0 in
    let link : middle ≡ Links whole old (refusal kind) ∷ before = rw (c.in-Err.is) at c.hard_link.ensures in
    subst (λ (b : Bool). Moves whole old b before after) (sym (done-ok c.rename.result))
    (renamed whole old (answer_of c.rename.result) before middle after c.rename.ensures (λ start told. subst (IsTrueTo start) link told)
    (λ start p. ap (λ (t : List Deed). files_after start t p) link ∙ linked_not start whole old p (refusal kind) before (refusal-undone kind)))

pub returns-in-Ok-clause-within : goal.returns-in-Ok-clause-within
returns-in-Ok-clause-within g c = λ t forced p q.
    links_within t c.args.whole.now c.args.old.now (answer_of c.hard_link.result) (g.W.World.trace c.args.world.now) (g.W.World.trace c.hard_link.new.self) c.hard_link.ensures p q

pub returns-in-Err-clause-within : goal.returns-in-Err-clause-within
returns-in-Err-clause-within g c = λ t forced p q.
    moves_within t c.args.whole.now c.args.old.now (answer_of c.rename.result) (g.W.World.trace c.hard_link.new.self) (g.W.World.trace c.rename.new.self) c.rename.ensures forced p q
    ◁ links_within t c.args.whole.now c.args.old.now (answer_of c.hard_link.result) (g.W.World.trace c.args.world.now) (g.W.World.trace c.hard_link.new.self) c.hard_link.ensures p q
