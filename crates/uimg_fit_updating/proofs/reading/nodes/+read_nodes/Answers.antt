use Rattle.std.proofs.Common.{rules, ◌≡◌, ◌∙◌, ◌++◌, ◌∷◌, ℕ, List, [], Option, Some, ap, sym, subst}
use Rattle.uimg_blob_reading.specs.{LookUps.{NodeOf, listed}, Plain.AllValues, Spots.Spot}
use Rattle.uimg_blob_reading.specs.Roles.{role_at, level_in, level_after}
use Rattle.uimg_blob_writing.specs.Content.{Unread, IsBytes}
use Rattle.uimg_blob_writing.specs.{declared.tree.Node.Node, Trees.siblings}
use Rattle.uimg_fit_reading.specs.Nodes.{AreFrom}
use Rattle.uimg_fit_reading.proofs.{ImageLaws.{front, none_left}, OpenedLaws.still}
use Rattle.uimg_fit_updating.proofs.ReadLaws.{nodes_more, held_all, one_gathered, all_gathered, node_is}
use Rattle.uimg_fit_updating.proofs.reading.nodes.+read_nodes.Goals as goal

pub read_node-returns-clause-told : goal.read_node-returns-clause-told
read_node-returns-clause-told g t c = λ tree opened level found n.
    let d = g.S.Source.device c.args.source.now in
    let named = c.in_ok-name.ensures.bytes opened.honest ∙ c.name_of.ensures.name d.bytes tree opened.read level found n in
    let here = still c.in_ok-name.ensures.same c.in_ok-name.ensures.room opened in
    let there = still c.in_ok-props.ensures.same c.in_ok-props.ensures.room here in
    let from = c.child_of-first.ensures.children tree there.read.indexed level found n in
    let below = c.in_ok-children.ensures.told tree there (level_in (role_at level found.name)) (listed found.below) from in
    node_is found c.in_ok-name.name c.in_ok-props.props c.in_ok-children.children named (c.in_ok-props.ensures.told tree here level found n)
    (held_all c.in_ok-children.children found.below below)

pub read_nodes-loop-next-preserved : goal.read_nodes-loop-next-preserved
read_nodes-loop-next-preserved g t c =
    let now = c.loop-next in
    let one = c.in_ok-made.ensures in
    let made = c.in_ok-made.made in
    let same = now.invariant.same in
    let grows : c.push.new.self.items ≡ now.nodes.items ++ made ∷ [] = search rules in
    record {
      same = record { bytes = one.same.bytes ∙ same.bytes; honest = one.same.honest ∙ same.honest };
      room = one.room ∙ now.invariant.room;
      within = search rules;
      in_memory = subst (λ (l : List (Node _)). AllValues IsBytes (siblings l)) (sym grows) (nodes_more now.nodes.items made now.invariant.in_memory one.in_memory);
      left = λ tree opened level all from.
          let k = now.invariant.left tree opened level all from in
          let begins = subst (λ (o : Option ℕ). AreFrom tree k.level o k.left) c.in-Some.is k.at in
          let x = front tree k.level c.in-Some.node k.left begins in
          let here = still same now.invariant.room opened in
          let told = one.told tree here k.level x.image x.node in
          let there = still one.same one.room here in
          let at = c.next_of-next.ensures.next tree there.read.indexed k.level x.image x.more
          (subst (λ (l : List (NodeOf Spot)). AreFrom tree k.level (Some c.in-Some.node) l) x.are begins) in
          one_gathered tree (level_after k.level x.image.name) all now.nodes.items c.push.new.self.items made now.next c.next_of-next.result k x.image x.more x.are told grows at;
    }

pub read_nodes-returns-clause-told : goal.read_nodes-returns-clause-told
read_nodes-returns-clause-told g t c = λ tree opened level found from.
    let now = c.loop-next in
    let k = now.invariant.left tree opened level found from in
    let ended = none_left tree k.level k.left (subst (λ (o : Option ℕ). AreFrom tree k.level o k.left) c.in_default.is k.at) in
    ap (λ (u : Unread). listed u) c.of.ensures ∙ all_gathered tree now.nodes.items now.next found k ended
