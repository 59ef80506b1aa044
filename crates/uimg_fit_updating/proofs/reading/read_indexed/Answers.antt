use Rattle.std.proofs.Common.{rules, ◌≡◌, IfOk, subst}
use Rattle.uimg_blob_reading.specs.{LookUps.listed, Roles.top, Spots.spots}
use Rattle.uimg_blob_writing.specs.{Content.Unread, Trees.node_of}
use Rattle.uimg_fit_updating.proofs.ReadLaws.{root_from, held_all}
use Rattle.uimg_fit_updating.proofs.reading.read_indexed.Goals as goal

pub returns-clause-told : goal.returns-clause-told
returns-clause-told g c = λ t opened.
    let from = root_from t c.args.blob.now c.args.room.now.entries opened.read.indexed (search rules) in
    let is = held_all c.in_ok-nodes.nodes (spots t) (c.in_ok-nodes.ensures.told t opened top (listed (spots t)) from) in
    subst (λ (u : Unread). IfOk c.tree_of.result (λ tree. node_of tree.root ≡ u)) is c.tree_of.ensures
