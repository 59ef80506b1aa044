use Rattle.std.proofs.Common.{rules, refl, ◌≡◌, ◌∷◌, [], List, Some, true, is_err, arith, IsTrue, ap, sym, ◌∙◌}
use Rattle.std.proofs.lemmas.Result.{err_from_is_err_and}
use Rattle.uimg_its.specs.{Words.{Word, words}, Reader.{child_step, node_within, children}}
use Rattle.uimg_its.specs.Parts.{NodeParts, props_in_full, parts_of, all_parts_of}
use Rattle.uimg_its.proofs.StepLaws.{goes_past, is_end, is_refused_at, refused}
use Rattle.uimg_its.proofs.NodeLaws.{node_is, node_too_deep, child_shrinks, inside_is}
use Rattle.uimg_its.proofs.{FilesLaws.files_then, SoundLaws.{node_same, nodes_same}}
use Rattle.uimg_its.proofs.IncludedLaws.{passed, followed, follows, stops, stops_in, unopened, ◌▷◌}
use Rattle.uimg_its.specs.declared.tokens.Mark.TheVariants.{Semicolon}
use Rattle.uimg_its.proofs.PassingLaws.{item_passes, expect_passes}
use Rattle.uimg_its.proofs.nodes.+tree.Goals as goal

pub children-returns-in_err-found-clause-opens : goal.children-returns-in_err-found-clause-opens
children-returns-in_err-found-clause-opens g t c =
    let p = err_from_is_err_and c.from_residual.result c.from_residual.ensures.1 in
    record {
      files = rw (p.1, p.2) (files_then c.loop-nodes.invariant.files c.in_err-found.ensures.opens.files);
      steady = search rules;
    }

pub children-returns-in_err-found-clause-gives : goal.children-returns-in_err-found-clause-gives
children-returns-in_err-found-clause-gives g t c = λ honest.
    let p = err_from_is_err_and c.from_residual.result c.from_residual.ensures.1 in
    let files = (g.F.Files.map c.args.files.now).bytes in
    let now : IsTrue (g.F.Files.map c.loop-nodes.files).honest = rw c.loop-nodes.invariant.files.same.honest honest in
    rw (p.1, p.2) (is_refused_at c.in_err-found.field-0.0.kind (child_step (node_within c.args.levels files)) (child_shrinks c.args.levels files) (all_parts_of files c.loop-nodes.nodes.items) (words c.loop-nodes.rest.now) _ (rw c.loop-nodes.invariant.files.same.bytes at (c.in_err-found.ensures.gives now)) (c.loop-nodes.invariant.read honest))

pub children-returns-in-None-clause-opens : goal.children-returns-in-None-clause-opens
children-returns-in-None-clause-opens g t c = record {
  files = files_then c.loop-nodes.invariant.files c.in_ok-found.ensures.opens.files;
  steady = search rules;
}

pub children-returns-in-None-clause-gives : goal.children-returns-in-None-clause-gives
children-returns-in-None-clause-gives g t c = λ honest.
    let files = (g.F.Files.map c.args.files.now).bytes in
    let now : IsTrue (g.F.Files.map c.loop-nodes.files).honest = rw c.loop-nodes.invariant.files.same.honest honest in
    is_end (child_step (node_within c.args.levels files)) (child_shrinks c.args.levels files) (all_parts_of files c.loop-nodes.nodes.items) (words c.loop-nodes.rest.now) (words c.in_ok-found.after.now) _ (rw (c.in-None.is, c.loop-nodes.invariant.files.same.bytes) at (c.in_ok-found.ensures.gives now)) (c.loop-nodes.invariant.read honest)

pub children-loop-nodes-preserved : goal.children-loop-nodes-preserved
children-loop-nodes-preserved g t c = record {
  files = files_then c.loop-nodes.invariant.files c.in_ok-found.ensures.opens.files;
  opened = c.loop-nodes.invariant.opened ▷ followed c.in_ok-found.ensures.included;
  read = λ honest.
      let files = (g.F.Files.map c.args.files.now).bytes in
      let now : IsTrue (g.F.Files.map c.loop-nodes.files).honest = rw c.loop-nodes.invariant.files.same.honest honest in
      goes_past (child_step (node_within c.args.levels files)) (child_shrinks c.args.levels files) (all_parts_of files c.loop-nodes.nodes.items) (parts_of files c.in-Some.node ∷ []) (all_parts_of files c.push_node.new.nodes.items) (words c.loop-nodes.rest.now) (words c.in_ok-found.after.now) _ (rw (c.in-Some.is, c.loop-nodes.invariant.files.same.bytes) at (c.in_ok-found.ensures.gives now)) (c.in_ok-push_node-in-Some.ensures.pushed files) (c.loop-nodes.invariant.read honest);
  sound = c.in_ok-push_node-in-Some.ensures.sound (g.F.Files.map c.args.files.now) c.loop-nodes.invariant.sound (node_same (g.F.Files.map c.args.files.now) (g.F.Files.map c.loop-nodes.files) c.in-Some.node c.loop-nodes.invariant.files.same (rw c.in-Some.is at c.in_ok-found.ensures.sound));
  within = omega (arith, c.in_ok-found.ensures.shorter);
}

pub inside-returns-clause-gives : goal.inside-returns-clause-gives
inside-returns-clause-gives g t c = λ honest.
    let files = (g.F.Files.map c.args.files.now).bytes in
    let now : IsTrue (g.F.Files.map c.properties.new.files).honest = rw c.in_ok-props.ensures.opens.files.same.honest honest in
    inside_is files (children c.args.levels files) c.args.name (words c.args.text.now) (words c.in_ok-props.behind.now) (words c.in_ok-children.rest.now) (props_in_full files c.in_ok-props.props) (all_parts_of files c.in_ok-children.children.items) (c.in_ok-props.ensures.gives honest) (rw c.in_ok-props.ensures.opens.files.same.bytes at (c.in_ok-children.ensures.gives now))
    ∙ ap (λ (n : NodeParts). (let x : NodeParts × List Word = (n, words c.in_ok-children.rest.now) in Some x)) (sym (c.node_of.ensures.parts files))

pub inside-returns-clause-sound : goal.inside-returns-clause-sound
inside-returns-clause-sound g t c =
    c.node_of.ensures.sound (g.F.Files.map c.args.files.now) c.in_ok-props.ensures.sound (nodes_same (g.F.Files.map c.args.files.now) (g.F.Files.map c.properties.new.files) c.in_ok-children.children.items c.in_ok-props.ensures.opens.files.same c.in_ok-children.ensures.sound)

pub node-returns-then-levels-eq0-clause-gives : goal.node-returns-then-levels-eq0-clause-gives
node-returns-then-levels-eq0-clause-gives g t c = λ honest. refused _ _ (node_too_deep c.args.levels _ _ _ c.if-levels-eq0.true)

pub node-returns-clause-gives : goal.node-returns-clause-gives
node-returns-clause-gives g t c = λ honest.
    rw (node_is c.args.levels (g.F.Files.map c.args.files.now).bytes c.args.name.now (words c.args.text.now) c.if-levels-eq0.false) (rw c.in_ok-name.ensures.name at (c.inside.ensures.gives honest))

pub child-returns-in_err-rest-in-Opens-clause-opens : goal.child-returns-in_err-rest-in-Opens-clause-opens
child-returns-in_err-rest-in-Opens-clause-opens g t c = record {
  files = search rules;
  steady = search rules;
}

pub child-returns-in_ok-rest-in-Opens-clause-opens : goal.child-returns-in_ok-rest-in-Opens-clause-opens
child-returns-in_ok-rest-in-Opens-clause-opens g t c = record {
  files = search rules;
  steady = search rules;
}

pub children-returns-in_err-push_node-in-Some-clause-opens : goal.children-returns-in_err-push_node-in-Some-clause-opens
children-returns-in_err-push_node-in-Some-clause-opens g t c =
    let p = err_from_is_err_and c.from_residual-in_err-push_node-in-Some.result c.from_residual-in_err-push_node-in-Some.ensures.1 in
    record {
      files = rw (p.1, p.2) (rw c.in_err-push_node-in-Some.ensures.memory.no_file.0 (files_then c.loop-nodes.invariant.files c.in_ok-found.ensures.opens.files));
      steady = search rules;
    }

pub inside-returns-in_err-children-clause-opens : goal.inside-returns-in_err-children-clause-opens
inside-returns-in_err-children-clause-opens g t c = record {
  files = search rules;
  steady = search rules;
}

pub inside-returns-clause-opens : goal.inside-returns-clause-opens
inside-returns-clause-opens g t c = record {
  files = search rules;
  steady = search rules;
}

pub children-returns-in_err-found-clause-included : goal.children-returns-in_err-found-clause-included
children-returns-in_err-found-clause-included g t c =
    let failed : is_err c.from_residual.result ≡ true = search rules in
    stops_in _ _ failed c.loop-nodes.invariant.opened c.in_err-found.ensures.included

pub children-returns-in-None-clause-included : goal.children-returns-in-None-clause-included
children-returns-in-None-clause-included g t c = follows _ _ (c.loop-nodes.invariant.opened ▷ followed c.in_ok-found.ensures.included)

pub children-returns-in_err-push_node-in-Some-clause-included : goal.children-returns-in_err-push_node-in-Some-clause-included
children-returns-in_err-push_node-in-Some-clause-included g t c =
    let failed : is_err c.from_residual-in_err-push_node-in-Some.result ≡ true = search rules in
    stops _ _ failed (c.loop-nodes.invariant.opened ▷ followed c.in_ok-found.ensures.included)

pub inside-returns-in_err-children-clause-included : goal.inside-returns-in_err-children-clause-included
inside-returns-in_err-children-clause-included g t c =
    let failed : is_err c.from_residual-in_err-children.result ≡ true = search rules in
    stops_in _ _ failed (followed c.in_ok-props.ensures.included) c.in_err-children.ensures.included

pub inside-returns-clause-included : goal.inside-returns-clause-included
inside-returns-clause-included g t c = follows _ _ (followed c.in_ok-props.ensures.included ▷ followed c.in_ok-children.ensures.included)

pub child-returns-in_err-rest-in-Opens-clause-included : goal.child-returns-in_err-rest-in-Opens-clause-included
child-returns-in_err-rest-in-Opens-clause-included g t c =
    let failed : is_err c.from_residual-in_err-rest-in-Opens.result ≡ true = search rules in
    stops _ _ failed (passed _ _ _ (item_passes _ _ _ c.in_ok-head.ensures.gives) ▷ followed c.in_ok-found-in-Opens.ensures.included)

pub child-returns-in_ok-rest-in-Opens-clause-included : goal.child-returns-in_ok-rest-in-Opens-clause-included
child-returns-in_ok-rest-in-Opens-clause-included g t c =
    follows _ _ (passed _ _ _ (item_passes _ _ _ c.in_ok-head.ensures.gives) ▷ followed c.in_ok-found-in-Opens.ensures.included
    ▷ passed _ _ _ (expect_passes Semicolon _ _ c.in_ok-rest-in-Opens.ensures.gives))

pub child-returns-in_err-head-clause-included : goal.child-returns-in_err-head-clause-included
child-returns-in_err-head-clause-included g t c = unopened _ _ (search rules)

pub child-returns-in_err-found-in-Opens-clause-included : goal.child-returns-in_err-found-in-Opens-clause-included
child-returns-in_err-found-in-Opens-clause-included g t c = stops_in _ _ (search rules) (passed _ _ _ (item_passes _ _ _ c.in_ok-head.ensures.gives)) c.in_err-found-in-Opens.ensures.included

pub child-returns-in-Closes-clause-included : goal.child-returns-in-Closes-clause-included
child-returns-in-Closes-clause-included g t c = follows _ _ (passed _ _ _ (item_passes _ _ _ c.in_ok-head.ensures.gives))

pub child-returns-in_default-clause-included : goal.child-returns-in_default-clause-included
child-returns-in_default-clause-included g t c = unopened _ _ refl

pub node-returns-then-levels-eq0-clause-included : goal.node-returns-then-levels-eq0-clause-included
node-returns-then-levels-eq0-clause-included g t c = unopened _ _ refl

pub node-returns-in_err-name-clause-included : goal.node-returns-in_err-name-clause-included
node-returns-in_err-name-clause-included g t c = unopened _ _ (search rules)
