use Rattle.std.proofs.Common.{◌≡◌, ◌+◌, ◌<◌, ℕ, suc, List, Vec, Global, rules, ◌∷◌, ◌++◌, [], drop, length, map, refl, ap, sym, subst, ◌∙◌, arith}
use Rattle.std.proofs.lemmas.List.{map-append, map_push, drop_all}
use Rattle.uimg_blob_reading.specs.{Indexed.IsRow, Rows.{Row, table}}
use Rattle.uimg_fit_reading.proofs.OpenedLaws.{still}
use Rattle.uimg_signing.proofs.NamedLaws.{row_of, rows_count}
use Rattle.uimg_info.specs.Statement.{all_stated, stated}
use Rattle.uimg_info.specs.Statements.{node_path, node_stated, nodes_stated, path_items}
use Rattle.uimg_info.proofs.StatementLaws.{own_passed, node_more, nodes_done}
use Rattle.uimg_info.proofs.statements.tree_statements.Goals as goal

pub returns-in_err-found-clause-told : goal.returns-in_err-found-clause-told
returns-in_err-found-clause-told g c = λ t o.
    let d = g.S.Source.device c.args.source.now in
    let now = c.loop-node in
    let it = row_of t c.args.blob.now c.args.room.now.entries now.node o.read.indexed (omega (arith, c.loop-node-test.true, now.invariant.most)) in
    let later = still c.in_ok-path.ensures.uses.same refl (still now.invariant.same now.invariant.room o) in
    own_passed all_stated (nodes_stated d.bytes c.args.blob.now.totalsize [] (table t)) c.from_residual-in_err-found.result c.in_err-found.field-0.0 c.from_residual-in_err-found.ensures.1
    (c.in_err-found.ensures.told later.honest t later.read.is later.read.indexed later.read.totalsize it.0 it.1)

pub loop-node-preserved : goal.loop-node-preserved
loop-node-preserved g c =
    let d = g.S.Source.device c.args.source.now in
    let now = c.loop-node in
    let total = c.args.blob.now.totalsize in
    let path = c.in_ok-path in
    let found = c.in_ok-found in
    let appended : c.append.new.self.items ≡ now.all.items ++ found.found.items = search rules in
    let pushed : c.push.new.self.items ≡ now.paths.items ++ path.path ∷ [] = search rules in
    record {
      same = record { bytes = found.ensures.leaves.uses.same.bytes ∙ path.ensures.uses.same.bytes ∙ now.invariant.same.bytes; honest = found.ensures.leaves.uses.same.honest ∙ path.ensures.uses.same.honest ∙ now.invariant.same.honest };
      failures = found.ensures.leaves.uses.failures ∙ path.ensures.uses.failures ∙ now.invariant.failures;
      room = found.ensures.leaves.room ∙ now.invariant.room;
      most = now.invariant.most;
      left = λ t o.
          let here = still now.invariant.same now.invariant.room o in
          let later = still path.ensures.uses.same refl here in
          let it = row_of t c.args.blob.now c.args.room.now.entries now.node o.read.indexed (omega (arith, c.loop-node-test.true, now.invariant.most)) in
          let row : Row = it.0 in
          let r : IsRow c.args.blob.now now.room.entries now.node row = record { nodes = t; indexed = here.read.indexed; is = it.1 } in
          let after : suc now.node ≡ now.node + 1 = omega arith in
          let at = path.ensures.told here.honest row r
          ∙ ap (λ (f : List ℕ). node_path f (map path_items c.as_slice.result.now) row) now.invariant.same.bytes
          ∙ ap (λ (ps : List (Vec ℕ Global)). node_path d.bytes (map path_items ps) row) c.as_slice.ensures.value in
          let states = found.ensures.told later.honest t later.read.is later.read.indexed later.read.totalsize row it.1
          ∙ ap (λ (f : List ℕ). node_stated f total c.as_slice-in-loop-node.result.now row) (path.ensures.uses.same.bytes ∙ now.invariant.same.bytes)
          ∙ ap (λ (p : List ℕ). node_stated d.bytes total p row) c.as_slice-in-loop-node.ensures.value in
          node_more d.bytes total (nodes_stated d.bytes total [] (table t)) (map stated now.all.items) (map stated found.found.items) (map stated c.append.new.self.items)
          (map path_items now.paths.items) (map path_items c.push.new.self.items) (drop now.node (table t)) (drop (now.node + 1) (table t)) row path.path.items
          (it.2 ∙ ap (λ (n : ℕ). row ∷ drop n (table t)) after) at states
          (ap (map stated) appended ∙ map-append stated now.all.items found.found.items)
          (ap (map path_items) pushed ∙ map_push path_items now.paths.items path.path)
          (now.invariant.left t o);
    }

pub returns-clause-told : goal.returns-clause-told
returns-clause-told g c = λ t o.
    let d = g.S.Source.device c.args.source.now in
    let now = c.loop-node in
    nodes_done d.bytes c.args.blob.now.totalsize (nodes_stated d.bytes c.args.blob.now.totalsize [] (table t)) (map stated now.all.items) (map path_items now.paths.items) (drop now.node (table t))
    (drop_all now.node (table t) (omega (arith, c.loop-node-test.false, now.invariant.most, rows_count t c.args.blob.now c.args.room.now.entries o.read.indexed))) (now.invariant.left t o)
