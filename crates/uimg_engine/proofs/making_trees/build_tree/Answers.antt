use Rattle.std.{specs.Bool.⊤, proofs.{Common.{rules, ◌≡◌, true, false, is_err}, lemmas.Result.err_from_is_err_and}}
use Rattle.uimg_blob_writing.specs.Trees.{node_of}
use Rattle.uimg_engine.proofs.TreeLaws.{still_honest, still_complete, kept_by, built_source, unbuilt_source, payload_of_building, text_of_building, lacks_of_building, read_of_building, lost_of_building, opens_last}
use Rattle.uimg_engine.proofs.OpenedLaws.{opens_unfilled, opens_filled}
use Rattle.uimg_engine.proofs.making_trees.build_tree.Goals as goal

pub returns-clause-built : goal.returns-clause-built
returns-clause-built g c = λ honest.
    built_source _ _ c.args.name.now c.args.time c.args.placement (node_of c.in_ok-tree.tree.root) _ _ c.in_ok-tree.ensures.files.same honest (c.in_ok-tree.ensures.tree honest) c.in_ok-build_by.ensures.builds.told c.in_ok-build_by.ensures.reads_back

pub returns-in_err-build_by-clause-built : goal.returns-in_err-build_by-clause-built
returns-in_err-build_by-clause-built g c = λ honest.
    let p = err_from_is_err_and c.from_residual-in_err-build_by.result c.from_residual-in_err-build_by.ensures.1 in
    rw (p.1, p.2) (unbuilt_source _ _ c.args.name.now c.args.time c.args.placement (node_of c.in_ok-tree.tree.root) c.in_err-build_by.field-0.0 _ _ c.in_ok-tree.ensures.files.same honest (c.in_ok-tree.ensures.tree honest) c.in_err-build_by.ensures.builds.told)

pub returns-in_err-build_by-clause-files : goal.returns-in_err-build_by-clause-files
returns-in_err-build_by-clause-files g c =
    let p = err_from_is_err_and c.from_residual-in_err-build_by.result c.from_residual-in_err-build_by.ensures.1 in
    let same = c.in_ok-tree.ensures.files.same in
    rw (p.1, p.2) (opens_last c.args.name.now _ _ _ _ _ (payload_of_building ⊤ ⊤ c.in_err-build_by.field-0.0) (text_of_building ⊤ c.in_err-build_by.field-0.0) (lacks_of_building (g.F.Files.map c.args.files.now).bytes c.args.name.now c.in_err-build_by.field-0.0) same c.in_ok-tree.ensures.files.text c.in_err-build_by.ensures.builds.files
    (λ complete honest. c.in_err-build_by.ensures.builds.found (still_complete same complete) (kept_by (node_of c.in_ok-tree.tree.root) same (c.in_ok-tree.ensures.tree honest).kept)))

pub returns-in_err-build_by-clause-steady : goal.returns-in_err-build_by-clause-steady
returns-in_err-build_by-clause-steady g c = λ steady honest.
    let p = err_from_is_err_and c.from_residual-in_err-build_by.result c.from_residual-in_err-build_by.ensures.1 in
    let same = c.in_ok-tree.ensures.files.same in
    let kept = kept_by (node_of c.in_ok-tree.tree.root) same (c.in_ok-tree.ensures.tree honest).kept in
    rw (p.1, p.2) record {
      reads = read_of_building ⊤ ⊤ c.in_err-build_by.field-0.0 (c.in_err-build_by.ensures.builds.reads steady (still_honest same honest) kept);
      payloads = lost_of_building ⊤ _ c.args.placement c.in_err-build_by.field-0.0 _ _ (c.in_err-build_by.ensures.builds.told (still_honest same honest) kept);
    }

pub returns-in_err-tree-clause-opened : goal.returns-in_err-tree-clause-opened
returns-in_err-tree-clause-opened g c =
    let failed : is_err c.from_residual.result ≡ true = search rules in
    rw failed (opens_unfilled c.args.name.now c.args.time c.args.placement _ _ c.in_err-tree.ensures.opened)

pub returns-in_err-build_by-clause-opened : goal.returns-in_err-build_by-clause-opened
returns-in_err-build_by-clause-opened g c =
    let failed : is_err c.from_residual-in_err-build_by.result ≡ true = search rules in
    rw failed (opens_filled true c.args.name.now c.args.time c.args.placement (node_of c.in_ok-tree.tree.root) _ _ _ c.in_ok-tree.ensures.opened c.in_err-build_by.ensures.opened)

pub returns-clause-opened : goal.returns-clause-opened
returns-clause-opened g c =
    opens_filled false c.args.name.now c.args.time c.args.placement (node_of c.in_ok-tree.tree.root) _ _ _ c.in_ok-tree.ensures.opened c.in_ok-build_by.ensures.opened
