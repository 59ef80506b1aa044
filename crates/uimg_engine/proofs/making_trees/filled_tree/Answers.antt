use Rattle.std.proofs.Common.{◌≡◌, ℕ, List, [], Option, IsTrue, ◌∙◌, subst, refl}
use Rattle.std.specs.Prelude.{unwrap_or}
use Rattle.uimg_its.specs.{Grammar.Spells, Words.words}
use Rattle.uimg_blob_writing.specs.Content.{in_full}
use Rattle.std.proofs.lemmas.Result.{err_from_is_err_and}
use Rattle.uimg_blob_writing.specs.{Content.AreKept, Trees.node_of, declared.tree.Tree.Tree}
use Rattle.uimg_engine.specs.declared.fault.Fault.TheVariants.{Fit}
use Rattle.uimg_engine.proofs.TreeLaws.{same_twice, still_honest, still_complete, kept_by, refused_text, spelled_tree, filled_source_of, unfilled_source, payload_of_filling, lost_of_filling, opens_last}
use Rattle.uimg_engine.proofs.OpenedLaws.{text_read, unread_source, refused_source, unfilled_opens, filled_opens}
use Rattle.uimg_engine.proofs.making_trees.filled_tree.Goals as goal

pub returns-in_err-tree-clause-tree : goal.returns-in_err-tree-clause-tree
returns-in_err-tree-clause-tree g c = λ honest.
    let p = err_from_is_err_and c.from_residual-in_err-tree.result c.from_residual-in_err-tree.ensures.1 in
    rw (p.1, p.2) (refused_text _ _ c.args.name.now c.in_ok-text.text.items _ _ c.in_ok-text.ensures.files.same c.deref.ensures.value honest (c.in_ok-text.ensures.text honest) c.in_err-tree.ensures.accepted)

pub returns-clause-tree : goal.returns-clause-tree
returns-clause-tree g c = λ honest.
    let same = c.in_ok-text.ensures.files.same in
    let again = same_twice same c.in_ok-tree.ensures.files.same in
    let spelled = spelled_tree _ _ c.args.name.now c.in_ok-text.text.items _ (node_of c.in_ok-tree.tree.root) same c.deref.ensures.value honest (c.in_ok-text.ensures.text honest) c.in_ok-tree.ensures.only in
    let kept = subst (λ (files : List ℕ → Option (List ℕ)). AreKept files (node_of c.in_ok-tree.tree.root)) same.bytes (c.in_ok-tree.ensures.kept (still_honest same honest)) in
    filled_source_of _ _ c.args.name.now c.args.time (node_of c.in_ok-tree.tree.root) (node_of c.in_ok-filled.filled.root) again honest spelled kept c.in_ok-filled.ensures.filled

pub returns-in_err-filled-clause-files : goal.returns-in_err-filled-clause-files
returns-in_err-filled-clause-files g c =
    let p = err_from_is_err_and c.from_residual-in_err-filled.result c.from_residual-in_err-filled.ensures.1 in
    let same = c.in_ok-text.ensures.files.same in
    let again = same_twice same c.in_ok-tree.ensures.files.same in
    let stayed = c.in_ok-tree.ensures.files.refusals ∙ c.in_ok-text.ensures.files.refusals in
    rw (p.1, p.2) (opens_last c.args.name.now (Fit c.in_err-filled.field-0.0) _ _ _ _ (payload_of_filling (Tree g.row.A.Denot) c.in_err-filled.field-0.0) refl tt again stayed c.in_err-filled.ensures.files (λ complete honest. c.in_err-filled.ensures.found (still_complete again complete) (kept_by (node_of c.in_ok-tree.tree.root) c.in_ok-tree.ensures.files.same (c.in_ok-tree.ensures.kept (still_honest same honest)))))

pub returns-in_err-filled-clause-tree : goal.returns-in_err-filled-clause-tree
returns-in_err-filled-clause-tree g c = λ honest.
    let p = err_from_is_err_and c.from_residual-in_err-filled.result c.from_residual-in_err-filled.ensures.1 in
    let same = c.in_ok-text.ensures.files.same in
    let again = same_twice same c.in_ok-tree.ensures.files.same in
    let spelled = spelled_tree _ _ c.args.name.now c.in_ok-text.text.items _ (node_of c.in_ok-tree.tree.root) same c.deref.ensures.value honest (c.in_ok-text.ensures.text honest) c.in_ok-tree.ensures.only in
    let kept = subst (λ (files : List ℕ → Option (List ℕ)). AreKept files (node_of c.in_ok-tree.tree.root)) same.bytes (c.in_ok-tree.ensures.kept (still_honest same honest)) in
    rw (p.1, p.2) (unfilled_source (λ (tree : Tree g.row.A.Denot). node_of tree.root) _ _ c.args.name.now c.args.time (node_of c.in_ok-tree.tree.root) c.in_err-filled.field-0.0 again honest spelled kept c.in_err-filled.ensures.filled)

pub returns-in_err-filled-clause-payloads : goal.returns-in_err-filled-clause-payloads
returns-in_err-filled-clause-payloads g c = λ steady honest.
    let p = err_from_is_err_and c.from_residual-in_err-filled.result c.from_residual-in_err-filled.ensures.1 in
    let same = c.in_ok-text.ensures.files.same in
    let again = same_twice same c.in_ok-tree.ensures.files.same in
    let kept = kept_by (node_of c.in_ok-tree.tree.root) c.in_ok-tree.ensures.files.same (c.in_ok-tree.ensures.kept (still_honest same honest)) in
    rw (p.1, p.2) (lost_of_filling (Tree g.row.A.Denot) c.in_err-filled.field-0.0 ∙ c.in_err-filled.ensures.steady steady (still_honest again honest) kept)

pub returns-in_err-text-clause-opened : goal.returns-in_err-text-clause-opened
returns-in_err-text-clause-opened g c =
    let p = err_from_is_err_and c.from_residual.result c.from_residual.ensures.1 in
    rw p.1 (unread_source c.args.name.now c.args.time _ _ c.in_err-text.ensures.noted)

pub returns-in_err-tree-clause-opened : goal.returns-in_err-tree-clause-opened
returns-in_err-tree-clause-opened g c =
    let p = err_from_is_err_and c.from_residual-in_err-tree.result c.from_residual-in_err-tree.ensures.1 in
    let a = g.F.Files.map c.args.files.now in
    let is : IsTrue a.honest → c.deref.result.now ≡ unwrap_or (a.bytes c.args.name.now) [] = λ honest. c.deref.ensures.value ∙ text_read _ _ (c.in_ok-text.ensures.text honest) in
    rw p.1 (refused_source c.args.name.now c.deref.result.now c.args.time a _ _ c.in_ok-text.ensures.noted is c.in_err-tree.ensures.opened)

pub returns-in_err-filled-clause-opened : goal.returns-in_err-filled-clause-opened
returns-in_err-filled-clause-opened g c =
    let p = err_from_is_err_and c.from_residual-in_err-filled.result c.from_residual-in_err-filled.ensures.1 in
    let a = g.F.Files.map c.args.files.now in
    let t = node_of c.in_ok-tree.tree.root in
    let same = c.in_ok-text.ensures.files.same in
    let is : IsTrue a.honest → c.deref.result.now ≡ unwrap_or (a.bytes c.args.name.now) [] = λ honest. c.deref.ensures.value ∙ text_read _ _ (c.in_ok-text.ensures.text honest) in
    let spelled : IsTrue a.honest → Spells (words c.deref.result.now) a.bytes (in_full a.bytes t) =
    λ honest. subst (λ (files : List ℕ → Option (List ℕ)). Spells (words c.deref.result.now) files (in_full files t)) same.bytes (c.in_ok-tree.ensures.only (still_honest same honest)) in
    rw p.1 (unfilled_opens c.args.name.now c.deref.result.now c.args.time a _ _ c.in_ok-text.ensures.noted is t _ spelled c.in_ok-tree.ensures.opened c.in_err-filled.ensures.opened)

pub returns-clause-opened : goal.returns-clause-opened
returns-clause-opened g c =
    let a = g.F.Files.map c.args.files.now in
    let t = node_of c.in_ok-tree.tree.root in
    let same = c.in_ok-text.ensures.files.same in
    let is : IsTrue a.honest → c.deref.result.now ≡ unwrap_or (a.bytes c.args.name.now) [] = λ honest. c.deref.ensures.value ∙ text_read _ _ (c.in_ok-text.ensures.text honest) in
    let spelled : IsTrue a.honest → Spells (words c.deref.result.now) a.bytes (in_full a.bytes t) =
    λ honest. subst (λ (files : List ℕ → Option (List ℕ)). Spells (words c.deref.result.now) files (in_full files t)) same.bytes (c.in_ok-tree.ensures.only (still_honest same honest)) in
    filled_opens c.args.name.now c.deref.result.now c.args.time a _ _ c.in_ok-text.ensures.noted is t _ spelled c.in_ok-tree.ensures.opened (node_of c.in_ok-filled.filled.root) c.in_ok-filled.ensures.rest c.in_ok-filled.ensures.opened
