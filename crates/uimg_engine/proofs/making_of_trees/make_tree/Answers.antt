use Rattle.std.proofs.Common.{rules, ◌≡◌, ◌∙◌, [], Bool, Some, IsTrue, true, is_err, sym, subst}
use Rattle.uimg_fit_building.proofs.OpenedFilesLaws.{each_fails}
use Rattle.uimg_engine.proofs.CommandLaws.{keeping_bytes}
use Rattle.uimg_engine.proofs.making_of_trees.make_tree.Goals as goal

pub returns-in_err-build_with-clause-opened : goal.returns-in_err-build_with-clause-opened
returns-in_err-build_with-clause-opened g c =
    let failed : is_err c.from_residual.result ≡ true = search rules in
    rw failed c.in_err-build_with.ensures.opened

pub returns-in_err-shelf-clause-opened : goal.returns-in_err-shelf-clause-opened
returns-in_err-shelf-clause-opened g c =
    let failed : is_err c.from_residual-in_err-shelf.result ≡ true = search rules in
    rw failed (each_fails c.in_ok-build_with.ensures.opened)

pub returns-in_err-kept-clause-opened : goal.returns-in_err-kept-clause-opened
returns-in_err-kept-clause-opened g c =
    let failed : is_err c.from_residual-in_err-kept.result ≡ true = search rules in
    rw failed (each_fails c.in_ok-build_with.ensures.opened)

pub returns-in_err-run_by-clause-opened : goal.returns-in_err-run_by-clause-opened
returns-in_err-run_by-clause-opened g c =
    let failed : is_err c.from_residual-in_err-run_by.result ≡ true = search rules in
    rw failed (each_fails c.in_ok-build_with.ensures.opened)

pub returns-clause-opened : goal.returns-clause-opened
returns-clause-opened g c = c.in_ok-build_with.ensures.opened

pub returns-clause-made : goal.returns-clause-made
returns-clause-made g c = λ shelf empty honest kept.
    let told = c.in_ok-build_with.ensures.builds.told honest kept in
    let held = c.in_ok-kept.ensures.kept shelf in
    let same = c.run_by.ensures.uses.same in
    let none : c.new-image.result.contents ≡ Some [] = search rules in
    record {
      accepted = told.0;
      bytes = same.bytes ∙ keeping_bytes _ _ _ _ (g.H.Kept.Source.device c.in_ok-kept.kept) told.1 none c.in_ok-shelf.ensures.written held.0;
      honest = subst (λ (b : Bool). IsTrue b) (sym same.honest) held.1;
      reads_back = λ filled. c.in_ok-build_with.ensures.reads_back honest kept filled;
    }
