use Rattle.std.proofs.Common.{arith, subst, sym, ◌≡◌, List, ℕ, true}
use Rattle.std.specs.List.{list_any}
use Rattle.uimg_tool.proofs.FolderLaws.{opened, still_honest, still_leads}
use Rattle.uimg_tool.proofs.folder_files.FolderFilesFiles.open.Goals as goal

pub invariant_of-self-clause-leads : goal.invariant_of-self-clause-leads
invariant_of-self-clause-leads g c = λ known. still_leads _ _ _ _ c.open.ensures.same _ (c.args.self.now.leads known)

pub invariant_of-self-clause-met : goal.invariant_of-self-clause-met
invariant_of-self-clause-met g c = λ known honest met. subst (λ (names : List (List ℕ)). list_any g.L.LeftOut.leads names ≡ true) (sym c.note.ensures)
    (opened _ g.L.LeftOut.leads c.args.name.now _ _ _ _ _ _ (c.args.self.now.leads known) (still_honest _ _ _ _ c.open.ensures.same) c.open.ensures.met (c.args.self.now.met known) honest met)

pub invariant_of-self-clause-refused : goal.invariant_of-self-clause-refused
invariant_of-self-clause-refused g c = λ known honest any. omega (arith, c.saturating_add-self.ensures)
