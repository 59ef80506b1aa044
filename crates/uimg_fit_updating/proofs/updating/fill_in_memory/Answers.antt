use Rattle.std.proofs.Common.{◌≡◌, ℕ, List, Option, Global, IfOk, refl, ap, subst}
use Rattle.uimg_texts.specs.declared.naming.Naming.TheVariants.{All}
use Rattle.uimg_base.specs.Named.{FileMap}
use Rattle.uimg_blob_writing.specs.{declared.tree.Tree.Tree, Trees.node_of}
use Rattle.uimg_fit_building.specs.UnreadTrees.{filled_unread}
use Rattle.uimg_fit_updating.proofs.RefillLaws.{no_files_at, no_files_kept, told_filled}
use Rattle.uimg_fit_updating.proofs.updating.fill_in_memory.Goals as goal

pub fill_by-requires : goal.fill_by-requires
fill_by-requires c = no_files_at (node_of c.args.tree.root) c.requires

pub returns : goal.returns
returns c =
    let t = node_of c.args.tree.root in
    subst (λ (files : List ℕ → Option (List ℕ)). IfOk c.fill_by.result (λ filled. node_of filled.root ≡ filled_unread All files c.args.time t))
    (ap (λ (m : FileMap). m.bytes) c.new-files.ensures)
    (told_filled All (λ (filled : Tree Global). node_of filled.root) _ c.args.time t c.fill_by.result (c.fill_by.ensures.filled refl (no_files_kept _ t c.requires)))
