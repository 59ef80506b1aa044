use Rattle.std.proofs.Common.{◌∙◌, [], ℕ, List, Some, ap, map, vec_items}
use Rattle.std.specs.{Borrow.Bor, Io.Iter.{split_byte, split_known_bytes}}
use Rattle.uimg_tool.proofs.FolderPathLaws.{one_more, paths_found}
use Rattle.uimg_tool.proofs.PathLaws.{left_begins, left_ends, left_next}
use Rattle.uimg_tool.proofs.checks.folder_paths.paths_of.Goals as goal

pub loop-name-init : goal.loop-name-init
loop-name-init c =
    (tt, tt, ap split_byte c.into_iter-name-iterator.ensures.into_iter_gives ∙ c.split-name-items.ensures.byte, ([], left_begins _ _, ap (map vec_items) c.new-paths.ensures.items))

pub loop-name-preserved : goal.loop-name-preserved
loop-name-preserved c =
    let before = c.loop-name.invariant in
    let steps = c.in-Some.ensures.steps in (
      tt,
      tt,
      steps.1 ∙ before.2,
      (
        _,
        left_next _ _ _ _ _ before.3.0 _ c.in-Ok.name before.2 c.in-Ok.is steps.2 before.3.1,
        one_more c.args.folder.now c.as_slice.result.now c.in-Ok.name.items before.3.0 _ _ c.as_slice.ensures.value c.in_ok-push_entry-in-Ok.ensures before.3.2,
      ),
    )

pub returns : goal.returns
returns c =
    let last = c.loop-name.invariant.3 in
    let whole = ap (split_known_bytes (λ (b : Bor (List ℕ)). Some b.now)) c.into_iter-name-iterator.ensures.into_iter_gives ∙ c.split-name-items.ensures.bytes in
    paths_found c.args.folder.now c.args.names.now _ last.0 _ whole (left_ends 0 _ _ last.0 last.1 c.in-None.ensures.steps.2) last.2
