use Rattle.std.proofs.{Common.{rules}, lemmas.Result.err_from_is_err_and}
use Rattle.uimg_dts.proofs.{FilesLaws.files_then, SoundLaws.{found_same, siblings_sound}}
use Rattle.uimg_dts.proofs.planting.+planting.Goals as goal

pub children-returns-in_err-child-clause-opens : goal.children-returns-in_err-child-clause-opens
children-returns-in_err-child-clause-opens g t c =
    let p = err_from_is_err_and c.from_residual.result c.from_residual.ensures.1 in
    record {
      files = rw (p.1, p.2) (files_then c.loop.invariant.files c.in_err-child.ensures.opens.files);
      steady = search rules;
    }

pub children-returns-in_err-push_found-clause-opens : goal.children-returns-in_err-push_found-clause-opens
children-returns-in_err-push_found-clause-opens g t c =
    let p = err_from_is_err_and c.from_residual-in_err-push_found.result c.from_residual-in_err-push_found.ensures.1 in
    record {
      files = rw (p.1, p.2) (files_then c.loop.invariant.files c.in_ok-child.ensures.opens.files);
      steady = search rules;
    }

pub children-loop-preserved : goal.children-loop-preserved
children-loop-preserved g t c = record {
  files = files_then c.loop.invariant.files c.in_ok-child.ensures.opens.files;
  sound = c.in_ok-push_found.ensures (g.F.Files.map c.args.files.now) c.loop.invariant.sound (found_same (g.F.Files.map c.args.files.now) (g.F.Files.map c.loop.files) c.in_ok-child.child c.loop.invariant.files.same c.in_ok-child.ensures.sound);
}

pub children-returns-clause-sound : goal.children-returns-clause-sound
children-returns-clause-sound g t c =
    rw c.of.ensures (siblings_sound (g.F.Files.map c.args.files.now) c.loop.nodes.items c.loop.invariant.sound)
