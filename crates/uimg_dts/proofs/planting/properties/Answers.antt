use Rattle.std.proofs.{Common.{rules}, lemmas.Result.err_from_is_err_and}
use Rattle.uimg_dts.proofs.{FilesLaws.files_then, SoundLaws.still_sound}
use Rattle.uimg_dts.proofs.planting.properties.Goals as goal

pub returns-in_err-add_property-clause-opens : goal.returns-in_err-add_property-clause-opens
returns-in_err-add_property-clause-opens g c =
    let p = err_from_is_err_and c.from_residual.result c.from_residual.ensures.1 in
    record {
      files = rw (p.1, p.2) (files_then c.loop.invariant.files c.in_err-add_property.ensures.opens.files);
      steady = search rules;
    }

pub loop-preserved : goal.loop-preserved
loop-preserved g c = record {
  files = files_then c.loop.invariant.files c.in_ok-add_property.ensures.opens.files;
  sound = still_sound _ _ c.loop.invariant.files.same c.in_ok-add_property.ensures.sound c.loop.invariant.sound;
}
