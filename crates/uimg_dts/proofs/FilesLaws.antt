-- What several calls did to files.
use Rattle.std.proofs.Common.{Bool, false, subst, ◌∙◌}
use Rattle.uimg_base.specs.{Device.RisesIf, Named.FileMap}
use Rattle.uimg_blob_writing.specs.UsingFiles.{UsesFiles}

-- a call that refused no open, and then another
pub files_then : {failed : Bool} {a b c : FileMap} → UsesFiles false a b → UsesFiles failed b c → UsesFiles failed a c
files_then {failed = failed} {c = c} first then = record {
  same = record {
    bytes = then.same.bytes ∙ first.same.bytes;
    honest = then.same.honest ∙ first.same.honest;
    complete = then.same.complete ∙ first.same.complete;
  };
  refusals = subst (λ n. RisesIf failed n c.refusals) first.refusals then.refusals;
}
