use Rattle.std.proofs.Common.{◌≡◌, drop, Some, false}
use Rattle.std.specs.List.{slice_get}
use Rattle.uimg_base.specs.Using.{Uses}
use Rattle.uimg_blob_reading.specs.{Grammar.Siblings, Rows.{Row, table}}
use Rattle.uimg_fit_reading.specs.Nodes.{Opened}
use Rattle.uimg_verifying.specs.Configurations.{configuration_refusal, keys_refusal, refused_by}
use Rattle.uimg_verifying.proofs.configurations.keys_refusal.Given as goal

-- the keys from this one on decide as all do
abbrev pub invariant-loop-key : goal.invariant-loop-key
invariant-loop-key g l =
    let d = g.S.Source.device l.fn.source in
    record {
      uses : Uses false d (g.S.Source.device l.source);
      room : l.room ≡ l.fn.room;
      left : (t : Siblings) → Opened d l.blob l.fn.room t → (its : Row) → slice_get (table t) l.configuration ≡ Some its →
          refused_by l.required.keys.is_any (λ key. configuration_refusal l.required.takes_sha1 key d.bytes (table t) l.configuration its)
          (drop l.key-index l.required.keys.keys.items) l.found
          ≡ keys_refusal l.required d.bytes (table t) l.configuration its;
    }
