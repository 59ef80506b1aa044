use Rattle.std.proofs.Common.{◌≡◌, ◌≤◌, ◌+◌, take, drop}
use Rattle.uimg_base.specs.Device.{SameDevice}
use Rattle.uimg_map.specs.Signatures.{covered_by, covering_cost}
use Rattle.uimg_signing.specs.Listing.{OfTreeRead, name_in}
use Rattle.uimg_map.proofs.signatures.covered_by.Given as goal

-- the signature nodes that are left decide
abbrev pub invariant-loop-signature : goal.invariant-loop-signature
invariant-loop-signature g l =
    let device = g.S.Source.device in
    let d = device l.fn.source in
    record {
      same : SameDevice d (device l.source);
      failures : (device l.source).failures ≡ d.failures;
      room : l.room ≡ l.fn.room;
      asked : OfTreeRead d l.blob l.fn.room.entries l.image (λ rows row.
          (device l.source).asked ≤ d.asked + covering_cost d.bytes rows (take l.signature-index l.signatures));
      left : OfTreeRead d l.blob l.fn.room.entries l.image (λ rows row.
          covered_by d.bytes rows (name_in d.bytes row) (drop l.signature-index l.signatures) ≡ covered_by d.bytes rows (name_in d.bytes row) l.signatures);
    }
