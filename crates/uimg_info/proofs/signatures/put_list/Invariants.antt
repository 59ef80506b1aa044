use Rattle.std.{proofs.Common.{◌≡◌, ◌≤◌, ◌+◌, ◌++◌, take, drop, map, IsTrue}, specs.List.sum_by}
use Rattle.json.specs.Tree.{json_tokens, items_tokens}
use Rattle.uimg_base.specs.Device.{SameDevice}
use Rattle.uimg_info.specs.{Fit.signature_json, Signatures.read_signature, Work.signature_size}
use Rattle.uimg_printing.specs.Members.{items_of, array_of}
use Rattle.uimg_info.proofs.signatures.put_list.Given as goal

-- with those that are left, all are there
abbrev pub invariant-loop-signature : goal.invariant-loop-signature
invariant-loop-signature g l =
    let device = g.S.Source.device in
    let file = (device l.fn.source).bytes in
    record {
      same : SameDevice (device l.fn.source) (device l.source);
      asked : (device l.source).asked ≤ (device l.fn.source).asked + sum_by signature_size (take l.signature-index l.signatures);
      failures : (device l.source).failures ≡ (device l.fn.source).failures;
      before : l.writer.before ≡ l.fn.writer.before;
      all : IsTrue (device l.fn.source).honest → l.writer.tokens ++ items_tokens (items_of (map signature_json (map (read_signature file) (drop l.signature-index l.signatures)))) ≡ l.fn.writer.tokens ++ json_tokens (array_of (map signature_json (map (read_signature file) l.signatures)));
    }
