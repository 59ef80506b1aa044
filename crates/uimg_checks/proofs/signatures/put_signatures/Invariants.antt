use Rattle.std.proofs.Common.{◌≡◌, ◌++◌, drop, map}
use Rattle.json.specs.Tree.{json_tokens, items_tokens}
use Rattle.uimg_checks.specs.Objects.{signature_json}
use Rattle.uimg_printing.specs.Members.{items_of, array_of}
use Rattle.uimg_checks.proofs.signatures.put_signatures.Given as goal

-- with those that are left, all are there
abbrev pub invariant-loop-signature : goal.invariant-loop-signature
invariant-loop-signature l = record {
  before : l.writer.before ≡ l.fn.writer.before;
  all : l.writer.tokens ++ items_tokens (items_of (map signature_json (drop l.signature-index l.signatures))) ≡ l.fn.writer.tokens ++ json_tokens (array_of (map signature_json l.signatures));
}
