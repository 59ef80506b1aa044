use Rattle.std.proofs.Common.{◌≡◌, ◌++◌, length, map}
use Rattle.json.specs.Tree.{json_tokens, items_tokens}
use Rattle.uimg_fit_reading.specs.Values.{pieces}
use Rattle.uimg_printing.specs.Members.{text_json, items_of, array_of}
use Rattle.uimg_info.proofs.members.put_pieces.Given as goal

-- with the texts that are left, all are there
abbrev pub invariant-loop-rest : goal.invariant-loop-rest
invariant-loop-rest l = record {
  before : l.writer.before ≡ l.fn.writer.before;
  all : l.writer.tokens ++ items_tokens (items_of (map (text_json l.as_bytes) (pieces l.rest))) ≡ l.fn.writer.tokens ++ json_tokens (array_of (map (text_json l.as_bytes) (pieces l.bytes)));
}

abbrev pub decreases-loop-rest : goal.decreases-loop-rest
decreases-loop-rest l = length l.rest
