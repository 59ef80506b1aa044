use Rattle.std.proofs.Common.{◌≡◌, ◌++◌, drop, map}
use Rattle.json.specs.Tree.{json_tokens, items_tokens}
use Rattle.uimg_info.specs.Legacy.{part_json}
use Rattle.uimg_printing.specs.Members.{items_of, array_of}
use Rattle.uimg_info.proofs.legacy.put_parts.Given as goal

-- with the parts that are left, all are there
abbrev pub invariant-loop-part : goal.invariant-loop-part
invariant-loop-part l = record {
  before : l.writer.before ≡ l.fn.writer.before;
  all : l.writer.tokens ++ items_tokens (items_of (map part_json (drop l.part-index l.parts))) ≡ l.fn.writer.tokens ++ json_tokens (array_of (map part_json l.parts));
}
