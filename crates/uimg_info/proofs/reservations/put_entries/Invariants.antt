use Rattle.std.proofs.Common.{◌≡◌, ◌++◌, drop, map}
use Rattle.json.specs.Tree.{json_tokens, items_tokens}
use Rattle.uimg_info.specs.Reservations.{reservation_json}
use Rattle.uimg_printing.specs.Members.{items_of, array_of}
use Rattle.uimg_info.proofs.reservations.put_entries.Given as goal

-- with the entries that are left, all are there
abbrev pub invariant-loop-entry : goal.invariant-loop-entry
invariant-loop-entry l = record {
  before : l.writer.before ≡ l.fn.writer.before;
  all : l.writer.tokens ++ items_tokens (items_of (map reservation_json (drop l.entry-index l.entries))) ≡ l.fn.writer.tokens ++ json_tokens (array_of (map reservation_json l.entries));
}
