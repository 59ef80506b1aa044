use Rattle.std.proofs.Common.{drop, List, ℕ, Option}
use Rattle.std.specs.Io.KnownBytes.{Appends}
use Rattle.uimg_tool.specs.JsonLines.{shown_from}
use Rattle.uimg_tool.proofs.json_lines.put_text.Given as goal

-- what is appended for the rest is appended for the whole text
abbrev pub invariant-loop-byte : goal.invariant-loop-byte
invariant-loop-byte g l =
    (new : Option (List ℕ))
    → Appends (g.W.Write.contents l.out) new (shown_from l.lead (drop l.byte-index l.text))
    → Appends (g.W.Write.contents l.fn.out) new (shown_from l.fn.is_after_lead l.fn.text)
