use Rattle.std.proofs.Common.{◌≡◌, map, drop}
use Rattle.uimg_texts.specs.{Names.row_of, Naming.{printed_in, rows, unknown}}
use Rattle.uimg_texts.proofs.naming.Naming.code_text.Given as goal

-- no row before the index has the code
abbrev pub invariant-loop-known : goal.invariant-loop-known
invariant-loop-known l = printed_in l.self (unknown l.field) (map row_of (drop l.known-index l.rows)) l.code ≡ printed_in l.self (unknown l.field) (rows l.field) l.code
