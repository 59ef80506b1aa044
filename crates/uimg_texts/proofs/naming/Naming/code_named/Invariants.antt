use Rattle.std.proofs.Common.{◌≡◌, map, drop}
use Rattle.uimg_texts.specs.{Names.row_of, Naming.{code_in, rows}}
use Rattle.uimg_texts.proofs.naming.Naming.code_named.Given as goal

-- no row before the index has the name
abbrev pub invariant-loop-row : goal.invariant-loop-row
invariant-loop-row l = code_in l.self (map row_of (drop l.row-index l.rows)) l.name ≡ code_in l.self (rows l.fn.field) l.name
