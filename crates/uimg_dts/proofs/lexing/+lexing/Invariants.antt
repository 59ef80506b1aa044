use Rattle.std.proofs.Common.{◌*◌, ◌+◌, false}
use Rattle.uimg_blob_writing.specs.UsingFiles.{UsesFiles}
use Rattle.uimg_dts.proofs.lexing.+lexing.Given as goal

abbrev pub decreases-include : goal.decreases-include
decreases-include g l = l.origin.levels * 2

abbrev pub decreases-lex_text : goal.decreases-lex_text
decreases-lex_text g l = l.origin.levels * 2 + 1

-- no open was refused so far
abbrev pub invariant-lex_text-loop : goal.invariant-lex_text-loop
invariant-lex_text-loop g l = UsesFiles false (g.F.Files.map l.fn.files) (g.F.Files.map l.files)
