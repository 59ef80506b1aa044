use Rattle.std.{proofs.Common.{false, take}, specs.List.flat_map}
use Rattle.uimg_base.specs.Writing.{Writes}
use Rattle.uimg_blob_writing.specs.Encoding.{with_nul}
use Rattle.uimg_blob_writing.proofs.writing.put_strings.Given as goal

-- the names before the index were written
abbrev pub invariant-loop-name : goal.invariant-loop-name
invariant-loop-name g l = Writes false l.fn.out l.out (flat_map (λ n. with_nul n.now) (take l.name-index l.names))
