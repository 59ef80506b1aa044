use Rattle.std.{proofs.Common.take, specs.List.flat_map}
use Rattle.uimg_blob_writing.{specs.Pieces.WritesPieces, proofs.WritesLaws.went_well}
use Rattle.uimg_fit_building.specs.Behind.{entry, payload_pieces}
use Rattle.uimg_fit_building.proofs.building.behind.put_payloads.Given as goal

-- the payloads before the index were written
abbrev pub invariant-loop-image : goal.invariant-loop-image
invariant-loop-image g l =
    WritesPieces g.F.Opened.Source.steady went_well (g.F.Files.map l.fn.files) (g.F.Files.map l.files) l.fn.out l.out
    (flat_map (λ n. payload_pieces l.fn.align (entry n)) (take l.image-index l.images))
