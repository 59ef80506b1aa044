use Rattle.std.{proofs.Common.take, specs.List.flat_map}
use Rattle.uimg_blob_writing.specs.{Names.name_texts, Properties.property}
use Rattle.uimg_blob_writing.specs.Pieces.{property_pieces, WritesPieces}
use Rattle.uimg_blob_writing.proofs.WritesLaws.{went_well}
use Rattle.uimg_blob_writing.proofs.properties.put_properties.Given as goal

-- the properties before the index were written
abbrev pub invariant-loop-prop : goal.invariant-loop-prop
invariant-loop-prop g l =
    WritesPieces g.F.Opened.Source.steady went_well (g.F.Files.map l.fn.files) (g.F.Files.map l.files) l.fn.out l.out
    (flat_map (λ p. property_pieces (name_texts l.names) (property p)) (take l.prop-index l.prop-items))
