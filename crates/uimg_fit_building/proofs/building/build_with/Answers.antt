use Rattle.std.proofs.Common.{map}
use Rattle.uimg_blob_reading.specs.Plain.{with_value, with_values}
use Rattle.uimg_blob_writing.specs.Content.{content_bytes}
use Rattle.uimg_fit_building.proofs.BuildLaws.{on-built}
use Rattle.uimg_fit_building.proofs.building.build_with.Goals as goal

pub returns-clause-reads_back : goal.returns-clause-reads_back
unfolding with_values
returns-clause-reads_back g c = λ honest kept filled.
    let node = c.args.tree.now.root in
    let read = content_bytes (g.F.Files.map c.args.files.now).bytes in
    on-built c.args.frame.reservations.now node.name (map (with_value read) node.props) (with_values read node.children) c.args.frame.placement c.place_and_build.result c.args.out.now c.place_and_build.new.out
    (c.place_and_build.ensures.builds.told honest kept) filled
