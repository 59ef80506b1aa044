use Rattle.std.proofs.Common.{◌<◌, ◌^◌, List, ℕ, is_err, subst}
use Rattle.uimg_base.specs.Writing.{Written}
use Rattle.uimg_blob_writing.specs.UsingFiles.{OpensEach}
use Rattle.uimg_blob_writing.specs.{Content.{IsKept, IsBytes}, Layouts.{Plan, totalsize}}
use Rattle.uimg_blob_writing.specs.{Trees.node_of, Pieces.{blob_pieces, WritesPieces}}
use Rattle.uimg_blob_writing.proofs.{WritesLaws.on-ok, TotalLaws.root-reads_back}
use Rattle.uimg_blob_writing.proofs.PieceLaws.{blob-files, blob-holds, blob-held, blob-joined}
use Rattle.uimg_blob_writing.proofs.writing.write_tree.Goals as goal

pub returns : goal.returns
returns g c =
    let m = g.F.Files.map c.args.files.now in
    let s = c.args.out.now in
    let u = c.put_blob.new.out in
    let r = c.put_blob.result in
    let ending = c.args.layout.now.ending in
    let rs = c.args.layout.now.reservations in
    let node = c.args.tree.now.root in
    let t = node_of node in
    let w = subst (λ (p : Plan). WritesPieces g.F.Opened.Source.steady r m (g.F.Files.map c.put_blob.new.files) s u (blob_pieces p t)) c.requires c.put_blob.ensures.writes in
    record {
      files = w.files;
      opened = subst (λ (l : List (List ℕ)). OpensEach (is_err r) l m (g.F.Files.map c.put_blob.new.files)) (blob-files ending rs t) w.opened;
      faults = w.faults;
      found = λ complete kept. w.found complete (blob-holds (IsKept m.bytes) (λ b. tt) ending rs t kept);
      steady = λ always honest kept. w.reads always honest (blob-holds (IsKept m.bytes) (λ b. tt) ending rs t kept);
      in_memory = λ embedded. w.in_memory (blob-holds IsBytes (λ b. tt) ending rs t embedded);
      kept = λ honest. on-ok r (blob-held (IsKept m.bytes) (λ b. tt) ending rs t) (w.kept honest);
      written = λ honest kept. subst (λ (b : List ℕ). Written (is_err r) s u b) (blob-joined m.bytes ending rs t kept) (w.written honest);
      reads_back = λ kept named.
          root-reads_back m.bytes ending rs node.name node.props node.children kept named (subst (λ (p : Plan). totalsize p < 2 ^ 32) c.requires c.put_blob.ensures.fits);
    }
