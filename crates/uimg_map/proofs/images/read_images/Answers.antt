use Rattle.std.proofs.Common.{◌≡◌, ◌∙◌, IsTrue, List, ap, map, rules, subst, sym, ℕ}
use Rattle.uimg_blob_reading.specs.{LookUps.NodeOf, Rows.table, Spots.Spot}
use Rattle.uimg_fit_reading.specs.Nodes.{IsRead}
use Rattle.uimg_map.specs.Images.{read_image, told_by}
use Rattle.uimg_map.proofs.ImageLaws.{are_images}
use Rattle.uimg_map.proofs.images.read_images.Goals as goal

pub returns-clause-told : goal.returns-clause-told
returns-clause-told g c = λ honest.
    let file = (g.S.Source.device c.args.source.now).bytes in
    let same = c.in_ok-blob.ensures.inspects.uses.same in
    let has = c.in_ok-blob.ensures.gives honest in
    let t = has.nodes in
    let images = c.in_ok-first.ensures.told t has.read.indexed in
    let ss = c.as_slice.result.now in
    let slice : ss ≡ c.in_ok-signatures.signatures.items = search rules in
    let read = subst (λ (f : List ℕ). IsRead f c.in_ok-blob.blob c.read_tree.new.room.entries t) (sym same.bytes) has.read in
    are_images file t ss images.found _ has.read.is images.is (slice ∙ c.in_ok-signatures.ensures.told t has.read.indexed) (c.totalsize.ensures ∙ has.read.totalsize)
    (subst (λ (f : List ℕ). map (read_image f) c.in_ok-images.images.items ≡ map (told_by f (table t) ss) images.found) same.bytes
    (c.in_ok-images.ensures.said t (record { honest = subst IsTrue (sym same.honest) honest; read = read }) images.found images.from))
