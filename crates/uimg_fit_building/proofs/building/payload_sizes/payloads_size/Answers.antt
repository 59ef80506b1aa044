use Rattle.std.proofs.Common.{◌≡◌, ◌∷◌, ◌+◌, ◌∙◌, ℕ, List, [], ap, sym, drop, map, refl, arith}
use Rattle.std.proofs.{lemmas.List.drop_more, Math.ListN.drop_of_length-le}
use Rattle.uimg_blob_writing.specs.declared.tree.Node.{Node}
use Rattle.uimg_fit_building.specs.{Behind.{entry, padded_sizes}, UnreadTrees.padded_size_of}
use Rattle.uimg_fit_building.proofs.building.payload_sizes.payloads_size.Goals as goal

sizes-more : {A : Type 0} (align : ℕ) (n : Node A) (ns : List (Node A)) → padded_sizes align (map entry (n ∷ ns)) ≡ padded_size_of align n.props + padded_sizes align (map entry ns)
unfolding padded_sizes
sizes-more align n ns = refl

sizes-none : (align : ℕ) (A : Type 0) → (let none : List (Node A) = [] in padded_sizes align (map entry none)) ≡ 0
unfolding padded_sizes
sizes-none align A = refl

pub loop-image-preserved : goal.loop-image-preserved
loop-image-preserved g c =
    let items = c.args.images.now in
    let i = c.loop-image.image-index in
    let d = c.image-item.result in
    let more : drop i items ≡ d ∷ drop (i + 1) items = drop_more items i d c.loop-image-test.true ∙ ap (λ (p : Node g.row.A.Denot). p ∷ drop (i + 1) items) (sym c.image-item.is) in
    let step : padded_sizes c.args.align (map entry (drop i items)) ≡ padded_size_of c.args.align d.props + padded_sizes c.args.align (map entry (drop (i + 1) items)) =
    ap (λ (l : List (Node g.row.A.Denot)). padded_sizes c.args.align (map entry l)) more ∙ sizes-more c.args.align d (drop (i + 1) items) in
    record {
      small = omega (arith, c.min-size.ensures);
      whole = omega (arith, c.loop-image.invariant.whole, step, c.padded_size_of.ensures, c.min-size.ensures);
    }

pub returns : goal.returns
returns g c =
    let items = c.args.images.now in
    let i = c.loop-image.image-index in
    let none : drop i items ≡ [] = drop_of_length-le items {i = i} c.loop-image-test.false in
    let last : padded_sizes c.args.align (map entry (drop i items)) ≡ 0 = ap (λ (l : List (Node g.row.A.Denot)). padded_sizes c.args.align (map entry l)) none ∙ sizes-none c.args.align g.row.A.Denot in
    omega (arith, c.loop-image.invariant.whole, c.loop-image.invariant.small, last)
