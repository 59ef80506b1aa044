use Rattle.std.{proofs.Common.{true, is_err, ◌∙◌, refl, sym, ap, subst, map, Option, Some}, specs.Bool.⊤}
use Rattle.std.specs.List.{filter, AllByRecursion}
use Rattle.uimg_blob_reading.specs.Roles.{is_hash}
use Rattle.uimg_fit_building.specs.{Behind.entry, PayloadSums.CoversHash, Filling.each}
use Rattle.uimg_fit_building.specs.DigestBytes.{zeroed_child}
use Rattle.uimg_fit_base.specs.declared.algo_sets.AlgoSet.{AlgoSet}
use Rattle.uimg_fit_base.proofs.AlgoSetLaws.{empty-is, some-are}
use Rattle.uimg_blob_writing.specs.{Content.content_bytes, Properties.content, Trees.siblings}
use Rattle.uimg_fit_building.proofs.FillOrderLaws.{always}
use Rattle.uimg_fit_building.proofs.ImageFillLaws.{not-known, all-known, all-covered, none-found, none-hashed, some-hashed, stops-at, children-filled}
use Rattle.uimg_blob_writing.proofs.OpenedLaws.{each_none, each_unopened}
use Rattle.uimg_fit_building.proofs.OpenedFilesLaws.{hashed-opened, unhashed-opened}
use Rattle.uimg_fit_building.proofs.filling.filled_images.fill_hashes.Goals as goal

pub returns-in_default-clause-filled : goal.returns-in_default-clause-filled
returns-in_default-clause-filled g c = λ honest. not-known c.args.naming c.args.nodes.now _ refl (sym c.algos_of.ensures ∙ c.in_default.is)

pub returns-then-is_empty-clause-filled : goal.returns-then-is_empty-clause-filled
returns-then-is_empty-clause-filled g c = λ honest.
    let is = sym c.algos_of.ensures ∙ c.in-Some.is in
    let empty = empty-is c.in-Some.set (sym c.is_empty.ensures ∙ c.if-is_empty.true) in (
      all-known c.args.naming c.args.nodes.now _ refl c.in-Some.set is,
      none-hashed c.args.naming c.args.nodes.now _ refl (content_bytes (g.F.Files.map c.args.files.now).bytes (content c.args.payload.now))
          (is ∙ ap (λ (s : AlgoSet). let o : Option AlgoSet = Some s in o) empty),
    )

pub returns-in-Err-clause-filled : goal.returns-in-Err-clause-filled
returns-in-Err-clause-filled g c = λ honest.
    let is = sym c.algos_of.ensures ∙ c.in-Some.is in
    stops-at c.args.naming {X = ⊤} (λ u. siblings c.args.nodes.now) (g.F.Files.map c.args.files.now).bytes (content c.args.payload.now) (siblings c.args.nodes.now) c.in-Err.fault c.in-Err.ensures.reads.faults
    (all-known c.args.naming c.args.nodes.now _ refl c.in-Some.set is)
    (some-hashed c.args.naming c.args.nodes.now _ refl c.in-Some.set is (some-are c.in-Some.set (sym c.is_empty.ensures ∙ c.if-is_empty.false)))

pub returns-in-Ok-clause-filled : goal.returns-in-Ok-clause-filled
returns-in-Ok-clause-filled g c = λ honest.
    let is = sym c.algos_of.ensures ∙ c.in-Some.is in
    let files = (g.F.Files.map c.args.files.now).bytes in
    let payload = content c.args.payload.now in
    children-filled c.args.naming c.fill_children.result files payload c.args.nodes.now c.fill_children.new.nodes
    (all-known c.args.naming c.args.nodes.now _ refl c.in-Some.set is)
    c.fill_children.ensures.memory
    (c.fill_children.ensures.filled (content_bytes files payload) (c.in-Ok.ensures.digests honest)
    (subst (λ (s : AlgoSet). AllByRecursion (CoversHash c.args.naming s) (filter (λ h. is_hash h.name) (map entry c.args.nodes.now))) (sym c.in-Ok.ensures.set) (all-covered c.args.naming c.args.nodes.now _ refl c.in-Some.set is)))

pub returns-then-is_empty-clause-kept : goal.returns-then-is_empty-clause-kept
returns-then-is_empty-clause-kept g c = λ honest hashed.
    let is = sym c.algos_of.ensures ∙ c.in-Some.is in
    let empty = empty-is c.in-Some.set (sym c.is_empty.ensures ∙ c.if-is_empty.true) in
    absurd (hashed (none-found c.args.naming c.args.nodes.now _ refl (is ∙ ap (λ (s : AlgoSet). let o : Option AlgoSet = Some s in o) empty)))

pub returns-in-Ok-clause-kept : goal.returns-in-Ok-clause-kept
returns-in-Ok-clause-kept g c = λ honest. always c.fill_children.result (λ hashed. c.in-Ok.ensures.reads.kept honest)

pub returns-then-is_empty-clause-rest : goal.returns-then-is_empty-clause-rest
returns-then-is_empty-clause-rest g c = λ message.
    let is = sym c.algos_of.ensures ∙ c.in-Some.is in
    let empty = empty-is c.in-Some.set (sym c.is_empty.ensures ∙ c.if-is_empty.true) in
    ap (each (zeroed_child c.args.naming)) (none-hashed c.args.naming c.args.nodes.now _ refl message (is ∙ ap (λ (s : AlgoSet). let o : Option AlgoSet = Some s in o) empty))

pub returns-in_default-clause-opened : goal.returns-in_default-clause-opened
returns-in_default-clause-opened g c = each_unopened _ _

pub returns-then-is_empty-clause-opened : goal.returns-then-is_empty-clause-opened
returns-then-is_empty-clause-opened g c =
    let is = sym c.algos_of.ensures ∙ c.in-Some.is in
    let empty = empty-is c.in-Some.set (sym c.is_empty.ensures ∙ c.if-is_empty.true) in
    unhashed-opened _ _ _ _ _ (none-found c.args.naming c.args.nodes.now _ refl (is ∙ ap (λ (s : AlgoSet). let o : Option AlgoSet = Some s in o) empty)) (each_none _ _)

pub returns-in-Err-clause-opened : goal.returns-in-Err-clause-opened
returns-in-Err-clause-opened g c =
    let is = sym c.algos_of.ensures ∙ c.in-Some.is in
    hashed-opened true _ (content c.args.payload.now) _ _ (some-hashed c.args.naming c.args.nodes.now _ refl c.in-Some.set is (some-are c.in-Some.set (sym c.is_empty.ensures ∙ c.if-is_empty.false))) c.in-Err.ensures.reads.opened

pub returns-in-Ok-clause-opened : goal.returns-in-Ok-clause-opened
returns-in-Ok-clause-opened g c =
    let is = sym c.algos_of.ensures ∙ c.in-Some.is in
    hashed-opened (is_err c.fill_children.result) _ (content c.args.payload.now) _ _ (some-hashed c.args.naming c.args.nodes.now _ refl c.in-Some.set is (some-are c.in-Some.set (sym c.is_empty.ensures ∙ c.if-is_empty.false))) c.in-Ok.ensures.reads.opened
