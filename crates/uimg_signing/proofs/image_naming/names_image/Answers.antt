use Rattle.std.proofs.Common.{rules, ◌≡◌, ◌∙◌, map, sym, ap, subst, Bool, IsTrue, List, ℕ, true, false, if◌then◌else◌, arith}
use Rattle.uimg_base.specs.{Held.Held, declared.spans.Span.Span}
use Rattle.uimg_blob_reading.specs.{Blob.tree, Indexed.IsIndexed, Places.read_place, Plain.NamedOf, Properties.places_of}
use Rattle.uimg_signing.specs.{Listing.name_in, Naming.{any_long, named}}
use Rattle.uimg_signing.proofs.{CostLaws.{count_of, long_of}, NamedLaws.{row_of, told_as}}
use Rattle.uimg_signing.proofs.image_naming.names_image.Goals as goal

pub returns-then-has_long-clause-told : goal.returns-then-has_long-clause-told
returns-then-has_long-clause-told g c = λ honest t is indexed total its at row _.
    let d = g.S.Source.device c.args.source.now in
    let are = c.in-Ok.ensures.told honest t is indexed total its at in
    let same : c.deref.result.now ≡ c.in-Ok.places.items = search rules in
    let long : true ≡ any_long (places_of its) = sym c.if-has_long.true ∙ c.has_long.ensures ∙ long_of d.bytes c.deref.result.now (places_of its) (ap (map (read_place d.bytes)) same ∙ are) in
    ap (λ (b : Bool). if b then false else named d.bytes (name_in d.bytes row) (places_of its)) long

pub returns-clause-told : goal.returns-clause-told
returns-clause-told g c = λ honest t is indexed total its at row there.
    let d = g.S.Source.device c.args.source.now in
    let are = c.in-Ok.ensures.told honest t is indexed total its at in
    let same = c.properties_of.ensures.uses.same in
    let is_honest = subst (λ (b : Bool). IsTrue b) (sym same.honest) honest in
    let still = subst (λ (h : Held). IsIndexed t c.args.blob.now h.entries) (sym c.properties_of.ensures.room) indexed in
    let first : c.deref.result.now ≡ c.in-Ok.places.items = search rules in
    let second : c.deref-2.result.now ≡ c.in-Ok.places.items = search rules in
    let short : false ≡ any_long (places_of its) = sym c.if-has_long.false ∙ c.has_long.ensures ∙ long_of d.bytes c.deref.result.now (places_of its) (ap (map (read_place d.bytes)) first ∙ are) in
    told_as c.is_named.result _ _
    (ap (λ (xs : List ℕ). named xs (name_in xs row) (map (read_place xs) c.deref-2.result.now)) same.bytes
    ∙ ap (λ (own : List (NamedOf Span)). named d.bytes (name_in d.bytes row) own) (ap (map (read_place d.bytes)) second ∙ are)
    ∙ ap (λ (b : Bool). if b then false else named d.bytes (name_in d.bytes row) (places_of its)) short)
    (c.is_named.ensures.told is_honest t still row there)

pub returns-clause-asked : goal.returns-clause-asked
returns-clause-asked g c = λ honest t is indexed total its at.
    let d = g.S.Source.device c.args.source.now in
    let are = c.in-Ok.ensures.told honest t is indexed total its at in
    let same : c.deref-2.result.now ≡ c.in-Ok.places.items = search rules in
    let count = count_of d.bytes c.deref-2.result.now its (ap (map (read_place d.bytes)) same ∙ are) in
    omega (arith, c.in-Ok.ensures.asked honest t is indexed total its at, c.is_named.ensures.uses.asked, count)

pub returns-clause-refused : goal.returns-clause-refused
returns-clause-refused g c = λ honest t is indexed total its at.
    let same = c.properties_of.ensures.uses.same in
    let is_honest = subst (λ (b : Bool). IsTrue b) (sym same.honest) honest in
    let still = subst (λ (h : Held). IsIndexed t c.args.blob.now h.entries) (sym c.properties_of.ensures.room) indexed in
    let row = row_of t c.args.blob.now c.args.room.now.entries c.args.image indexed c.requires.image in
    c.is_named.ensures.refused is_honest t (ap tree same.bytes ∙ is) still row.0 row.1
