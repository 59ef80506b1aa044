use Rattle.std.proofs.Common.{rules, ◌≡◌, ◌∙◌, ℕ, List, Option, Some, map, codes, ap, subst, sym, Bool, IsTrue}
use Rattle.uimg_texts.specs.Numbers.{be32}
use Rattle.uimg_base.specs.declared.spans.Span.{Span}
use Rattle.uimg_blob_reading.specs.{Blob.tree, Places.read_place, Properties.places_of, Plain.NamedOf, LookUps.first}
use Rattle.uimg_signing.specs.Strings.{cells_in, strings_at}
use Rattle.uimg_signing.proofs.MessageLaws.{strings_size}
use Rattle.uimg_signing.proofs.strings.strings_size.Goals as goal

pub returns-in-Some-clause-told : goal.returns-in-Some-clause-told
returns-in-Some-clause-told g c = λ honest t is indexed total row at read memory.
    let device = g.S.Source.device in
    let d = device c.args.source.now in
    let e = device c.properties_of.new.source in
    let one = c.properties_of.ensures.uses.same in
    let two = c.extent_again.ensures.uses.same in
    let three = c.value_named.ensures.uses.same in
    let first_honest = subst (λ (b : Bool). IsTrue b) (sym one.honest) honest in
    let second_honest = subst (λ (b : Bool). IsTrue b) (sym two.honest) first_honest in
    let third_honest = subst (λ (b : Bool). IsTrue b) (sym three.honest) second_honest in
    let x = c.in-Ok-extent_again.extent in
    let found = c.in-Ok-extent_again.ensures.again first_honest t (ap tree one.bytes ∙ is) (c.totalsize.ensures ∙ total ∙ sym (ap (λ (xs : List ℕ). be32 xs 4) one.bytes)) in
    let size : be32 d.bytes 32 ≡ x.strings_size = sym (ap (λ (xs : List ℕ). be32 xs 32) one.bytes) ∙ strings_size e.bytes x found in
    let same : c.deref.result.now ≡ c.in-Ok.places.items = search rules in
    let key : c.as_slice.result.now ≡ codes "hashed-strings" = search rules in
    let are = c.in-Ok.ensures.told honest t is indexed total row at in
    let list : map (read_place (device c.extent_again.new.source).bytes) c.deref.result.now ≡ places_of row =
    ap (λ (xs : List ℕ). map (read_place xs) c.deref.result.now) (two.bytes ∙ one.bytes) ∙ ap (map (read_place d.bytes)) same ∙ are in
    let value : first (places_of row) (codes "hashed-strings") ≡ Some c.in-Some.value =
    sym (ap (λ (k : List ℕ). first (places_of row) k) key) ∙ sym (ap (λ (l : List (NamedOf Span)). first l c.as_slice.result.now) list)
    ∙ sym (c.in-Ok-value_named.ensures.told second_honest) ∙ c.in-Some.is in
    c.read_cells.ensures.told third_honest read memory
    ∙ ap (λ (xs : List ℕ). cells_in xs x.strings_size c.in-Some.value) (three.bytes ∙ two.bytes ∙ one.bytes)
    ∙ ap (λ (n : ℕ). cells_in d.bytes n c.in-Some.value) (sym size)
    ∙ sym (ap (λ (o : Option Span). strings_at d.bytes o) value)
