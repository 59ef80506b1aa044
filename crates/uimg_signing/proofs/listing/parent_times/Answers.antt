use Rattle.std.proofs.Common.{rules, ◌≡◌, ◌∙◌, map, sym, None, arith}
use Rattle.uimg_blob_reading.specs.{Rows.{table}, Places.read_place}
use Rattle.uimg_signing.specs.Listing.{name_in, parent_times}
use Rattle.uimg_signing.specs.Naming.{times}
use Rattle.uimg_signing.proofs.NamedLaws.{rows_count, row_of, told_as, around_image, around_other, around_none}
use Rattle.uimg_signing.proofs.ShortLaws.{parent_within}
use Rattle.uimg_signing.proofs.listing.parent_times.Goals as goal

pub returns-in_default-clause-told : goal.returns-in_default-clause-told
returns-in_default-clause-told g c = λ honest t indexed row at.
    let d = g.S.Source.device c.args.source.now in
    let own = map (read_place d.bytes) c.args.places.now in
    let its = c.parent.ensures row (record { nodes = t; indexed = indexed; is = at }) in
    let none : c.parent.result ≡ None = search rules in
    around_none d.bytes own (table t) row.parent (sym its ∙ none)

pub returns-in-Image-clause-told : goal.returns-in-Image-clause-told
returns-in-Image-clause-told g c = λ honest t indexed row at.
    let d = g.S.Source.device c.args.source.now in
    let own = map (read_place d.bytes) c.args.places.now in
    let its = c.parent.ensures row (record { nodes = t; indexed = indexed; is = at }) in
    let parent = row_of t c.args.blob.now c.args.room.now.entries c.in-Some.parent indexed (omega arith) in
    let role_is = c.role.ensures parent.0 (record { nodes = t; indexed = indexed; is = parent.1 }) in
    told_as c.count_names.result (times d.bytes (name_in d.bytes parent.0) own) (parent_times d.bytes own (table t) row.parent)
    (around_image d.bytes own (table t) row.parent c.in-Some.parent parent.0 (sym its ∙ c.in-Some.is) parent.1 (sym role_is ∙ c.in-Image.is))
    (c.count_names.ensures.told honest t indexed parent.0 parent.1)

pub returns-in_default-role : goal.returns-in_default-role
returns-in_default-role g c = record {
  uses = search rules;
  room = search rules;
  refused = search rules;
  told = λ honest t indexed row at.
      let d = g.S.Source.device c.args.source.now in
      let own = map (read_place d.bytes) c.args.places.now in
      let its = c.parent.ensures row (record { nodes = t; indexed = indexed; is = at }) in
      let parent = row_of t c.args.blob.now c.args.room.now.entries c.in-Some.parent indexed (omega arith) in
      let role_is = c.role.ensures parent.0 (record { nodes = t; indexed = indexed; is = parent.1 }) in
      around_other d.bytes own (table t) row.parent c.in-Some.parent parent.0 (sym its ∙ c.in-Some.is) parent.1 (λ image. c.in_default-role.not-Image (role_is ∙ image));
}

pub returns-then-parent-count-clause-refused : goal.returns-then-parent-count-clause-refused
returns-then-parent-count-clause-refused g c = λ honest t is indexed row at read memory.
    let its = c.parent.ensures row (record { nodes = t; indexed = indexed; is = at }) in
    absurd (omega (arith, parent_within t c.args.node c.in-Some.parent row at (sym its ∙ c.in-Some.is), rows_count t c.args.blob.now c.args.room.now.entries indexed))

pub returns-in-Image-clause-refused : goal.returns-in-Image-clause-refused
returns-in-Image-clause-refused g c = λ honest t is indexed row at.
    let parent = row_of t c.args.blob.now c.args.room.now.entries c.in-Some.parent indexed (omega arith) in
    c.count_names.ensures.refused honest t is indexed parent.0 parent.1
