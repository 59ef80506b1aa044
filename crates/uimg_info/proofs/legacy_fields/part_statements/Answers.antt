use Rattle.std.proofs.Common.{◌≡◌, ◌+◌, ℕ, List, ◌∷◌, drop, get_or, map, IsTrue, ap, sym, subst, ◌∙◌}
use Rattle.std.proofs.lemmas.List.{drop_all, drop_more}
use Rattle.uimg_base.specs.declared.spans.Span.{Span}
use Rattle.uimg_info.specs.{LegacyFields.{field_stated, part_field, parts_from}, Statement.stated}
use Rattle.uimg_info.proofs.StatementLaws.{part_more, parts_done}
use Rattle.uimg_info.proofs.legacy_fields.part_statements.Goals as goal

pub loop-part-preserved : goal.loop-part-preserved
loop-part-preserved g c =
    let file = (g.S.Source.device c.args.source.now).bytes in
    let now = c.loop-part in
    let parts = c.args.parts.now in
    let i = now.part-index in
    let read = c.in_ok-statement.ensures in
    let none : Span = record { place = 0; length = 0 } in
    let part = get_or parts i none in
    let are : drop i parts ≡ part ∷ drop (i + 1) parts = drop_more parts i none c.loop-part-test.true in
    record {
      same = record { bytes = read.leaves.uses.same.bytes ∙ now.invariant.same.bytes; honest = read.leaves.uses.same.honest ∙ now.invariant.same.honest };
      failures = read.leaves.uses.failures ∙ now.invariant.failures;
      room = read.leaves.room ∙ now.invariant.room;
      number = ap (λ (n : ℕ). n + 1) now.invariant.number;
      read = λ honest.
          part_more file (map (field_stated file) (parts_from 0 parts)) (map stated now.all.items) (map stated c.push_found.new.all.items) now.number (drop i parts) (drop (i + 1) parts) part
          (stated c.in_ok-statement.statement) are
          (read.told (subst IsTrue (sym now.invariant.same.honest) honest) ∙ ap (λ (f : List ℕ). field_stated f (part_field now.number part)) now.invariant.same.bytes)
          c.in_ok-push_found.ensures (now.invariant.read honest);
    }

pub returns-clause-told : goal.returns-clause-told
returns-clause-told g c = λ honest.
    let file = (g.S.Source.device c.args.source.now).bytes in
    let now = c.loop-part in
    parts_done file (map (field_stated file) (parts_from 0 c.args.parts.now)) (map stated now.all.items) now.number (drop now.part-index c.args.parts.now)
    (drop_all now.part-index c.args.parts.now c.loop-part-test.false) (now.invariant.read honest)
