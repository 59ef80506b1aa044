use Rattle.std.proofs.Common.{◌+◌, ◌*◌, ◌≤◌, length, rules, ◌≡◌, ◌∙◌, map, sym, ap, subst, Bool, IsTrue, List, ℕ, arith}
use Rattle.uimg_base.specs.{Held.Held, declared.spans.Span.Span}
use Rattle.uimg_blob_reading.specs.{Grammar.Siblings, Rows.table, Places.read_place, Indexed.IsIndexed, Blob.tree}
use Rattle.uimg_signing.specs.Listing.{node_cost, listed_times, marks_of, count_listed, path_bytes, count_path_bytes, are_over, many_refusal}
use Rattle.uimg_signing.specs.PathSizes.{path_size}
use Rattle.uimg_signing.proofs.CostLaws.{more_asked, within_asked, no_refusal, over_more, none_over, fits, few_more}
use Rattle.uimg_signing.proofs.SumLaws.{sum_more, sum_least, sum_end}
use Rattle.uimg_signing.proofs.NamedLaws.{row_of, rows_count, marked, marks_more, marks_end}
use Rattle.uimg_signing.proofs.listing.collect.Goals as goal

pub loop-node-preserved : goal.loop-node-preserved
loop-node-preserved g c =
    let d = g.S.Source.device c.args.source.now in
    let now = c.loop-node in
    let same = now.invariant.same in
    let is_honest = λ (honest : IsTrue d.honest). subst (λ (b : Bool). IsTrue b) (sym same.honest) honest in
    let there = λ (t : Siblings) (indexed : IsIndexed t c.args.blob.now c.args.room.now.entries). subst (λ (h : Held). IsIndexed t c.args.blob.now h.entries) (sym now.invariant.room) indexed in
    let after = λ (t : Siblings) (indexed : IsIndexed t c.args.blob.now c.args.room.now.entries). subst (λ (h : Held). IsIndexed t c.args.blob.now h.entries) (sym (c.listed_times.ensures.room ∙ now.invariant.room)) indexed in
    let own = map (read_place d.bytes) c.args.places.now in
    let row = λ (t : Siblings) (indexed : IsIndexed t c.args.blob.now c.args.room.now.entries). row_of t c.args.blob.now c.args.room.now.entries now.node indexed (omega arith) in
    let listed = λ (honest : IsTrue d.honest) (t : Siblings) (indexed : IsIndexed t c.args.blob.now c.args.room.now.entries).
    (let r = row t indexed in
    subst (λ (xs : List ℕ). c.in-Ok.times ≡ listed_times xs (map (read_place xs) c.args.places.now) (table t) c.args.configuration now.node r.0) same.bytes (c.in-Ok.ensures.told (is_honest honest) t (there t indexed) r.0 r.1)) in
    let sum = c.in-Some.sum in
    record {
      same = record { bytes = c.listed_times.ensures.uses.same.bytes ∙ same.bytes; honest = c.listed_times.ensures.uses.same.honest ∙ same.honest };
      failures = c.in-Ok.ensures.uses.failures ∙ now.invariant.failures;
      asked = more_asked d.asked (g.S.Source.device now.source).asked (g.S.Source.device c.listed_times.new.source).asked now.node (node_cost (length c.args.places.now)) now.invariant.asked c.listed_times.ensures.uses.asked;
      few = few_more now.marks.items c.add_mark.new.marks.items c.in-Ok.times c.saturating_sub-at.result now.total.nodes sum.nodes c.in-Ok-add_mark.ensures.added c.in-Some.ensures.over.0 now.invariant.few;
      nodes_fit = c.in-Some.ensures.fits.0;
      bytes_fit = c.in-Some.ensures.fits.1;
      room = c.listed_times.ensures.room ∙ now.invariant.room;
      within = omega arith;
      left = λ honest t indexed.
          let r = row t indexed in
          let name = c.name.ensures.name r.0 (record { nodes = t; indexed = after t indexed; is = r.1 }) in
          let at : c.saturating_sub-at.result ≡ r.0.at = omega (arith, ap (λ (s : Span). s.place) name) in
          let added = marked d.bytes own (table t) c.args.configuration now.node r.0 now.marks.items c.add_mark.new.marks.items c.in-Ok.times c.saturating_sub-at.result c.in-Ok-add_mark.ensures.added at (listed honest t indexed) in
          marks_more d.bytes own (table t) c.args.configuration now.node r.0 now.marks.items c.add_mark.new.marks.items (marks_of d.bytes own (table t) c.args.configuration) r.2 added (now.invariant.left honest t indexed);
      nodes = λ honest t indexed.
          let r = row t indexed in
          sum_more (listed_times d.bytes own (table t) c.args.configuration) (table t) now.node now.total.nodes (count_listed d.bytes own (table t) c.args.configuration) (now.invariant.nodes honest t indexed) r.0 sum.nodes r.2
          (c.in-Some.ensures.over.0 ∙ ap (λ (n : ℕ). now.total.nodes + n) (listed honest t indexed));
      bytes = λ honest t indexed.
          let r = row t indexed in
          let size = c.path_size-size.ensures t (after t indexed) in
          sum_more (path_bytes d.bytes own (table t) c.args.configuration) (table t) now.node now.total.bytes (count_path_bytes d.bytes own (table t) c.args.configuration) (now.invariant.bytes honest t indexed) r.0 sum.bytes r.2
          (c.in-Some.ensures.over.1 ∙ ap (λ (n : ℕ). now.total.bytes + n * c.path_size-size.result) (listed honest t indexed)
          ∙ ap (λ (n : ℕ). now.total.bytes + listed_times d.bytes own (table t) c.args.configuration now.node r.0 * n) size);
    }

pub returns-clause-told : goal.returns-clause-told
returns-clause-told g c = λ honest t indexed.
    let d = g.S.Source.device c.args.source.now in
    let own = map (read_place d.bytes) c.args.places.now in
    marks_end d.bytes own (table t) c.args.configuration c.loop-node.node c.loop-node.marks.items (marks_of d.bytes own (table t) c.args.configuration)
    (omega (arith, rows_count t c.args.blob.now c.args.room.now.entries indexed)) (c.loop-node.invariant.left honest t indexed)

pub returns-in-Err-clause-uses : goal.returns-in-Err-clause-uses
returns-in-Err-clause-uses g c =
    let d = g.S.Source.device c.args.source.now in
    let now = c.loop-node in
    record {
      same = record { bytes = c.listed_times.ensures.uses.same.bytes ∙ now.invariant.same.bytes; honest = c.listed_times.ensures.uses.same.honest ∙ now.invariant.same.honest };
      asked = within_asked d.asked (g.S.Source.device c.listed_times.new.source).asked (now.node + 1) (length c.args.room.now.entries) (node_cost (length c.args.places.now))
          (more_asked d.asked (g.S.Source.device now.source).asked (g.S.Source.device c.listed_times.new.source).asked now.node (node_cost (length c.args.places.now)) now.invariant.asked c.listed_times.ensures.uses.asked) (omega arith);
      failures = search rules;
    }

pub returns-in-Err-add_mark-clause-uses : goal.returns-in-Err-add_mark-clause-uses
returns-in-Err-add_mark-clause-uses g c =
    let d = g.S.Source.device c.args.source.now in
    let now = c.loop-node in
    record {
      same = record { bytes = c.listed_times.ensures.uses.same.bytes ∙ now.invariant.same.bytes; honest = c.listed_times.ensures.uses.same.honest ∙ now.invariant.same.honest };
      asked = within_asked d.asked (g.S.Source.device c.listed_times.new.source).asked (now.node + 1) (length c.args.room.now.entries) (node_cost (length c.args.places.now))
          (more_asked d.asked (g.S.Source.device now.source).asked (g.S.Source.device c.listed_times.new.source).asked now.node (node_cost (length c.args.places.now)) now.invariant.asked c.listed_times.ensures.uses.asked) (omega arith);
      failures = search rules;
    }

pub returns-in-None-clause-uses : goal.returns-in-None-clause-uses
returns-in-None-clause-uses g c =
    let d = g.S.Source.device c.args.source.now in
    let now = c.loop-node in
    record {
      same = record { bytes = c.listed_times.ensures.uses.same.bytes ∙ now.invariant.same.bytes; honest = c.listed_times.ensures.uses.same.honest ∙ now.invariant.same.honest };
      asked = within_asked d.asked (g.S.Source.device c.listed_times.new.source).asked (now.node + 1) (length c.args.room.now.entries) (node_cost (length c.args.places.now))
          (more_asked d.asked (g.S.Source.device now.source).asked (g.S.Source.device c.listed_times.new.source).asked now.node (node_cost (length c.args.places.now)) now.invariant.asked c.listed_times.ensures.uses.asked) (omega arith);
      failures = search rules;
    }

pub returns-clause-uses : goal.returns-clause-uses
returns-clause-uses g c =
    let d = g.S.Source.device c.args.source.now in
    let now = c.loop-node in
    record {
      same = now.invariant.same;
      asked = within_asked d.asked (g.S.Source.device now.source).asked now.node (length c.args.room.now.entries) (node_cost (length c.args.places.now)) now.invariant.asked (omega arith);
      failures = search rules;
    }

pub returns-in-Err-clause-refused : goal.returns-in-Err-clause-refused
returns-in-Err-clause-refused g c = λ honest t is indexed.
    let now = c.loop-node in
    let same = now.invariant.same in
    let is_honest = subst (λ (b : Bool). IsTrue b) (sym same.honest) honest in
    let there = subst (λ (h : Held). IsIndexed t c.args.blob.now h.entries) (sym now.invariant.room) indexed in
    let r = row_of t c.args.blob.now c.args.room.now.entries now.node indexed (omega arith) in
    no_refusal c.in-Err.fault _ (c.in-Err.ensures.refused is_honest t (ap tree same.bytes ∙ is) there r.0 r.1)

pub returns-in-None-clause-refused : goal.returns-in-None-clause-refused
returns-in-None-clause-refused g c = λ honest t is indexed read memory.
    let d = g.S.Source.device c.args.source.now in
    let now = c.loop-node in
    let same = now.invariant.same in
    let is_honest = subst (λ (b : Bool). IsTrue b) (sym same.honest) honest in
    let there = subst (λ (h : Held). IsIndexed t c.args.blob.now h.entries) (sym now.invariant.room) indexed in
    let after = subst (λ (h : Held). IsIndexed t c.args.blob.now h.entries) (sym (c.listed_times.ensures.room ∙ now.invariant.room)) indexed in
    let own = map (read_place d.bytes) c.args.places.now in
    let r = row_of t c.args.blob.now c.args.room.now.entries now.node indexed (omega arith) in
    let listed = subst (λ (xs : List ℕ). c.in-Ok.times ≡ listed_times xs (map (read_place xs) c.args.places.now) (table t) c.args.configuration now.node r.0) same.bytes (c.in-Ok.ensures.told is_honest t there r.0 r.1) in
    let size = c.path_size-size.ensures t after in
    let nodes = count_listed d.bytes own (table t) c.args.configuration in
    let bytes = count_path_bytes d.bytes own (table t) c.args.configuration in
    sym (ap many_refusal (over_more (now.total.nodes + c.in-Ok.times) (now.total.bytes + c.in-Ok.times * c.path_size-size.result) nodes bytes
    (subst (λ (n : ℕ). now.total.nodes + n ≤ nodes) (sym listed) (sum_least (listed_times d.bytes own (table t) c.args.configuration) (table t) now.node now.total.nodes nodes (now.invariant.nodes honest t indexed) r.0 r.2))
    (subst (λ (n : ℕ). now.total.bytes + c.in-Ok.times * n ≤ bytes) (sym size) (subst (λ (n : ℕ). now.total.bytes + n * path_size (table t) now.node ≤ bytes) (sym listed)
    (sum_least (path_bytes d.bytes own (table t) c.args.configuration) (table t) now.node now.total.bytes bytes (now.invariant.bytes honest t indexed) r.0 r.2)))
    c.in-None.ensures.over))

pub returns-in-Err-add_mark-clause-refused : goal.returns-in-Err-add_mark-clause-refused
returns-in-Err-add_mark-clause-refused g c = λ honest t is indexed. no_refusal c.in-Err-add_mark.fault _ c.in-Err-add_mark.ensures.refused

pub returns-clause-refused : goal.returns-clause-refused
returns-clause-refused g c = λ honest t is indexed read memory.
    let d = g.S.Source.device c.args.source.now in
    let now = c.loop-node in
    let own = map (read_place d.bytes) c.args.places.now in
    let past : length (table t) ≤ now.node = omega (arith, rows_count t c.args.blob.now c.args.room.now.entries indexed) in
    let nodes = sum_end (listed_times d.bytes own (table t) c.args.configuration) (table t) now.node now.total.nodes (count_listed d.bytes own (table t) c.args.configuration) (now.invariant.nodes honest t indexed) past in
    let bytes = sum_end (path_bytes d.bytes own (table t) c.args.configuration) (table t) now.node now.total.bytes (count_path_bytes d.bytes own (table t) c.args.configuration) (now.invariant.bytes honest t indexed) past in
    none_over (are_over d.bytes own (table t) c.args.configuration)
    (fits (count_listed d.bytes own (table t) c.args.configuration) (count_path_bytes d.bytes own (table t) c.args.configuration) (subst (λ (n : ℕ). n ≤ 100) nodes now.invariant.nodes_fit) (subst (λ (n : ℕ). n ≤ 4096) bytes now.invariant.bytes_fit))
