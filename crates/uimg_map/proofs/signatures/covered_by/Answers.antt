use Rattle.std.proofs.Common.{◌≡◌, ◌≤◌, ◌+◌, ◌∙◌, Bool, IsTrue, List, ℕ, ap, subst, sym, arith, drop, rules, slice_index_or, length}
use Rattle.std.proofs.lemmas.List.{drop_more, Sums.{sum_by_more, sum_by_more_le}}
use Rattle.uimg_base.specs.Held.{Held}
use Rattle.uimg_texts.specs.Numbers.{be32}
use Rattle.uimg_blob_reading.specs.{Blob.tree, Indexed.IsIndexed, Rows.table}
use Rattle.uimg_blob_reading.specs.{Counts.nops_met}
use Rattle.uimg_map.specs.Signatures.{cost_of}
use Rattle.uimg_map.proofs.SignatureLaws.{cost_is, covered_here, covered_later, covered_none, no_node}
use Rattle.uimg_signing.specs.{ImageNaming.{names_image, naming_cost}, Listing.name_in}
use Rattle.uimg_signing.proofs.{LookLaws.drop_end, NamedLaws.row_of}
use Rattle.uimg_map.proofs.signatures.covered_by.Goals as goal

pub returns-in_err-names-clause-asked : goal.returns-in_err-names-clause-asked
returns-in_err-names-clause-asked g c = λ honest t is indexed total row at.
    let device = g.S.Source.device in
    let d = device c.args.source.now in
    let now = c.loop-signature in
    let ss = c.args.signatures.now in
    let s = slice_index_or ss now.signature-index no_node in
    let is_honest = subst (λ (b : Bool). IsTrue b) (sym now.invariant.same.honest) honest in
    let there = subst (λ (h : Held). IsIndexed t c.args.blob.now h.entries) (sym now.invariant.room) indexed in
    let below = c.requires.signatures now.signature-index no_node c.loop-signature-test.true in
    let its = row_of t c.args.blob.now c.args.room.now.entries s.configuration indexed below.configuration in
    let paid = subst (λ (file : List ℕ). (device c.names.new.source).asked ≤ (device now.source).asked + naming_cost (length its.0.own) (nops_met file)) now.invariant.same.bytes
    (c.names.ensures.asked is_honest t (ap tree now.invariant.same.bytes ∙ is) there (total ∙ ap (λ (file : List ℕ). be32 file 4) (sym now.invariant.same.bytes)) its.0 its.1) in
    let cost = cost_is d.bytes (table t) s its.0 its.1 in
    omega (arith, now.invariant.asked honest t is indexed total row at, paid, cost, sum_by_more_le (cost_of d.bytes (table t)) ss now.signature-index no_node c.loop-signature-test.true)

pub returns-then-branch-clause-asked : goal.returns-then-branch-clause-asked
returns-then-branch-clause-asked g c = λ honest t is indexed total row at.
    let device = g.S.Source.device in
    let d = device c.args.source.now in
    let now = c.loop-signature in
    let ss = c.args.signatures.now in
    let s = slice_index_or ss now.signature-index no_node in
    let is_honest = subst (λ (b : Bool). IsTrue b) (sym now.invariant.same.honest) honest in
    let there = subst (λ (h : Held). IsIndexed t c.args.blob.now h.entries) (sym now.invariant.room) indexed in
    let below = c.requires.signatures now.signature-index no_node c.loop-signature-test.true in
    let its = row_of t c.args.blob.now c.args.room.now.entries s.configuration indexed below.configuration in
    let paid = subst (λ (file : List ℕ). (device c.names.new.source).asked ≤ (device now.source).asked + naming_cost (length its.0.own) (nops_met file)) now.invariant.same.bytes
    (c.names.ensures.asked is_honest t (ap tree now.invariant.same.bytes ∙ is) there (total ∙ ap (λ (file : List ℕ). be32 file 4) (sym now.invariant.same.bytes)) its.0 its.1) in
    let cost = cost_is d.bytes (table t) s its.0 its.1 in
    omega (arith, now.invariant.asked honest t is indexed total row at, paid, cost, sum_by_more_le (cost_of d.bytes (table t)) ss now.signature-index no_node c.loop-signature-test.true)

pub returns-then-branch-clause-told : goal.returns-then-branch-clause-told
returns-then-branch-clause-told g c = λ honest t is indexed total row at.
    let device = g.S.Source.device in
    let d = device c.args.source.now in
    let now = c.loop-signature in
    let ss = c.args.signatures.now in
    let s = slice_index_or ss now.signature-index no_node in
    let is_honest = subst (λ (b : Bool). IsTrue b) (sym now.invariant.same.honest) honest in
    let there = subst (λ (h : Held). IsIndexed t c.args.blob.now h.entries) (sym now.invariant.room) indexed in
    let below = c.requires.signatures now.signature-index no_node c.loop-signature-test.true in
    let its = row_of t c.args.blob.now c.args.room.now.entries s.configuration indexed below.configuration in
    let told = subst (λ (file : List ℕ). c.in_ok-names.field-0 ≡ names_image file its.0 row) now.invariant.same.bytes
    (c.in_ok-names.ensures.told is_honest t (ap tree now.invariant.same.bytes ∙ is) there (total ∙ ap (λ (file : List ℕ). be32 file 4) (sym now.invariant.same.bytes)) its.0 its.1 row at) in
    let left = drop_more ss now.signature-index no_node c.loop-signature-test.true in
    let still = subst (λ (h : Held). IsIndexed t c.args.blob.now h.entries) (sym (c.names.ensures.room ∙ now.invariant.room)) indexed in
    covered_here d.bytes (table t) (name_in d.bytes row) s (drop (now.signature-index + 1) ss) (drop now.signature-index ss) _ its.0 left its.1 (now.invariant.left honest t is indexed total row at)
    c.name.result (sym c.if-branch.true ∙ told) (c.name.ensures.name its.0 (record { nodes = t; indexed = still; is = its.1 }))

pub loop-signature-preserved : goal.loop-signature-preserved
loop-signature-preserved g c =
    let now = c.loop-signature in
    record {
      same = record { bytes = c.names.ensures.uses.same.bytes ∙ now.invariant.same.bytes; honest = c.names.ensures.uses.same.honest ∙ now.invariant.same.honest };
      failures = c.in_ok-names.ensures.uses.failures ∙ now.invariant.failures;
      room = c.names.ensures.room ∙ now.invariant.room;
      asked = λ honest t is indexed total row at.
          let device = g.S.Source.device in
          let d = device c.args.source.now in
          let now = c.loop-signature in
          let ss = c.args.signatures.now in
          let s = slice_index_or ss now.signature-index no_node in
          let is_honest = subst (λ (b : Bool). IsTrue b) (sym now.invariant.same.honest) honest in
          let there = subst (λ (h : Held). IsIndexed t c.args.blob.now h.entries) (sym now.invariant.room) indexed in
          let below = c.requires.signatures now.signature-index no_node c.loop-signature-test.true in
          let its = row_of t c.args.blob.now c.args.room.now.entries s.configuration indexed below.configuration in
          let paid = subst (λ (file : List ℕ). (device c.names.new.source).asked ≤ (device now.source).asked + naming_cost (length its.0.own) (nops_met file)) now.invariant.same.bytes
          (c.names.ensures.asked is_honest t (ap tree now.invariant.same.bytes ∙ is) there (total ∙ ap (λ (file : List ℕ). be32 file 4) (sym now.invariant.same.bytes)) its.0 its.1) in
          let cost = cost_is d.bytes (table t) s its.0 its.1 in
          omega (arith, now.invariant.asked honest t is indexed total row at, paid, cost, sum_by_more (cost_of d.bytes (table t)) ss now.signature-index no_node c.loop-signature-test.true);
      left = λ honest t is indexed total row at.
          let device = g.S.Source.device in
          let d = device c.args.source.now in
          let now = c.loop-signature in
          let ss = c.args.signatures.now in
          let s = slice_index_or ss now.signature-index no_node in
          let is_honest = subst (λ (b : Bool). IsTrue b) (sym now.invariant.same.honest) honest in
          let there = subst (λ (h : Held). IsIndexed t c.args.blob.now h.entries) (sym now.invariant.room) indexed in
          let below = c.requires.signatures now.signature-index no_node c.loop-signature-test.true in
          let its = row_of t c.args.blob.now c.args.room.now.entries s.configuration indexed below.configuration in
          let told = subst (λ (file : List ℕ). c.in_ok-names.field-0 ≡ names_image file its.0 row) now.invariant.same.bytes
          (c.in_ok-names.ensures.told is_honest t (ap tree now.invariant.same.bytes ∙ is) there (total ∙ ap (λ (file : List ℕ). be32 file 4) (sym now.invariant.same.bytes)) its.0 its.1 row at) in
          let left = drop_more ss now.signature-index no_node c.loop-signature-test.true in
          covered_later d.bytes (table t) (name_in d.bytes row) s (drop (now.signature-index + 1) ss) (drop now.signature-index ss) _ its.0 left its.1 (now.invariant.left honest t is indexed total row at) (sym c.if-branch.false ∙ told);
    }

pub returns-clause-told : goal.returns-clause-told
returns-clause-told g c = λ honest t is indexed total row at.
    let d = g.S.Source.device c.args.source.now in
    let now = c.loop-signature in
    covered_none d.bytes (table t) (name_in d.bytes row) (drop now.signature-index c.args.signatures.now) _ (drop_end c.args.signatures.now now.signature-index (omega arith)) (now.invariant.left honest t is indexed total row at)
