use Rattle.std.proofs.Common.{rules, ◌≤◌, ◌+◌, ◌∙◌, sym, ap, subst, Bool, IsTrue, length, refl, arith}
use Rattle.uimg_base.specs.Held.{Held}
use Rattle.uimg_blob_reading.specs.{Blob.blocks, Counts.{index_cost, nodes_met}, Passes.tokens_in}
use Rattle.uimg_blob_reading.proofs.KeyLaws.{passed_on}
use Rattle.uimg_blob_reading.proofs.IndexLaws.{header_err, indexed_err, tree_is, within_cost, prefix_file, prefix_header, so_far_header, so_far_file, finds}
use Rattle.uimg_blob_reading.proofs.indexing.index.Goals as goal

pub returns-in_err-extent-clause-indexes : goal.returns-in_err-extent-clause-indexes
returns-in_err-extent-clause-indexes g c = λ honest.
    header_err (g.S.Source.device c.args.source.now).bytes c.in_err-extent.field-0.0 c.from_residual.result c.clear.new.self.entries
    (passed_on _ c.in_err-extent.field-0.0 c.from_residual.ensures.1) (c.in_err-extent.ensures.gives honest)

pub returns-in_err-extent-clause-prefix : goal.returns-in_err-extent-clause-prefix
returns-in_err-extent-clause-prefix g c = λ honest.
    prefix_header (tokens_in (blocks (g.S.Source.device c.args.source.now).bytes)) c.in_err-extent.field-0.0 c.from_residual.result c.read_extent.result c.clear.new.self.entries
    (passed_on _ c.in_err-extent.field-0.0 c.from_residual.ensures.1) c.in_err-extent.was c.read_extent.ensures.no_memory

pub returns-in_err-extent-clause-so_far : goal.returns-in_err-extent-clause-so_far
returns-in_err-extent-clause-so_far g c = λ honest.
    so_far_header (g.S.Source.device c.args.source.now).bytes c.in_err-extent.field-0.0 c.from_residual.result c.clear.new.self.entries
    (passed_on _ c.in_err-extent.field-0.0 c.from_residual.ensures.1) (c.in_err-extent.ensures.gives honest) (ap (λ (h : Held). h.entries) c.clear.ensures)

pub returns-in_err-state-clause-indexes : goal.returns-in_err-state-clause-indexes
returns-in_err-state-clause-indexes g c =
    indexed_err _ _ c.in_ok-extent.extent c.in_err-state.field-0.0 c.pass.result c.from_residual-in_err-state.result c.pass.new.room.entries c.read_extent.ensures.uses.same c.in_ok-extent.ensures.gives
    c.in_err-state.was (passed_on _ c.in_err-state.field-0.0 c.from_residual-in_err-state.ensures.1) c.pass.ensures.indexes

pub returns-in_err-state-clause-prefix : goal.returns-in_err-state-clause-prefix
returns-in_err-state-clause-prefix g c =
    prefix_file _ _ c.in_ok-extent.extent c.in_err-state.field-0.0 c.pass.result c.from_residual-in_err-state.result c.pass.new.room.entries c.read_extent.ensures.uses.same c.in_ok-extent.ensures.gives
    c.in_err-state.was (passed_on _ c.in_err-state.field-0.0 c.from_residual-in_err-state.ensures.1) c.pass.ensures.prefix

pub returns-in_err-state-clause-so_far : goal.returns-in_err-state-clause-so_far
returns-in_err-state-clause-so_far g c =
    so_far_file _ _ c.in_ok-extent.extent c.in_err-state.field-0.0 c.from_residual-in_err-state.result c.pass.new.room.entries c.read_extent.ensures.uses.same c.in_ok-extent.ensures.gives
    (passed_on _ c.in_err-state.field-0.0 c.from_residual-in_err-state.ensures.1) c.in_err-state.ensures.stops

pub returns-in_err-state-clause-uses : goal.returns-in_err-state-clause-uses
returns-in_err-state-clause-uses g c = record {
  same = search rules;
  asked = λ honest.
      let w : (g.S.Source.device c.pass.new.source).asked + 40 ≤ (g.S.Source.device c.read_extent.new.source).asked + index_cost (g.S.Source.device c.args.source.now).bytes =
      (within_cost _ _ c.in_ok-extent.extent _ _ c.read_extent.ensures.uses.same c.in_ok-extent.ensures.gives c.pass.ensures.within honest).0 in
      omega (arith, w, c.read_extent.ensures.uses.asked);
  failures = search rules;
}

pub returns-in_err-state-clause-nodes : goal.returns-in_err-state-clause-nodes
returns-in_err-state-clause-nodes g c = λ honest.
    (within_cost _ _ c.in_ok-extent.extent _ _ c.read_extent.ensures.uses.same c.in_ok-extent.ensures.gives c.pass.ensures.within honest).1

pub returns-in_err-state-clause-room : goal.returns-in_err-state-clause-room
returns-in_err-state-clause-room g c = record {
  refused = search rules;
  peak = λ honest.
      let w : length c.pass.new.room.entries ≤ nodes_met (g.S.Source.device c.args.source.now).bytes =
      (within_cost _ _ c.in_ok-extent.extent _ _ c.read_extent.ensures.uses.same c.in_ok-extent.ensures.gives c.pass.ensures.within honest).1 in
      omega (arith, w, c.pass.ensures.room.peak, ap (λ (h : Held). h.peak) c.clear.ensures);
  most = search rules;
}

pub returns-clause-indexes : goal.returns-clause-indexes
returns-clause-indexes g c = λ honest.
    let t = c.in_ok-state.ensures.indexes (subst (λ (b : Bool). IsTrue b) (sym c.read_extent.ensures.uses.same.honest) honest) in
    (t.0, sym (tree_is _ _ c.in_ok-extent.extent (c.in_ok-extent.ensures.gives honest).0 c.read_extent.ensures.uses.same.bytes) ∙ t.1, t.2)

pub returns-clause-uses : goal.returns-clause-uses
returns-clause-uses g c = record {
  same = search rules;
  asked = λ honest.
      let w : (g.S.Source.device c.pass.new.source).asked + 40 ≤ (g.S.Source.device c.read_extent.new.source).asked + index_cost (g.S.Source.device c.args.source.now).bytes =
      (within_cost _ _ c.in_ok-extent.extent _ _ c.read_extent.ensures.uses.same c.in_ok-extent.ensures.gives c.pass.ensures.within honest).0 in
      omega (arith, w, c.read_extent.ensures.uses.asked);
  failures = search rules;
}

pub returns-clause-nodes : goal.returns-clause-nodes
returns-clause-nodes g c = λ honest.
    (within_cost _ _ c.in_ok-extent.extent _ _ c.read_extent.ensures.uses.same c.in_ok-extent.ensures.gives c.pass.ensures.within honest).1

pub returns-clause-room : goal.returns-clause-room
returns-clause-room g c = record {
  refused = search rules;
  peak = λ honest.
      let w : length c.pass.new.room.entries ≤ nodes_met (g.S.Source.device c.args.source.now).bytes =
      (within_cost _ _ c.in_ok-extent.extent _ _ c.read_extent.ensures.uses.same c.in_ok-extent.ensures.gives c.pass.ensures.within honest).1 in
      omega (arith, w, c.pass.ensures.room.peak, ap (λ (h : Held). h.peak) c.clear.ensures);
  most = search rules;
}

pub returns-clause-found : goal.returns-clause-found
returns-clause-found g c =
    finds _ _ c.in_ok-extent.extent c.in_ok-state.state c.pass.new.room.entries c.in_ok-extent.extent.totalsize
    c.read_extent.ensures.uses.same c.in_ok-extent.ensures.gives c.in_ok-extent.ensures.inside refl c.in_ok-state.ensures.passed
