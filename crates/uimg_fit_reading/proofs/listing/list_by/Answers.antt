use Rattle.std.proofs.Common.{rules, ◌≤◌, ◌+◌, ◌++◌, ℕ, List, length, Option, Bool, refl, IsTrue, codes, ap, sym, ◌∙◌, subst, arith}
use Rattle.std.{specs.Option.option_and_then, proofs.lemmas.Result.err_from_is_err_and}
use Rattle.uimg_base.{specs.Held.Held, proofs.{SinkLaws.prefix_first, OutcomeLaws.Tells-after}}
use Rattle.uimg_base.specs.{Outcome.{End, Outcome, Tells}, Sink.{AppendsAll, AppendsPrefix}}
use Rattle.uimg_blob_reading.specs.{LookUps.images, Spots.spots}
use Rattle.uimg_fit_base.specs.{declared.fault.Fault.Fault, Faults.end_of}
use Rattle.uimg_fit_base.specs.Files.{number, bytes_in, number_in, root_own}
use Rattle.uimg_fit_reading.specs.{Heads.{description_line, created_line}, Nodes.HasTree}
use Rattle.uimg_fit_reading.specs.{Listing.{lists, list_of, head_lines}, Work.list_work}
use Rattle.uimg_fit_reading.proofs.{ListingLaws.{head_is, list_is}, SharesLaws.{one_text, always_text}}
use Rattle.uimg_fit_reading.proofs.TellingLaws.{read_same}
use Rattle.uimg_fit_reading.proofs.WithinLaws.{no_end, paid, read_size, root_allowed, body_allowed}
use Rattle.uimg_fit_reading.proofs.listing.list_by.Goals as goal

pub returns-in_err-put_head-clause-delivers : goal.returns-in_err-put_head-clause-delivers
returns-in_err-put_head-clause-delivers g c = record {
  uses = record {
    same = search rules;
    failures = search rules;
    asked = λ honest.
        let d = g.S.Source.device c.args.source.now in
        let file = d.bytes in
        let h : HasTree file c.in_ok-blob.blob c.read_tree.new.room.entries = c.in_ok-blob.ensures.gives honest in
        let t = h.nodes in
        let own = root_own (spots t) in
        let text = c.root_value-description.ensures.bytes file t h.read in
        let size = read_size file own (codes "description") c.root_value-description.result (c.root_value-description.ensures.inside (length file) c.in_ok-blob.ensures.inside) text in
        let few = one_text c.args.naming own (codes "description") (always_text c.args.naming (codes "description") refl) in
        omega (arith, c.read_tree.ensures.inspects.uses.asked honest, c.cell.ensures.uses.asked, c.put_head.ensures.uses.asked, size, few, root_allowed c.args.naming (spots t), paid c.args.naming file t h.read.is);
  };
  room = search rules;
  faults = search rules;
  no_making = search rules;
}

pub returns-in_err-put_head-clause-told : goal.returns-in_err-put_head-clause-told
returns-in_err-put_head-clause-told g c = λ honest.
    let d = g.S.Source.device c.args.source.now in
    let file = d.bytes in
    let h : HasTree file c.in_ok-blob.blob c.read_tree.new.room.entries = c.in_ok-blob.ensures.gives honest in
    let t = h.nodes in
    let own = root_own (spots t) in
    let text = c.root_value-description.ensures.bytes file t h.read in
    let first = c.read_tree.ensures.inspects.uses.same in
    let second = c.cell.ensures.uses.same in
    let now = subst (λ (b : Bool). IsTrue b) (sym first.honest) honest in
    let time = c.in_ok-time.ensures.number now ∙ ap (λ (w : List ℕ). number_in w c.root_value.result) first.bytes
    ∙ ap (λ (o : Option (List ℕ)). option_and_then number o) (sym (c.root_value.ensures.bytes file t h.read)) in
    let after_cell = second.bytes ∙ first.bytes in
    let honest_then = subst (λ (b : Bool). IsTrue b) (sym (second.honest ∙ first.honest)) honest in
    let p = err_from_is_err_and c.from_residual-in_err-put_head.result c.from_residual-in_err-put_head.ensures.1 in
    let ends = no_end c.from_residual-in_err-put_head.result p.0 _ p.1 p.2 in
    let same = ap (λ (w : List ℕ). description_line (bytes_in w c.root_value-description.result) ++ created_line c.in_ok-time.time) after_cell ∙ head_is own c.in_ok-time.time (bytes_in file c.root_value-description.result) time text in
    let prefix = subst (λ (w : List ℕ). AppendsPrefix c.args.out.now c.put_head.new.out w) same (c.in_err-put_head.ensures.told honest_then).prefix in
    subst (λ (e : Option (End Fault)). Tells e (list_of c.args.naming file) c.args.out.now c.put_head.new.out) (sym ends)
    (subst (λ (o : Outcome Fault). AppendsPrefix c.args.out.now c.put_head.new.out o.text) (sym (list_is c.args.naming file t h.read.is))
    (prefix_first c.args.out.now c.put_head.new.out (head_lines own) (lists c.args.naming file (spots t) (images (spots t))).text prefix))

pub returns-clause-delivers : goal.returns-clause-delivers
returns-clause-delivers g c = record {
  uses = record {
    same = search rules;
    failures = search rules;
    asked =
        let d = g.S.Source.device c.args.source.now in
        let paid : IsTrue d.honest → (g.S.Source.device c.list_body.new.fit.source.now).asked ≤ d.asked + list_work c.args.naming d.bytes = λ honest.
        let file = d.bytes in
        let h : HasTree file c.in_ok-blob.blob c.read_tree.new.room.entries = c.in_ok-blob.ensures.gives honest in
        let t = h.nodes in
        let own = root_own (spots t) in
        let text = c.root_value-description.ensures.bytes file t h.read in
        let size = read_size file own (codes "description") c.root_value-description.result (c.root_value-description.ensures.inside (length file) c.in_ok-blob.ensures.inside) text in
        let few = one_text c.args.naming own (codes "description") (always_text c.args.naming (codes "description") refl) in
        let first = c.read_tree.ensures.inspects.uses.same in
        let second = c.cell.ensures.uses.same in
        let now = subst (λ (b : Bool). IsTrue b) (sym first.honest) honest in
        let time = c.in_ok-time.ensures.number now ∙ ap (λ (w : List ℕ). number_in w c.root_value.result) first.bytes
        ∙ ap (λ (o : Option (List ℕ)). option_and_then number o) (sym (c.root_value.ensures.bytes file t h.read)) in
        let after_cell = second.bytes ∙ first.bytes in
        let honest_then = subst (λ (b : Bool). IsTrue b) (sym (second.honest ∙ first.honest)) honest in
        let third = c.put_head.ensures.uses.same in
        let after_head = third.bytes ∙ after_cell in
        let honest_last = subst (λ (b : Bool). IsTrue b) (sym (third.honest ∙ second.honest ∙ first.honest)) honest in
        let read = read_same file (g.S.Source.device c.put_head.new.source).bytes c.in_ok-blob.blob _ c.put_head.new.room.entries t after_head (ap (λ (r : Held). r.entries) c.put_head.ensures.room) h.read in
        let e = end_of c.list_body.result in
        let body = c.list_body.ensures.told t (record { honest = honest_last; read = read }) time in
        omega (arith, c.read_tree.ensures.inspects.uses.asked honest, c.cell.ensures.uses.asked, c.put_head.ensures.uses.asked, body.asked, size, few, body_allowed c.args.naming (spots t), paid c.args.naming file t h.read.is) in
        search rules;
  };
  room = search rules;
  faults = search rules;
  no_making = search rules;
}

pub returns-clause-told : goal.returns-clause-told
returns-clause-told g c = λ honest.
    let d = g.S.Source.device c.args.source.now in
    let file = d.bytes in
    let h : HasTree file c.in_ok-blob.blob c.read_tree.new.room.entries = c.in_ok-blob.ensures.gives honest in
    let t = h.nodes in
    let own = root_own (spots t) in
    let text = c.root_value-description.ensures.bytes file t h.read in
    let first = c.read_tree.ensures.inspects.uses.same in
    let second = c.cell.ensures.uses.same in
    let now = subst (λ (b : Bool). IsTrue b) (sym first.honest) honest in
    let time = c.in_ok-time.ensures.number now ∙ ap (λ (w : List ℕ). number_in w c.root_value.result) first.bytes
    ∙ ap (λ (o : Option (List ℕ)). option_and_then number o) (sym (c.root_value.ensures.bytes file t h.read)) in
    let after_cell = second.bytes ∙ first.bytes in
    let honest_then = subst (λ (b : Bool). IsTrue b) (sym (second.honest ∙ first.honest)) honest in
    let third = c.put_head.ensures.uses.same in
    let after_head = third.bytes ∙ after_cell in
    let honest_last = subst (λ (b : Bool). IsTrue b) (sym (third.honest ∙ second.honest ∙ first.honest)) honest in
    let read = read_same file (g.S.Source.device c.put_head.new.source).bytes c.in_ok-blob.blob _ c.put_head.new.room.entries t after_head (ap (λ (r : Held). r.entries) c.put_head.ensures.room) h.read in
    let e = end_of c.list_body.result in
    let body = c.list_body.ensures.told t (record { honest = honest_last; read = read }) time in
    let same = ap (λ (w : List ℕ). description_line (bytes_in w c.root_value-description.result) ++ created_line c.in_ok-time.time) after_cell ∙ head_is own c.in_ok-time.time (bytes_in file c.root_value-description.result) time text in
    let all = subst (λ (w : List ℕ). AppendsAll c.args.out.now c.put_head.new.out w) same (c.in_ok-put_head.ensures.told honest_then).all in
    let rest = subst (λ (w : List ℕ). Tells e (lists c.args.naming w (spots t) (images (spots t))) c.put_head.new.out c.list_body.new.out) after_head body.told in
    subst (λ (o : Outcome Fault). Tells e o c.args.out.now c.list_body.new.out) (sym (list_is c.args.naming file t h.read.is))
    (Tells-after e (lists c.args.naming file (spots t) (images (spots t))) c.args.out.now c.put_head.new.out c.list_body.new.out (head_lines own) all rest)
