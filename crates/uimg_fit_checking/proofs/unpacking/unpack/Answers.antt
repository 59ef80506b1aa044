use Rattle.std.proofs.Common.{rules, ◌≡◌, ◌≤◌, ◌+◌, ◌∙◌, ◌++◌, ℕ, List, Option, length, refl, ap, sym, subst, arith}
use Rattle.std.specs.Prelude.{Ok, Err}
use Rattle.std.specs.List.{sum_by}
use Rattle.uimg_fit_reading.specs.Nodes.{Opened}
use Rattle.uimg_fit_checking.specs.Unpacking.{Take, GivesBy, takes, which}
use Rattle.uimg_fit_checking.specs.UnpackingParts.{ClaimsImagesBetween, TakesAll, EndsAll, Fitting, take_allowance}
use Rattle.uimg_fit_reading.proofs.OpenedLaws.{still}
use Rattle.uimg_fit_checking.proofs.UnpackedLaws.{unpack_is, unpack_refused, unpack_overlaps, fitting, unpack_taken, unpack_stops, unpack_within, claims_is, claims_treeless, claims_by, claims_before_fault}
use Rattle.uimg_fit_checking.proofs.EndedLaws.{ends_refused, ends_overlapping, ends_taken, ends_stopped}
use Rattle.uimg_fit_checking.specs.declared.unpacking.node_names.NodeName.{NodeName}
use Rattle.uimg_fit_checking.specs.Claiming.{Claim}
use Rattle.uimg_fit_checking.proofs.unpacking.unpack.Goals as goal

pub returns-in_err-name-clause-takes : goal.returns-in_err-name-clause-takes
returns-in_err-name-clause-takes g c = record {
  uses = record {
    same = search rules;
    asked = λ honest.
        let d = g.S.Source.device in
        let file = (d c.args.source.now).bytes in
        let only = which c.args.only in
        let h = c.in_ok-blob.ensures.gives honest in
        let found = c.in_ok-first.ensures.told h.nodes h.read.indexed in
        let same = c.read_tree.ensures.inspects.uses.same in
        let opened : Opened (d c.args.source.now) c.in_ok-blob.blob c.read_tree.new.room h.nodes = record { honest = honest; read = h.read } in
        let here = still same refl opened in
        let claims = subst (λ (xs : List ℕ). ClaimsImagesBetween xs only found.found (d c.read_tree.new.source).asked (d c.claim_images.new.source).asked (Err c.in_err-name.field-0.0) g.T.Taker.notes (g.T.Taker.claimed c.args.taker.now) (g.T.Taker.claimed c.claim_images.new.taker)) same.bytes
        (c.in_err-name.ensures.told h.nodes here found.found found.from) in
        omega (arith, c.read_tree.ensures.inspects.uses.asked honest, claims.paid, unpack_within file h.nodes found.found h.read.is found.is);
    failures = search rules;
  };
  room = search rules;
  no_making = search rules;
}

pub returns-in_err-name-clause-told : goal.returns-in_err-name-clause-told
returns-in_err-name-clause-told g c = λ honest shelf.
    let d = g.S.Source.device in
    let file = (d c.args.source.now).bytes in
    let only = which c.args.only in
    let h = c.in_ok-blob.ensures.gives honest in
    let found = c.in_ok-first.ensures.told h.nodes h.read.indexed in
    let same = c.read_tree.ensures.inspects.uses.same in
    let opened : Opened (d c.args.source.now) c.in_ok-blob.blob c.read_tree.new.room h.nodes = record { honest = honest; read = h.read } in
    let here = still same refl opened in
    let claims = subst (λ (xs : List ℕ). ClaimsImagesBetween xs only found.found (d c.read_tree.new.source).asked (d c.claim_images.new.source).asked (Err c.in_err-name.field-0.0) g.T.Taker.notes (g.T.Taker.claimed c.args.taker.now) (g.T.Taker.claimed c.claim_images.new.taker)) same.bytes
    (c.in_err-name.ensures.told h.nodes here found.found found.from) in
    let is = unpack_is file h.nodes c.args.need only found.found h.read.is found.is in
    let fault = c.in_err-name.field-0.0 in
    let answer : c.from_residual-in_err-name.result ≡ Err fault = search rules in
    unpack_refused g.T.Taker.seen _ _ (takes c.args.need only file found.found) fault c.from_residual-in_err-name.result _ _ answer is claims.told (c.claim_images.ensures.none_given shelf)

pub returns-in-Some-clause-takes : goal.returns-in-Some-clause-takes
returns-in-Some-clause-takes g c = record {
  uses = record {
    same = search rules;
    asked = λ honest.
        let d = g.S.Source.device in
        let file = (d c.args.source.now).bytes in
        let only = which c.args.only in
        let h = c.in_ok-blob.ensures.gives honest in
        let found = c.in_ok-first.ensures.told h.nodes h.read.indexed in
        let same = c.read_tree.ensures.inspects.uses.same in
        let opened : Opened (d c.args.source.now) c.in_ok-blob.blob c.read_tree.new.room h.nodes = record { honest = honest; read = h.read } in
        let here = still same refl opened in
        let claims = subst (λ (xs : List ℕ). ClaimsImagesBetween xs only found.found (d c.read_tree.new.source).asked (d c.claim_images.new.source).asked (Ok c.in_ok-name.field-0) g.T.Taker.notes (g.T.Taker.claimed c.args.taker.now) (g.T.Taker.claimed c.claim_images.new.taker)) same.bytes
        (c.in_ok-name.ensures.told h.nodes here found.found found.from) in
        omega (arith, c.read_tree.ensures.inspects.uses.asked honest, claims.paid, unpack_within file h.nodes found.found h.read.is found.is);
    failures = search rules;
  };
  room = search rules;
  no_making = search rules;
}

pub returns-in-Some-clause-told : goal.returns-in-Some-clause-told
returns-in-Some-clause-told g c = λ honest shelf.
    let d = g.S.Source.device in
    let file = (d c.args.source.now).bytes in
    let only = which c.args.only in
    let h = c.in_ok-blob.ensures.gives honest in
    let found = c.in_ok-first.ensures.told h.nodes h.read.indexed in
    let same = c.read_tree.ensures.inspects.uses.same in
    let opened : Opened (d c.args.source.now) c.in_ok-blob.blob c.read_tree.new.room h.nodes = record { honest = honest; read = h.read } in
    let here = still same refl opened in
    let claims = subst (λ (xs : List ℕ). ClaimsImagesBetween xs only found.found (d c.read_tree.new.source).asked (d c.claim_images.new.source).asked (Ok c.in_ok-name.field-0) g.T.Taker.notes (g.T.Taker.claimed c.args.taker.now) (g.T.Taker.claimed c.claim_images.new.taker)) same.bytes
    (c.in_ok-name.ensures.told h.nodes here found.found found.from) in
    let is = unpack_is file h.nodes c.args.need only found.found h.read.is found.is in
    unpack_overlaps g.T.Taker.seen _ _ (takes c.args.need only file found.found) c.in-Some.name c.in_ok-name.field-0 _ _ is c.in-Some.is claims.told (c.claim_images.ensures.none_given shelf)

pub returns-in_err-all-clause-takes : goal.returns-in_err-all-clause-takes
returns-in_err-all-clause-takes g c = record {
  uses = record {
    same = search rules;
    asked = λ honest.
        let d = g.S.Source.device in
        let file = (d c.args.source.now).bytes in
        let only = which c.args.only in
        let h = c.in_ok-blob.ensures.gives honest in
        let found = c.in_ok-first.ensures.told h.nodes h.read.indexed in
        let same = c.read_tree.ensures.inspects.uses.same in
        let opened : Opened (d c.args.source.now) c.in_ok-blob.blob c.read_tree.new.room h.nodes = record { honest = honest; read = h.read } in
        let here = still same refl opened in
        let claims = subst (λ (xs : List ℕ). ClaimsImagesBetween xs only found.found (d c.read_tree.new.source).asked (d c.claim_images.new.source).asked (Ok c.in_ok-name.field-0) g.T.Taker.notes (g.T.Taker.claimed c.args.taker.now) (g.T.Taker.claimed c.claim_images.new.taker)) same.bytes
        (c.in_ok-name.ensures.told h.nodes here found.found found.from) in
        let fits = fitting _ c.in_ok-name.field-0 c.in_default.is claims.told in
        let there = still c.claim_images.ensures.leaves.uses.same c.claim_images.ensures.leaves.room here in
        let bytes = c.claim_images.ensures.leaves.uses.same.bytes ∙ same.bytes in
        let its = subst (λ (xs : List ℕ). Fitting only xs found.found ((d c.take_images.new.source).asked ≤ (d c.claim_images.new.source).asked + (length xs + sum_by take_allowance found.found))) bytes
        (c.take_images.ensures.paid h.nodes there found.found found.from) fits in
        omega (arith, c.read_tree.ensures.inspects.uses.asked honest, claims.paid, its, unpack_within file h.nodes found.found h.read.is found.is);
    failures = search rules;
  };
  room = search rules;
  no_making = search rules;
}

pub returns-in_err-all-clause-told : goal.returns-in_err-all-clause-told
returns-in_err-all-clause-told g c = λ honest shelf.
    let d = g.S.Source.device in
    let file = (d c.args.source.now).bytes in
    let only = which c.args.only in
    let h = c.in_ok-blob.ensures.gives honest in
    let found = c.in_ok-first.ensures.told h.nodes h.read.indexed in
    let same = c.read_tree.ensures.inspects.uses.same in
    let opened : Opened (d c.args.source.now) c.in_ok-blob.blob c.read_tree.new.room h.nodes = record { honest = honest; read = h.read } in
    let here = still same refl opened in
    let claims = subst (λ (xs : List ℕ). ClaimsImagesBetween xs only found.found (d c.read_tree.new.source).asked (d c.claim_images.new.source).asked (Ok c.in_ok-name.field-0) g.T.Taker.notes (g.T.Taker.claimed c.args.taker.now) (g.T.Taker.claimed c.claim_images.new.taker)) same.bytes
    (c.in_ok-name.ensures.told h.nodes here found.found found.from) in
    let fits = fitting _ c.in_ok-name.field-0 c.in_default.is claims.told in
    let there = still c.claim_images.ensures.leaves.uses.same c.claim_images.ensures.leaves.room here in
    let bytes = c.claim_images.ensures.leaves.uses.same.bytes ∙ same.bytes in
    let its = subst (λ (xs : List ℕ). Fitting only xs found.found ((d c.take_images.new.source).asked ≤ (d c.claim_images.new.source).asked + (length xs + sum_by take_allowance found.found))) bytes
    (c.take_images.ensures.paid h.nodes there found.found found.from) fits in
    let is = unpack_is file h.nodes c.args.need only found.found h.read.is found.is in
    let fault = c.in_err-all.field-0.0 in
    let answer : c.from_residual-in_err-all.result ≡ Err fault = search rules in
    let given = subst (λ (xs : List ℕ). Fitting only xs found.found (TakesAll g.T.Taker.seen (takes c.args.need only xs found.found) (Err fault) (g.T.Taker.takes c.claim_images.new.taker) (g.T.Taker.takes c.take_images.new.taker))) bytes
    (c.in_err-all.ensures.told shelf h.nodes there found.found found.from) fits in
    unpack_stops g.T.Taker.seen _ _ (takes c.args.need only file found.found) fault c.from_residual-in_err-all.result _ _ _ answer is fits (c.claim_images.ensures.none_given shelf) given

pub returns-clause-takes : goal.returns-clause-takes
returns-clause-takes g c = record {
  uses = record {
    same = search rules;
    asked = λ honest.
        let d = g.S.Source.device in
        let file = (d c.args.source.now).bytes in
        let only = which c.args.only in
        let h = c.in_ok-blob.ensures.gives honest in
        let found = c.in_ok-first.ensures.told h.nodes h.read.indexed in
        let same = c.read_tree.ensures.inspects.uses.same in
        let opened : Opened (d c.args.source.now) c.in_ok-blob.blob c.read_tree.new.room h.nodes = record { honest = honest; read = h.read } in
        let here = still same refl opened in
        let claims = subst (λ (xs : List ℕ). ClaimsImagesBetween xs only found.found (d c.read_tree.new.source).asked (d c.claim_images.new.source).asked (Ok c.in_ok-name.field-0) g.T.Taker.notes (g.T.Taker.claimed c.args.taker.now) (g.T.Taker.claimed c.claim_images.new.taker)) same.bytes
        (c.in_ok-name.ensures.told h.nodes here found.found found.from) in
        let fits = fitting _ c.in_ok-name.field-0 c.in_default.is claims.told in
        let there = still c.claim_images.ensures.leaves.uses.same c.claim_images.ensures.leaves.room here in
        let bytes = c.claim_images.ensures.leaves.uses.same.bytes ∙ same.bytes in
        let its = subst (λ (xs : List ℕ). Fitting only xs found.found ((d c.take_images.new.source).asked ≤ (d c.claim_images.new.source).asked + (length xs + sum_by take_allowance found.found))) bytes
        (c.take_images.ensures.paid h.nodes there found.found found.from) fits in
        omega (arith, c.read_tree.ensures.inspects.uses.asked honest, claims.paid, its, unpack_within file h.nodes found.found h.read.is found.is);
    failures = search rules;
  };
  room = search rules;
  no_making = search rules;
}

pub returns-clause-told : goal.returns-clause-told
returns-clause-told g c = λ honest shelf.
    let d = g.S.Source.device in
    let file = (d c.args.source.now).bytes in
    let only = which c.args.only in
    let h = c.in_ok-blob.ensures.gives honest in
    let found = c.in_ok-first.ensures.told h.nodes h.read.indexed in
    let same = c.read_tree.ensures.inspects.uses.same in
    let opened : Opened (d c.args.source.now) c.in_ok-blob.blob c.read_tree.new.room h.nodes = record { honest = honest; read = h.read } in
    let here = still same refl opened in
    let claims = subst (λ (xs : List ℕ). ClaimsImagesBetween xs only found.found (d c.read_tree.new.source).asked (d c.claim_images.new.source).asked (Ok c.in_ok-name.field-0) g.T.Taker.notes (g.T.Taker.claimed c.args.taker.now) (g.T.Taker.claimed c.claim_images.new.taker)) same.bytes
    (c.in_ok-name.ensures.told h.nodes here found.found found.from) in
    let fits = fitting _ c.in_ok-name.field-0 c.in_default.is claims.told in
    let there = still c.claim_images.ensures.leaves.uses.same c.claim_images.ensures.leaves.room here in
    let bytes = c.claim_images.ensures.leaves.uses.same.bytes ∙ same.bytes in
    let its = subst (λ (xs : List ℕ). Fitting only xs found.found ((d c.take_images.new.source).asked ≤ (d c.claim_images.new.source).asked + (length xs + sum_by take_allowance found.found))) bytes
    (c.take_images.ensures.paid h.nodes there found.found found.from) fits in
    let is = unpack_is file h.nodes c.args.need only found.found h.read.is found.is in
    let given = subst (λ (xs : List ℕ). Fitting only xs found.found (TakesAll g.T.Taker.seen (takes c.args.need only xs found.found) (Ok c.in_ok-all.all) (g.T.Taker.takes c.claim_images.new.taker) (g.T.Taker.takes c.take_images.new.taker))) bytes
    (c.in_ok-all.ensures.told shelf h.nodes there found.found found.from) fits in
    unpack_taken g.T.Taker.seen _ _ (takes c.args.need only file found.found) c.in_ok-all.all _ _ _ is fits (c.claim_images.ensures.none_given shelf) given

pub returns-in_err-blob-clause-claimed : goal.returns-in_err-blob-clause-claimed
returns-in_err-blob-clause-claimed g c = λ honest known.
    let fault = c.in_err-blob.field-0.0 in
    let is : c.from_residual.result ≡ Err fault = search rules in
    claims_treeless _ _ _ fault c.from_residual.result _ _ is (c.in_err-blob.ensures.gives honest)

pub returns-in_err-name-clause-claimed : goal.returns-in_err-name-clause-claimed
returns-in_err-name-clause-claimed g c = λ honest known.
    let d = g.S.Source.device in
    let file = (d c.args.source.now).bytes in
    let only = which c.args.only in
    let h = c.in_ok-blob.ensures.gives honest in
    let found = c.in_ok-first.ensures.told h.nodes h.read.indexed in
    let same = c.read_tree.ensures.inspects.uses.same in
    let opened : Opened (d c.args.source.now) c.in_ok-blob.blob c.read_tree.new.room h.nodes = record { honest = honest; read = h.read } in
    let here = still same refl opened in
    let claims = subst (λ (xs : List ℕ). ClaimsImagesBetween xs only found.found (d c.read_tree.new.source).asked (d c.claim_images.new.source).asked (Err c.in_err-name.field-0.0) g.T.Taker.notes (g.T.Taker.claimed c.args.taker.now) (g.T.Taker.claimed c.claim_images.new.taker)) same.bytes
    (c.in_err-name.ensures.told h.nodes here found.found found.from) in
    let named = claims_is file h.nodes only found.found h.read.is found.is in
    let fault = c.in_err-name.field-0.0 in
    let answer : c.from_residual-in_err-name.result ≡ Err fault = search rules in
    claims_by (Option NodeName) _ file only found.found fault c.from_residual-in_err-name.result _ _ _ answer named (claims.claimed known)

pub returns-in-Some-clause-claimed : goal.returns-in-Some-clause-claimed
returns-in-Some-clause-claimed g c = λ honest known.
    let d = g.S.Source.device in
    let file = (d c.args.source.now).bytes in
    let only = which c.args.only in
    let h = c.in_ok-blob.ensures.gives honest in
    let found = c.in_ok-first.ensures.told h.nodes h.read.indexed in
    let same = c.read_tree.ensures.inspects.uses.same in
    let opened : Opened (d c.args.source.now) c.in_ok-blob.blob c.read_tree.new.room h.nodes = record { honest = honest; read = h.read } in
    let here = still same refl opened in
    let claims = subst (λ (xs : List ℕ). ClaimsImagesBetween xs only found.found (d c.read_tree.new.source).asked (d c.claim_images.new.source).asked (Ok c.in_ok-name.field-0) g.T.Taker.notes (g.T.Taker.claimed c.args.taker.now) (g.T.Taker.claimed c.claim_images.new.taker)) same.bytes
    (c.in_ok-name.ensures.told h.nodes here found.found found.from) in
    let named = claims_is file h.nodes only found.found h.read.is found.is in
    claims.claimed known ∙ ap (λ (l : List Claim). g.T.Taker.claimed c.args.taker.now ++ l) (sym named)

pub returns-in_err-all-clause-claimed : goal.returns-in_err-all-clause-claimed
returns-in_err-all-clause-claimed g c = λ honest known.
    let d = g.S.Source.device in
    let file = (d c.args.source.now).bytes in
    let only = which c.args.only in
    let h = c.in_ok-blob.ensures.gives honest in
    let found = c.in_ok-first.ensures.told h.nodes h.read.indexed in
    let same = c.read_tree.ensures.inspects.uses.same in
    let opened : Opened (d c.args.source.now) c.in_ok-blob.blob c.read_tree.new.room h.nodes = record { honest = honest; read = h.read } in
    let here = still same refl opened in
    let claims = subst (λ (xs : List ℕ). ClaimsImagesBetween xs only found.found (d c.read_tree.new.source).asked (d c.claim_images.new.source).asked (Ok c.in_ok-name.field-0) g.T.Taker.notes (g.T.Taker.claimed c.args.taker.now) (g.T.Taker.claimed c.claim_images.new.taker)) same.bytes
    (c.in_ok-name.ensures.told h.nodes here found.found found.from) in
    let named = claims_is file h.nodes only found.found h.read.is found.is in
    let fits = fitting _ c.in_ok-name.field-0 c.in_default.is claims.told in
    let there = still c.claim_images.ensures.leaves.uses.same c.claim_images.ensures.leaves.room here in
    let bytes = c.claim_images.ensures.leaves.uses.same.bytes ∙ same.bytes in
    let fault = c.in_err-all.field-0.0 in
    let answer : c.from_residual-in_err-all.result ≡ Err fault = search rules in
    let ended = subst (λ (xs : List ℕ). Fitting only xs found.found (EndsAll (takes c.args.need only xs found.found) (Err fault) (g.T.Taker.begun c.claim_images.new.taker) (g.T.Taker.begun c.take_images.new.taker))) bytes
    (c.in_err-all.ensures.ended h.nodes there found.found found.from) fits in
    claims_before_fault _ fault c.from_residual-in_err-all.result _ _ (takes c.args.need only file found.found) _ _ _ _ _ answer named ended (claims.claimed known) (c.take_images.ensures.none_claimed known)

pub returns-clause-claimed : goal.returns-clause-claimed
returns-clause-claimed g c = λ honest known.
    let d = g.S.Source.device in
    let file = (d c.args.source.now).bytes in
    let only = which c.args.only in
    let h = c.in_ok-blob.ensures.gives honest in
    let found = c.in_ok-first.ensures.told h.nodes h.read.indexed in
    let same = c.read_tree.ensures.inspects.uses.same in
    let opened : Opened (d c.args.source.now) c.in_ok-blob.blob c.read_tree.new.room h.nodes = record { honest = honest; read = h.read } in
    let here = still same refl opened in
    let claims = subst (λ (xs : List ℕ). ClaimsImagesBetween xs only found.found (d c.read_tree.new.source).asked (d c.claim_images.new.source).asked (Ok c.in_ok-name.field-0) g.T.Taker.notes (g.T.Taker.claimed c.args.taker.now) (g.T.Taker.claimed c.claim_images.new.taker)) same.bytes
    (c.in_ok-name.ensures.told h.nodes here found.found found.from) in
    let named = claims_is file h.nodes only found.found h.read.is found.is in
    c.take_images.ensures.none_claimed known ∙ claims.claimed known ∙ ap (λ (l : List Claim). g.T.Taker.claimed c.args.taker.now ++ l) (sym named)

pub returns-in_err-name-clause-ended : goal.returns-in_err-name-clause-ended
returns-in_err-name-clause-ended g c = λ honest.
    let d = g.S.Source.device in
    let file = (d c.args.source.now).bytes in
    let only = which c.args.only in
    let h = c.in_ok-blob.ensures.gives honest in
    let found = c.in_ok-first.ensures.told h.nodes h.read.indexed in
    let same = c.read_tree.ensures.inspects.uses.same in
    let opened : Opened (d c.args.source.now) c.in_ok-blob.blob c.read_tree.new.room h.nodes = record { honest = honest; read = h.read } in
    let here = still same refl opened in
    let claims = subst (λ (xs : List ℕ). ClaimsImagesBetween xs only found.found (d c.read_tree.new.source).asked (d c.claim_images.new.source).asked (Err c.in_err-name.field-0.0) g.T.Taker.notes (g.T.Taker.claimed c.args.taker.now) (g.T.Taker.claimed c.claim_images.new.taker)) same.bytes
    (c.in_err-name.ensures.told h.nodes here found.found found.from) in
    let is = unpack_is file h.nodes c.args.need only found.found h.read.is found.is in
    let fault = c.in_err-name.field-0.0 in
    let answer : c.from_residual-in_err-name.result ≡ Err fault = search rules in
    ends_refused _ _ (takes c.args.need only file found.found) fault c.from_residual-in_err-name.result _ _ answer is claims.told c.claim_images.ensures.none_begun

pub returns-in-Some-clause-ended : goal.returns-in-Some-clause-ended
returns-in-Some-clause-ended g c = λ honest.
    let d = g.S.Source.device in
    let file = (d c.args.source.now).bytes in
    let only = which c.args.only in
    let h = c.in_ok-blob.ensures.gives honest in
    let found = c.in_ok-first.ensures.told h.nodes h.read.indexed in
    let same = c.read_tree.ensures.inspects.uses.same in
    let opened : Opened (d c.args.source.now) c.in_ok-blob.blob c.read_tree.new.room h.nodes = record { honest = honest; read = h.read } in
    let here = still same refl opened in
    let claims = subst (λ (xs : List ℕ). ClaimsImagesBetween xs only found.found (d c.read_tree.new.source).asked (d c.claim_images.new.source).asked (Ok c.in_ok-name.field-0) g.T.Taker.notes (g.T.Taker.claimed c.args.taker.now) (g.T.Taker.claimed c.claim_images.new.taker)) same.bytes
    (c.in_ok-name.ensures.told h.nodes here found.found found.from) in
    let is = unpack_is file h.nodes c.args.need only found.found h.read.is found.is in
    ends_overlapping _ _ (takes c.args.need only file found.found) c.in-Some.name c.in_ok-name.field-0 _ _ is c.in-Some.is claims.told c.claim_images.ensures.none_begun

pub returns-in_err-all-clause-ended : goal.returns-in_err-all-clause-ended
returns-in_err-all-clause-ended g c = λ honest.
    let d = g.S.Source.device in
    let file = (d c.args.source.now).bytes in
    let only = which c.args.only in
    let h = c.in_ok-blob.ensures.gives honest in
    let found = c.in_ok-first.ensures.told h.nodes h.read.indexed in
    let same = c.read_tree.ensures.inspects.uses.same in
    let opened : Opened (d c.args.source.now) c.in_ok-blob.blob c.read_tree.new.room h.nodes = record { honest = honest; read = h.read } in
    let here = still same refl opened in
    let claims = subst (λ (xs : List ℕ). ClaimsImagesBetween xs only found.found (d c.read_tree.new.source).asked (d c.claim_images.new.source).asked (Ok c.in_ok-name.field-0) g.T.Taker.notes (g.T.Taker.claimed c.args.taker.now) (g.T.Taker.claimed c.claim_images.new.taker)) same.bytes
    (c.in_ok-name.ensures.told h.nodes here found.found found.from) in
    let fits = fitting _ c.in_ok-name.field-0 c.in_default.is claims.told in
    let there = still c.claim_images.ensures.leaves.uses.same c.claim_images.ensures.leaves.room here in
    let bytes = c.claim_images.ensures.leaves.uses.same.bytes ∙ same.bytes in
    let is = unpack_is file h.nodes c.args.need only found.found h.read.is found.is in
    let fault = c.in_err-all.field-0.0 in
    let answer : c.from_residual-in_err-all.result ≡ Err fault = search rules in
    let ended = subst (λ (xs : List ℕ). Fitting only xs found.found (EndsAll (takes c.args.need only xs found.found) (Err fault) (g.T.Taker.begun c.claim_images.new.taker) (g.T.Taker.begun c.take_images.new.taker))) bytes
    (c.in_err-all.ensures.ended h.nodes there found.found found.from) fits in
    ends_stopped _ (takes c.args.need only file found.found) fault c.from_residual-in_err-all.result _ _ _ answer ended

pub returns-clause-ended : goal.returns-clause-ended
returns-clause-ended g c = λ honest.
    let d = g.S.Source.device in
    let file = (d c.args.source.now).bytes in
    let only = which c.args.only in
    let h = c.in_ok-blob.ensures.gives honest in
    let found = c.in_ok-first.ensures.told h.nodes h.read.indexed in
    let same = c.read_tree.ensures.inspects.uses.same in
    let opened : Opened (d c.args.source.now) c.in_ok-blob.blob c.read_tree.new.room h.nodes = record { honest = honest; read = h.read } in
    let here = still same refl opened in
    let claims = subst (λ (xs : List ℕ). ClaimsImagesBetween xs only found.found (d c.read_tree.new.source).asked (d c.claim_images.new.source).asked (Ok c.in_ok-name.field-0) g.T.Taker.notes (g.T.Taker.claimed c.args.taker.now) (g.T.Taker.claimed c.claim_images.new.taker)) same.bytes
    (c.in_ok-name.ensures.told h.nodes here found.found found.from) in
    let fits = fitting _ c.in_ok-name.field-0 c.in_default.is claims.told in
    let there = still c.claim_images.ensures.leaves.uses.same c.claim_images.ensures.leaves.room here in
    let bytes = c.claim_images.ensures.leaves.uses.same.bytes ∙ same.bytes in
    let is = unpack_is file h.nodes c.args.need only found.found h.read.is found.is in
    let ended = subst (λ (xs : List ℕ). Fitting only xs found.found (EndsAll (takes c.args.need only xs found.found) (Ok c.in_ok-all.all) (g.T.Taker.begun c.claim_images.new.taker) (g.T.Taker.begun c.take_images.new.taker))) bytes
    (c.in_ok-all.ensures.ended h.nodes there found.found found.from) fits in
    ends_taken _ _ (takes c.args.need only file found.found) c.in_ok-all.all _ _ _ is fits c.claim_images.ensures.none_begun ended

pub returns-in-Some-clause-given : goal.returns-in-Some-clause-given
returns-in-Some-clause-given g c = λ honest. c.claim_images.ensures.none_given honest

pub returns-clause-given : goal.returns-clause-given
returns-clause-given g c = λ honest.
    subst (λ (l : List Take). GivesBy g.T.Taker.seen c.in_ok-all.all l (g.T.Taker.takes c.take_images.new.taker)) (c.claim_images.ensures.none_given honest) (c.in_ok-all.ensures.given honest)
