use Rattle.std.proofs.Common.{rules, ◌≡◌, ◌∙◌, ℕ, List, Option, None, true, false, refl, ap, subst, sym, arith}
use Rattle.std.specs.Prelude.{Ok, Err}
use Rattle.std.specs.Option.{option_map}
use Rattle.uimg_texts.specs.Slices.{slice}
use Rattle.uimg_base.specs.Sink.{Sink}
use Rattle.uimg_base.specs.declared.ranges.MoveFault.TheVariants as move
use Rattle.uimg_blob_reading.specs.LookUps.{hashes}
use Rattle.uimg_fit_base.specs.Faults.{of_move}
use Rattle.uimg_fit_base.specs.declared.fault.Fault.TheVariants as of
use Rattle.uimg_fit_checking.specs.declared.unpacking.taker.Refusal.{Refusal}
use Rattle.uimg_fit_checking.specs.Checks.{wrong_in, or_weak}
use Rattle.uimg_fit_checking.specs.Unpacking.{kept, refused, as_bytes, take_of, told_of, is_kept}
use Rattle.uimg_fit_reading.specs.Values.{in_span}
use Rattle.uimg_fit_reading.proofs.OpenedLaws.{still}
use Rattle.uimg_fit_checking.proofs.TakeLaws.{filled_by, kept_is, refused_is, given_none, given_one, perhaps_one}
use Rattle.uimg_fit_checking.proofs.EndedLaws.{is_right, is_wrong, gives_one}
use Rattle.uimg_fit_checking.proofs.unpacking.takes.take_requested.Goals as goal

pub returns-in_err-set-clause-paid : goal.returns-in_err-set-clause-paid
returns-in_err-set-clause-paid g c = λ t o found n.
    let at = c.first_hash-first.ensures.hashes t o.read.indexed found n in
    omega (arith, (c.in_err-set.ensures.found t o (hashes found) at).paid)

pub returns-in_err-digests-clause-paid : goal.returns-in_err-digests-clause-paid
returns-in_err-digests-clause-paid g c = λ t o found n.
    let at = c.first_hash-first.ensures.hashes t o.read.indexed found n in
    let algos = c.in_ok-set.ensures.found t o (hashes found) at in
    omega (arith, algos.paid, c.take_payload.ensures.uses.asked)

pub returns-in_err-refuse-clause-paid : goal.returns-in_err-refuse-clause-paid
returns-in_err-refuse-clause-paid g c = λ t o found n.
    let at = c.first_hash-first.ensures.hashes t o.read.indexed found n in
    let algos = c.in_ok-set.ensures.found t o (hashes found) at in
    let same = c.compared_algos.ensures.uses.same in
    let taken = c.in_ok-digests.ensures.taken in
    let there = still c.take_payload.ensures.uses.same c.take_payload.ensures.room (still same refl o) in
    let its = c.in_ok-refusal.ensures.told t there found n taken.message taken.digests (taken.set ∙ algos.algos) in
    omega (arith, algos.paid, c.take_payload.ensures.uses.asked, its.paid)

pub returns-in-Some-clause-paid : goal.returns-in-Some-clause-paid
returns-in-Some-clause-paid g c = λ t o found n.
    let at = c.first_hash-first.ensures.hashes t o.read.indexed found n in
    let algos = c.in_ok-set.ensures.found t o (hashes found) at in
    let same = c.compared_algos.ensures.uses.same in
    let taken = c.in_ok-digests.ensures.taken in
    let there = still c.take_payload.ensures.uses.same c.take_payload.ensures.room (still same refl o) in
    let its = c.in_ok-refusal.ensures.told t there found n taken.message taken.digests (taken.set ∙ algos.algos) in
    omega (arith, algos.paid, c.take_payload.ensures.uses.asked, its.paid)

pub returns-in_err-keep-clause-paid : goal.returns-in_err-keep-clause-paid
returns-in_err-keep-clause-paid g c = λ t o found n.
    let at = c.first_hash-first.ensures.hashes t o.read.indexed found n in
    let algos = c.in_ok-set.ensures.found t o (hashes found) at in
    let same = c.compared_algos.ensures.uses.same in
    let taken = c.in_ok-digests.ensures.taken in
    let there = still c.take_payload.ensures.uses.same c.take_payload.ensures.room (still same refl o) in
    let its = c.in_ok-refusal.ensures.told t there found n taken.message taken.digests (taken.set ∙ algos.algos) in
    omega (arith, algos.paid, c.take_payload.ensures.uses.asked, its.paid)

pub returns-clause-paid : goal.returns-clause-paid
returns-clause-paid g c = λ t o found n.
    let at = c.first_hash-first.ensures.hashes t o.read.indexed found n in
    let algos = c.in_ok-set.ensures.found t o (hashes found) at in
    let same = c.compared_algos.ensures.uses.same in
    let taken = c.in_ok-digests.ensures.taken in
    let there = still c.take_payload.ensures.uses.same c.take_payload.ensures.room (still same refl o) in
    let its = c.in_ok-refusal.ensures.told t there found n taken.message taken.digests (taken.set ∙ algos.algos) in
    omega (arith, algos.paid, c.take_payload.ensures.uses.asked, its.paid)

pub returns-in_err-shelf-clause-told : goal.returns-in_err-shelf-clause-told
returns-in_err-shelf-clause-told g c = λ honest t o found n named message is.
    let failed : c.from_residual.result ≡ Err of.Put = search rules in
    given_none g.T.Taker.seen _ move.Put c.from_residual.result _ _ _ failed (c.in_err-shelf.ensures.same honest)

pub returns-in_err-digests-clause-told : goal.returns-in_err-digests-clause-told
returns-in_err-digests-clause-told g c = λ honest t o found n named message is.
    let fault = c.in_err-digests.field-0.0 in
    let failed : c.from_residual-in_err-digests.result ≡ Err (of_move fault) = search rules in
    given_none g.T.Taker.seen _ fault c.from_residual-in_err-digests.result _ _ _ failed (c.in_ok-shelf.ensures.same honest)

pub returns-in_err-refuse-clause-told : goal.returns-in_err-refuse-clause-told
returns-in_err-refuse-clause-told g c = λ honest t o found n named message is.
    let at = c.first_hash-first.ensures.hashes t o.read.indexed found n in
    let algos = c.in_ok-set.ensures.found t o (hashes found) at in
    let same = c.compared_algos.ensures.uses.same in
    let taken = c.in_ok-digests.ensures.taken in
    let there = still c.take_payload.ensures.uses.same c.take_payload.ensures.room (still same refl o) in
    let its = c.in_ok-refusal.ensures.told t there found n taken.message taken.digests (taken.set ∙ algos.algos) in
    let read = subst (λ (xs : List ℕ). taken.message ≡ slice xs c.args.payload.span.place c.args.payload.span.length) same.bytes (taken.right (still same refl o).honest) in
    let whole : taken.message ≡ message = read ∙ sym is in
    let wrong = ap (λ (x : Option Refusal). option_map (told_of found.name) x) (sym c.in-Some.is) ∙ its.told in
    let name = as_bytes c.args.payload.name in
    let one = refused name (told_of name c.in-Some.refusal) in
    let its_own = refused_is c.args.need found taken.message name c.in-Some.refusal named wrong ∙ ap (λ (xs : List ℕ). take_of c.args.need found xs) whole in
    let failed : c.from_residual-in_err-refuse.result ≡ Err of.Put = search rules in
    perhaps_one g.T.Taker.seen one _ c.from_residual-in_err-refuse.result _ _ _ _ failed its_own (c.in_ok-shelf.ensures.same honest) (c.in_err-refuse.ensures.given honest)

pub returns-in-Some-clause-told : goal.returns-in-Some-clause-told
returns-in-Some-clause-told g c = λ honest t o found n named message is.
    let at = c.first_hash-first.ensures.hashes t o.read.indexed found n in
    let algos = c.in_ok-set.ensures.found t o (hashes found) at in
    let same = c.compared_algos.ensures.uses.same in
    let taken = c.in_ok-digests.ensures.taken in
    let there = still c.take_payload.ensures.uses.same c.take_payload.ensures.room (still same refl o) in
    let its = c.in_ok-refusal.ensures.told t there found n taken.message taken.digests (taken.set ∙ algos.algos) in
    let read = subst (λ (xs : List ℕ). taken.message ≡ slice xs c.args.payload.span.place c.args.payload.span.length) same.bytes (taken.right (still same refl o).honest) in
    let whole : taken.message ≡ message = read ∙ sym is in
    let wrong = ap (λ (x : Option Refusal). option_map (told_of found.name) x) (sym c.in-Some.is) ∙ its.told in
    let name = as_bytes c.args.payload.name in
    let one = refused name (told_of name c.in-Some.refusal) in
    let its_own = refused_is c.args.need found taken.message name c.in-Some.refusal named wrong ∙ ap (λ (xs : List ℕ). take_of c.args.need found xs) whole in
    given_one g.T.Taker.seen one _ false (Ok message) _ _ _ its_own refl (c.in_ok-shelf.ensures.same honest) (c.in_ok-refuse.ensures.given honest)

pub returns-in_err-keep-clause-told : goal.returns-in_err-keep-clause-told
returns-in_err-keep-clause-told g c = λ honest t o found n named message is.
    let at = c.first_hash-first.ensures.hashes t o.read.indexed found n in
    let algos = c.in_ok-set.ensures.found t o (hashes found) at in
    let same = c.compared_algos.ensures.uses.same in
    let taken = c.in_ok-digests.ensures.taken in
    let there = still c.take_payload.ensures.uses.same c.take_payload.ensures.room (still same refl o) in
    let its = c.in_ok-refusal.ensures.told t there found n taken.message taken.digests (taken.set ∙ algos.algos) in
    let read = subst (λ (xs : List ℕ). taken.message ≡ slice xs c.args.payload.span.place c.args.payload.span.length) same.bytes (taken.right (still same refl o).honest) in
    let whole : taken.message ≡ message = read ∙ sym is in
    let none : None ≡ or_weak (wrong_in found.name taken.message (hashes found)) c.args.need found = ap (λ (x : Option Refusal). option_map (told_of found.name) x) (sym c.in_default.is) ∙ its.told in
    let holds = c.into_inner-shelf.ensures ∙ filled_by _ _ taken.message (ap (λ (s : Sink). s.contents) c.new-out.ensures ∙ c.in_ok-shelf.ensures.empty honest) taken.wrote.appended in
    let name = as_bytes c.args.payload.name in
    let one = kept name taken.message c.vouched_by.result in
    let its_own = kept_is c.args.need found taken.message name _ c.vouched_by.result named none (taken.set ∙ algos.algos) (c.vouched_by.ensures taken.message taken.digests) ∙ ap (λ (xs : List ℕ). take_of c.args.need found xs) whole in
    let failed : c.from_residual-in_err-keep.result ≡ Err of.Put = search rules in
    perhaps_one g.T.Taker.seen one _ c.from_residual-in_err-keep.result _ _ _ _ failed its_own (c.in_ok-shelf.ensures.same honest) (c.in_err-keep.ensures.given honest taken.message holds)

pub returns-clause-told : goal.returns-clause-told
returns-clause-told g c = λ honest t o found n named message is.
    let at = c.first_hash-first.ensures.hashes t o.read.indexed found n in
    let algos = c.in_ok-set.ensures.found t o (hashes found) at in
    let same = c.compared_algos.ensures.uses.same in
    let taken = c.in_ok-digests.ensures.taken in
    let there = still c.take_payload.ensures.uses.same c.take_payload.ensures.room (still same refl o) in
    let its = c.in_ok-refusal.ensures.told t there found n taken.message taken.digests (taken.set ∙ algos.algos) in
    let read = subst (λ (xs : List ℕ). taken.message ≡ slice xs c.args.payload.span.place c.args.payload.span.length) same.bytes (taken.right (still same refl o).honest) in
    let whole : taken.message ≡ message = read ∙ sym is in
    let none : None ≡ or_weak (wrong_in found.name taken.message (hashes found)) c.args.need found = ap (λ (x : Option Refusal). option_map (told_of found.name) x) (sym c.in_default.is) ∙ its.told in
    let holds = c.into_inner-shelf.ensures ∙ filled_by _ _ taken.message (ap (λ (s : Sink). s.contents) c.new-out.ensures ∙ c.in_ok-shelf.ensures.empty honest) taken.wrote.appended in
    let name = as_bytes c.args.payload.name in
    let one = kept name taken.message c.vouched_by.result in
    let its_own = kept_is c.args.need found taken.message name _ c.vouched_by.result named none (taken.set ∙ algos.algos) (c.vouched_by.ensures taken.message taken.digests) ∙ ap (λ (xs : List ℕ). take_of c.args.need found xs) whole in
    given_one g.T.Taker.seen one _ true (Ok message) _ _ _ its_own refl (c.in_ok-shelf.ensures.same honest) (c.in_ok-keep.ensures.given honest taken.message holds)

pub returns-in-Some-clause-ended : goal.returns-in-Some-clause-ended
returns-in-Some-clause-ended g c = λ t o found n.
    let d = g.S.Source.device in
    let span = c.args.payload.span in
    let at = c.first_hash-first.ensures.hashes t o.read.indexed found n in
    let algos = c.in_ok-set.ensures.found t o (hashes found) at in
    let same = c.compared_algos.ensures.uses.same in
    let taken = c.in_ok-digests.ensures.taken in
    let there = still c.take_payload.ensures.uses.same c.take_payload.ensures.room (still same refl o) in
    let its = c.in_ok-refusal.ensures.told t there found n taken.message taken.digests (taken.set ∙ algos.algos) in
    let whole = subst (λ (xs : List ℕ). taken.message ≡ in_span xs span) same.bytes (taken.right (still same refl o).honest) in
    let wrong = ap (λ (x : Option Refusal). option_map (told_of found.name) x) (sym c.in-Some.is) ∙ its.told in (
      is_wrong c.args.need found taken.message c.in-Some.refusal wrong ∙ ap (λ (xs : List ℕ). is_kept (take_of c.args.need found xs)) whole,
      c.refuse.ensures.begun ∙ c.in_ok-shelf.ensures.begun,
    )

pub returns-clause-ended : goal.returns-clause-ended
returns-clause-ended g c = λ t o found n.
    let d = g.S.Source.device in
    let span = c.args.payload.span in
    let at = c.first_hash-first.ensures.hashes t o.read.indexed found n in
    let algos = c.in_ok-set.ensures.found t o (hashes found) at in
    let same = c.compared_algos.ensures.uses.same in
    let taken = c.in_ok-digests.ensures.taken in
    let there = still c.take_payload.ensures.uses.same c.take_payload.ensures.room (still same refl o) in
    let its = c.in_ok-refusal.ensures.told t there found n taken.message taken.digests (taken.set ∙ algos.algos) in
    let whole = subst (λ (xs : List ℕ). taken.message ≡ in_span xs span) same.bytes (taken.right (still same refl o).honest) in
    let right = ap (λ (x : Option Refusal). option_map (told_of found.name) x) (sym c.in_default.is) ∙ its.told in (
      is_right c.args.need found taken.message right ∙ ap (λ (xs : List ℕ). is_kept (take_of c.args.need found xs)) whole,
      c.keep.ensures.begun ∙ c.in_ok-shelf.ensures.begun,
    )

pub returns-clause-given : goal.returns-clause-given
returns-clause-given g c = λ honest.
    let taken = c.in_ok-digests.ensures.taken in
    let one = kept (as_bytes c.args.payload.name) taken.message c.vouched_by.result in
    let holds = c.into_inner-shelf.ensures ∙ filled_by _ _ taken.message (ap (λ (s : Sink). s.contents) c.new-out.ensures ∙ c.in_ok-shelf.ensures.empty honest) taken.wrote.appended in
    gives_one g.T.Taker.seen one true _ _ _ (c.in_ok-shelf.ensures.same honest) (c.in_ok-keep.ensures.given honest taken.message holds) refl

pub returns-in-Some-clause-given : goal.returns-in-Some-clause-given
returns-in-Some-clause-given g c = λ honest.
    let name = as_bytes c.args.payload.name in
    let one = refused name (told_of name c.in-Some.refusal) in
    gives_one g.T.Taker.seen one false _ _ _ (c.in_ok-shelf.ensures.same honest) (c.in_ok-refuse.ensures.given honest) refl
