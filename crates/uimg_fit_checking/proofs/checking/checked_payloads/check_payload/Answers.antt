use Rattle.std.proofs.Common.{rules, ◌≡◌, ◌∙◌, ℕ, List, Some, None, true, refl, subst, sym, arith}
use Rattle.std.specs.Prelude.{is_err, Ok}
use Rattle.uimg_texts.specs.Slices.{slice}
use Rattle.uimg_texts.specs.declared.naming.Naming.TheVariants as naming
use Rattle.uimg_base.proofs.Slices.{length-slice}
use Rattle.uimg_blob_reading.specs.LookUps.{hashes}
use Rattle.uimg_blob_reading.specs.Roles.{in_images}
use Rattle.uimg_fit_base.specs.declared.algo_sets.AlgoSet.{AlgoSet}
use Rattle.uimg_fit_base.specs.AlgoSets.{no_algos, AreDigests}
use Rattle.uimg_base.specs.declared.spans.Span.{Span}
use Rattle.uimg_fit_checking.specs.declared.checking.Finding.{Finding}
use Rattle.uimg_fit_checking.specs.declared.checking.checked_payloads.Checked.TheVariants.{Ended}
use Rattle.uimg_fit_checking.specs.CheckParts.{ChecksPayloadBetween}
use Rattle.uimg_fit_reading.specs.HashReports.{AllCovered}
use Rattle.uimg_fit_reading.proofs.OpenedLaws.{still}
use Rattle.uimg_fit_reading.proofs.CompareLaws.{all_covered}
use Rattle.uimg_fit_checking.proofs.CheckLaws.{read_is, payload_over, payload_cut, payload_wrong, payload_weak, payload_on, finds_in}
use Rattle.uimg_fit_checking.proofs.checking.checked_payloads.check_payload.Goals as goal

pub returns-in_err-set-clause-told : goal.returns-in_err-set-clause-told
returns-in_err-set-clause-told g c = λ t o found n.
    let file = (g.S.Source.device c.args.source.now).bytes in
    let span = c.args.payload.span in
    let at = c.first_hash-first.ensures.hashes t o.read.indexed found n in
    let failed : is_err c.from_residual.result ≡ true = search rules in
    payload_cut file c.args.need c.args.left found (slice file span.place span.length) _ _ c.from_residual.result failed
    (omega (arith, (c.in_err-set.ensures.found t o (hashes found) at).paid))

pub returns-then-size-left-clause-told : goal.returns-then-size-left-clause-told
returns-then-size-left-clause-told g c = λ t o found n.
    let file = (g.S.Source.device c.args.source.now).bytes in
    let span = c.args.payload.span in
    let message = slice file span.place span.length in
    let at = c.first_hash-first.ensures.hashes t o.read.indexed found n in
    let named = c.name_of-name.ensures.name file t o.read in_images found n in
    let algos = c.in_ok-set.ensures.found t o (hashes found) at in
    let size = c.read_size-size.ensures ∙ read_is found message c.in_ok-set.set span.length algos.algos (length-slice file span.place span.length c.requires.payload) in
    payload_over file c.args.need c.args.left c.read_size-size.result found message _ _ c.name_of-name.result size c.if-size-left.true named algos.paid

pub returns-in_err-digests-clause-told : goal.returns-in_err-digests-clause-told
returns-in_err-digests-clause-told g c = λ t o found n.
    let file = (g.S.Source.device c.args.source.now).bytes in
    let span = c.args.payload.span in
    let at = c.first_hash-first.ensures.hashes t o.read.indexed found n in
    let algos = c.in_ok-set.ensures.found t o (hashes found) at in
    let failed : is_err c.from_residual-in_err-digests.result ≡ true = search rules in
    payload_cut file c.args.need c.args.left found (slice file span.place span.length) _ _ c.from_residual-in_err-digests.result failed
    (omega (arith, algos.paid, c.payload_digests.ensures.uses.asked, c.read_size-size.ensures, c.if-size-left.false))

pub returns-in_err-wrong-clause-told : goal.returns-in_err-wrong-clause-told
returns-in_err-wrong-clause-told g c = λ t o found n.
    let file = (g.S.Source.device c.args.source.now).bytes in
    let span = c.args.payload.span in
    let message = slice file span.place span.length in
    let at = c.first_hash-first.ensures.hashes t o.read.indexed found n in
    let algos = c.in_ok-set.ensures.found t o (hashes found) at in
    let one = c.compared_algos.ensures.uses.same in
    let two = c.payload_digests.ensures.uses.same in
    let here = still one refl o in
    let there = still two c.payload_digests.ensures.room here in
    let are = subst (λ (xs : List ℕ). AreDigests c.in_ok-digests.digests (slice xs span.place span.length)) one.bytes (c.in_ok-digests.ensures.digests here.honest) in
    let covered = subst (λ (s : AlgoSet). AllCovered naming.All s (hashes found)) (sym (c.in_ok-digests.ensures.set ∙ algos.algos)) (all_covered naming.All no_algos (hashes found)) in
    let failed : is_err c.from_residual-in_err-wrong.result ≡ true = search rules in
    payload_cut file c.args.need c.args.left found message _ _ c.from_residual-in_err-wrong.result failed
    (omega (arith, algos.paid, c.payload_digests.ensures.uses.asked, c.read_size-size.ensures, c.if-size-left.false, (c.in_err-wrong.ensures.told t there (hashes found) at message are covered).paid))

pub returns-in-Some-clause-told : goal.returns-in-Some-clause-told
returns-in-Some-clause-told g c = λ t o found n.
    let file = (g.S.Source.device c.args.source.now).bytes in
    let span = c.args.payload.span in
    let message = slice file span.place span.length in
    let at = c.first_hash-first.ensures.hashes t o.read.indexed found n in
    let named = c.name_of-name.ensures.name file t o.read in_images found n in
    let algos = c.in_ok-set.ensures.found t o (hashes found) at in
    let size = c.read_size-size.ensures ∙ read_is found message c.in_ok-set.set span.length algos.algos (length-slice file span.place span.length c.requires.payload) in
    let one = c.compared_algos.ensures.uses.same in
    let two = c.payload_digests.ensures.uses.same in
    let here = still one refl o in
    let there = still two c.payload_digests.ensures.room here in
    let are = subst (λ (xs : List ℕ). AreDigests c.in_ok-digests.digests (slice xs span.place span.length)) one.bytes (c.in_ok-digests.ensures.digests here.honest) in
    let covered = subst (λ (s : AlgoSet). AllCovered naming.All s (hashes found)) (sym (c.in_ok-digests.ensures.set ∙ algos.algos)) (all_covered naming.All no_algos (hashes found)) in
    let wrong = finds_in file _ message (hashes found) _ _ c.in_ok-wrong.field-0 (Some c.in-Some.wrong) (two.bytes ∙ one.bytes) c.in-Some.is (c.in_ok-wrong.ensures.told t there (hashes found) at message are covered) in
    subst (λ (x : Finding Span). ChecksPayloadBetween file c.args.need c.args.left found message (g.S.Source.device c.args.source.now).asked (g.S.Source.device c.first_wrong.new.source).asked (Ok (Ended x))) (sym c.finding.ensures)
    (payload_wrong file c.args.need c.args.left c.read_size-size.result found message _ _ _ c.name_of-name.result c.in-Some.wrong size c.if-size-left.false
    (omega (arith, algos.paid, c.payload_digests.ensures.uses.asked, c.read_size-size.ensures)) wrong named)

pub returns-then-lacks-clause-told : goal.returns-then-lacks-clause-told
returns-then-lacks-clause-told g c = λ t o found n.
    let file = (g.S.Source.device c.args.source.now).bytes in
    let span = c.args.payload.span in
    let message = slice file span.place span.length in
    let at = c.first_hash-first.ensures.hashes t o.read.indexed found n in
    let named = c.name_of-name.ensures.name file t o.read in_images found n in
    let algos = c.in_ok-set.ensures.found t o (hashes found) at in
    let size = c.read_size-size.ensures ∙ read_is found message c.in_ok-set.set span.length algos.algos (length-slice file span.place span.length c.requires.payload) in
    let one = c.compared_algos.ensures.uses.same in
    let two = c.payload_digests.ensures.uses.same in
    let here = still one refl o in
    let there = still two c.payload_digests.ensures.room here in
    let are = subst (λ (xs : List ℕ). AreDigests c.in_ok-digests.digests (slice xs span.place span.length)) one.bytes (c.in_ok-digests.ensures.digests here.honest) in
    let covered = subst (λ (s : AlgoSet). AllCovered naming.All s (hashes found)) (sym (c.in_ok-digests.ensures.set ∙ algos.algos)) (all_covered naming.All no_algos (hashes found)) in
    let wrong = finds_in file _ message (hashes found) _ _ c.in_ok-wrong.field-0 None (two.bytes ∙ one.bytes) c.in_default.is (c.in_ok-wrong.ensures.told t there (hashes found) at message are covered) in
    payload_weak file c.args.need c.args.left c.read_size-size.result found message _ _ _ c.in_ok-set.set c.name_of-name.result size c.if-size-left.false
    (omega (arith, algos.paid, c.payload_digests.ensures.uses.asked, c.read_size-size.ensures)) wrong algos.algos (sym c.lacks.ensures ∙ c.if-lacks.true) named

pub returns-clause-told : goal.returns-clause-told
returns-clause-told g c = λ t o found n.
    let file = (g.S.Source.device c.args.source.now).bytes in
    let span = c.args.payload.span in
    let message = slice file span.place span.length in
    let at = c.first_hash-first.ensures.hashes t o.read.indexed found n in
    let named = c.name_of-name.ensures.name file t o.read in_images found n in
    let algos = c.in_ok-set.ensures.found t o (hashes found) at in
    let size = c.read_size-size.ensures ∙ read_is found message c.in_ok-set.set span.length algos.algos (length-slice file span.place span.length c.requires.payload) in
    let one = c.compared_algos.ensures.uses.same in
    let two = c.payload_digests.ensures.uses.same in
    let here = still one refl o in
    let there = still two c.payload_digests.ensures.room here in
    let are = subst (λ (xs : List ℕ). AreDigests c.in_ok-digests.digests (slice xs span.place span.length)) one.bytes (c.in_ok-digests.ensures.digests here.honest) in
    let covered = subst (λ (s : AlgoSet). AllCovered naming.All s (hashes found)) (sym (c.in_ok-digests.ensures.set ∙ algos.algos)) (all_covered naming.All no_algos (hashes found)) in
    let wrong = finds_in file _ message (hashes found) _ _ c.in_ok-wrong.field-0 None (two.bytes ∙ one.bytes) c.in_default.is (c.in_ok-wrong.ensures.told t there (hashes found) at message are covered) in
    payload_on file c.args.need c.args.left c.read_size-size.result found message _ _ _ c.in_ok-set.set _ size c.if-size-left.false
    (omega (arith, algos.paid, c.payload_digests.ensures.uses.asked, c.read_size-size.ensures)) wrong algos.algos (sym c.lacks.ensures ∙ c.if-lacks.false) (omega (arith, c.if-size-left.false))
