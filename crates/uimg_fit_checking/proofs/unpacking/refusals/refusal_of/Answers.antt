use Rattle.std.proofs.Common.{rules, ◌≡◌, ◌∙◌, ℕ, List, Option, true, refl, subst, sym, arith}
use Rattle.std.specs.Prelude.{is_err, Ok}
use Rattle.uimg_texts.specs.declared.naming.Naming.TheVariants as naming
use Rattle.uimg_blob_reading.specs.LookUps.{hashes}
use Rattle.uimg_fit_base.specs.declared.algo_sets.AlgoSet.{AlgoSet}
use Rattle.uimg_fit_base.specs.AlgoSets.{no_algos}
use Rattle.uimg_fit_checking.specs.declared.wrong_hashes.WrongHash.{WrongHash}
use Rattle.uimg_fit_checking.specs.CheckParts.{FindsWrongBetween, wrong_told}
use Rattle.uimg_fit_reading.specs.HashReports.{AllCovered}
use Rattle.uimg_fit_checking.specs.Unpacking.{told_of}
use Rattle.uimg_fit_reading.proofs.CompareLaws.{all_covered}
use Rattle.uimg_fit_reading.proofs.OpenedLaws.{still}
use Rattle.uimg_fit_checking.proofs.UnpackLaws.{refusal_cut, named_paid, refusal_found, refusal_weak, refusal_none}
use Rattle.uimg_fit_checking.proofs.unpacking.refusals.refusal_of.Goals as goal

pub returns-in_err-wrong-clause-told : goal.returns-in_err-wrong-clause-told
returns-in_err-wrong-clause-told g c = λ t o found n message are algos.
    let at = c.first_hash-first.ensures.hashes t o.read.indexed found n in
    let covered = subst (λ (s : AlgoSet). AllCovered naming.All s (hashes found)) (sym algos) (all_covered naming.All no_algos (hashes found)) in
    let failed : is_err c.from_residual.result ≡ true = search rules in
    refusal_cut c.args.need found message _ _ c.from_residual.result failed (omega (arith, (c.in_err-wrong.ensures.told t o (hashes found) at message are covered).paid))

pub returns-in_err-refusal-clause-told : goal.returns-in_err-refusal-clause-told
returns-in_err-refusal-clause-told g c = λ t o found n message are algos.
    let file = (g.S.Source.device c.args.source.now).bytes in
    let at = c.first_hash-first.ensures.hashes t o.read.indexed found n in
    let covered = subst (λ (s : AlgoSet). AllCovered naming.All s (hashes found)) (sym algos) (all_covered naming.All no_algos (hashes found)) in
    let w = subst (λ (x : Option WrongHash). FindsWrongBetween file message (hashes found) (g.S.Source.device c.args.source.now).asked (g.S.Source.device c.first_wrong.new.source).asked (Ok x)) c.in-Some.is (c.in_ok-wrong.ensures.told t o (hashes found) at message are covered) in
    let failed : is_err c.from_residual-in_err-refusal.result ≡ true = search rules in
    refusal_cut c.args.need found message _ _ c.from_residual-in_err-refusal.result failed (named_paid file found message _ _ _ c.in-Some.wrong w c.refusal.ensures.uses.asked)

pub returns-in-Some-clause-told : goal.returns-in-Some-clause-told
returns-in-Some-clause-told g c = λ t o found n message are algos.
    let file = (g.S.Source.device c.args.source.now).bytes in
    let same = c.first_wrong.ensures.uses.same in
    let at = c.first_hash-first.ensures.hashes t o.read.indexed found n in
    let covered = subst (λ (s : AlgoSet). AllCovered naming.All s (hashes found)) (sym algos) (all_covered naming.All no_algos (hashes found)) in
    let w = subst (λ (x : Option WrongHash). FindsWrongBetween file message (hashes found) (g.S.Source.device c.args.source.now).asked (g.S.Source.device c.first_wrong.new.source).asked (Ok x)) c.in-Some.is (c.in_ok-wrong.ensures.told t o (hashes found) at message are covered) in
    let told = subst (λ (xs : List ℕ). told_of found.name c.in_ok-refusal.field-0 ≡ wrong_told xs found.name c.in-Some.wrong) same.bytes
    (c.in_ok-refusal.ensures.told (still same refl o).honest w.short found.name) in
    refusal_found file c.args.need found message _ _ _ c.in-Some.wrong c.in_ok-refusal.field-0 w told c.refusal.ensures.uses.asked

pub returns-then-lacks-clause-told : goal.returns-then-lacks-clause-told
returns-then-lacks-clause-told g c = λ t o found n message are algos.
    let file = (g.S.Source.device c.args.source.now).bytes in
    let at = c.first_hash-first.ensures.hashes t o.read.indexed found n in
    let covered = subst (λ (s : AlgoSet). AllCovered naming.All s (hashes found)) (sym algos) (all_covered naming.All no_algos (hashes found)) in
    let w = subst (λ (x : Option WrongHash). FindsWrongBetween file message (hashes found) (g.S.Source.device c.args.source.now).asked (g.S.Source.device c.first_wrong.new.source).asked (Ok x)) c.in_default.is (c.in_ok-wrong.ensures.told t o (hashes found) at message are covered) in
    refusal_weak file c.args.need found message _ _ c.set.result w (c.set.ensures ∙ algos) (sym c.lacks.ensures ∙ c.if-lacks.true)

pub returns-clause-told : goal.returns-clause-told
returns-clause-told g c = λ t o found n message are algos.
    let file = (g.S.Source.device c.args.source.now).bytes in
    let at = c.first_hash-first.ensures.hashes t o.read.indexed found n in
    let covered = subst (λ (s : AlgoSet). AllCovered naming.All s (hashes found)) (sym algos) (all_covered naming.All no_algos (hashes found)) in
    let w = subst (λ (x : Option WrongHash). FindsWrongBetween file message (hashes found) (g.S.Source.device c.args.source.now).asked (g.S.Source.device c.first_wrong.new.source).asked (Ok x)) c.in_default.is (c.in_ok-wrong.ensures.told t o (hashes found) at message are covered) in
    refusal_none file c.args.need found message _ _ c.set.result w (c.set.ensures ∙ algos) (sym c.lacks.ensures ∙ c.if-lacks.false)
