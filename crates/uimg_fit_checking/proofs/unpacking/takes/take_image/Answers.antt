use Rattle.std.proofs.Common.{rules, ◌≡◌, ℕ, List, length, Option, true, IfSome, refl, ap, subst, sym}
use Rattle.std.specs.Prelude.{Ok, Err}
use Rattle.uimg_texts.specs.Slices.{slice}
use Rattle.uimg_blob_reading.specs.Roles.{in_images}
use Rattle.uimg_fit_reading.specs.Nodes.{IsNode}
use Rattle.uimg_fit_reading.specs.Values.{in_span}
use Rattle.uimg_fit_checking.specs.declared.unpacking.requested.Requested.{Requested}
use Rattle.uimg_fit_checking.specs.Unpacking.{take_of, which}
use Rattle.uimg_fit_checking.specs.UnpackingParts.{IsPayloadOf, TellsFound, EndsImage}
use Rattle.uimg_fit_reading.proofs.OpenedLaws.{still}
use Rattle.uimg_fit_checking.proofs.TakeLaws.{takes_skips, takes_lacks, takes_there, take_paid}
use Rattle.uimg_fit_checking.proofs.EndedLaws.{gives_none, ends_skipped, ends_lacking, ends_there}
use Rattle.uimg_fit_checking.proofs.unpacking.takes.take_image.Goals as goal

pub returns-in_err-payload-clause-told : goal.returns-in_err-payload-clause-told
returns-in_err-payload-clause-told g c = λ honest t o found n.
    let file = (g.S.Source.device c.args.source.now).bytes in
    let fault = c.in_err-payload.field-0.0 in
    let is : c.from_residual.result ≡ Err fault = search rules in
    takes_lacks g.T.Taker.seen file (which c.args.request.only) _ found fault c.from_residual.result _ is (c.in_err-payload.ensures.told t o found n)

pub returns-in-None-clause-told : goal.returns-in-None-clause-told
returns-in-None-clause-told g c = λ honest t o found n.
    let file = (g.S.Source.device c.args.source.now).bytes in
    let only = which c.args.request.only in
    takes_skips g.T.Taker.seen file only _ found _ (subst (λ (x : Option Requested). TellsFound only file found (Ok x)) c.in-None.is (c.in_ok-payload.ensures.told t o found n))

pub returns-in-Some-clause-paid : goal.returns-in-Some-clause-paid
returns-in-Some-clause-paid g c = λ t o found n.
    let file = (g.S.Source.device c.args.source.now).bytes in
    let only = which c.args.request.only in
    let it = c.in-Some.payload in
    let its = subst (λ (x : Option Requested). IfSome x (IsPayloadOf c.args.image (length file))) c.in-Some.is c.in_ok-payload.ensures.its in
    let finds = subst (λ (x : Option Requested). TellsFound only file found (Ok x)) c.in-Some.is (c.in_ok-payload.ensures.told t o found n) in
    let node = subst (λ (k : ℕ). IsNode t in_images k found) (sym its.number) n in
    take_paid file only found it.span _ _ _ finds.asked finds.is its.inside c.find_requested.ensures.uses.asked (c.take_requested.ensures.paid t (still c.find_requested.ensures.uses.same refl o) found node)

pub returns-in-Some-clause-told : goal.returns-in-Some-clause-told
returns-in-Some-clause-told g c = λ honest t o found n.
    let file = (g.S.Source.device c.args.source.now).bytes in
    let only = which c.args.request.only in
    let it = c.in-Some.payload in
    let its = subst (λ (x : Option Requested). IfSome x (IsPayloadOf c.args.image (length file))) c.in-Some.is c.in_ok-payload.ensures.its in
    let finds = subst (λ (x : Option Requested). TellsFound only file found (Ok x)) c.in-Some.is (c.in_ok-payload.ensures.told t o found n) in
    let node = subst (λ (k : ℕ). IsNode t in_images k found) (sym its.number) n in
    let same = c.find_requested.ensures.uses.same in
    let message = slice file it.span.place it.span.length in
    let cut = ap (λ (xs : List ℕ). slice xs it.span.place it.span.length) (sym same.bytes) in
    takes_there g.T.Taker.seen file only c.args.request.need found message c.take_requested.result _ _ finds.asked finds.is (c.take_requested.ensures.told honest t (still same refl o) found node finds.named message cut)

pub returns-in_err-payload-clause-ended : goal.returns-in_err-payload-clause-ended
returns-in_err-payload-clause-ended g c = λ t o found n.
    let file = (g.S.Source.device c.args.source.now).bytes in
    let fault = c.in_err-payload.field-0.0 in
    let is : c.from_residual.result ≡ Err fault = search rules in
    ends_lacking file (which c.args.request.only) _ found fault c.from_residual.result _ _ is (c.in_err-payload.ensures.told t o found n)

pub returns-in-None-clause-ended : goal.returns-in-None-clause-ended
returns-in-None-clause-ended g c = λ t o found n.
    let file = (g.S.Source.device c.args.source.now).bytes in
    let only = which c.args.request.only in
    ends_skipped file only _ found _ (subst (λ (x : Option Requested). TellsFound only file found (Ok x)) c.in-None.is (c.in_ok-payload.ensures.told t o found n))

pub returns-in-Some-clause-ended : goal.returns-in-Some-clause-ended
returns-in-Some-clause-ended g c = λ t o found n.
    let file = (g.S.Source.device c.args.source.now).bytes in
    let only = which c.args.request.only in
    let it = c.in-Some.payload in
    let its = subst (λ (x : Option Requested). IfSome x (IsPayloadOf c.args.image (length file))) c.in-Some.is c.in_ok-payload.ensures.its in
    let finds = subst (λ (x : Option Requested). TellsFound only file found (Ok x)) c.in-Some.is (c.in_ok-payload.ensures.told t o found n) in
    let node = subst (λ (k : ℕ). IsNode t in_images k found) (sym its.number) n in
    let same = c.find_requested.ensures.uses.same in
    let ended = subst (λ (xs : List ℕ). EndsImage true (take_of c.args.request.need found (in_span xs it.span)) c.take_requested.result (Ok (in_span xs it.span)) (g.T.Taker.begun c.args.taker.now) (g.T.Taker.begun c.take_requested.new.taker)) same.bytes
    (c.take_requested.ensures.ended t (still same refl o) found node) in
    ends_there file only c.args.request.need found (in_span file it.span) c.take_requested.result _ _ finds.asked finds.is ended

pub returns-in-None-clause-given : goal.returns-in-None-clause-given
returns-in-None-clause-given g c = λ honest. gives_none g.T.Taker.seen (g.T.Taker.takes c.args.taker.now)
