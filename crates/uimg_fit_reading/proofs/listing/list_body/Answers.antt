use Rattle.std.proofs.Common.{ℕ, List, Option, Some, None, refl, sym, subst}
use Rattle.std.proofs.lemmas.Result.{err_from_is_err_and}
use Rattle.uimg_base.specs.{Outcome.{End, done}, Sink.{AppendsAll, AppendsPrefix}}
use Rattle.uimg_blob_reading.specs.{LookUps.{NodeOf, images}, Spots.{Spot, spots}}
use Rattle.uimg_fit_base.specs.declared.fault.Fault.{Fault}
use Rattle.uimg_fit_reading.specs.{Listing.lists, ListingParts.{body_allowance, TellsWithinBetween}}
use Rattle.uimg_fit_reading.proofs.{ListingLaws.body_is, WithinLaws.no_end}
use Rattle.uimg_fit_reading.proofs.listing.list_body.Goals as goal

pub returns-in_err-put_body-clause-told : goal.returns-in_err-put_body-clause-told
returns-in_err-put_body-clause-told g c = λ t o time.
    let d = g.S.Source.device c.args.fit.now.source.now in
    let m = g.S.Source.device c.put_body.new.fit.source.now in
    let p = err_from_is_err_and c.from_residual-in_err-put_body.result c.from_residual-in_err-put_body.ensures.1 in
    let ends = no_end c.from_residual-in_err-put_body.result p.0 _ p.1 p.2 in
    let h = c.in_ok-first.ensures.told t o.read.indexed in
    let told = c.in_err-put_body.ensures.told t o h.found h.from in
    subst (λ (e : Option (End Fault)). TellsWithinBetween e (body_allowance c.args.naming (spots t) (images (spots t))) d m c.args.out.now c.put_body.new.out (lists c.args.naming d.bytes (spots t) (images (spots t)))) (sym ends)
    (subst (λ (o : Option (List (NodeOf Spot))). TellsWithinBetween None (body_allowance c.args.naming (spots t) o) d m c.args.out.now c.put_body.new.out (lists c.args.naming d.bytes (spots t) o)) (sym h.is)
    (record { asked = told.asked; told = subst (λ (w : List ℕ). AppendsPrefix c.args.out.now c.put_body.new.out w) (body_is c.args.naming d.bytes (spots t) c.args.time h.found time) told.written.prefix }))

pub returns-clause-told : goal.returns-clause-told
returns-clause-told g c = λ t o time.
    let d = g.S.Source.device c.args.fit.now.source.now in
    let m = g.S.Source.device c.put_body.new.fit.source.now in
    let h = c.in_ok-first.ensures.told t o.read.indexed in
    let told = c.in_ok-put_body.ensures.told t o h.found h.from in
    subst (λ (o : Option (List (NodeOf Spot))). TellsWithinBetween (Some done) (body_allowance c.args.naming (spots t) o) d m c.args.out.now c.put_body.new.out (lists c.args.naming d.bytes (spots t) o)) (sym h.is)
    (record { asked = told.asked; told = (refl, subst (λ (w : List ℕ). AppendsAll c.args.out.now c.put_body.new.out w) (body_is c.args.naming d.bytes (spots t) c.args.time h.found time) told.written.all) })
