use Rattle.std.proofs.Common.{rules, ◌≡◌, ℕ, List, Option, Some, length, IfSome, refl, subst, arith}
use Rattle.std.specs.Prelude.{Ok, Err}
use Rattle.uimg_blob_reading.specs.LookUps.{NodeOf}
use Rattle.uimg_blob_reading.specs.Roles.{in_images}
use Rattle.uimg_blob_reading.specs.Spots.{Spot}
use Rattle.uimg_fit_base.specs.declared.fault.Fault.TheVariants.{Read, Put}
use Rattle.uimg_fit_checking.specs.declared.unpacking.claims.Claim.{Claim}
use Rattle.uimg_fit_reading.specs.Nodes.{AreFrom}
use Rattle.uimg_fit_checking.specs.Unpacking.{which}
use Rattle.uimg_fit_checking.specs.UnpackingParts.{IsPayloadOf, TellsFound, Claims}
use Rattle.uimg_fit_reading.proofs.OpenedLaws.{still}
use Rattle.uimg_fit_reading.proofs.ImageLaws.{front}
use Rattle.uimg_fit_checking.proofs.ClaimLaws.{claims_more, claims_end, claims_cut, claims_failed, claims_unread, claims_done}
use Rattle.uimg_fit_checking.proofs.unpacking.claims.claim_images.Goals as goal

pub loop-next-preserved : goal.loop-next-preserved
loop-next-preserved g c = record {
  same = search rules;
  failures = search rules;
  room = search rules;
  place = search rules;
  within = search rules;
  none_begun = search rules;
  none_given = search rules;
  told = λ t o found from.
      let d = g.S.Source.device in
      let file = (d c.args.source.now).bytes in
      let only = which c.args.only in
      let k = c.loop-next.invariant.told t o found from in
      let same = c.loop-next.invariant.same in
      let here = still same c.loop-next.invariant.room o in
      let start = subst (λ (x : Option ℕ). AreFrom t in_images x k.rest) c.in-Some.is k.from in
      let f = front t in_images c.in-Some.image k.rest start in
      let it = c.in_ok-found.found in
      let tells = subst (λ (xs : List ℕ). TellsFound only xs f.image (Ok it)) same.bytes (c.in_ok-found.ensures.told t here f.image f.node) in
      let its = subst (λ (xs : List ℕ). IfSome it (IsPayloadOf c.in-Some.image (length xs))) same.bytes c.in_ok-found.ensures.its in
      let claims = subst (λ (x : Claim). Claims c.loop-next.left it x) c.in-Fits.is c.in_ok-rest.ensures.told in
      let indexed = (still c.find_requested.ensures.uses.same refl here).read.indexed in
      claims_more t file only found _ _ c.loop-next.left c.loop-next.next _ _ _ _ k f.image f.more f.are _ c.in-Fits.rest _ c.in-Some.image it c.find_requested.ensures.uses.asked tells its claims
      (c.next_of-next.ensures.next t indexed in_images f.image f.more (subst (λ (l : List (NodeOf Spot)). AreFrom t in_images (Some c.in-Some.image) l) f.are start)) (λ known. c.in_ok-rest.ensures.claimed known);
}

pub returns-in-Overlaps-clause-told : goal.returns-in-Overlaps-clause-told
returns-in-Overlaps-clause-told g c = λ t o found from.
    let d = g.S.Source.device in
    let file = (d c.args.source.now).bytes in
    let only = which c.args.only in
    let k = c.loop-next.invariant.told t o found from in
    let same = c.loop-next.invariant.same in
    let here = still same c.loop-next.invariant.room o in
    let f = front t in_images c.in-Some.image k.rest (subst (λ (x : Option ℕ). AreFrom t in_images x k.rest) c.in-Some.is k.from) in
    let it = c.in_ok-found.found in
    let tells = subst (λ (xs : List ℕ). TellsFound only xs f.image (Ok it)) same.bytes (c.in_ok-found.ensures.told t here f.image f.node) in
    let its = subst (λ (xs : List ℕ). IfSome it (IsPayloadOf c.in-Some.image (length xs))) same.bytes c.in_ok-found.ensures.its in
    let claims = subst (λ (x : Claim). Claims c.loop-next.left it x) c.in-Overlaps.is c.in_ok-rest.ensures.told in
    claims_end t file only found _ _ c.loop-next.left c.loop-next.next _ _ _ _ k f.image f.more f.are _ c.in-Overlaps.name c.in-Some.image it c.find_requested.ensures.uses.asked tells its claims (λ known. c.in_ok-rest.ensures.claimed known)

pub returns-in_err-found-clause-told : goal.returns-in_err-found-clause-told
returns-in_err-found-clause-told g c = λ t o found from.
    let file = (g.S.Source.device c.args.source.now).bytes in
    let only = which c.args.only in
    let k = c.loop-next.invariant.told t o found from in
    let same = c.loop-next.invariant.same in
    let fault = c.in_err-found.field-0.0 in
    let is : c.from_residual-in_err-found.result ≡ Err fault = search rules in
    let f = front t in_images c.in-Some.image k.rest (subst (λ (x : Option ℕ). AreFrom t in_images x k.rest) c.in-Some.is k.from) in
    let tells = subst (λ (xs : List ℕ). TellsFound only xs f.image (Err fault)) same.bytes (c.in_err-found.ensures.told t (still same c.loop-next.invariant.room o) f.image f.node) in
    claims_cut t file only found _ _ c.loop-next.left c.loop-next.next _ _ _ _ k f.image f.more f.are _ fault c.from_residual-in_err-found.result is c.find_requested.ensures.uses.asked tells refl

pub returns-in_err-rest-clause-told : goal.returns-in_err-rest-clause-told
returns-in_err-rest-clause-told g c = λ t o found from.
    let d = g.S.Source.device in
    let file = (d c.args.source.now).bytes in
    let only = which c.args.only in
    let k = c.loop-next.invariant.told t o found from in
    let same = c.loop-next.invariant.same in
    let here = still same c.loop-next.invariant.room o in
    let is : c.from_residual-in_err-rest.result ≡ Err Put = search rules in
    let f = front t in_images c.in-Some.image k.rest (subst (λ (x : Option ℕ). AreFrom t in_images x k.rest) c.in-Some.is k.from) in
    let it = c.in_ok-found.found in
    let tells = subst (λ (xs : List ℕ). TellsFound only xs f.image (Ok it)) same.bytes (c.in_ok-found.ensures.told t here f.image f.node) in
    let its = subst (λ (xs : List ℕ). IfSome it (IsPayloadOf c.in-Some.image (length xs))) same.bytes c.in_ok-found.ensures.its in
    claims_failed t file only found _ _ c.loop-next.left c.loop-next.next _ _ _ _ k f.image f.more f.are _ c.from_residual-in_err-rest.result is c.in-Some.image it c.find_requested.ensures.uses.asked tells its (λ known. c.in_err-rest.ensures.claimed known)

pub returns-clause-told : goal.returns-clause-told
returns-clause-told g c = λ t o found from.
    claims_done t _ (which c.args.only) found _ _ c.loop-next.left c.loop-next.next _ _ _ (search rules) (c.loop-next.invariant.told t o found from)

pub returns-in_err-left-clause-told : goal.returns-in_err-left-clause-told
returns-in_err-left-clause-told g c = λ t o found from.
    let is : c.from_residual.result ≡ Err Read = search rules in
    claims_unread _ (which c.args.only) found _ _ c.from_residual.result _ _ _ is (omega (arith, c.size.ensures.asked)) (λ known. refl)
