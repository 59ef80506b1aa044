use Rattle.std.proofs.Common.{rules, ◌≡◌, ℕ, List, Option, Some, subst, sym}
use Rattle.std.specs.Prelude.{Result, Ok, Err}
use Rattle.uimg_blob_reading.specs.LookUps.{NodeOf}
use Rattle.uimg_blob_reading.specs.Roles.{in_images}
use Rattle.uimg_blob_reading.specs.Spots.{Spot}
use Rattle.uimg_fit_base.specs.declared.fault.Fault.{Fault}
use Rattle.uimg_base.specs.declared.spans.Span.{Span}
use Rattle.uimg_fit_checking.specs.declared.checking.Finding.{Finding}
use Rattle.uimg_fit_checking.specs.declared.checking.checked_payloads.Checked.{Checked}
use Rattle.uimg_fit_checking.specs.CheckParts.{ChecksImageBetween, ChecksImagesBetween}
use Rattle.uimg_fit_reading.specs.Nodes.{AreFrom}
use Rattle.uimg_fit_reading.proofs.OpenedLaws.{still}
use Rattle.uimg_fit_reading.proofs.ImageLaws.{front}
use Rattle.uimg_fit_checking.proofs.CheckLaws.{images_more, images_end, images_cut, images_done}
use Rattle.uimg_fit_checking.proofs.checking.checked_images.first_finding.Goals as goal

pub loop-next-preserved : goal.loop-next-preserved
loop-next-preserved g c = record {
  same = search rules;
  failures = search rules;
  room = search rules;
  within = search rules;
  told = λ t o found from.
      let d = g.S.Source.device in
      let file = (d c.args.source.now).bytes in
      let k = c.loop-next.invariant.told t o found from in
      let same = c.loop-next.invariant.same in
      let here = still same c.loop-next.invariant.room o in
      let start = subst (λ (x : Option ℕ). AreFrom t in_images x k.rest) c.in-Some.is k.from in
      let f = front t in_images c.in-Some.image k.rest start in
      let told = subst (λ (x : Checked). ChecksImageBetween file c.args.need c.loop-next.left f.image (d c.loop-next.source).asked (d c.check_image.new.source).asked (Ok x)) c.in-On.is
      (subst (λ (xs : List ℕ). ChecksImageBetween xs c.args.need c.loop-next.left f.image (d c.loop-next.source).asked (d c.check_image.new.source).asked (Ok c.in_ok-rest.field-0)) same.bytes
      (c.in_ok-rest.ensures.told t here f.image f.node)) in
      let indexed = (still c.check_image.ensures.leaves.uses.same c.check_image.ensures.leaves.room here).read.indexed in
      images_more t file c.args.need found _ _ c.loop-next.left c.loop-next.next k f.image f.more f.are _ c.in-On.rest _ told
      (c.next_of-next.ensures.next t indexed in_images f.image f.more (subst (λ (l : List (NodeOf Spot)). AreFrom t in_images (Some c.in-Some.image) l) f.are start));
}

pub returns-in-Ended-clause-told : goal.returns-in-Ended-clause-told
returns-in-Ended-clause-told g c = λ t o found from.
    let d = g.S.Source.device in
    let file = (d c.args.source.now).bytes in
    let k = c.loop-next.invariant.told t o found from in
    let same = c.loop-next.invariant.same in
    let here = still same c.loop-next.invariant.room o in
    let f = front t in_images c.in-Some.image k.rest (subst (λ (x : Option ℕ). AreFrom t in_images x k.rest) c.in-Some.is k.from) in
    let told = subst (λ (x : Checked). ChecksImageBetween file c.args.need c.loop-next.left f.image (d c.loop-next.source).asked (d c.check_image.new.source).asked (Ok x)) c.in-Ended.is
    (subst (λ (xs : List ℕ). ChecksImageBetween xs c.args.need c.loop-next.left f.image (d c.loop-next.source).asked (d c.check_image.new.source).asked (Ok c.in_ok-rest.field-0)) same.bytes
    (c.in_ok-rest.ensures.told t here f.image f.node)) in
    images_end t file c.args.need found _ _ c.loop-next.left c.loop-next.next k f.image f.more f.are _ c.in-Ended.finding told

pub returns-in_err-rest-clause-told : goal.returns-in_err-rest-clause-told
returns-in_err-rest-clause-told g c = λ t o found from.
    let d = g.S.Source.device in
    let file = (d c.args.source.now).bytes in
    let k = c.loop-next.invariant.told t o found from in
    let same = c.loop-next.invariant.same in
    let fault = c.in_err-rest.field-0.0 in
    let is : c.from_residual-in_err-rest.result ≡ Err fault = search rules in
    let f = front t in_images c.in-Some.image k.rest (subst (λ (x : Option ℕ). AreFrom t in_images x k.rest) c.in-Some.is k.from) in
    let cut = subst (λ (xs : List ℕ). ChecksImageBetween xs c.args.need c.loop-next.left f.image (d c.loop-next.source).asked (d c.check_image.new.source).asked (Err fault)) same.bytes
    (c.in_err-rest.ensures.told t (still same c.loop-next.invariant.room o) f.image f.node) in
    subst (λ (r : Result (Option (Finding Span)) Fault). ChecksImagesBetween file c.args.need found (d c.args.source.now).asked (d c.check_image.new.source).asked r) (sym is)
    (images_cut t file c.args.need found _ _ c.loop-next.left c.loop-next.next k f.image f.more f.are _ fault cut)

pub returns-clause-told : goal.returns-clause-told
returns-clause-told g c = λ t o found from.
    images_done t _ c.args.need found _ _ c.loop-next.left c.loop-next.next (search rules) (c.loop-next.invariant.told t o found from)
