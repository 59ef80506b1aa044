use Rattle.std.proofs.Common.{rules, ◌≡◌, ◌≤◌, ◌+◌, ℕ, List, Bool, Option, Some, subst, sym}
use Rattle.std.specs.Prelude.{Result, Ok, Err}
use Rattle.uimg_blob_reading.specs.LookUps.{NodeOf}
use Rattle.uimg_blob_reading.specs.Roles.{in_images}
use Rattle.uimg_blob_reading.specs.Spots.{Spot}
use Rattle.uimg_fit_base.specs.Places.{payload}
use Rattle.uimg_fit_base.specs.declared.fault.Fault.{Fault}
use Rattle.uimg_fit_reading.specs.Nodes.{AreFrom}
use Rattle.uimg_fit_checking.specs.Unpacking.{is_asked, take_of, takes, bytes_or_none, which}
use Rattle.uimg_fit_checking.specs.UnpackingParts.{TakesTo, TakesAll, EndsImage, EndsAll, size_if, take_allowance}
use Rattle.uimg_fit_reading.proofs.OpenedLaws.{still}
use Rattle.uimg_fit_reading.proofs.ImageLaws.{front}
use Rattle.uimg_fit_checking.proofs.TakeLaws.{pay_first, pay_more, pay_cut, pay_done, take_first, take_more, take_cut, take_done}
use Rattle.uimg_fit_checking.proofs.EndedLaws.{gives_none, gives_more, end_first, end_more, end_cut, end_done}
use Rattle.uimg_fit_checking.proofs.unpacking.takes.take_images.Goals as goal

pub loop-next-init : goal.loop-next-init
loop-next-init g c = record {
  same = search rules;
  failures = search rules;
  room = search rules;
  place = search rules;
  within = search rules;
  none_claimed = search rules;
  paid = λ t o found from fits. pay_first t _ _ found _ c.args.first from fits;
  told = λ honest t o found from fits. take_first g.T.Taker.seen t _ c.args.request.need _ found _ c.args.first from fits;
  given = λ honest. gives_none g.T.Taker.seen (g.T.Taker.takes c.args.taker.now);
  ended = λ t o found from fits. end_first t _ c.args.request.need _ found _ c.args.first from fits;
}

pub loop-next-preserved : goal.loop-next-preserved
loop-next-preserved g c = record {
  same = search rules;
  failures = search rules;
  room = search rules;
  place = search rules;
  within = search rules;
  none_claimed = search rules;
  paid = λ t o found from fits.
      let d = g.S.Source.device in
      let file = (d c.args.source.now).bytes in
      let only = which c.args.request.only in
      let same = c.loop-next.invariant.same in
      let here = still same c.loop-next.invariant.room o in
      let k = c.loop-next.invariant.paid t o found from fits in
      let start = subst (λ (x : Option ℕ). AreFrom t in_images x k.rest) c.in-Some.is k.from in
      let f = front t in_images c.in-Some.image k.rest start in
      let cost = subst (λ (xs : List ℕ). (d c.take_image.new.source).asked ≤ (d c.loop-next.source).asked + (size_if (is_asked only f.image.name) (payload xs f.image) + take_allowance f.image)) same.bytes
      (c.take_image.ensures.paid t here f.image f.node) in
      let indexed = (still c.take_image.ensures.leaves.uses.same c.take_image.ensures.leaves.room here).read.indexed in
      pay_more t file only found _ _ c.loop-next.next k f.image f.more f.are _ _ cost
      (c.next_of-next.ensures.next t indexed in_images f.image f.more (subst (λ (l : List (NodeOf Spot)). AreFrom t in_images (Some c.in-Some.image) l) f.are start));
  told = λ honest t o found from fits.
      let d = g.S.Source.device in
      let file = (d c.args.source.now).bytes in
      let only = which c.args.request.only in
      let same = c.loop-next.invariant.same in
      let here = still same c.loop-next.invariant.room o in
      let k = c.loop-next.invariant.told honest t o found from fits in
      let start = subst (λ (x : Option ℕ). AreFrom t in_images x k.rest) c.in-Some.is k.from in
      let f = front t in_images c.in-Some.image k.rest start in
      let told = subst (λ (xs : List ℕ). TakesTo g.T.Taker.seen (is_asked only f.image.name) (take_of c.args.request.need f.image (bytes_or_none (payload xs f.image))) (Ok c.in_ok-all.field-0) (payload xs f.image)
      (g.T.Taker.takes c.loop-next.taker) (g.T.Taker.takes c.take_image.new.taker)) same.bytes
      (c.in_ok-all.ensures.told honest t here f.image f.node) in
      let indexed = (still c.take_image.ensures.leaves.uses.same c.take_image.ensures.leaves.room here).read.indexed in
      take_more g.T.Taker.seen t file c.args.request.need only found c.loop-next.all c.in_ok-all.field-0 _ _ _ c.loop-next.next k f.image f.more f.are _ told
      (c.next_of-next.ensures.next t indexed in_images f.image f.more (subst (λ (l : List (NodeOf Spot)). AreFrom t in_images (Some c.in-Some.image) l) f.are start));
  given = λ honest. gives_more g.T.Taker.seen c.loop-next.all c.in_ok-all.field-0 _ _ _ (c.loop-next.invariant.given honest) (c.in_ok-all.ensures.given honest);
  ended = λ t o found from fits.
      let d = g.S.Source.device in
      let file = (d c.args.source.now).bytes in
      let only = which c.args.request.only in
      let same = c.loop-next.invariant.same in
      let here = still same c.loop-next.invariant.room o in
      let k = c.loop-next.invariant.ended t o found from fits in
      let start = subst (λ (x : Option ℕ). AreFrom t in_images x k.rest) c.in-Some.is k.from in
      let f = front t in_images c.in-Some.image k.rest start in
      let ended = subst (λ (xs : List ℕ). EndsImage (is_asked only f.image.name) (take_of c.args.request.need f.image (bytes_or_none (payload xs f.image))) (Ok c.in_ok-all.field-0) (payload xs f.image) (g.T.Taker.begun c.loop-next.taker) (g.T.Taker.begun c.take_image.new.taker)) same.bytes
      (c.in_ok-all.ensures.ended t here f.image f.node) in
      let indexed = (still c.take_image.ensures.leaves.uses.same c.take_image.ensures.leaves.room here).read.indexed in
      end_more t file c.args.request.need only found c.loop-next.all c.in_ok-all.field-0 _ _ _ c.loop-next.next k f.image f.more f.are _ ended
      (c.next_of-next.ensures.next t indexed in_images f.image f.more (subst (λ (l : List (NodeOf Spot)). AreFrom t in_images (Some c.in-Some.image) l) f.are start));
}

pub returns-in_err-all-clause-paid : goal.returns-in_err-all-clause-paid
returns-in_err-all-clause-paid g c = λ t o found from fits.
    let d = g.S.Source.device in
    let file = (d c.args.source.now).bytes in
    let only = which c.args.request.only in
    let same = c.loop-next.invariant.same in
    let here = still same c.loop-next.invariant.room o in
    let k = c.loop-next.invariant.paid t o found from fits in
    let f = front t in_images c.in-Some.image k.rest (subst (λ (x : Option ℕ). AreFrom t in_images x k.rest) c.in-Some.is k.from) in
    let cost = subst (λ (xs : List ℕ). (d c.take_image.new.source).asked ≤ (d c.loop-next.source).asked + (size_if (is_asked only f.image.name) (payload xs f.image) + take_allowance f.image)) same.bytes
    (c.take_image.ensures.paid t here f.image f.node) in
    pay_cut t file only found _ _ c.loop-next.next k f.image f.more f.are _ cost

pub returns-in_err-all-clause-told : goal.returns-in_err-all-clause-told
returns-in_err-all-clause-told g c = λ honest t o found from fits.
    let d = g.S.Source.device in
    let file = (d c.args.source.now).bytes in
    let only = which c.args.request.only in
    let same = c.loop-next.invariant.same in
    let here = still same c.loop-next.invariant.room o in
    let k = c.loop-next.invariant.told honest t o found from fits in
    let fault = c.in_err-all.field-0.0 in
    let is : c.from_residual.result ≡ Err fault = search rules in
    let f = front t in_images c.in-Some.image k.rest (subst (λ (x : Option ℕ). AreFrom t in_images x k.rest) c.in-Some.is k.from) in
    let told = subst (λ (xs : List ℕ). TakesTo g.T.Taker.seen (is_asked only f.image.name) (take_of c.args.request.need f.image (bytes_or_none (payload xs f.image))) (Err fault) (payload xs f.image)
    (g.T.Taker.takes c.loop-next.taker) (g.T.Taker.takes c.take_image.new.taker)) same.bytes
    (c.in_err-all.ensures.told honest t here f.image f.node) in
    subst (λ (r : Result Bool Fault). TakesAll g.T.Taker.seen (takes c.args.request.need only file found) r (g.T.Taker.takes c.args.taker.now) (g.T.Taker.takes c.take_image.new.taker)) (sym is)
    (take_cut g.T.Taker.seen t file c.args.request.need only found c.loop-next.all _ _ _ c.loop-next.next k f.image f.more f.are fault told)

pub returns-clause-paid : goal.returns-clause-paid
returns-clause-paid g c = λ t o found from fits.
    pay_done t _ _ found _ _ c.loop-next.next (c.loop-next.invariant.paid t o found from fits)

pub returns-clause-told : goal.returns-clause-told
returns-clause-told g c = λ honest t o found from fits.
    take_done g.T.Taker.seen t _ c.args.request.need _ found c.loop-next.all _ _ c.loop-next.next (search rules) (c.loop-next.invariant.told honest t o found from fits)

pub returns-in_err-all-clause-ended : goal.returns-in_err-all-clause-ended
returns-in_err-all-clause-ended g c = λ t o found from fits.
    let d = g.S.Source.device in
    let file = (d c.args.source.now).bytes in
    let only = which c.args.request.only in
    let same = c.loop-next.invariant.same in
    let here = still same c.loop-next.invariant.room o in
    let k = c.loop-next.invariant.ended t o found from fits in
    let fault = c.in_err-all.field-0.0 in
    let is : c.from_residual.result ≡ Err fault = search rules in
    let f = front t in_images c.in-Some.image k.rest (subst (λ (x : Option ℕ). AreFrom t in_images x k.rest) c.in-Some.is k.from) in
    let ended = subst (λ (xs : List ℕ). EndsImage (is_asked only f.image.name) (take_of c.args.request.need f.image (bytes_or_none (payload xs f.image))) (Err fault) (payload xs f.image) (g.T.Taker.begun c.loop-next.taker) (g.T.Taker.begun c.take_image.new.taker)) same.bytes
    (c.in_err-all.ensures.ended t here f.image f.node) in
    subst (λ (r : Result Bool Fault). EndsAll (takes c.args.request.need only file found) r (g.T.Taker.begun c.args.taker.now) (g.T.Taker.begun c.take_image.new.taker)) (sym is)
    (end_cut t file c.args.request.need only found c.loop-next.all _ _ _ c.loop-next.next k f.image f.more f.are fault ended)

pub returns-clause-ended : goal.returns-clause-ended
returns-clause-ended g c = λ t o found from fits.
    end_done t _ c.args.request.need _ found c.loop-next.all _ _ c.loop-next.next (search rules) (c.loop-next.invariant.ended t o found from fits)
