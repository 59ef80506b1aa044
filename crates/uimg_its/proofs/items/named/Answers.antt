use Rattle.std.proofs.{Common.{rules, arith}, lemmas.Result.err_from_is_err_and}
use Rattle.uimg_its.specs.Words.{words}
use Rattle.uimg_its.proofs.ItemLaws.{label_passed, item_found, item_refused}
use Rattle.uimg_its.proofs.items.named.Goals as goal

pub returns-in_err-found : goal.returns-in_err-found
returns-in_err-found c =
    let p = err_from_is_err_and c.from_residual.result c.from_residual.ensures.1 in
    record {
      gives = rw (p.1, p.2) (item_refused c.in_err-found.field-0.0.kind (words c.loop-found.left.now) _ c.in_err-found.ensures.gives c.loop-found.invariant.0);
      no_file = search rules;
      shorter = search rules;
    }

pub returns-in-Some : goal.returns-in-Some
returns-in-Some c = record {
  gives = item_found (words c.loop-found.left.now) (words c.in_ok-found.rest.now) _ _ (rw c.in-Some.is at c.in_ok-found.ensures.gives) c.loop-found.invariant.0;
  no_file = search rules;
  shorter = omega (arith, c.in_ok-found.ensures.shorter);
}

pub loop-found-preserved : goal.loop-found-preserved
loop-found-preserved c = (label_passed (words c.loop-found.left.now) (words c.in_ok-found.rest.now) _ (rw c.in_default.is at c.in_ok-found.ensures.gives) c.loop-found.invariant.0, omega (arith, c.in_ok-found.ensures.shorter))
