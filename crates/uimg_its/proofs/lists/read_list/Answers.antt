use Rattle.std.proofs.{Common.{rules, arith}, lemmas.Result.err_from_is_err_and}
use Rattle.uimg_its.specs.{Words.words, Reader.element_step}
use Rattle.uimg_its.proofs.{StepLaws.{goes_on, is_last, is_refused}, Shrinking.element_shrinks}
use Rattle.uimg_its.proofs.lists.read_list.Goals as goal

pub returns-in_err-last : goal.returns-in_err-last
returns-in_err-last g c =
    let p = err_from_is_err_and c.from_residual.result c.from_residual.ensures.1 in
    record {
      gives = rw (p.1, p.2) (is_refused c.in_err-last.field-0.0.kind (element_step c.args.list) (element_shrinks c.args.list) c.loop-last.out.items (words c.loop-last.rest.now) _ c.in_err-last.ensures.reads.gives c.loop-last.invariant.0);
      no_file = search rules;
      shorter = search rules;
    }

pub returns-then-last : goal.returns-then-last
returns-then-last g c = record {
  gives = is_last (element_step c.args.list) (element_shrinks c.args.list) c.loop-last.out.items c.element_step.new.out.items (words c.loop-last.rest.now) (words c.in_ok-last.after.now) _ (rw c.if-last.true at c.in_ok-last.ensures.reads.gives) c.loop-last.invariant.0;
  no_file = search rules;
  shorter = omega (arith, c.in_ok-last.ensures.shorter);
}

pub loop-last-preserved : goal.loop-last-preserved
loop-last-preserved g c = (
  goes_on (element_step c.args.list) (element_shrinks c.args.list) c.loop-last.out.items c.element_step.new.out.items (words c.loop-last.rest.now) (words c.in_ok-last.after.now) _ (rw c.if-last.false at c.in_ok-last.ensures.reads.gives) c.loop-last.invariant.0,
  omega (arith, c.in_ok-last.ensures.shorter),
)
