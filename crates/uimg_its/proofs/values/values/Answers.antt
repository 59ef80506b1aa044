use Rattle.std.proofs.{Common.{rules, ◌≡◌, true, is_err, arith, IsTrue}, lemmas.Result.err_from_is_err_and}
use Rattle.uimg_its.specs.{Words.words, Reader.value_step}
use Rattle.uimg_its.proofs.{StepLaws.{goes_on, is_last, is_refused}, Shrinking.value_shrinks}
use Rattle.uimg_its.proofs.FilesLaws.{files_then}
use Rattle.uimg_its.proofs.IncludedLaws.{followed, follows, stops_in, ◌▷◌}
use Rattle.uimg_its.proofs.values.values.Goals as goal

pub returns-in_err-last-clause-opens : goal.returns-in_err-last-clause-opens
returns-in_err-last-clause-opens g c =
    let p = err_from_is_err_and c.from_residual.result c.from_residual.ensures.1 in
    record {
      files = rw (p.1, p.2) (files_then c.loop-last.invariant.files c.in_err-last.ensures.opens.files);
      steady = search rules;
    }

pub returns-in_err-last-clause-gives : goal.returns-in_err-last-clause-gives
returns-in_err-last-clause-gives g c = λ honest.
    let p = err_from_is_err_and c.from_residual.result c.from_residual.ensures.1 in
    let files = (g.F.Files.map c.args.files.now).bytes in
    let now : IsTrue (g.F.Files.map c.loop-last.files).honest = rw c.loop-last.invariant.files.same.honest honest in
    rw (p.1, p.2) (is_refused c.in_err-last.field-0.0.kind (value_step files) (value_shrinks files) c.loop-last.out.items (words c.loop-last.rest.now) _ (rw c.loop-last.invariant.files.same.bytes at (c.in_err-last.ensures.gives now)) (c.loop-last.invariant.read honest))

pub returns-then-last-clause-opens : goal.returns-then-last-clause-opens
returns-then-last-clause-opens g c = record {
  files = files_then c.loop-last.invariant.files c.in_ok-last.ensures.opens.files;
  steady = search rules;
}

pub returns-then-last-clause-gives : goal.returns-then-last-clause-gives
returns-then-last-clause-gives g c = λ honest.
    let files = (g.F.Files.map c.args.files.now).bytes in
    let now : IsTrue (g.F.Files.map c.loop-last.files).honest = rw c.loop-last.invariant.files.same.honest honest in
    is_last (value_step files) (value_shrinks files) c.loop-last.out.items c.value_step.new.out.items (words c.loop-last.rest.now) (words c.in_ok-last.after.now) _ (rw (c.if-last.true, c.loop-last.invariant.files.same.bytes) at (c.in_ok-last.ensures.gives now)) (c.loop-last.invariant.read honest)

pub loop-last-preserved : goal.loop-last-preserved
loop-last-preserved g c = record {
  files = files_then c.loop-last.invariant.files c.in_ok-last.ensures.opens.files;
  opened = c.loop-last.invariant.opened ▷ followed c.in_ok-last.ensures.included;
  read = λ honest.
      let files = (g.F.Files.map c.args.files.now).bytes in
      let now : IsTrue (g.F.Files.map c.loop-last.files).honest = rw c.loop-last.invariant.files.same.honest honest in
      goes_on (value_step files) (value_shrinks files) c.loop-last.out.items c.value_step.new.out.items (words c.loop-last.rest.now) (words c.in_ok-last.after.now) _ (rw (c.if-last.false, c.loop-last.invariant.files.same.bytes) at (c.in_ok-last.ensures.gives now)) (c.loop-last.invariant.read honest);
  within = omega (arith, c.in_ok-last.ensures.shorter);
}

pub returns-in_err-last-clause-included : goal.returns-in_err-last-clause-included
returns-in_err-last-clause-included g c =
    let failed : is_err c.from_residual.result ≡ true = search rules in
    stops_in _ _ failed c.loop-last.invariant.opened c.in_err-last.ensures.included

pub returns-then-last-clause-included : goal.returns-then-last-clause-included
returns-then-last-clause-included g c = follows _ _ (c.loop-last.invariant.opened ▷ followed c.in_ok-last.ensures.included)
