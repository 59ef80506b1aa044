use Rattle.std.proofs.{Common.{rules, ◌≡◌, true, is_err, map, arith, IsTrue}, lemmas.Result.err_from_is_err_and}
use Rattle.uimg_blob_writing.specs.Properties.{property}
use Rattle.uimg_its.specs.{Words.words, Parts.props_in_full, Reader.property_step}
use Rattle.uimg_its.proofs.{StepLaws.{goes_on, is_last, is_refused}, NodeLaws.property_shrinks}
use Rattle.uimg_its.proofs.{FilesLaws.files_then, SoundLaws.still_sound}
use Rattle.uimg_its.proofs.IncludedLaws.{followed, follows, stops_in, ◌▷◌}
use Rattle.uimg_its.proofs.properties.properties.Goals as goal

pub returns-in_err-last-clause-opens : goal.returns-in_err-last-clause-opens
returns-in_err-last-clause-opens g c =
    let p = err_from_is_err_and c.from_residual.result c.from_residual.ensures.1 in
    record {
      files = rw (p.1, p.2) (files_then c.loop-props.invariant.files c.in_err-last.ensures.opens.files);
      steady = search rules;
    }

pub returns-in_err-last-clause-gives : goal.returns-in_err-last-clause-gives
returns-in_err-last-clause-gives g c = λ honest.
    let p = err_from_is_err_and c.from_residual.result c.from_residual.ensures.1 in
    let files = (g.F.Files.map c.args.files.now).bytes in
    let now : IsTrue (g.F.Files.map c.loop-props.files).honest = rw c.loop-props.invariant.files.same.honest honest in
    rw (p.1, p.2) (is_refused c.in_err-last.field-0.0.kind (property_step files) (property_shrinks files) (props_in_full files (map property c.loop-props.props.items)) (words c.loop-props.rest.now) _ (rw c.loop-props.invariant.files.same.bytes at (c.in_err-last.ensures.gives now)) (c.loop-props.invariant.read honest))

pub returns-then-last-clause-opens : goal.returns-then-last-clause-opens
returns-then-last-clause-opens g c = record {
  files = files_then c.loop-props.invariant.files c.in_ok-last.ensures.opens.files;
  steady = search rules;
}

pub returns-then-last-clause-gives : goal.returns-then-last-clause-gives
returns-then-last-clause-gives g c = λ honest.
    let files = (g.F.Files.map c.args.files.now).bytes in
    let now : IsTrue (g.F.Files.map c.loop-props.files).honest = rw c.loop-props.invariant.files.same.honest honest in
    rw c.of.ensures (is_last (property_step files) (property_shrinks files) (props_in_full files (map property c.loop-props.props.items)) (props_in_full files (map property c.property_step.new.props.items)) (words c.loop-props.rest.now) (words c.in_ok-last.after.now) _ (rw (c.if-last.true, c.loop-props.invariant.files.same.bytes) at (c.in_ok-last.ensures.gives now)) (c.loop-props.invariant.read honest))

pub returns-then-last-clause-sound : goal.returns-then-last-clause-sound
returns-then-last-clause-sound g c = rw c.of.ensures (still_sound _ _ c.loop-props.invariant.files.same c.in_ok-last.ensures.sound c.loop-props.invariant.sound)

pub loop-props-preserved : goal.loop-props-preserved
loop-props-preserved g c = record {
  files = files_then c.loop-props.invariant.files c.in_ok-last.ensures.opens.files;
  opened = c.loop-props.invariant.opened ▷ followed c.in_ok-last.ensures.included;
  read = λ honest.
      let files = (g.F.Files.map c.args.files.now).bytes in
      let now : IsTrue (g.F.Files.map c.loop-props.files).honest = rw c.loop-props.invariant.files.same.honest honest in
      goes_on (property_step files) (property_shrinks files) (props_in_full files (map property c.loop-props.props.items)) (props_in_full files (map property c.property_step.new.props.items)) (words c.loop-props.rest.now) (words c.in_ok-last.after.now) _ (rw (c.if-last.false, c.loop-props.invariant.files.same.bytes) at (c.in_ok-last.ensures.gives now)) (c.loop-props.invariant.read honest);
  sound = still_sound _ _ c.loop-props.invariant.files.same c.in_ok-last.ensures.sound c.loop-props.invariant.sound;
  within = omega (arith, c.in_ok-last.ensures.shorter);
}

pub returns-in_err-last-clause-included : goal.returns-in_err-last-clause-included
returns-in_err-last-clause-included g c =
    let failed : is_err c.from_residual.result ≡ true = search rules in
    stops_in _ _ failed c.loop-props.invariant.opened c.in_err-last.ensures.included

pub returns-then-last-clause-included : goal.returns-then-last-clause-included
returns-then-last-clause-included g c = follows _ _ (c.loop-props.invariant.opened ▷ followed c.in_ok-last.ensures.included)
