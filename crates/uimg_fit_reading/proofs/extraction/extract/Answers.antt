use Rattle.std.{proofs.Common.{refl, sym, subst, Result, length}, specs.Prelude.IsTrue}
use Rattle.uimg_base.specs.{Outcome.Tells, declared.status.Status.Status}
use Rattle.uimg_fit_base.specs.{declared.fault.Fault.Fault, Extraction.extract_of}
use Rattle.uimg_fit_base.specs.Faults.{of_move, end_of, is_refused}
use Rattle.uimg_fit_reading.specs.{Rooms.DeliversBetween, Work.{list_work, extract_work}}
use Rattle.uimg_fit_reading.proofs.ExtractionLaws.{at_least, refusal_delivers, refusal_told, refusal_ahead, stop_delivers, stop_ahead, stop_told, stop_unrefused}
use Rattle.uimg_fit_reading.proofs.PassedLaws.{passed_on}
use Rattle.uimg_fit_reading.proofs.extraction.extract.Goals as goal
use Rattle.uimg_texts.specs.declared.naming.Naming.{TheVariants.{Profile}}

pub returns-in_err-span : goal.returns-in_err-span
returns-in_err-span g c =
    let d = g.S.Source.device c.args.source.now in
    let m = g.S.Source.device c.locate.new.source in
    let e = c.in_err-span.field-0.0 in
    let o = extract_of d.bytes c.args.position in
    let is = passed_on c.from_residual.result e c.from_residual.ensures.1 in
    record {
      delivers = subst (λ (r : Result Status Fault). DeliversBetween (extract_work d.bytes c.args.position) r d m c.args.room.now c.locate.new.room c.args.out.now c.args.out.now) (sym is)
          (refusal_delivers (list_work Profile d.bytes) (extract_work d.bytes c.args.position) e d m c.args.room.now c.locate.new.room c.args.out.now (at_least (list_work Profile d.bytes) (length o.text)) c.in_err-span.ensures.inspects);
      ahead = refusal_ahead d m c.args.room.now c.locate.new.room c.args.out.now e o.text c.in_err-span.ensures.inspects;
      untouched = λ _. refl;
      told = λ honest. subst (λ (r : Result Status Fault). Tells (end_of r) o c.args.out.now c.args.out.now) (sym is) (refusal_told d.bytes c.args.position e c.args.out.now (c.in_err-span.ensures.gives honest));
    }

pub returns-in_err-copy_range : goal.returns-in_err-copy_range
returns-in_err-copy_range g c =
    let d = g.S.Source.device c.args.source.now in
    let m = g.S.Source.device c.locate.new.source in
    let f = g.S.Source.device c.copy_range.new.source in
    let e = c.in_err-copy_range.field-0.0 in
    let p = c.in_ok-span.span in
    let o = extract_of d.bytes c.args.position in
    let is = passed_on c.from_residual-in_err-copy_range.result (of_move e) c.from_residual-in_err-copy_range.ensures.1 in
    let ahead = stop_ahead c.args.position p d m f c.args.room.now c.locate.new.room c.args.out.now c.copy_range.new.out c.in_ok-span.ensures.inspects c.in_ok-span.ensures.gives c.in_err-copy_range.ensures.copied in
    record {
      delivers = subst (λ (r : Result Status Fault). DeliversBetween (extract_work d.bytes c.args.position) r d f c.args.room.now c.copy_range.new.room c.args.out.now c.copy_range.new.out) (sym is)
          (stop_delivers c.args.position p e d m f c.args.room.now c.locate.new.room c.copy_range.new.room c.args.out.now c.copy_range.new.out
          c.in_ok-span.ensures.inspects c.in_ok-span.ensures.inside c.in_ok-span.ensures.gives c.in_err-copy_range.ensures.uses c.copy_range.ensures.room c.in_err-copy_range.ensures.faults);
      ahead = ahead;
      untouched = λ refused. absurd (stop_unrefused e (subst (λ (r : Result Status Fault). IsTrue (is_refused r)) is refused));
      told = λ honest. subst (λ (r : Result Status Fault). Tells (end_of r) o c.args.out.now c.copy_range.new.out) (sym is)
          (stop_told e o c.args.out.now c.copy_range.new.out (record { count = (ahead honest).count; first = (ahead honest).first }));
    }
