use Rattle.std.proofs.Common.{◌≡◌, ◌<◌, ◌≤◌, length, get_or, ◌+◌, ◌-◌, ◌*◌, ◌∙◌, ap, refl, ℕ, List, Some, None, subst, sym, arith}
use Rattle.std.proofs.lemmas.Result.{err_from_is_err_and}
use Rattle.uimg_texts.specs.{Slices.slice, Numbers.{be32, up4}}
use Rattle.uimg_base.{specs.Outcome.{Tells, done, refused}, proofs.OutcomeLaws.Tells-after}
use Rattle.uimg_base.proofs.{SinkLaws.{prefix_none, prefix_first}, Slices.length-slice}
use Rattle.uimg_legacy.specs.{declared.fault.LegacyFault.TheVariants.PartOutside, Parts.sizes}
use Rattle.uimg_legacy.specs.Listing.{part_lines}
use Rattle.uimg_legacy.proofs.SourceLaws.{honest_still, same_still}
use Rattle.uimg_legacy.proofs.PartsLaws.{table_words, start_first, start_more, up4_bound}
use Rattle.uimg_legacy.proofs.LinesLaws.{all_none, lines_more, lines_end, outside_yes, outside_no}
use Rattle.uimg_legacy.proofs.listing.list_parts.Goals as goal

-- the size of a part, as it was read
size_read : (image now : List ℕ) (size i n count : ℕ) → now ≡ image → 64 + size ≤ length image → count ≡ length (sizes (slice image 64 size)) → i < count → n ≡ be32 now (64 + 4 * i) → n ≡ get_or (sizes (slice image 64 size)) i 0
size_read image now size i n count same inside counts there word = rw same at word ∙ sym (table_words image size inside i (omega (arith, counts)))

pub loop-i-init : goal.loop-i-init
loop-i-init g c = record {
  same = record { bytes = refl; honest = refl };
  asked = omega arith;
  failures = refl;
  faults = refl;
  bound = omega arith;
  start = λ honest count. omega (arith, start_first (sizes (slice (g.S.Source.device c.args.source.now).bytes 64 c.args.size)), count);
  told = λ honest count e t rest.
      let all : c.args.count - 0 ≡ c.args.count = omega arith in
      let image = (g.S.Source.device c.args.source.now).bytes in
      subst (λ (n : ℕ). Tells e (part_lines (slice image 64 c.args.size) (sizes (slice image 64 c.args.size)) n 0) c.args.out.now t) all rest;
}

pub returns-in_err-len-clause-told : goal.returns-in_err-len-clause-told
returns-in_err-len-clause-told g c = λ honest count.
    let p = err_from_is_err_and c.from_residual.result c.from_residual.ensures.1 in
    rw (p.1, p.2) (c.loop-i.invariant.told honest count None c.loop-i.out (prefix_none c.loop-i.out _))

pub returns-then-start-len-clause-told : goal.returns-then-start-len-clause-told
returns-then-start-len-clause-told g c = λ honest count.
    let image = (g.S.Source.device c.args.source.now).bytes in
    let table = sizes (slice image 64 c.args.size) in
    let same = c.loop-i.invariant.same in
    let size = size_read image _ c.args.size c.loop-i.i _ _ same.bytes c.requires.data count c.loop-i-test.true (c.in_ok-len.ensures.size (honest_still same honest)) in
    let far = outside_yes (slice image 64 c.args.size) table c.args.size c.loop-i.i c.loop-i.start c.in_ok-len.len (length-slice image 64 c.args.size c.requires.data) (c.loop-i.invariant.start honest count) size c.if-start-len.true in
    c.loop-i.invariant.told honest count (Some (refused PartOutside)) c.loop-i.out
    (rw (lines_more (slice image 64 c.args.size) table c.args.count c.loop-i.i c.loop-i-test.true, far) (refl, all_none _))

pub returns-in_err-put_part_line-clause-told : goal.returns-in_err-put_part_line-clause-told
returns-in_err-put_part_line-clause-told g c = λ honest count.
    let image = (g.S.Source.device c.args.source.now).bytes in
    let table = sizes (slice image 64 c.args.size) in
    let same = c.loop-i.invariant.same in
    let size = size_read image _ c.args.size c.loop-i.i _ _ same.bytes c.requires.data count c.loop-i-test.true (c.in_ok-len.ensures.size (honest_still same honest)) in
    let near = outside_no (slice image 64 c.args.size) table c.args.size c.loop-i.i c.loop-i.start c.in_ok-len.len (length-slice image 64 c.args.size c.requires.data) (c.loop-i.invariant.start honest count) size c.if-start-len.false in
    let p = err_from_is_err_and c.from_residual-in_err-put_part_line.result c.from_residual-in_err-put_part_line.ensures.1 in
    rw (p.1, p.2) (c.loop-i.invariant.told honest count None c.put_part_line.new.out
    (rw (lines_more (slice image 64 c.args.size) table c.args.count c.loop-i.i c.loop-i-test.true, near, sym size) (prefix_first _ _ _ _ c.in_err-put_part_line.ensures.prefix)))

pub loop-i-preserved : goal.loop-i-preserved
loop-i-preserved g c =
    let image = (g.S.Source.device c.args.source.now).bytes in
    let table = sizes (slice image 64 c.args.size) in
    let same = c.loop-i.invariant.same in
    record {
      same = same_still same c.size_at.ensures.uses.same;
      asked = omega arith;
      failures = omega (arith, c.in_ok-len.ensures.uses.failures);
      faults = omega (arith, c.in_ok-put_part_line.ensures.faults);
      bound = omega (arith, up4_bound c.in_ok-len.len);
      start = λ honest count.
          let size = size_read image _ c.args.size c.loop-i.i _ _ same.bytes c.requires.data count c.loop-i-test.true (c.in_ok-len.ensures.size (honest_still same honest)) in
          let up = c.up4-rounded.ensures ∙ ap up4 size in
          omega (arith, start_more table c.loop-i.i (omega (arith, count)), c.loop-i.invariant.start honest count, up);
      told = λ honest count e t rest.
          let size = size_read image _ c.args.size c.loop-i.i _ _ same.bytes c.requires.data count c.loop-i-test.true (c.in_ok-len.ensures.size (honest_still same honest)) in
          let near = outside_no (slice image 64 c.args.size) table c.args.size c.loop-i.i c.loop-i.start c.in_ok-len.len (length-slice image 64 c.args.size c.requires.data) (c.loop-i.invariant.start honest count) size c.if-start-len.false in
          c.loop-i.invariant.told honest count e t
          (rw (lines_more (slice image 64 c.args.size) table c.args.count c.loop-i.i c.loop-i-test.true, near, sym size) (Tells-after e _ _ _ _ _ c.in_ok-put_part_line.ensures.all rest));
    }

pub returns-clause-told : goal.returns-clause-told
returns-clause-told g c = λ honest count.
    c.loop-i.invariant.told honest count (Some done) c.loop-i.out (rw (lines_end _ _ _ _ c.loop-i-test.false) (refl, all_none _))
