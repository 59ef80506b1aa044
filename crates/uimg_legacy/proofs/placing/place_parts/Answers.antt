use Rattle.std.proofs.Common.{◌≡◌, ◌<◌, ◌≤◌, length, get_or, ◌+◌, ◌-◌, ◌*◌, ◌∙◌, ap, refl, ℕ, List, [], sym, arith, rules}
use Rattle.uimg_texts.specs.{Slices.slice, Numbers.{be32, up4}}
use Rattle.uimg_base.{proofs.Slices.length-slice, specs.declared.spans.Span.Span}
use Rattle.uimg_legacy.specs.{Parts.{sizes, start}, Placing.{spans_before, places}}
use Rattle.uimg_legacy.proofs.SourceLaws.{honest_still, same_still}
use Rattle.uimg_legacy.proofs.PartsLaws.{table_words, start_first, start_more, up4_bound}
use Rattle.uimg_legacy.proofs.LinesLaws.{outside_yes, outside_no}
use Rattle.uimg_legacy.proofs.PlacingLaws.{before_none, place_is, place_one, place_outside, place_all}
use Rattle.uimg_legacy.proofs.placing.place_parts.Goals as goal

-- the size of a part, as it was read
size_read : (image now : List ℕ) (size i n count : ℕ) → now ≡ image → 64 + size ≤ length image → count ≡ length (sizes (slice image 64 size)) → i < count → n ≡ be32 now (64 + 4 * i) → n ≡ get_or (sizes (slice image 64 size)) i 0
size_read image now size i n count same inside counts there word = rw same at word ∙ sym (table_words image size inside i (omega (arith, counts)))

pub loop-i-init : goal.loop-i-init
loop-i-init g c = record {
  same = record { bytes = refl; honest = refl };
  asked = omega arith;
  failures = refl;
  bound = omega arith;
  start = λ honest count. omega (arith, start_first (sizes (slice (g.S.Source.device c.args.source.now).bytes 64 c.args.size)), count);
  told = λ honest count.
      let data_of = slice (g.S.Source.device c.args.source.now).bytes 64 c.args.size in
      let all : c.args.count ≡ c.args.count - 0 = omega arith in
      let none : c.new-parts.result.items ≡ [] = search rules in
      before_none (places data_of (sizes data_of) c.args.count 0) ∙ ap (λ (n : ℕ). spans_before [] (places data_of (sizes data_of) n 0)) all
      ∙ ap (λ (l : List Span). spans_before l (places data_of (sizes data_of) (c.args.count - 0) 0)) (sym none);
}

pub returns-then-start-len-clause-told : goal.returns-then-start-len-clause-told
returns-then-start-len-clause-told g c = λ honest count.
    let image = (g.S.Source.device c.args.source.now).bytes in
    let data_of = slice image 64 c.args.size in
    let same = c.loop-i.invariant.same in
    let size = size_read image _ c.args.size c.loop-i.i _ _ same.bytes c.requires.data count c.loop-i-test.true (c.in_ok-len.ensures.size (honest_still same honest)) in
    let far = outside_yes data_of (sizes data_of) c.args.size c.loop-i.i c.loop-i.start c.in_ok-len.len (length-slice image 64 c.args.size c.requires.data) (c.loop-i.invariant.start honest count) size c.if-start-len.true in
    place_outside data_of (sizes data_of) c.args.count c.loop-i.i c.loop-i.parts.items _ c.loop-i-test.true far (c.loop-i.invariant.told honest count)

pub loop-i-preserved : goal.loop-i-preserved
loop-i-preserved g c =
    let image = (g.S.Source.device c.args.source.now).bytes in
    let data_of = slice image 64 c.args.size in
    let table = sizes data_of in
    let same = c.loop-i.invariant.same in
    record {
      same = same_still same c.size_at.ensures.uses.same;
      asked = omega arith;
      failures = omega (arith, c.in_ok-len.ensures.uses.failures);
      bound = omega (arith, up4_bound c.in_ok-len.len);
      start = λ honest count.
          let size = size_read image _ c.args.size c.loop-i.i _ _ same.bytes c.requires.data count c.loop-i-test.true (c.in_ok-len.ensures.size (honest_still same honest)) in
          let up = c.up4-rounded.ensures ∙ ap up4 size in
          omega (arith, start_more table c.loop-i.i (omega (arith, count)), c.loop-i.invariant.start honest count, up);
      told = λ honest count.
          let size = size_read image _ c.args.size c.loop-i.i _ _ same.bytes c.requires.data count c.loop-i-test.true (c.in_ok-len.ensures.size (honest_still same honest)) in
          let near = outside_no data_of table c.args.size c.loop-i.i c.loop-i.start c.in_ok-len.len (length-slice image 64 c.args.size c.requires.data) (c.loop-i.invariant.start honest count) size c.if-start-len.false in
          let one = place_one data_of table c.args.count c.loop-i.i c.loop-i.parts.items _ _ c.loop-i-test.true near (place_is table c.loop-i.i c.loop-i.start c.in_ok-len.len (c.loop-i.invariant.start honest count) size) (c.loop-i.invariant.told honest count) in
          one ∙ ap (λ (l : List Span). spans_before l (places data_of table (c.args.count - (c.loop-i.i + 1)) (c.loop-i.i + 1))) (search rules);
    }

pub returns-clause-told : goal.returns-clause-told
returns-clause-told g c = λ honest count.
    let data_of = slice (g.S.Source.device c.args.source.now).bytes 64 c.args.size in
    place_all data_of (sizes data_of) c.args.count c.loop-i.i c.loop-i.parts.items _ c.loop-i-test.false (c.loop-i.invariant.told honest count)
