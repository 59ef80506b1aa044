use Rattle.std.proofs.Common.{rules, ◌≡◌, ◌≤◌, ◌<◌, ℕ, ◌+◌, length, get_or, drop, false, nat_lt, nat_le, Some, None, ◌∙◌, sym, subst, arith}
use Rattle.std.proofs.lemmas.Bool.{ltb-false}
use Rattle.uimg_texts.specs.Slices.{slice}
use Rattle.uimg_legacy.specs.Parts.{sizes}
use Rattle.uimg_map.specs.{Contents.GrowsBy, LegacyContents.{part_told, parts_told}}
use Rattle.uimg_map.proofs.TableLaws.{read_word, size_word, is_counted}
use Rattle.uimg_map.proofs.PartsLaws.{part_then, part_ends, parts_end}
use Rattle.uimg_map.proofs.legacy_contents.add_parts.Goals as goal

same_some : (m n : ℕ) → Some m ≡ Some n → m ≡ n
same_some m n e = cc

not_none : (n : ℕ) → None ≡ Some n → ⊥
not_none n e = cc

pub returns-in-None : goal.returns-in-None
returns-in-None g c =
    let device = g.S.Source.device in
    let d = device c.args.source.now in
    let size = c.args.size in
    let i = c.loop-number.number in
    let inv = c.loop-number.invariant in
    record {
      uses = record {
        same = search rules;
        asked = λ h. omega (arith, inv.asked, c.in_ok-size.ensures.uses.asked, c.loop-number-test.true);
        failures = search rules;
      };
      size = inv.kept;
      grows = λ h.
          let count = (is_counted (slice d.bytes 64 size) c.args.count (c.requires h)).1 in
          let none = read_word d (device c.loop-number.source) i c.in_ok-size.field-0 None inv.same c.in_ok-size.ensures.word c.in-None.is h in
          let some = size_word d.bytes size i (omega (arith, count, c.loop-number-test.true)) in
          absurd (not_none _ (sym none ∙ some));
      stops = λ h. tt;
    }

pub returns-then-branch : goal.returns-then-branch
returns-then-branch g c =
    let device = g.S.Source.device in
    let d = device c.args.source.now in
    let size = c.args.size in
    let i = c.loop-number.number in
    let at = c.loop-number.at in
    let w = c.in-Some.size in
    let end = c.end_of-end.result in
    let before = c.loop-number.contents in
    let after = c.add_part.new.contents in
    let inv = c.loop-number.invariant in
    let added = c.in_ok-add_part.ensures in
    let table = sizes (slice d.bytes 64 size) in
    record {
      uses = record {
        same = search rules;
        asked = λ h. omega (arith, inv.asked, c.in_ok-size.ensures.uses.asked, c.loop-number-test.true);
        failures = search rules;
      };
      size = added.adds.size ∙ inv.kept;
      grows = λ h.
          let count : c.args.count ≡ length table = (is_counted (slice d.bytes 64 size) c.args.count (c.requires h)).1 in
          let there : i < length table = omega (arith, count, c.loop-number-test.true) in
          let some = read_word d (device c.loop-number.source) i c.in_ok-size.field-0 (Some w) inv.same c.in_ok-size.ensures.word c.in-Some.is h in
          let word = same_some w (get_or table i 0) (sym some ∙ size_word d.bytes size i there) in
          let part = subst (λ (n : ℕ). GrowsBy d.bytes (part_told (nat_lt end (at + w)) at i w (nat_le n (i + 1))) before after) count (added.adds.grows d.bytes) in
          inv.left h after (part_ends d.bytes table end at i w there word before after (sym added.outside ∙ c.if-branch.true) part);
      stops = λ h. tt;
    }

pub loop-number-preserved : goal.loop-number-preserved
loop-number-preserved g c =
    let device = g.S.Source.device in
    let d = device c.args.source.now in
    let size = c.args.size in
    let i = c.loop-number.number in
    let at = c.loop-number.at in
    let w = c.in-Some.size in
    let end = c.end_of-end.result in
    let before = c.loop-number.contents in
    let after = c.add_part.new.contents in
    let inv = c.loop-number.invariant in
    let added = c.in_ok-add_part.ensures in
    let table = sizes (slice d.bytes 64 size) in
    let inside : nat_lt end (at + w) ≡ false = sym added.outside ∙ c.if-branch.false in
    let most : at + w ≤ end = ltb-false end (at + w) inside in
    record {
      small = omega (arith, most, c.end_of-end.ensures, c.up4-at.ensures, c.ranges.size.fits);
      same = search rules;
      asked = omega (arith, inv.asked, c.in_ok-size.ensures.uses.asked);
      failures = search rules;
      kept = added.adds.size ∙ inv.kept;
      left = λ h all more.
          let count : c.args.count ≡ length table = (is_counted (slice d.bytes 64 size) c.args.count (c.requires h)).1 in
          let there : i < length table = omega (arith, count, c.loop-number-test.true) in
          let some = read_word d (device c.loop-number.source) i c.in_ok-size.field-0 (Some w) inv.same c.in_ok-size.ensures.word c.in-Some.is h in
          let word = same_some w (get_or table i 0) (sym some ∙ size_word d.bytes size i there) in
          let part = subst (λ (n : ℕ). GrowsBy d.bytes (part_told (nat_lt end (at + w)) at i w (nat_le n (i + 1))) before after) count (added.adds.grows d.bytes) in
          let rest = subst (λ (n : ℕ). GrowsBy d.bytes (parts_told end n (i + 1) (drop (i + 1) table)) after all) c.up4-at.ensures more in
          inv.left h all (part_then d.bytes table end at i w there word before after all inside part rest);
    }

pub returns : goal.returns
returns g c =
    let d = g.S.Source.device c.args.source.now in
    let size = c.args.size in
    let inv = c.loop-number.invariant in
    let table = sizes (slice d.bytes 64 size) in
    record {
      uses = record {
        same = search rules;
        asked = λ h. omega (arith, inv.asked, c.loop-number.auto.number-end);
        failures = search rules;
      };
      size = inv.kept;
      grows = λ h.
          let count : c.args.count ≡ length table = (is_counted (slice d.bytes 64 size) c.args.count (c.requires h)).1 in
          inv.left h c.loop-number.contents (parts_end d.bytes table c.end_of-end.result c.loop-number.at c.loop-number.number c.loop-number.contents (omega (arith, count, c.loop-number-test.false)));
      stops = λ h. tt;
    }
