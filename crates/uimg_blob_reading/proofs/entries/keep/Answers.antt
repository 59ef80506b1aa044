use Rattle.std.proofs.Common.{◌+◌, ◌∙◌, ap, sym, refl, ℕ, List, set, get_or, rules}
use Rattle.uimg_base.specs.Held.{Held}
use Rattle.uimg_blob_reading.specs.{Grammar.none, Roles.role_at, Kept.span_word, SoFar.next_level}
use Rattle.uimg_blob_reading.proofs.{RoleLaws.row_at, KeyLaws.{named_some, named_none}}
use Rattle.uimg_blob_reading.proofs.ValueLaws.{absent}
use Rattle.uimg_blob_reading.proofs.KeepLaws.{placed_at, unchanged, changed, again, kept_word}
use Rattle.uimg_blob_reading.proofs.entries.keep.Goals as goal

pub returns-in_default : goal.returns-in_default
returns-in_default g c = record {
  kept = λ p key place long at name own ls old is placed. old ∙ named_none ls at name own p (sym c.in_default.is ∙ key.is);
  size = record { count = refl; peak = refl; refused = refl };
}

pub returns-in_default-slot_of : goal.returns-in_default-slot_of
returns-in_default-slot_of g c =
    let entry = c.entry-entry.result in
    record {
      kept = λ p key place long at name own ls old is placed.
          let named = named_some c.in-Some.key p.name (sym c.in-Some.is ∙ key.is) in
          let role = c.role_in.ensures (role_at (next_level ls) name) (ap (λ (e : List ℕ). get_or e 3 0) (row_at ls at c.args.number name own none c.args.room.now.entries entry old c.entry-entry.ensures is)) in
          old ∙ unchanged ls at name own p (absent _ own p (placed_at p c.role_in.result c.in-Some.key _ ls name role named (sym c.slot_of.ensures.slot ∙ c.in_default-slot_of.is)));
      size = record { count = refl; peak = refl; refused = refl };
    }

pub returns-then-entry-i-eq0 : goal.returns-then-entry-i-eq0
returns-then-entry-i-eq0 g c =
    let entry = c.entry-entry.result in
    let i = c.in-Some-slot_of.i in
    record {
      kept = λ p key place long at name own ls old is placed.
          let named = named_some c.in-Some.key p.name (sym c.in-Some.is ∙ key.is) in
          let role = c.role_in.ensures (role_at (next_level ls) name) (ap (λ (e : List ℕ). get_or e 3 0) (row_at ls at c.args.number name own none c.args.room.now.entries entry old c.entry-entry.ensures is)) in
          ap (λ (h : Held). h.entries) c.set.ensures
          ∙ ap (λ (w : ℕ). set c.args.room.now.entries c.args.number (set entry (i + 5) w))
          (c.span_word.ensures ∙ ap (λ (n : ℕ). span_word n c.args.value_length) (sym place) ∙ ap (λ (n : ℕ). span_word p.place n) long)
          ∙ changed ls at c.args.number i name own p c.args.room.now.entries entry old is c.entry-entry.ensures
          (placed_at p c.role_in.result c.in-Some.key _ ls name role named (sym c.slot_of.ensures.slot ∙ c.in-Some-slot_of.is)) placed c.if-entry-i-eq0.true;
      size = search rules;
    }

pub returns-else-entry-i-eq0 : goal.returns-else-entry-i-eq0
returns-else-entry-i-eq0 g c =
    let entry = c.entry-entry.result in
    let i = c.in-Some-slot_of.i in
    record {
      kept = λ p key place long at name own ls old is placed.
          let named = named_some c.in-Some.key p.name (sym c.in-Some.is ∙ key.is) in
          let role = c.role_in.ensures (role_at (next_level ls) name) (ap (λ (e : List ℕ). get_or e 3 0) (row_at ls at c.args.number name own none c.args.room.now.entries entry old c.entry-entry.ensures is)) in
          let there = placed_at p c.role_in.result c.in-Some.key _ ls name role named (sym c.slot_of.ensures.slot ∙ c.in-Some-slot_of.is) in
          old ∙ again ls at i name own p there
          (λ zero. c.if-entry-i-eq0.false (kept_word ls at c.args.number i name own p c.args.room.now.entries entry old is c.entry-entry.ensures there ∙ zero));
      size = record { count = refl; peak = refl; refused = refl };
    }
