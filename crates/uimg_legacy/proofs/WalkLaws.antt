-- The parts that were taken, one after another.
use Rattle.std.proofs.Common.{◌≡◌, ◌≤◌, ◌<◌, ◌+◌, ◌-◌, ◌*◌, ℕ, suc, List, [], ◌∷◌, ◌++◌, length, length-append, take, drop, get_or, Bool, IsTrue, Option, Result, Err, refl, ap, sym, subst, ◌∙◌, arith}
use Rattle.std.{specs.Prelude.sum_by, proofs.{Math.Seq.drop-cons, lemmas.List.Sums.sum_by_push}}
use Rattle.std.proofs.lemmas.List.{append_assoc, append-nil, take-append-drop, take-take}
use Rattle.uimg_sums.specs.CrcSums.{Holds}
use Rattle.uimg_texts.specs.{Numbers.{be32, up4}, Slices.slice}
use Rattle.uimg_base.{specs.Device.{Device, SameDevice}, proofs.Slices.{slice-add, length-slice}}
use Rattle.uimg_legacy.specs.declared.{unpacking.takes.Walk.Walk, fault.LegacyFault.LegacyFault}
use Rattle.uimg_legacy.specs.declared.fault.Fault.{Fault, TheVariants.{Legacy, Read, Put}}
use Rattle.uimg_legacy.specs.{Words.whole_words, Parts.sizes}
use Rattle.uimg_legacy.specs.Unpacking.{Part, part_if, is_part_asked, chosen_parts, parts_by}
use Rattle.uimg_legacy.specs.UnpackingSteps.{TakesNextBetween, Walked, RefusesNext, RefusesBy}
use Rattle.uimg_legacy.specs.declared.fault.LegacyFault.TheVariants as of
use Rattle.uimg_legacy.proofs.PartsLaws.{slice-slice, length-sizes, table_words, sizes-at, sizes_end}
use Rattle.uimg_legacy.proofs.ChunkLaws.{words-slice, sizes-le-words}
use Rattle.uimg_legacy.proofs.CuttingLaws.{cut_none, cut_more, cut_outside, chosen_none, chosen_more, words_then, word_of, some_more, positive}

-- none were taken
pub walked_none : (only : Option ℕ) (honest : Bool) (size : ℕ) (d : Device) (w : Walk) (from : List Part) → w.at ≤ size → Walked only honest 0 size d w w from from
unfolding whole_words
walked_none only honest size d w from inside = record {
  table = [];
  bytes = [];
  parts = [];
  long = refl;
  some = tt;
  place = omega arith;
  ends = omega (arith, inside);
  cut = cut_none [];
  number = refl;
  sizes = λ fed holds. subst (λ (xs : List ℕ). Holds w.sizes xs) (sym (append-nil fed)) holds;
  summed = λ fed holds. subst (λ (xs : List ℕ). Holds w.sum xs) (sym (append-nil fed)) holds;
  read = λ true_one. refl;
  right = λ true_one. refl;
  held = λ known. sym (append-nil from) ∙ ap (λ (ps : List Part). from ++ ps) (sym (chosen_none only 0));
}

-- and one more
pub walked_more : (only : Option ℕ) (honest : Bool) (n size : ℕ) (d e : Device) (w m x : Walk) (from mid to : List Part) → SameDevice d e → Walked only honest n size d w m from mid → TakesNextBetween only honest n size e m x mid to → Walked only honest (n + 1) size d w x from to
walked_more only honest n size d e w m x from mid to same p q =
    let s = be32 q.word 0 in
    let piece = q.taken.sums.piece in
    let some = positive s q.some in
    let sized : whole_words (p.table ++ q.word) ≡ whole_words p.table ++ s ∷ [] = words_then p.table q.word n p.long ∙ ap (λ (ws : List ℕ). whole_words p.table ++ ws) (word_of q.word q.long) in
    let sum = sum_by_push up4 (whole_words p.table) s in
    let both = length-append p.bytes piece in
    let whole : length p.bytes ≡ sum_by up4 (whole_words p.table) = omega (arith, p.place, p.ends, q.fits, some) in
    let fits : s ≤ length piece = omega (arith, q.taken.sums.size, q.place, q.fits) in
    record {
      table = p.table ++ q.word;
      bytes = p.bytes ++ piece;
      parts = p.parts ++ take s piece ∷ [];
      long = length-append p.table q.word ∙ omega (arith, p.long, q.long);
      some = rw sized (some_more (whole_words p.table) s p.some q.some);
      place = omega (arith, both, p.place, q.taken.sums.size, q.place, q.fits);
      ends = rw (sized, sum) (omega (arith, whole, p.place, q.place));
      cut = rw sized (cut_more (whole_words p.table) p.bytes p.parts s piece p.cut whole fits);
      number = length-append p.parts (take s piece ∷ []) ∙ omega (arith, p.number);
      sizes = λ fed holds. subst (λ (xs : List ℕ). Holds x.sizes xs) (append_assoc fed p.table q.word) (q.sizes (fed ++ p.table) (p.sizes fed holds));
      summed = λ fed holds. subst (λ (xs : List ℕ). Holds x.sum xs) (append_assoc fed p.bytes piece) (q.taken.sums.summed (fed ++ p.bytes) (p.summed fed holds));
      read = λ true_one.
          let now = subst (λ (b : Bool). IsTrue b) (sym same.honest) true_one in
          let next = q.read now ∙ ap (λ (xs : List ℕ). slice xs (64 + 4 * n) 4) same.bytes in
          let count : 4 * n + 4 ≡ 4 * (n + 1) = omega arith in
          ap (λ (xs : List ℕ). xs ++ q.word) (p.read true_one) ∙ ap (λ (xs : List ℕ). slice d.bytes 64 (4 * n) ++ xs) next ∙ sym (slice-add d.bytes 64 (4 * n) 4) ∙ ap (λ (k : ℕ). slice d.bytes 64 k) count;
      right = λ true_one.
          let now = subst (λ (b : Bool). IsTrue b) (sym same.honest) true_one in
          let there : 64 + m.at ≡ 64 + w.at + length p.bytes = omega (arith, p.place) in
          let next = q.taken.sums.right now ∙ ap (λ (xs : List ℕ). slice xs (64 + m.at) (x.at - m.at)) same.bytes ∙ ap (λ (k : ℕ). slice d.bytes (64 + m.at) k) (sym q.taken.sums.size) ∙ ap (λ (k : ℕ). slice d.bytes k (length piece)) there in
          ap (λ (xs : List ℕ). xs ++ piece) (p.right true_one) ∙ ap (λ (xs : List ℕ). slice d.bytes (64 + w.at) (length p.bytes) ++ xs) next ∙ sym (slice-add d.bytes (64 + w.at) (length p.bytes) (length piece)) ∙ ap (λ (k : ℕ). slice d.bytes (64 + w.at) k) (sym both);
      held = λ known.
          let number : 0 + length p.parts ≡ n = omega (arith, p.number) in
          let last : chosen_parts only 0 (p.parts ++ take s piece ∷ []) ≡ chosen_parts only 0 p.parts ++ part_if (is_part_asked only n) n (take s piece) = chosen_more only 0 p.parts (take s piece) ∙ ap (λ (k : ℕ). chosen_parts only 0 p.parts ++ part_if (is_part_asked only k) k (take s piece)) number in
          q.taken.held known ∙ ap (λ (ps : List Part). ps ++ part_if (is_part_asked only n) n (take s piece)) (p.held known)
          ∙ append_assoc from (chosen_parts only 0 p.parts) (part_if (is_part_asked only n) n (take s piece)) ∙ ap (λ (ps : List Part). from ++ ps) (sym last);
    }

-- the first sizes of an honest device are the words that were read, and then stands the next one
sizes_split : (image table : List ℕ) (size n : ℕ) → 64 + size ≤ length image → 4 * (n + 1) ≤ size → n < length (sizes (slice image 64 size)) → table ≡ slice image 64 (4 * n) → (more : List ℕ) × (sizes (slice image 64 size) ≡ whole_words table ++ be32 image (64 + 4 * n) ∷ more)
unfolding sizes
sizes_split image table size n inside fits there e =
    let d = slice image 64 size in
    let len = length-sizes d in
    let first : take n (sizes d) ≡ whole_words table = take-take n _ (whole_words d) (omega (arith, len, there)) ∙ sym (words-slice d 0 n) ∙ ap whole_words (slice-slice image 64 size 0 (4 * n) (omega (arith, fits)) ∙ sym e) in
    let next : suc n ≡ n + 1 = omega arith in
    let here : get_or (sizes d) n 0 ≡ be32 image (64 + 4 * n) = table_words image size inside n there in (
      drop (n + 1) (sizes d),
      sym (take-append-drop n (sizes d)) ∙ ap (λ (ws : List ℕ). ws ++ drop n (sizes d)) first
          ∙ ap (λ (ws : List ℕ). whole_words table ++ ws) (drop-cons (sizes d) n 0 there ∙ ap (λ (w : ℕ). w ∷ drop (suc n) (sizes d)) here ∙ ap (λ (k : ℕ). be32 image (64 + 4 * n) ∷ drop k (sizes d)) next),
    )

-- by the fault
by_fault : (X : Type 0) (fault : Fault) (at size word : ℕ) (told : Result (List (List ℕ)) LegacyFault) → RefusesNext {X = X} at size word (Err fault) → (size < at + word → told ≡ Err of.PartOutside) → (word ≡ 0 → told ≡ Err of.BadDataCrc) → RefusesBy {X = X} told (Err fault)
by_fault X (Legacy of.PartOutside) at size word told refused far none = far refused
by_fault X (Legacy of.BadDataCrc) at size word told refused far none = none refused
by_fault X (Legacy of.TooShort) at size word told refused far none = absurd refused
by_fault X (Legacy of.BadMagic) at size word told refused far none = absurd refused
by_fault X (Legacy of.BadHeaderCrc) at size word told refused far none = absurd refused
by_fault X (Legacy of.Truncated) at size word told refused far none = absurd refused
by_fault X (Legacy of.NoTableEnd) at size word told refused far none = absurd refused
by_fault X (Legacy of.NoSuchPart) at size word told refused far none = absurd refused
by_fault X (Legacy of.EmptyPart) at size word told refused far none = absurd refused
by_fault X (Legacy of.TooLarge) at size word told refused far none = absurd refused
by_fault X Read at size word told refused far none = tt
by_fault X Put at size word told refused far none = tt

-- the next part is refused as the definition tells
pub refused_next : {X : Type 0} (only : Option ℕ) (honest : Bool) (n count size : ℕ) (d e : Device) (w m : Walk) (from mid : List Part) (r : Result X Fault) (fault : Fault) → r ≡ Err fault → SameDevice d e → IsTrue d.honest → 64 + size ≤ length d.bytes → n < count → 4 * (count + 1) ≤ size → w.at ≡ 4 * (count + 1) → count ≡ length (sizes (slice d.bytes 64 size)) → Walked only honest n size d w m from mid → (IsTrue e.honest → RefusesNext {X = X} m.at size (be32 e.bytes (64 + 4 * n)) (Err fault)) → RefusesBy {X = X} (parts_by (sizes (slice d.bytes 64 size)) (slice d.bytes (64 + w.at) (size - w.at))) r
refused_next {X} only honest n count size d e w m from mid r fault is same true_one inside there fits start counts p at_e =
    let refused = subst (λ (xs : List ℕ). RefusesNext {X = X} m.at size (be32 xs (64 + 4 * n)) (Err fault)) same.bytes (at_e (subst (λ (b : Bool). IsTrue b) (sym same.honest) true_one)) in
    let file = slice d.bytes 64 size in
    let s = be32 d.bytes (64 + 4 * n) in
    let split = sizes_split d.bytes p.table size n inside (omega (arith, fits, there)) (omega (arith, there, counts)) (p.read true_one) in
    let bytes = slice d.bytes (64 + w.at) (size - w.at) in
    let len : length bytes ≡ size - w.at = length-slice d.bytes (64 + w.at) (size - w.at) (omega (arith, inside, start, fits)) in
    subst (λ (x : Result X Fault). RefusesBy (parts_by (sizes file) bytes) x) (sym is)
    (by_fault X fault m.at size s _ refused (λ far. rw split.1 (cut_outside (whole_words p.table) s split.0 bytes (omega (arith, far, p.ends)) (omega (arith, far, p.ends, len))))
    (λ none.
    let few = sizes-le-words file in
    let most = table_words d.bytes size inside n (omega (arith, there, counts)) in
    let word = sizes-at file n (omega (arith, there, counts)) in
    let end = sizes_end file n (omega (arith, there, counts)) (omega (arith, there, counts, few)) (sym word ∙ most ∙ none) in
    absurd (omega (arith, end, there, counts))))
