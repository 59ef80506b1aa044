-- The parts of a legacy image, one at a time.
use Rattle.std.proofs.Common.{◌≡◌, ◌≤◌, ◌<◌, ℕ, zero, suc, ◌+◌, List, [], ◌∷◌, length, drop, get_or, Bool, true, false, nat_lt, nat_le, ◌∙◌, ap, sym, refl, subst, arith}
use Rattle.std.proofs.lemmas.{Bool.{leb-true, leb-false, le-leb, lt-leb}, List.drop_more}
use Rattle.std.proofs.Math.ListN.{drop_of_length-le}
use Rattle.uimg_texts.specs.Numbers.{up4}
use Rattle.uimg_map.specs.{declared.contents.Contents.Contents, Found.{Told, found_then, nothing}}
use Rattle.uimg_map.specs.{Contents.GrowsBy, LegacyContents.{is_end, part_told, parts_told}}
use Rattle.uimg_map.proofs.ContentsLaws.{grows_none, grows_then}

leb_by : (m n : ℕ) (b : Bool) → nat_le m n ≡ b → b ≡ nat_le (suc m) (suc n)
leb_by m n true e = let le = leb-true m n e in sym (le-leb (suc m) (suc n) (omega (arith, le)))
leb_by m n false e = let lt = leb-false m n e in sym (lt-leb (suc m) (suc n) (omega (arith, lt)))

leb_suc : (m n : ℕ) → nat_le m n ≡ nat_le (suc m) (suc n)
leb_suc m n = leb_by m n (nat_le m n) refl

-- a size is the last one where as many are there
is_end-drop : (table : List ℕ) (n : ℕ) → is_end (drop n table) ≡ nat_le (length table) n
is_end-drop [] zero = refl
is_end-drop [] (suc n) = sym (le-leb 0 (suc n) (omega arith))
is_end-drop (size ∷ sizes) zero = sym (lt-leb (length (size ∷ sizes)) 0 (omega arith))
is_end-drop (size ∷ sizes) (suc n) = is_end-drop sizes n ∙ leb_suc (length sizes) n

-- a part that ends behind the data is the last
told_outside : (end at number size : ℕ) (sizes : List ℕ) → nat_lt end (at + size) ≡ true → parts_told end at number (size ∷ sizes) ≡ found_then (part_told true at number size (is_end sizes)) nothing
unfolding parts_told
told_outside end at number size sizes e = rw e refl

told_inside : (end at number size : ℕ) (sizes : List ℕ) → nat_lt end (at + size) ≡ false → parts_told end at number (size ∷ sizes) ≡ found_then (part_told false at number size (is_end sizes)) (parts_told end (up4 (at + size)) (number + 1) sizes)
unfolding parts_told
told_inside end at number size sizes e = rw e refl

told_none : (end at number : ℕ) → parts_told end at number [] ≡ nothing
unfolding parts_told
told_none end at number = refl

module _ (file table : List ℕ) (end at i w : ℕ) (there : i < length table) (word : w ≡ get_or table i 0) where
  -- the sizes from this one on
  from_here : drop i table ≡ w ∷ drop (i + 1) table
  from_here = drop_more table i 0 there ∙ ap (λ (x : ℕ). x ∷ drop (i + 1) table) (sym word)

  -- what the step adds
  step : (a b : Contents) (outside : Bool) → nat_lt end (at + w) ≡ outside → GrowsBy file (part_told (nat_lt end (at + w)) at i w (nat_le (length table) (i + 1))) a b → GrowsBy file (part_told outside at i w (is_end (drop (i + 1) table))) a b
  step a b outside e p =
      let last : nat_le (length table) (i + 1) ≡ is_end (drop (i + 1) table) = sym (is_end-drop table (i + 1)) in
      subst (λ (x : Bool). GrowsBy file (part_told outside at i w x) a b) last
      (subst (λ (x : Bool). GrowsBy file (part_told x at i w (nat_le (length table) (i + 1))) a b) e p)

  pub part_then : (a b c : Contents) → nat_lt end (at + w) ≡ false → GrowsBy file (part_told (nat_lt end (at + w)) at i w (nat_le (length table) (i + 1))) a b → GrowsBy file (parts_told end (up4 (at + w)) (i + 1) (drop (i + 1) table)) b c → GrowsBy file (parts_told end at i (drop i table)) a c
  part_then a b c e p q =
      let told = ap (λ (ws : List ℕ). parts_told end at i ws) from_here ∙ told_inside end at i w (drop (i + 1) table) e in
      subst (λ (t : Told). GrowsBy file t a c) (sym told) (grows_then (step a b false e p) q)

  pub part_ends : (a b : Contents) → nat_lt end (at + w) ≡ true → GrowsBy file (part_told (nat_lt end (at + w)) at i w (nat_le (length table) (i + 1))) a b → GrowsBy file (parts_told end at i (drop i table)) a b
  part_ends a b e p =
      let told = ap (λ (ws : List ℕ). parts_told end at i ws) from_here ∙ told_outside end at i w (drop (i + 1) table) e in
      subst (λ (t : Told). GrowsBy file t a b) (sym told) (grows_then (step a b true e p) (grows_none file b))

-- no part is left
pub parts_end : (file table : List ℕ) (end at i : ℕ) (a : Contents) → length table ≤ i → GrowsBy file (parts_told end at i (drop i table)) a a
parts_end file table end at i a h =
    let told = ap (λ (ws : List ℕ). parts_told end at i ws) (drop_of_length-le table h) ∙ told_none end at i in
    subst (λ (t : Told). GrowsBy file t a a) (sym told) (grows_none file a)
