-- The data that were summed, and the parts that they have.
use Rattle.std.proofs.Common.{◌≡◌, ◌≢◌, ◌≤◌, ◌<◌, ◌+◌, ◌-◌, ◌*◌, ℕ, zero, suc, List, [], ◌∷◌, ◌++◌, length, length-append, take, drop, get_or, Bool, true, false, true≢false, not, ◌==◌, ◌&&◌, ◌||◌, IsTrue, Option, Some, None, Result, Ok, Err, refl, ap, sym, subst, ◌∙◌, arith}
use Rattle.std.specs.List.{AllByRecursion, list_any, before_first, prefix_len}
use Rattle.std.proofs.{Math.Dec.eqb-suc-zero, lemmas.Bool.{ltb-true, eq-eqb, eqb-true, not-false}}
use Rattle.std.proofs.lemmas.List.{append_assoc, append-nil, drop_at, drop-take, drop-drop}
use Rattle.std.proofs.lemmas.List.Sums.{prefix_len_stops}
use Rattle.uimg_sums.specs.{Crc.crc, declared.crc.Crc.Crc, CrcSums.Holds}
use Rattle.uimg_texts.specs.{Numbers.be32, Slices.slice}
use Rattle.uimg_base.{specs.Device.{Device, SameDevice}, proofs.Slices.{slice-add, length-slice}}
use Rattle.uimg_legacy.specs.declared.{header.Header.Header, fault.LegacyFault.LegacyFault}
use Rattle.uimg_legacy.specs.declared.fault.Fault.{Fault, TheVariants.{Legacy, Read, Put}}
use Rattle.uimg_legacy.specs.{declared.unpacking.takes.Walk.Walk, Words.whole_words, Image.payload}
use Rattle.uimg_legacy.specs.Parts.{has_parts, sizes, part_sizes}
use Rattle.uimg_legacy.specs.Unpacking.{Part, part_if, is_part_asked, is_there, chosen_parts, parts_by, parts_in}
use Rattle.uimg_legacy.specs.UnpackingSteps.{SumsPieceBetween, TakesPartBetween, Walked, RefusesBy, HoldsParts, IsWrong, TakesDataBetween}
use Rattle.uimg_legacy.proofs.PartsLaws.{length-sizes, length-words, words-at, slice-slice}
use Rattle.uimg_legacy.proofs.TakingLaws.{word_at}
use Rattle.uimg_legacy.proofs.CuttingLaws.{words_then, count_words, cut_longer}

-- whether the sum is right, by cases
pub taken_by : (only : Option ℕ) (honest : Bool) (h : Header) (d : Device) (from to : List Part) (b : Bool) → (b ≡ true → HoldsParts only honest h d from to) → (b ≡ false → IsTrue d.honest → IsWrong only h d.bytes) → TakesDataBetween only honest h d (Ok b) from to
taken_by only honest h d from to true right wrong = right refl
taken_by only honest h d from to false right wrong = wrong refl

-- a first part that is asked for
pub asked_first : (only : Option ℕ) → is_there only 1 ≡ true → is_part_asked only 0 ≡ true
asked_first None e = refl
asked_first (Some n) e = eq-eqb n 0 (omega (arith, ltb-true n 1 e))

-- data of a type without parts
pub whole_data : (only : Option ℕ) (honest : Bool) (h : Header) (d : Device) (from mid to : List Part) (a sum : Crc) (v : ℕ) → has_parts h.kind ≡ false → is_there only 1 ≡ true → Holds a [] → TakesPartBetween true honest 0 d 64 h.size a sum mid to → (IsTrue honest → mid ≡ from) → ((fed : List ℕ) → Holds sum fed → v ≡ crc fed) → TakesDataBetween only honest h d (Ok (v == h.dcrc)) from to
unfolding chosen_parts
whole_data only honest h d from mid to a sum v kind there begun p before value =
    let piece = p.sums.piece in
    let right : v ≡ crc piece = value piece (p.sums.summed [] begun) in
    taken_by only honest h d from to (v == h.dcrc)
    (λ e. record {
      bytes = piece;
      parts = piece ∷ [];
      long = p.sums.size;
      sum = sym right ∙ eqb-true v h.dcrc e;
      cut = rw (kind, there) refl;
      right = p.sums.right;
      held = λ known. p.held known ∙ ap (λ (ps : List Part). ps ++ part_if true 0 piece) (before known) ∙ ap (λ (b : Bool). from ++ part_if b 0 piece) (sym (asked_first only there)) ∙ ap (λ (ps : List Part). from ++ ps) (sym (append-nil (part_if (is_part_asked only 0) 0 piece)));
    })
    (λ e true_one. record {
      parts = payload d.bytes h ∷ [];
      cut = rw (kind, there) refl;
      wrong = ap (λ (xs : List ℕ). crc xs == h.dcrc) (sym (p.sums.right true_one)) ∙ ap (λ (n : ℕ). n == h.dcrc) (sym right) ∙ e;
    })

-- a word that is zero behind words that are not
zero_next : (w : ℕ) → w ≢ 0 → (w == 0) ≡ false
zero_next zero h = absurd (h refl)
zero_next (suc w) h = eqb-suc-zero w

or_true : (b : Bool) → b || true ≡ true
or_true true = refl
or_true false = refl

take_one : (n x : ℕ) (xs : List ℕ) → take (1 + n) (x ∷ xs) ≡ x ∷ take n xs
take_one n x xs = let one : 1 + n ≡ suc n = omega arith in rw one refl

pub has_zero : (ws more : List ℕ) → list_any (λ w. w == 0) (ws ++ 0 ∷ more) ≡ true
has_zero [] more = refl
has_zero (w ∷ ws) more = ap (λ (b : Bool). (w == 0) || b) (has_zero ws more) ∙ or_true (w == 0)

pub first_words : (ws more : List ℕ) → AllByRecursion (λ w. w ≢ 0) ws → before_first (λ w. w == 0) (ws ++ 0 ∷ more) ≡ ws
first_words [] more all = refl
first_words (w ∷ ws) more all = rw (zero_next w all.0) (take_one _ w (ws ++ 0 ∷ more) ∙ ap (λ (vs : List ℕ). w ∷ vs) (first_words ws more all.1))

-- the four zero bytes of the table's last word
abbrev pub zeros : List ℕ
zeros = 0 ∷ 0 ∷ 0 ∷ 0 ∷ []

words_zeros : (more : List ℕ) → whole_words (zeros ++ more) ≡ 0 ∷ whole_words more
unfolding whole_words be32
words_zeros more = refl

-- the sizes of data that begin with such words
pub table_first : (table more : List ℕ) (n : ℕ) → length table ≡ 4 * n → AllByRecursion (λ w. w ≢ 0) (whole_words table) → part_sizes (table ++ (zeros ++ more)) ≡ Ok (whole_words table)
unfolding part_sizes sizes
table_first table more n long some =
    let split : whole_words (table ++ (zeros ++ more)) ≡ whole_words table ++ 0 ∷ whole_words more = words_then table (zeros ++ more) n long ∙ ap (λ (ws : List ℕ). whole_words table ++ ws) (words_zeros more) in
    rw (split, has_zero (whole_words table) (whole_words more)) (ap (λ (ws : List ℕ). Ok ws) (first_words (whole_words table) (whole_words more) some))

-- the zero word behind the sizes of an honest device
zero_word : (xs : List ℕ) → length xs ≡ 4 → be32 xs 0 ≡ 0 → xs ≡ zeros
unfolding be32
zero_word [] h e = absurd (omega (arith, h))
zero_word (a ∷ []) h e = absurd (omega (arith, h))
zero_word (a ∷ b ∷ []) h e = absurd (omega (arith, h))
zero_word (a ∷ b ∷ c ∷ []) h e = absurd (omega (arith, h))
zero_word (a ∷ b ∷ c ∷ d ∷ []) h e =
    let a0 : a ≡ 0 = omega (arith, e) in
    let b0 : b ≡ 0 = omega (arith, e) in
    let c0 : c ≡ 0 = omega (arith, e) in
    let d0 : d ≡ 0 = omega (arith, e) in
    rw (a0, b0, c0, d0) refl
zero_word (a ∷ b ∷ c ∷ d ∷ x ∷ rest) h e = absurd (omega (arith, h))

pub after_table : (image : List ℕ) (size n : ℕ) → 64 + size ≤ length image → 4 * (n + 1) ≤ size → n ≡ length (sizes (slice image 64 size)) → slice image (64 + 4 * n) 4 ≡ zeros
after_table image size n inside fits counts =
    let file = slice image 64 size in
    let p = λ (w : ℕ). not (w == 0) in
    let long = length-slice image 64 size inside in
    let few = length-words file in
    let len = length-sizes file in
    let there : prefix_len p (whole_words file) < length (whole_words file) = omega (arith, few.1, long, fits, len, counts) in
    let stop : not (get_or (whole_words file) (prefix_len p (whole_words file)) 0 == 0) ≡ false = prefix_len_stops p (whole_words file) 0 there in
    let place : n ≡ prefix_len p (whole_words file) = counts ∙ len in
    let is : get_or (whole_words file) n 0 ≡ 0 = ap (λ (k : ℕ). get_or (whole_words file) k 0) place ∙ eqb-true _ 0 (not-false _ stop) in
    let word = words-at file n (omega (arith, long, fits)) in
    let here : slice file (4 * n) 4 ≡ zeros = zero_word (slice file (4 * n) 4) (length-slice file (4 * n) 4 (omega (arith, long, fits))) (word_at file (slice file (4 * n) 4) (4 * n) refl ∙ sym word ∙ is) in
    sym (slice-slice image 64 size (4 * n) 4 (omega (arith, fits))) ∙ here

-- the data as they were read: the table, its zero word, the parts and what stands behind them
abbrev pub all_of : List ℕ → List ℕ → List ℕ → List ℕ
all_of table bytes rest = table ++ (zeros ++ (bytes ++ rest))

-- they have the parts that were taken
all_cut : (only : Option ℕ) (table bytes rest : List ℕ) (parts : List (List ℕ)) (n : ℕ) → length table ≡ 4 * n → AllByRecursion (λ w. w ≢ 0) (whole_words table) → parts_by (whole_words table) bytes ≡ Ok parts → is_there only n ≡ true → parts_in only true (all_of table bytes rest) ≡ Ok parts
all_cut only table bytes rest parts n long some cut there =
    let count : length (whole_words table) ≡ n = count_words table n long in
    let size : length (table ++ zeros) ≡ 4 * (n + 1) = length-append table zeros ∙ omega (arith, long) in
    let behind : drop (4 * (n + 1)) (all_of table bytes rest) ≡ bytes ++ rest = ap (λ (xs : List ℕ). drop (4 * (n + 1)) xs) (sym (append_assoc table zeros (bytes ++ rest))) ∙ drop_at (table ++ zeros) (bytes ++ rest) (4 * (n + 1)) size in
    rw (table_first table (bytes ++ rest) n long some, count, there, behind) (cut_longer (whole_words table) bytes parts rest cut)

-- those of an honest device
all_right : (d e f : Device) (table bytes rest : List ℕ) (n size at : ℕ) → SameDevice d e → SameDevice d f → 64 + size ≤ length d.bytes → 4 * (n + 1) ≤ size → n ≡ length (sizes (slice d.bytes 64 size)) → at ≡ 4 * (n + 1) + length bytes → at ≤ size → table ≡ slice e.bytes 64 (4 * n) → bytes ≡ slice e.bytes (64 + 4 * (n + 1)) (length bytes) → rest ≡ slice f.bytes (64 + at) (size - at) → all_of table bytes rest ≡ slice d.bytes 64 size
all_right d e f table bytes rest n size at de df inside fits counts place within t b r =
    let xs = d.bytes in
    let first : table ≡ slice xs 64 (4 * n) = t ∙ ap (λ (ys : List ℕ). slice ys 64 (4 * n)) de.bytes in
    let zero_word_here : zeros ≡ slice xs (64 + 4 * n) 4 = sym (after_table xs size n inside fits counts) in
    let next : bytes ≡ slice xs (64 + (4 * n + 4)) (length bytes) = b ∙ ap (λ (ys : List ℕ). slice ys (64 + 4 * (n + 1)) (length bytes)) de.bytes ∙ ap (λ (k : ℕ). slice xs k (length bytes)) (omega arith) in
    let last : rest ≡ slice xs (64 + (4 * n + 4 + length bytes)) (size - at) = r ∙ ap (λ (ys : List ℕ). slice ys (64 + at) (size - at)) df.bytes ∙ ap (λ (k : ℕ). slice xs k (size - at)) (omega (arith, place)) in
    let whole : 4 * n + 4 + length bytes + (size - at) ≡ size = omega (arith, place, within) in
    sym (append_assoc table zeros (bytes ++ rest)) ∙ sym (append_assoc (table ++ zeros) bytes rest)
    ∙ ap (λ (ys : List ℕ). ((ys ++ zeros) ++ bytes) ++ rest) first
    ∙ ap (λ (ys : List ℕ). ((slice xs 64 (4 * n) ++ ys) ++ bytes) ++ rest) zero_word_here
    ∙ ap (λ (ys : List ℕ). (ys ++ bytes) ++ rest) (sym (slice-add xs 64 (4 * n) 4))
    ∙ ap (λ (ys : List ℕ). (slice xs 64 (4 * n + 4) ++ ys) ++ rest) next
    ∙ ap (λ (ys : List ℕ). ys ++ rest) (sym (slice-add xs 64 (4 * n + 4) (length bytes)))
    ∙ ap (λ (ys : List ℕ). slice xs 64 (4 * n + 4 + length bytes) ++ ys) last
    ∙ sym (slice-add xs 64 (4 * n + 4 + length bytes) (size - at))
    ∙ ap (λ (k : ℕ). slice xs 64 k) whole

both_true : (a b : Bool) → a && b ≡ true → (a ≡ true) × (b ≡ true)
both_true true b e = (refl, e)
both_true false b e = absurd (true≢false (sym e))

second_false : (a b : Bool) → a ≡ true → a && b ≡ false → b ≡ false
second_false true b e left = left
second_false false b e left = absurd (true≢false (sym e))

is_true : (a : Bool) → a ≡ true → IsTrue a
is_true true e = refl
is_true false e = absurd (true≢false (sym e))

-- data of a type with parts
pub listed_data : (only : Option ℕ) (honest : Bool) (h : Header) (n : ℕ) (d e f : Device) (w m : Walk) (from mid to : List Part) (a b z last : Crc) (same : Bool) (v : ℕ) → has_parts h.kind ≡ true → is_there only n ≡ true → 64 + h.size ≤ length d.bytes → 4 * (n + 1) ≤ h.size → SameDevice d e → SameDevice d f → Holds a [] → SumsPieceBetween d 64 (4 * (n + 1)) a w.sum → b ≡ w.sum → w.at ≡ 4 * (n + 1) → Holds w.sizes [] → Walked only honest n h.size e w m mid to → (IsTrue honest → mid ≡ from) → SumsPieceBetween f (64 + m.at) (h.size - m.at) m.sum last → ((fed : List ℕ) → Holds m.sizes fed → Holds z (fed ++ zeros)) → (IsTrue same → (fed : List ℕ) → Holds z fed → Holds b fed) → ((fed : List ℕ) → Holds b fed → Holds z fed → same ≡ true) → ((fed : List ℕ) → Holds last fed → v ≡ crc fed) → (IsTrue d.honest → n ≡ length (sizes (payload d.bytes h))) → TakesDataBetween only honest h d (Ok (same && (v == h.dcrc))) from to
listed_data only honest h n d e f w m from mid to a b z last same v kind there inside fits de df begun first copied start fresh p before q ended other equal value counts =
    let bytes = all_of p.table p.bytes q.piece in
    let place : m.at ≡ 4 * (n + 1) + length p.bytes = omega (arith, p.place, start) in
    let within : m.at ≤ h.size = omega (arith, p.ends) in
    let there_all = length-append p.table (zeros ++ (p.bytes ++ q.piece)) in
    let both = length-append p.bytes q.piece in
    let long : length bytes ≡ h.size = there_all ∙ omega (arith, p.long, both, q.size, place, within) in
    let cut : parts_in only true bytes ≡ Ok p.parts = all_cut only p.table p.bytes q.piece p.parts n p.long p.some p.cut there in
    let again : Holds z (p.table ++ zeros) = ended p.table (p.sizes [] fresh) in
    let ending : Holds w.sum (p.table ++ zeros) → Holds last bytes = λ holds.
    subst (λ (xs : List ℕ). Holds last xs) (append_assoc (p.table ++ zeros) p.bytes q.piece ∙ append_assoc p.table zeros (p.bytes ++ q.piece))
    (q.summed ((p.table ++ zeros) ++ p.bytes) (p.summed (p.table ++ zeros) holds)) in
    let right : IsTrue d.honest → bytes ≡ payload d.bytes h = λ true_one.
    let at_e = subst (λ (x : Bool). IsTrue x) (sym de.honest) true_one in
    let at_f = subst (λ (x : Bool). IsTrue x) (sym df.honest) true_one in
    all_right d e f p.table p.bytes q.piece n h.size m.at de df inside fits (counts true_one) place within (p.read at_e)
    (p.right at_e ∙ ap (λ (k : ℕ). slice e.bytes (64 + k) (length p.bytes)) start) (q.right at_f) in
    taken_by only honest h d from to (same && (v == h.dcrc))
    (λ both_are.
    let each = both_true same (v == h.dcrc) both_are in
    let holds = subst (λ (s : Crc). Holds s (p.table ++ zeros)) copied (other (is_true same each.0) (p.table ++ zeros) again) in
    record {
      bytes = bytes;
      parts = p.parts;
      long = long;
      sum = sym (value bytes (ending holds)) ∙ eqb-true v h.dcrc each.1;
      cut = rw kind cut;
      right = right;
      held = λ known. p.held known ∙ ap (λ (ps : List Part). ps ++ chosen_parts only 0 p.parts) (before known);
    })
    (λ one_fails true_one.
    let at_e = subst (λ (x : Bool). IsTrue x) (sym de.honest) true_one in
    let was : first.piece ≡ p.table ++ zeros =
    first.right true_one ∙ ap (λ (k : ℕ). slice d.bytes 64 k) (omega arith) ∙ slice-add d.bytes 64 (4 * n) 4
    ∙ ap (λ (xs : List ℕ). xs ++ slice d.bytes (64 + 4 * n) 4) (sym (p.read at_e ∙ ap (λ (xs : List ℕ). slice xs 64 (4 * n)) de.bytes))
    ∙ ap (λ (xs : List ℕ). p.table ++ xs) (after_table d.bytes h.size n inside fits (counts true_one)) in
    let holds : Holds w.sum (p.table ++ zeros) = subst (λ (xs : List ℕ). Holds w.sum xs) was (first.summed [] begun) in
    let is : same ≡ true = equal (p.table ++ zeros) (subst (λ (s : Crc). Holds s (p.table ++ zeros)) (sym copied) holds) again in
    record {
      parts = p.parts;
      cut = rw (kind, sym (right true_one)) cut;
      wrong = ap (λ (xs : List ℕ). crc xs == h.dcrc) (sym (right true_one)) ∙ ap (λ (k : ℕ). k == h.dcrc) (sym (value bytes (ending holds))) ∙ second_false same (v == h.dcrc) is one_fails;
    })

-- what stands behind the table
behind_table : (image : List ℕ) (size n : ℕ) → 4 * (n + 1) ≤ size → drop (4 * (n + 1)) (slice image 64 size) ≡ slice image (64 + 4 * (n + 1)) (size - 4 * (n + 1))
behind_table image size n fits =
    let from = 4 * (n + 1) in
    let whole : from + (size - from) ≡ size = omega (arith, fits) in
    sym (ap (λ (k : ℕ). drop from (take k (drop 64 image))) whole) ∙ drop-take from (size - from) (drop 64 image) ∙ ap (λ (xs : List ℕ). take (size - from) xs) (drop-drop from 64 image)

by_told : (only : Option ℕ) (honest : Bool) (h : Header) (d : Device) (from to : List Part) (fault : Fault) (told : Result (List (List ℕ)) LegacyFault) → (IsTrue d.honest → RefusesBy {X = Bool} told (Err fault)) → (IsTrue d.honest → parts_in only (has_parts h.kind) (payload d.bytes h) ≡ told) → TakesDataBetween only honest h d (Err fault) from to
by_told only honest h d from to (Legacy fault) told refused same = λ true_one. same true_one ∙ refused true_one
by_told only honest h d from to Read told refused same = tt
by_told only honest h d from to Put told refused same = tt

told_as : (X : Type 0) (told : Result (List (List ℕ)) LegacyFault) (fault : Fault) → RefusesBy {X = X} told (Err fault) → RefusesBy {X = Bool} told (Err fault)
told_as X told (Legacy fault) e = e
told_as X told Read e = tt
told_as X told Put e = tt

-- data of a type with parts of which one is refused
pub listed_fault : {X : Type 0} (made : Result X Fault) (only : Option ℕ) (honest : Bool) (h : Header) (n : ℕ) (d e : Device) (at : ℕ) (from to : List Part) (r : Result Bool Fault) (fault : Fault) → r ≡ Err fault → has_parts h.kind ≡ true → is_there only n ≡ true → 64 + h.size ≤ length d.bytes → 4 * (n + 1) ≤ h.size → at ≡ 4 * (n + 1) → SameDevice d e → (IsTrue d.honest → (part_sizes (payload d.bytes h) ≡ Ok (sizes (payload d.bytes h))) × (n ≡ length (sizes (payload d.bytes h)))) → (IsTrue e.honest → n ≡ length (sizes (slice e.bytes 64 h.size)) → RefusesBy {X = X} (parts_by (sizes (slice e.bytes 64 h.size)) (slice e.bytes (64 + at) (h.size - at))) (Err fault)) → TakesDataBetween only honest h d r from to
listed_fault {X} made only honest h n d e at from to r fault is kind there inside fits start same counts refused =
    let file = payload d.bytes h in
    subst (λ (x : Result Bool Fault). TakesDataBetween only honest h d x from to) (sym is)
    (by_told only honest h d from to fault (parts_by (sizes file) (slice d.bytes (64 + at) (h.size - at)))
    (λ true_one.
    let at_e = subst (λ (x : Bool). IsTrue x) (sym same.honest) true_one in
    let few = ap (λ (xs : List ℕ). length (sizes (slice xs 64 h.size))) same.bytes in
    let found = refused at_e ((counts true_one).1 ∙ sym few) in
    told_as X _ fault (subst (λ (xs : List ℕ). RefusesBy {X = X} (parts_by (sizes (slice xs 64 h.size)) (slice xs (64 + at) (h.size - at))) (Err fault)) same.bytes found))
    (λ true_one.
    let c = counts true_one in
    let behind : drop (4 * (length (sizes file) + 1)) file ≡ slice d.bytes (64 + at) (h.size - at) = ap (λ (k : ℕ). drop (4 * (k + 1)) file) (sym c.1) ∙ behind_table d.bytes h.size n fits ∙ ap (λ (k : ℕ). slice d.bytes (64 + k) (h.size - k)) (sym start) in
    rw (kind, c.0, sym c.1, there) (ap (λ (xs : List ℕ). parts_by (sizes file) xs) (ap (λ (k : ℕ). drop (4 * (k + 1)) file) c.1 ∙ behind))))
