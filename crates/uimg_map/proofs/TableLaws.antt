-- The table of sizes of a legacy image, a word at a time.
use Rattle.std.proofs.Common.{◌≡◌, ◌≢◌, ◌≤◌, ◌<◌, ℕ, ◌+◌, ◌-◌, ◌*◌, ◌/◌, List, length, get_or, min, Bool, true, false, cond, nat_lt, Option, Some, None, Ok, Err, length-take, length-drop, ◌∙◌, ap, sym, refl, subst, arith}
use Rattle.std.{specs.Int.{from_be_bytes, w32}, proofs.lemmas.Bool.{ltb-true, ltb-false, le-ltb}}
use Rattle.std.specs.Prelude.{IsTrue}
use Rattle.uimg_base.specs.Device.{Device, SameDevice}
use Rattle.uimg_texts.specs.{Numbers.be32, Slices.slice}
use Rattle.uimg_legacy.specs.{declared.fault.LegacyFault.TheVariants.NoTableEnd, Words.whole_words}
use Rattle.uimg_legacy.{specs.Parts.{sizes, part_sizes}, proofs.ChunkLaws.sizes-le-words}
use Rattle.uimg_legacy.proofs.PartsLaws.{words-at, length-words, slice-slice, sizes_more, sizes_end, parts_some, parts_none, sizes-at}
use Rattle.uimg_map.specs.Tables.{word_at, count_in}

-- the file has a word, and this is it
there_by : (b : Bool) (w v : ℕ) → (cond b None (Some w)) ≡ Some v → (b ≡ false) × (w ≡ v)
there_by true w v e = absurd (cc)
there_by false w v e = (refl, cc)

there : (file : List ℕ) (i w : ℕ) → word_at file i ≡ Some w → (64 + 4 * i + 4 ≤ length file) × (be32 file (64 + 4 * i) ≡ w)
unfolding word_at
there file i w e =
    let both = there_by (nat_lt (length file) (64 + 4 * i + 4)) (be32 file (64 + 4 * i)) w e in
    (ltb-false (length file) (64 + 4 * i + 4) both.0, both.1)

lacking_by : (b : Bool) (w : ℕ) → (cond b None (Some w)) ≡ None → b ≡ true
lacking_by true w e = refl
lacking_by false w e = absurd (cc)

lacking : (file : List ℕ) (i : ℕ) → word_at file i ≡ None → length file < 64 + 4 * i + 4
unfolding word_at
lacking file i e = ltb-true (length file) (64 + 4 * i + 4) (lacking_by (nat_lt (length file) (64 + 4 * i + 4)) (be32 file (64 + 4 * i)) e)

found : (file : List ℕ) (i : ℕ) → 64 + 4 * i + 4 ≤ length file → word_at file i ≡ Some (be32 file (64 + 4 * i))
unfolding word_at
found file i h = rw (le-ltb (length file) (64 + 4 * i + 4) h) refl

-- the data that the file has of so many bytes
length-data : (file : List ℕ) (size : ℕ) → length (slice file 64 size) ≡ min size (length file - 64)
length-data file size = simp (length-take, length-drop)

word_of : (file : List ℕ) (size i : ℕ) → 4 * i + 4 ≤ size → be32 (slice file 64 size) (4 * i) ≡ be32 file (64 + 4 * i)
unfolding be32
word_of file size i h = ap (λ (w : List ℕ). from_be_bytes w32 w) (slice-slice file 64 size (4 * i) 4 (omega arith))

module _ (file : List ℕ) (size i : ℕ) where
  is_word : (w : ℕ) → 4 * i + 4 ≤ size → word_at file i ≡ Some w → (i < length (whole_words (slice file 64 size))) × (get_or (whole_words (slice file 64 size)) i 0 ≡ w)
  is_word w h e =
      let has = there file i w e in
      let most = length-data file size in
      let fits : 4 * i + 4 ≤ length (slice file 64 size) = omega (arith, has.0, most) in
      let count = length-words (slice file 64 size) in
      (omega (arith, fits, count.1), words-at (slice file 64 size) i fits ∙ word_of file size i h ∙ has.1)

  -- no word is there from this one on
  pub lacks_words : word_at file i ≡ None → length (whole_words (slice file 64 size)) ≤ i
  lacks_words e =
      let short = lacking file i e in
      let most = length-data file size in
      let count = length-words (slice file 64 size) in
      omega (arith, short, most, count.0)

  pub all_words : size / 4 ≤ i → length (whole_words (slice file 64 size)) ≤ i
  all_words h =
      let most = length-data file size in
      let count = length-words (slice file 64 size) in
      omega (arith, h, most, count.0)

  -- a word is a size, or the end, or there is no end
  pub one_more : (w : ℕ) → 4 * i + 4 ≤ size → i ≤ length (sizes (slice file 64 size)) → word_at file i ≡ Some w → w ≢ 0 → i + 1 ≤ length (sizes (slice file 64 size))
  one_more w h le e not_zero =
      let word = is_word w h e in
      sizes_more (slice file 64 size) i le word.0 (λ zero. not_zero (sym word.1 ∙ zero))

  pub counted : 4 * i + 4 ≤ size → i ≤ length (sizes (slice file 64 size)) → word_at file i ≡ Some 0 → Some i ≡ count_in (part_sizes (slice file 64 size))
  counted h le e =
      let word = is_word 0 h e in
      let end : i ≡ length (sizes (slice file 64 size)) = sizes_end (slice file 64 size) i le word.0 word.1 in
      let some : part_sizes (slice file 64 size) ≡ Ok (sizes (slice file 64 size)) = parts_some (slice file 64 size) (omega (arith, end, word.0)) in
      ap Some end ∙ ap count_in (sym some)

  pub uncounted : i ≤ length (sizes (slice file 64 size)) → length (whole_words (slice file 64 size)) ≤ i → None ≡ count_in (part_sizes (slice file 64 size))
  uncounted le all = ap count_in (sym (parts_none (slice file 64 size) (omega (arith, le, all))))

  -- a size is the word of its number
  pub size_word : i < length (sizes (slice file 64 size)) → word_at file i ≡ Some (get_or (sizes (slice file 64 size)) i 0)
  size_word h =
      let d = slice file 64 size in
      let more = sizes-le-words d in
      let count = length-words d in
      let most = length-data file size in
      let fits : 4 * i + 4 ≤ length d = omega (arith, h, more, count.0) in
      let word : get_or (sizes d) i 0 ≡ be32 file (64 + 4 * i) = sizes-at d i h ∙ words-at d i fits ∙ word_of file size i (omega (arith, fits, most)) in
      found file i (omega (arith, fits, most)) ∙ ap Some (sym word)

-- a table that has an end, and one that has none
counted_by : (d : List ℕ) (count : ℕ) (b : Bool) → nat_lt (length (sizes d)) (length (whole_words d)) ≡ b → count_in (part_sizes d) ≡ Some count → (part_sizes d ≡ Ok (sizes d)) × (count ≡ length (sizes d))
counted_by d count true is e =
    let some : part_sizes d ≡ Ok (sizes d) = parts_some d (ltb-true _ _ is) in
    let counts : Some (length (sizes d)) ≡ Some count = ap count_in (sym some) ∙ e in
    (some, cc)
counted_by d count false is e =
    let none : part_sizes d ≡ Err NoTableEnd = parts_none d (ltb-false _ _ is) in
    let counts : None ≡ Some count = ap count_in (sym none) ∙ e in
    absurd (cc)

pub is_counted : (d : List ℕ) (count : ℕ) → count_in (part_sizes d) ≡ Some count → (part_sizes d ≡ Ok (sizes d)) × (count ≡ length (sizes d))
is_counted d count e = counted_by d count (nat_lt (length (sizes d)) (length (whole_words d))) refl e

endless_by : (d : List ℕ) (b : Bool) → nat_lt (length (sizes d)) (length (whole_words d)) ≡ b → count_in (part_sizes d) ≡ None → part_sizes d ≡ Err NoTableEnd
endless_by d true is e =
    let some : part_sizes d ≡ Ok (sizes d) = parts_some d (ltb-true _ _ is) in
    let counts : Some (length (sizes d)) ≡ None = ap count_in (sym some) ∙ e in
    absurd (cc)
endless_by d false is e = parts_none d (ltb-false _ _ is)

pub is_endless : (d : List ℕ) → count_in (part_sizes d) ≡ None → part_sizes d ≡ Err NoTableEnd
is_endless d e = endless_by d (nat_lt (length (sizes d)) (length (whole_words d))) refl e

-- a word that was read of a device that is what it was
pub read_word : (d e : Device) (i : ℕ) (word found : Option ℕ) → SameDevice d e → (IsTrue e.honest → word ≡ word_at e.bytes i) → word ≡ found → IsTrue d.honest → word_at d.bytes i ≡ found
read_word d e i word found same read is honest =
    sym (read (subst IsTrue (sym same.honest) honest) ∙ ap (λ (file : List ℕ). word_at file i) same.bytes) ∙ is
