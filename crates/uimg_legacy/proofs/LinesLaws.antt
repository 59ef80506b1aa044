-- Lines of the listing, joined from pieces.
use Rattle.std.proofs.Common.{◌≡◌, ◌<◌, ◌≤◌, ◌+◌, ◌-◌, ℕ, zero, suc, List, [], ◌∷◌, ◌++◌, length, get_or, true, false, append_assoc, add-one, refl, arith}
use Rattle.std.{specs.Prelude.{codes, slice_index}, proofs.lemmas.Bool.{lt-ltb, le-ltb}}
use Rattle.uimg_base.specs.{Outcome.{done, told}, Sink.{Sink, AppendsAll}}
use Rattle.uimg_base.proofs.SinkLaws.{Appends-none}
use Rattle.uimg_legacy.specs.Parts.{start, is_outside}
use Rattle.uimg_legacy.specs.Listing.{labelled, type_text, part_line, part_lines, part_step}

-- the type's line from its pieces
type_line : (arch os kind comp : List ℕ) → codes "Image Type:   " ++ (arch ++ (codes " " ++ (os ++ (codes " " ++ (kind ++ (codes " (" ++ (comp ++ (41 ∷ 10 ∷ [])))))))) ≡ labelled (codes "Image Type:") (type_text arch os kind comp)
type_line arch os kind comp = simp append_assoc

pub type_line_of : (a o k c arch os kind comp : List ℕ) → a ≡ arch → o ≡ os → k ≡ kind → c ≡ comp → codes "Image Type:   " ++ (a ++ (codes " " ++ (o ++ (codes " " ++ (k ++ (codes " (" ++ (c ++ (41 ∷ 10 ∷ [])))))))) ≡ labelled (codes "Image Type:") (type_text arch os kind comp)
type_line_of a o k c arch os kind comp pa po pk pc = rw (pa, po, pk, pc) (type_line arch os kind comp)

-- nothing is appended
pub all_none : (s : Sink) → AppendsAll s s []
all_none s = record { appended = Appends-none s.contents }

-- the lines of the parts, one at a time
lines_suc : (payload table : List ℕ) (n m i : ℕ) → n ≡ suc m → part_lines payload table n i ≡ part_step (is_outside payload table i) (part_line i (slice_index table i)) (part_lines payload table m (i + 1))
unfolding part_lines
lines_suc payload table zero m i e = absurd (omega arith)
lines_suc payload table (suc n) m i e =
    let same : n ≡ m = omega arith in
    rw (same, add-one) refl

pub lines_more : (payload table : List ℕ) (n i : ℕ) → i < n → part_lines payload table (n - i) i ≡ part_step (is_outside payload table i) (part_line i (slice_index table i)) (part_lines payload table (n - (i + 1)) (i + 1))
lines_more payload table n i h = lines_suc payload table (n - i) (n - (i + 1)) i (omega arith)

lines_zero : (payload table : List ℕ) (n i : ℕ) → n ≡ 0 → part_lines payload table n i ≡ told [] done
unfolding part_lines
lines_zero payload table zero i e = refl
lines_zero payload table (suc n) i e = absurd (omega arith)

pub lines_end : (payload table : List ℕ) (n i : ℕ) → n ≤ i → part_lines payload table (n - i) i ≡ told [] done
lines_end payload table n i h = lines_zero payload table (n - i) i (omega arith)

-- whether a part ends after the data
pub outside_yes : (payload table : List ℕ) (size i at n : ℕ) → length payload ≡ size → at ≡ start table i → n ≡ get_or table i 0 → size < at + n → is_outside payload table i ≡ true
unfolding is_outside
outside_yes payload table size i at n len a e far = lt-ltb _ _ (omega arith)

pub outside_no : (payload table : List ℕ) (size i at n : ℕ) → length payload ≡ size → at ≡ start table i → n ≡ get_or table i 0 → at + n ≤ size → is_outside payload table i ≡ false
unfolding is_outside
outside_no payload table size i at n len a e near = le-ltb _ _ (omega arith)
