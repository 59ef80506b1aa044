-- What the bytes of a tree's tokens say.
use Rattle.std.proofs.Common.{◌≡◌, ℕ, zero, suc, ◌+◌, ◌-◌, ◌<◌, ◌≤◌, List, [], ◌∷◌, ◌++◌, length, take, drop, Option, Some, None, Result, Ok, Err, Bool, true, false, if◌then◌else◌, ◌==◌, refl, ap, sym, ◌∙◌, length-drop, arith}
use Rattle.std.specs.Prelude.{nat_lt, ⊤}
use Rattle.std.specs.Int.{from_be_bytes, w32}
use Rattle.std.proofs.lemmas.{List.{take-append-le, drop-append-le, drop-take, drop-drop, take-append-drop}, Bool.ltb-false}
use Rattle.uimg_texts.specs.{Nul.before_nul, Slices.slice, Numbers.{be32, up4}}
use Rattle.uimg_base.proofs.Slices.{length-slice}
use Rattle.uimg_blob_reading.proofs.{TextLaws.nul_first, NumberLaws.{be32-slice}, PhaseLaws.{some_some, some_none}}
use Rattle.uimg_blob_reading.specs.declared.fault.BlobFault.{BlobFault, TheVariants.{Truncated, BadToken, BadNodeName}}
use Rattle.uimg_blob_reading.specs.Tokens.{Property, Token, begin_node, end_node, prop, nop, last, stray, Blocks, token_at, next, offset, by_word, begins, node_name, reach, property_at, property_with_name}
use Rattle.uimg_signing.specs.{Covering.{size_of, bytes_of}, Turning.is_last, Going.is_wrong}
use Rattle.uimg_signing.proofs.{GoingLaws.true_false, PieceLaws.{Piece, said_by, name_by}}

-- a text that ends in the first bytes is the text of all
pub nul_front : (n : ℕ) (xs name : List ℕ) → before_nul (take n xs) ≡ Some name → before_nul xs ≡ Some name
nul_front n xs name h = ap before_nul (sym (take-append-drop n xs)) ∙ nul_first (take n xs) (drop n xs) name h

-- and it does end there if it is short
pub nul_take : (n : ℕ) (xs name : List ℕ) → before_nul xs ≡ Some name → length name < n → before_nul (take n xs) ≡ Some name
unfolding before_nul
nul_take zero xs name h few = absurd (omega (arith, few))
nul_take (suc n) [] name h few = absurd (some_none (sym h))
nul_take (suc n) (zero ∷ xs) name h few = h
nul_take (suc n) (suc x ∷ xs) name h few = longer (before_nul xs) (λ m is. nul_take n xs m is) h
  where
    behind : Option (List ℕ) → Option (List ℕ)
    behind o = elim o as (λ _. Option (List ℕ)) [ None ↦ None | Some m ↦ Some (suc x ∷ m) ]

    longer : (o : Option (List ℕ)) → ((m : List ℕ) → o ≡ Some m → length m < n → before_nul (take n xs) ≡ Some m) → behind o ≡ Some name → behind (before_nul (take n xs)) ≡ Some name
    longer None shorter is = absurd (some_none (sym is))
    longer (Some m) shorter is = ap behind (shorter m refl (omega (arith, few, ap length (some_some (suc x ∷ m) name is)))) ∙ is

-- What a token of a file tells of the bytes at its offset, given that of the strings block; a faulty one nothing.
abbrev pub Right : List ℕ → ℕ → Token → Type 0
Right file strings (begin_node at (Ok name)) = (be32 file at ≡ 1) × (before_nul (drop (at + 4) file) ≡ Some name)
Right file strings (end_node at) = be32 file at ≡ 2
Right file strings (prop at (Ok p)) =
    (be32 file at ≡ 3) × (before_nul (drop (strings + be32 file (at + 8)) file) ≡ Some p.name)
    × (p.value ≡ slice file (at + 12) (be32 file (at + 4))) × (length p.value ≡ be32 file (at + 4))
Right file strings (nop at) = be32 file at ≡ 4
Right file strings (last at) = be32 file at ≡ 9
Right file strings _ = ⊤

-- A token of a tree: it is not faulty, and is in the file.
pub record Good (file : List ℕ) (strings : ℕ) (t : Token) : Type 0 where
  pub nodes : List ℕ
  pub sane : is_wrong nodes t ≡ false
  pub right : Right file strings t
  pub fits : offset t + size_of t ≤ length file

-- either of two
pub either : {X : Type 0} (P : X → Type 0) (c : Bool) (x y : X) → (c ≡ true → P x) → (c ≡ false → P y) → P (if c then x else y)
either P true x y first second = first refl
either P false x y first second = second refl

equal : (a b : ℕ) → (a == b) ≡ true → a ≡ b
equal a b h = grind (arith, h)

-- the token that a word begins
pub each_word : (P : Token → Type 0) (b : Blocks) (at w : ℕ) → (w ≡ 1 → P (begins at (reach b.bytes (at + 4) b.structure_end))) → (w ≡ 2 → P (end_node at)) → (w ≡ 3 → P (prop at (property_at b at)))
    → (w ≡ 4 → P (nop at)) → (w ≡ 9 → P (last at)) → P (stray at BadToken) → P (by_word b at w)
each_word P b at w one two three four nine other =
    either P (w == 1) _ _ (λ h. one (equal w 1 h)) (λ h. either P (w == 2) _ _ (λ h. two (equal w 2 h)) (λ h. either P (w == 3) _ _ (λ h. three (equal w 3 h))
    (λ h. either P (w == 4) _ _ (λ h. four (equal w 4 h)) (λ h. either P (w == 9) _ _ (λ h. nine (equal w 9 h)) (λ h. other)))))

reached : (bytes name : List ℕ) (at end : ℕ) → before_nul (reach bytes at end) ≡ Some name → before_nul (drop at bytes) ≡ Some name
reached bytes name at end h = nul_front (end - at) (drop at bytes) name (nul_front 256 (slice bytes at (end - at)) name h)

right_begin : (b : Blocks) (at size : ℕ) (o : Option (List ℕ)) → before_nul (reach b.bytes (at + 4) b.structure_end) ≡ o → be32 b.bytes at ≡ 1 → Right b.bytes b.strings (begin_node at (node_name o size))
right_begin b at size (Some name) is word = (word, reached b.bytes name (at + 4) b.structure_end is)
right_begin b at size None is word = either (λ (r : Result (List ℕ) BlobFault). Right b.bytes b.strings (begin_node at r)) (size == 256) (Err BadNodeName) (Err Truncated) (λ h. tt) (λ h. tt)

right_named : (b : Blocks) (at : ℕ) (o : Option (List ℕ)) → before_nul (reach b.bytes (b.strings + be32 b.bytes (at + 8)) (b.strings + b.strings_size)) ≡ o
    → be32 b.bytes at ≡ 3 → at + 12 + be32 b.bytes (at + 4) ≤ length b.bytes → Right b.bytes b.strings (prop at (property_with_name o (at + 12) (slice b.bytes (at + 12) (be32 b.bytes (at + 4)))))
right_named b at None is word within = tt
right_named b at (Some name) is word within =
    (word, reached b.bytes name (b.strings + be32 b.bytes (at + 8)) (b.strings + b.strings_size) is, refl, length-slice b.bytes (at + 12) (be32 b.bytes (at + 4)) within)

right_prop : (b : Blocks) (at : ℕ) → b.structure_end ≤ length b.bytes → be32 b.bytes at ≡ 3 → Right b.bytes b.strings (prop at (property_at b at))
right_prop b at inside word =
    let P : Result Property BlobFault → Type 0 = λ r. Right b.bytes b.strings (prop at r) in
    let size = be32 b.bytes (at + 4) in
    let start = be32 b.bytes (at + 8) in
    either P (nat_lt b.structure_end (at + 12)) _ _ (λ h. tt) (λ h. either P (nat_lt b.structure_end (at + 12 + size)) _ _ (λ h. tt)
    (λ fits. either P (nat_lt start b.strings_size) _ _
    (λ h. right_named b at (before_nul (reach b.bytes (b.strings + start) (b.strings + b.strings_size))) refl word (omega (arith, inside, ltb-false b.structure_end (at + 12 + size) fits))) (λ h. tt)))

-- a token is what its offset's bytes say, and begins in its block if it is none that is not allowed
pub right_at : (b : Blocks) (at : ℕ) (nodes : List ℕ) → b.structure_end ≤ length b.bytes
    → (is_wrong nodes (token_at b at) ≡ false → at + 4 ≤ b.structure_end) × (offset (token_at b at) ≡ at) × Right b.bytes b.strings (token_at b at)
unfolding token_at
right_at b at nodes inside =
    either (λ (t : Token). (is_wrong nodes t ≡ false → at + 4 ≤ b.structure_end) × (offset t ≡ at) × Right b.bytes b.strings t) (nat_lt b.structure_end (at + 4)) _ _
    (λ h. ((λ ok. true_false true refl ok), refl, tt))
    (λ h. let w = be32 b.bytes at in
    let s = each_word (λ t. (offset t ≡ at) × Right b.bytes b.strings t) b at w
    (λ is. (refl, right_begin b at (length (reach b.bytes (at + 4) b.structure_end)) (before_nul (reach b.bytes (at + 4) b.structure_end)) refl is)) (λ is. (refl, is)) (λ is. (refl, right_prop b at inside is))
    (λ is. (refl, is)) (λ is. (refl, is)) (refl, tt) in
    ((λ ok. ltb-false b.structure_end (at + 4) h), s.0, s.1))

-- the offset of the token after one that is not the last
pub next_is : (nodes : List ℕ) (t : Token) → is_wrong nodes t ≡ false → is_last t ≡ false → next t ≡ Some (offset t + size_of t)
next_is nodes (begin_node at (Ok name)) sane on = let same : at + 4 + up4 (length name + 1) ≡ at + (4 + up4 (length name + 1)) = omega arith in ap (λ (n : ℕ). (let o : Option ℕ = Some n in o)) same
next_is nodes (begin_node at (Err fault)) sane on = true_false true refl sane
next_is nodes (end_node at) sane on = refl
next_is nodes (prop at (Ok p)) sane on = let same : at + 12 + up4 (length p.value) ≡ at + (12 + up4 (length p.value)) = omega arith in ap (λ (n : ℕ). (let o : Option ℕ = Some n in o)) same
next_is nodes (prop at (Err fault)) sane on = true_false true refl sane
next_is nodes (nop at) sane on = refl
next_is nodes (last at) sane on = true_false true refl on
next_is nodes (stray at fault) sane on = true_false true refl sane

-- the word of a token, whatever follows
front : (bytes rest : List ℕ) (i : ℕ) → i + 4 ≤ length bytes → be32 (bytes ++ rest) i ≡ be32 bytes i
unfolding be32
front bytes rest i within =
    let enough : 4 ≤ length (drop i bytes) = simp length-drop (omega (arith, within)) in
    ap (λ (l : List ℕ). from_be_bytes w32 l) (ap (take 4) (drop-append-le i bytes rest (omega (arith, within))) ∙ take-append-le 4 (drop i bytes) rest enough)

pub word_at : (file : List ℕ) (at size w : ℕ) → 4 ≤ size → be32 file at ≡ w → be32 (slice file at size) 0 ≡ w
word_at file at size w some is = let here : at + 0 ≡ at = omega arith in be32-slice file at size 0 some ∙ ap (be32 file) here ∙ is

-- the bytes with a word are a piece, if they say their number
piece_by : (file : List ℕ) (at size w : ℕ) → 4 ≤ size → at + size ≤ length file → be32 file at ≡ w → ((rest : List ℕ) → said_by w (slice file at size ++ rest) ≡ size) → Piece (w == 9) (slice file at size)
piece_by file at size w some within is said =
    let long = length-slice file at size within in
    let word : (rest : List ℕ) → be32 (slice file at size ++ rest) 0 ≡ w = λ rest. front (slice file at size) rest 0 (omega (arith, long, some)) ∙ word_at file at size w some is in
    record {
      size = λ rest. ap (λ (x : ℕ). said_by x (slice file at size ++ rest)) (word rest) ∙ said rest ∙ sym long;
      word = λ rest. ap (λ (x : ℕ). x == 9) (word rest);
    }

-- the name in the bytes of FDT_BEGIN_NODE
pub node_named : (file : List ℕ) (at : ℕ) (name : List ℕ) → before_nul (drop (at + 4) file) ≡ Some name → before_nul (drop 4 (slice file at (4 + up4 (length name + 1)))) ≡ Some name
node_named file at name is =
    let size = up4 (length name + 1) in
    ap before_nul (drop-take 4 size (drop at file) ∙ ap (take size) (drop-drop 4 at file)) ∙ nul_take size (drop (at + 4) file) name is (omega arith)

-- a token of a tree is a piece
pub piece : (file : List ℕ) (strings : ℕ) (t : Token) → Good file strings t → Piece (is_last t) (bytes_of file t)
piece file strings (begin_node at (Ok name)) g =
    let size = 4 + up4 (length name + 1) in
    let b = slice file at size in
    piece_by file at size 1 (omega arith) g.fits g.right.0
    (λ rest. ap (λ (o : Option (List ℕ)). 4 + up4 (length (name_by o) + 1))
    (ap before_nul (drop-append-le 4 b rest (omega (arith, length-slice file at size g.fits))) ∙ nul_first (drop 4 b) rest name (node_named file at name g.right.1)))
piece file strings (begin_node at (Err fault)) g = true_false true refl g.sane
piece file strings (end_node at) g = piece_by file at 4 2 (omega arith) g.fits g.right (λ rest. refl)
piece file strings (prop at (Ok p)) g =
    let size = 12 + up4 (length p.value) in
    piece_by file at size 3 (omega arith) g.fits g.right.0
    (λ rest. ap (λ (n : ℕ). 12 + up4 n) (front (slice file at size) rest 4 (omega (arith, length-slice file at size g.fits)) ∙ be32-slice file at size 4 (omega arith) ∙ sym g.right.3))
piece file strings (prop at (Err fault)) g = true_false true refl g.sane
piece file strings (nop at) g = piece_by file at 4 4 (omega arith) g.fits g.right (λ rest. refl)
piece file strings (last at) g = piece_by file at 4 9 (omega arith) g.fits g.right (λ rest. refl)
piece file strings (stray at fault) g = true_false true refl g.sane
