-- The tokens of a message are a prefix code: the bytes of each say where it ends.
use Rattle.std.proofs.Common.{◌≡◌, ℕ, zero, suc, ◌+◌, ◌≤◌, List, [], ◌∷◌, ◌++◌, length, take, drop, Option, Some, None, Bool, true, false, if◌then◌else◌, ◌==◌, refl, ap, sym, subst, ◌∙◌, append_assoc, append-nil, inl, inr, arith}
use Rattle.std.specs.Prelude.{flat_map, ◌⊎◌}
use Rattle.std.proofs.lemmas.List.{take-append-le, drop-append-le, take_all, drop_all}
use Rattle.uimg_texts.specs.{Nul.before_nul, Numbers.{be32, up4}}
use Rattle.uimg_blob_reading.specs.Tokens.{Token, begin_node, end_node, prop, nop, last, stray}
use Rattle.uimg_signing.specs.{Covering.{Placed, covers, bytes_of, signed}, Turning.is_last}

-- a name, if there is one
abbrev pub name_by : Option (List ℕ) → List ℕ
name_by None = []
name_by (Some name) = name

-- how many bytes the token with this word has, at the start of these bytes
abbrev pub said_by : ℕ → List ℕ → ℕ
said_by word bytes =
    if word == 1 then 4 + up4 (length (name_by (before_nul (drop 4 bytes))) + 1)
    else if word == 3 then 12 + up4 (be32 bytes 4) else 4

abbrev pub said_size : List ℕ → ℕ
said_size bytes = said_by (be32 bytes 0) bytes

-- pieces, and the bytes after them
abbrev pub Split : Type 0
Split = List (List ℕ) × List ℕ

-- one piece more, whether it is the last, and what the bytes after it come apart into
abbrev joined : Bool → List ℕ → List ℕ → Split → Split
joined ends piece after rest = if ends then (piece ∷ [], after) else (piece ∷ rest.0, rest.1)

-- the bytes of the tokens up to FDT_END, at most n, and the bytes after them
unfoldable pub split : ℕ → List ℕ → Split
split zero bytes = ([], bytes)
split (suc n) bytes =
    joined (be32 bytes 0 == 9) (take (said_size bytes) bytes) (drop (said_size bytes) bytes) (split n (drop (said_size bytes) bytes))

-- Whatever follows, these bytes say their number, and whether they are FDT_END.
pub record Piece (ends : Bool) (bytes : List ℕ) : Type 0 where
  pub size : (rest : List ℕ) → said_size (bytes ++ rest) ≡ length bytes
  pub word : (rest : List ℕ) → (be32 (bytes ++ rest) 0 == 9) ≡ ends

taken : (n : ℕ) (a b : List ℕ) → n ≡ length a → take n (a ++ b) ≡ a
taken n a b is = take-append-le n a b (omega (arith, is)) ∙ take_all n a (omega (arith, is))

left : (n : ℕ) (a b : List ℕ) → n ≡ length a → drop n (a ++ b) ≡ b
left n a b is = drop-append-le n a b (omega (arith, is)) ∙ ap (λ (l : List ℕ). l ++ b) (drop_all n a (omega (arith, is)))

split_one : (n : ℕ) (ends : Bool) (a b : List ℕ) → Piece ends a → split (suc n) (a ++ b) ≡ joined ends a b (split n b)
unfolding split
split_one n ends a b piece =
    let size = said_size (a ++ b) in
    let rest = drop size (a ++ b) in
    ap (λ (x : Bool). joined x (take size (a ++ b)) rest (split n rest)) (piece.word b)
    ∙ ap (λ (l : List ℕ). joined ends l rest (split n rest)) (taken size a b (piece.size b))
    ∙ ap (λ (l : List ℕ). joined ends a l (split n l)) (left size a b (piece.size b))

-- the bytes of a token, one by one
abbrev pub piece_of : (ℕ → Bool) → List ℕ → Placed → List (List ℕ)
piece_of listed file p = if covers listed p.nodes p.token then bytes_of file p.token ∷ [] else []

abbrev pub pieces : (ℕ → Bool) → List ℕ → List Placed → List (List ℕ)
pieces listed file ps = flat_map (piece_of listed file) ps

-- FDT_END is the last of these tokens and no other, and all of them are good.
abbrev pub Whole : (Token → Type 0) → List Placed → Type 0
Whole good [] = ⊥
Whole good (p ∷ ps) = good p.token × (((is_last p.token ≡ true) × (ps ≡ [])) ⊎ ((is_last p.token ≡ false) × Whole good ps))

last_covered : (listed : ℕ → Bool) (nodes : List ℕ) (t : Token) → is_last t ≡ true → covers listed nodes t ≡ true
last_covered listed nodes (begin_node at name) h = absurd (grind (arith, h))
last_covered listed nodes (end_node at) h = absurd (grind (arith, h))
last_covered listed nodes (prop at p) h = absurd (grind (arith, h))
last_covered listed nodes (nop at) h = absurd (grind (arith, h))
last_covered listed nodes (last at) h = refl
last_covered listed nodes (stray at fault) h = absurd (grind (arith, h))

goes_on : (n : ℕ) (c : Bool) (a b after : List ℕ) (qs : List (List ℕ)) → (c ≡ true → Piece false a) → split n (b ++ after) ≡ (qs, after) → split (suc n) (b ++ after) ≡ (qs, after)
    → split (suc n) (((if c then a else []) ++ b) ++ after) ≡ ((if c then a ∷ [] else []) ++ qs, after)
goes_on n false a b after qs piece next same = same
goes_on n true a b after qs piece next same = ap (split (suc n)) (append_assoc a b after) ∙ split_one n false a (b ++ after) (piece refl) ∙ ap (joined false a (b ++ after)) next

stops : (n : ℕ) (c : Bool) (a b after : List ℕ) (qs : List (List ℕ)) → c ≡ true → Piece true a → b ≡ [] → qs ≡ [] → split (suc n) (((if c then a else []) ++ b) ++ after) ≡ ((if c then a ∷ [] else []) ++ qs, after)
stops n false a b after qs covered piece none done = absurd (grind (arith, covered))
stops n true a b after qs covered piece none done =
    ap (λ (l : List ℕ). split (suc n) ((a ++ l) ++ after)) none ∙ ap (λ (l : List ℕ). split (suc n) (l ++ after)) (append-nil a) ∙ split_one n true a after piece
    ∙ ap (λ (l : List (List ℕ)). (let s : Split = (a ∷ l, after) in s)) (sym done)

-- the signed bytes of tokens and what follows them come apart
pub comes_apart : (good : Token → Type 0) (listed : ℕ → Bool) (file after : List ℕ) → ((t : Token) → good t → Piece (is_last t) (bytes_of file t))
    → (ps : List Placed) (n : ℕ) → length ps ≤ n → Whole good ps → split n (flat_map (signed listed file) ps ++ after) ≡ (pieces listed file ps, after)
comes_apart good listed file after piece [] n few whole = absurd whole
comes_apart good listed file after piece (p ∷ ps) zero few whole = absurd (omega (arith, few))
comes_apart good listed file after piece (p ∷ ps) (suc n) few (g, inl end) =
    stops n (covers listed p.nodes p.token) (bytes_of file p.token) (flat_map (signed listed file) ps) after (pieces listed file ps) (last_covered listed p.nodes p.token end.0)
    (subst (λ (b : Bool). Piece b (bytes_of file p.token)) end.0 (piece p.token g)) (ap (λ (l : List Placed). flat_map (signed listed file) l) end.1) (ap (λ (l : List Placed). pieces listed file l) end.1)
comes_apart good listed file after piece (p ∷ ps) (suc n) few (g, inr on) =
    goes_on n (covers listed p.nodes p.token) (bytes_of file p.token) (flat_map (signed listed file) ps) after (pieces listed file ps)
    (λ covered. subst (λ (b : Bool). Piece b (bytes_of file p.token)) on.0 (piece p.token g)) (comes_apart good listed file after piece ps n (omega (arith, few)) on.1) (comes_apart good listed file after piece ps (suc n) (omega (arith, few)) on.1)
