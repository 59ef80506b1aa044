-- The tokens of the bytes of a tree are its tokens.
use Rattle.std.proofs.Common.{◌≡◌, ◌≤◌, ◌<◌, ℕ, zero, suc, ◌+◌, ◌-◌, ◌^◌, List, [], ◌∷◌, ◌++◌, length, take, drop, replicate, Option, Some, None, Ok, true, false, nat_lt, refl, ap, sym, ◌∙◌, append_assoc, length-append, arith}
use Rattle.std.specs.{Bool.⊤, Int.{from_be_bytes, w32}, List.{flat_map, AllByRecursion}}
use Rattle.std.proofs.lemmas.{Nat.from_be_bytes-to_be_bytes_4, List.{drop-drop, length-replicate}}
use Rattle.std.proofs.lemmas.Bool.{le-ltb, lt-ltb}
use Rattle.std.proofs.Math.Seq.{drop-append_seam, take-append_seam, take-append-add}
use Rattle.uimg_texts.specs.{Slices.slice, Numbers.{be32, up4}, Nul.before_nul}
use Rattle.uimg_blob_reading.specs.Tokens.{Blocks, begin_node, end_node, prop, last, reach, node_name, by_word, token_at, tokens_from}
use Rattle.uimg_blob_reading.specs.Plain.{Named, Nodes, no_node, a_node, IsName}
use Rattle.uimg_blob_writing.specs.Encoding.{word, padded, with_nul, name_offset, property_bytes, nodes_bytes}
use Rattle.uimg_blob_writing.proofs.Spelling.{placed_property, past_name, past_property, past_properties, past, spelled_properties, spelled, fuel_properties, fuel}

-- what stands after a piece
pub drop-piece : (bytes : List ℕ) (at : ℕ) (piece rest : List ℕ) (n : ℕ) → length piece ≡ n → drop at bytes ≡ piece ++ rest → drop (at + n) bytes ≡ rest
drop-piece bytes at piece rest n len h =
    sym (drop-drop n at bytes) ∙ ap (drop n) h ∙ ap (λ (k : ℕ). drop k (piece ++ rest)) (sym len) ∙ drop-append_seam piece rest

-- the number of a word
pub be32-word : (bytes : List ℕ) (at n : ℕ) (rest : List ℕ) → n < 2 ^ 32 → drop at bytes ≡ word n ++ rest → be32 bytes at ≡ n
unfolding be32
be32-word bytes at n rest fits h =
    ap (λ (w : List ℕ). from_be_bytes w32 (take 4 w)) h ∙ from_be_bytes-to_be_bytes_4 n fits

-- a byte before a name without a NUL
before_nul-suc : (b : ℕ) (found : Option (List ℕ)) → (elim found as (λ _. Option (List ℕ)) [ None ↦ None | Some name ↦ Some (suc b ∷ name) ]) ≡ None → found ≡ None
before_nul-suc b None h = refl
before_nul-suc b (Some name) h = absurd (cc)

-- a name that ends with a NUL is the bytes before that
before_nul-ended : (name rest : List ℕ) → before_nul name ≡ None → before_nul (name ++ 0 ∷ rest) ≡ Some name
unfolding before_nul
before_nul-ended [] rest h = refl
before_nul-ended (zero ∷ name) rest h = absurd (cc)
before_nul-ended (suc b ∷ name) rest h = rw (before_nul-ended name rest (before_nul-suc b (before_nul name) h)) refl

-- the front of a name, its NUL and what follows
take-ended : (n : ℕ) (name rest : List ℕ) → length name + 1 ≤ n → take n (name ++ 0 ∷ rest) ≡ name ++ 0 ∷ take (n - (length name + 1)) rest
take-ended n name rest h =
    let all : n ≡ length (with_nul name) + (n - (length name + 1)) = omega (arith, length-append name (0 ∷ [])) in
    ap (λ (w : List ℕ). take n w) (sym (append_assoc name (0 ∷ []) rest))
    ∙ ap (λ (k : ℕ). take k (with_nul name ++ rest)) all
    ∙ take-append-add (with_nul name) rest (n - (length name + 1))
    ∙ append_assoc name (0 ∷ []) (take (n - (length name + 1)) rest)

-- a name and its NUL are found below an end
pub reach-name : (bytes : List ℕ) (at end : ℕ) (name rest : List ℕ) → IsName name → at + (length name + 1) ≤ end → drop at bytes ≡ name ++ 0 ∷ rest → before_nul (reach bytes at end) ≡ Some name
reach-name bytes at end name rest fit within h =
    let few : length name + 1 ≤ end - at = omega (arith, within) in
    let short : length name + 1 ≤ 256 = omega (arith, fit.short) in
    ap (λ (w : List ℕ). before_nul (take 256 (take (end - at) w))) h
    ∙ ap (λ (w : List ℕ). before_nul (take 256 w)) (take-ended (end - at) name rest few)
    ∙ ap before_nul (take-ended 256 name (take (end - at - (length name + 1)) rest) short)
    ∙ before_nul-ended name _ fit.no_nul

-- bytes are brought to a multiple of 4
pub length-padded : (bytes : List ℕ) → length (padded bytes) ≡ up4 (length bytes)
length-padded bytes =
    let n = up4 (length bytes) - length bytes in
    omega (arith, length-append bytes (replicate n 0), length-replicate {A = ℕ} n 0)

module _ (b : Blocks) (names : List (List ℕ)) where
  -- a word of the structure block
  token-word : (at n : ℕ) (rest : List ℕ) → n < 2 ^ 32 → at + 4 ≤ b.structure_end → drop at b.bytes ≡ word n ++ rest → token_at b at ≡ by_word b at n
  unfolding token_at
  token-word at n rest fits within h =
      let here : nat_lt b.structure_end (at + 4) ≡ false = le-ltb _ _ within in
      rw (here, be32-word b.bytes at n rest fits h) refl

  token-begin : (at : ℕ) (name rest : List ℕ) → IsName name → past_name at name ≤ b.structure_end → drop at b.bytes ≡ word 1 ++ (padded (with_nul name) ++ rest) → token_at b at ≡ begin_node at (Ok name)
  token-begin at name rest fit within h =
      let len = length-append name (0 ∷ []) in
      let pad = replicate (up4 (length (with_nul name)) - length (with_nul name)) 0 in
      let after = drop-piece b.bytes at (word 1) (padded (with_nul name) ++ rest) 4 refl h in
      let split : padded (with_nul name) ++ rest ≡ name ++ 0 ∷ (pad ++ rest) = append_assoc (with_nul name) pad rest ∙ append_assoc name (0 ∷ []) (pad ++ rest) in
      token-word at 1 _ (omega arith) (omega (arith, within)) h
      ∙ ap (λ (o : Option (List ℕ)). begin_node at (node_name o (length (reach b.bytes (at + 4) b.structure_end)))) (reach-name b.bytes (at + 4) b.structure_end name (pad ++ rest) fit (omega (arith, within)) (after ∙ split))

  token-end : (at : ℕ) (rest : List ℕ) → at + 4 ≤ b.structure_end → drop at b.bytes ≡ word 2 ++ rest → token_at b at ≡ end_node at
  token-end at rest within h = token-word at 2 rest (omega arith) within h

  pub token-last : (at : ℕ) (rest : List ℕ) → at + 4 ≤ b.structure_end → drop at b.bytes ≡ word 9 ++ rest → token_at b at ≡ last at
  token-last at rest within h = token-word at 9 rest (omega arith) within h

  -- A name stands among the strings at its offset.
  pub record IsFound (name : List ℕ) : Type 0 where
    pub is_name : IsName name
    pub rest : List ℕ
    pub below : name_offset names name + (length name + 1) ≤ b.strings_size
    pub here : drop (b.strings + name_offset names name) b.bytes ≡ name ++ 0 ∷ rest

  token-prop : (at : ℕ) (p : Named) (rest : List ℕ) → IsFound p.name → past_property at p ≤ b.structure_end → b.structure_end < 2 ^ 32 → b.strings_size < 2 ^ 32 → drop at b.bytes ≡ property_bytes names p ++ rest → token_at b at ≡ prop at (Ok (placed_property at p))
  unfolding property_bytes
  token-prop at p rest found within fits strings_fit h =
      let offset = name_offset names p.name in
      let pad : List ℕ = replicate (up4 (length p.value) - length p.value) 0 in
      let fields : drop at b.bytes ≡ word 3 ++ (word (length p.value) ++ (word offset ++ (padded p.value ++ rest))) = h in
      let at4 = drop-piece b.bytes at (word 3) (word (length p.value) ++ (word offset ++ (padded p.value ++ rest))) 4 refl fields in
      let at8 = drop-piece b.bytes (at + 4) (word (length p.value)) (word offset ++ (padded p.value ++ rest)) 4 refl at4 in
      let at12 = drop-piece b.bytes (at + 4 + 4) (word offset) (padded p.value ++ rest) 4 refl at8 in
      let place8 : at + 4 + 4 ≡ at + 8 = omega arith in
      let place12 : at + 4 + 4 + 4 ≡ at + 12 = omega arith in
      let here8 : drop (at + 8) b.bytes ≡ word offset ++ (padded p.value ++ rest) = ap (λ (k : ℕ). drop k b.bytes) (sym place8) ∙ at8 in
      let here12 : drop (at + 12) b.bytes ≡ padded p.value ++ rest = ap (λ (k : ℕ). drop k b.bytes) (sym place12) ∙ at12 in
      let short : length p.value < 2 ^ 32 = omega (arith, within, fits) in
      let size : be32 b.bytes (at + 4) ≡ length p.value = be32-word b.bytes (at + 4) (length p.value) _ short at4 in
      let name : be32 b.bytes (at + 8) ≡ offset = be32-word b.bytes (at + 8) offset _ (omega (arith, found.below, strings_fit)) here8 in
      let whole : nat_lt b.structure_end (at + 12) ≡ false = le-ltb _ _ (omega (arith, within)) in
      let all : nat_lt b.structure_end (at + 12 + length p.value) ≡ false = le-ltb _ _ (omega (arith, within)) in
      let inside : nat_lt offset b.strings_size ≡ true = lt-ltb _ _ (omega (arith, found.below)) in
      let called : before_nul (reach b.bytes (b.strings + offset) (b.strings + b.strings_size)) ≡ Some p.name =
      reach-name b.bytes (b.strings + offset) (b.strings + b.strings_size) p.name found.rest found.is_name (omega (arith, found.below)) found.here in
      let value : slice b.bytes (at + 12) (length p.value) ≡ p.value =
      ap (λ (w : List ℕ). take (length p.value) w) (here12 ∙ append_assoc p.value pad rest) ∙ take-append_seam p.value (pad ++ rest) in
      token-word at 3 _ (omega arith) (omega (arith, within)) h
      ∙ rw (whole, size, all, name, inside, called, value) refl

  -- All names are names, and those of properties stand among the strings.
  unfoldable pub AreFound : Nodes → Type 0
  AreFound no_node = ⊤
  AreFound (a_node name own below after) = IsName name × AllByRecursion (λ p. IsFound p.name) own × AreFound below × AreFound after

  pub length-property_bytes : (p : Named) → length (property_bytes names p) ≡ 12 + up4 (length p.value)
  unfolding property_bytes
  length-property_bytes p = omega (arith, length-padded p.value)

  -- each node and property takes as many bytes as are gone past
  pub past_properties-length : (at : ℕ) (own : List Named) → past_properties at own ≡ at + length (flat_map (property_bytes names) own)
  unfolding past_properties
  past_properties-length at [] = omega arith
  past_properties-length at (p ∷ own) =
      omega (arith, past_properties-length (past_property at p) own, length-property_bytes p, length-append (property_bytes names p) (flat_map (property_bytes names) own))

  right : (a c d e f g rest : List ℕ) → (a ++ c ++ d ++ e ++ f ++ g) ++ rest ≡ a ++ (c ++ (d ++ (e ++ (f ++ (g ++ rest)))))
  right a c d e f g rest = simp append_assoc

  nodes_bytes-node : (name : List ℕ) (own : List Named) (below after : Nodes) (rest : List ℕ) → nodes_bytes names (a_node name own below after) ++ rest
      ≡ word 1 ++ (padded (with_nul name) ++ (flat_map (property_bytes names) own ++ (nodes_bytes names below ++ (word 2 ++ (nodes_bytes names after ++ rest)))))
  unfolding nodes_bytes
  nodes_bytes-node name own below after rest = right (word 1) (padded (with_nul name)) (flat_map (property_bytes names) own) (nodes_bytes names below) (word 2) (nodes_bytes names after) rest

  pub length-six : (a c d e f g : List ℕ) → length (a ++ c ++ d ++ e ++ f ++ g) ≡ length a + length c + length d + length e + length f + length g
  length-six a c d e f g = simp length-append

  pub past-length : (at : ℕ) (t : Nodes) → past at t ≡ at + length (nodes_bytes names t)
  unfolding past nodes_bytes
  past-length at no_node = omega arith
  past-length at (a_node name own below after) =
      let at1 = past_name at name in
      let at2 = past_properties at1 own in
      let at3 = past at2 below in
      let all = length-six (word 1) (padded (with_nul name)) (flat_map (property_bytes names) own) (nodes_bytes names below) (word 2) (nodes_bytes names after) in
      omega (arith, all, length-append name (0 ∷ []), length-padded (with_nul name), past_properties-length at1 own, past-length at2 below, past-length (at3 + 4) after)

  tokens-properties : (at : ℕ) (own : List Named) (m : ℕ) (rest : List ℕ) → AllByRecursion (λ p. IsFound p.name) own → past_properties at own ≤ b.structure_end
      → b.structure_end < 2 ^ 32 → b.strings_size < 2 ^ 32 → drop at b.bytes ≡ flat_map (property_bytes names) own ++ rest
      → tokens_from (fuel_properties own m) b (Some at) ≡ spelled_properties at own (tokens_from m b (Some (past_properties at own)))
  unfolding tokens_from fuel_properties spelled_properties past_properties
  tokens-properties at [] m rest found within fits strings_fit h = refl
  tokens-properties at (p ∷ own) m rest found within fits strings_fit h =
      let more = past_properties-length (past_property at p) own in
      let here : drop at b.bytes ≡ property_bytes names p ++ (flat_map (property_bytes names) own ++ rest) = h ∙ append_assoc (property_bytes names p) (flat_map (property_bytes names) own) rest in
      let token = token-prop at p _ found.0 (omega (arith, within, more)) fits strings_fit here in
      let len : length (property_bytes names p) ≡ 12 + up4 (length p.value) = length-property_bytes p in
      let place : at + (12 + up4 (length p.value)) ≡ past_property at p = omega arith in
      let there : drop (past_property at p) b.bytes ≡ flat_map (property_bytes names) own ++ rest =
      ap (λ (k : ℕ). drop k b.bytes) (sym place) ∙ drop-piece b.bytes at (property_bytes names p) _ (12 + up4 (length p.value)) len here in
      rw token (rw (tokens-properties (past_property at p) own m rest found.1 within fits strings_fit there) refl)

  pub tokens-spelled : (at : ℕ) (t : Nodes) (m : ℕ) (rest : List ℕ) → AreFound t → past at t ≤ b.structure_end
      → b.structure_end < 2 ^ 32 → b.strings_size < 2 ^ 32 → drop at b.bytes ≡ nodes_bytes names t ++ rest
      → tokens_from (fuel t m) b (Some at) ≡ spelled at t (tokens_from m b (Some (past at t)))
  unfolding tokens_from fuel spelled past AreFound
  tokens-spelled at no_node m rest found within fits strings_fit h = refl
  tokens-spelled at (a_node name own below after) m rest found within fits strings_fit h =
      let at1 = past_name at name in
      let at2 = past_properties at1 own in
      let at3 = past at2 below in
      let own_bytes = flat_map (property_bytes names) own in
      let below_bytes = nodes_bytes names below in
      let after_bytes = nodes_bytes names after in
      let here : drop at b.bytes ≡ word 1 ++ (padded (with_nul name) ++ (own_bytes ++ (below_bytes ++ (word 2 ++ (after_bytes ++ rest))))) = h ∙ nodes_bytes-node name own below after rest in
      let own_length = past_properties-length at1 own in
      let below_length = past-length at2 below in
      let after_length = past-length (at3 + 4) after in
      let name_length : length (padded (with_nul name)) ≡ up4 (length name + 1) = omega (arith, length-padded (with_nul name), length-append name (0 ∷ [])) in
      let there4 = drop-piece b.bytes at (word 1) _ 4 refl here in
      let there1 : drop at1 b.bytes ≡ own_bytes ++ (below_bytes ++ (word 2 ++ (after_bytes ++ rest))) =
      drop-piece b.bytes (at + 4) (padded (with_nul name)) _ (up4 (length name + 1)) name_length there4 in
      let there2 : drop at2 b.bytes ≡ below_bytes ++ (word 2 ++ (after_bytes ++ rest)) =
      ap (λ (k : ℕ). drop k b.bytes) own_length ∙ drop-piece b.bytes at1 own_bytes _ (length own_bytes) refl there1 in
      let there3 : drop at3 b.bytes ≡ word 2 ++ (after_bytes ++ rest) =
      ap (λ (k : ℕ). drop k b.bytes) below_length ∙ drop-piece b.bytes at2 below_bytes _ (length below_bytes) refl there2 in
      let there7 : drop (at3 + 4) b.bytes ≡ after_bytes ++ rest = drop-piece b.bytes at3 (word 2) _ 4 refl there3 in
      let begin = token-begin at name _ found.0 (omega (arith, within, own_length, below_length, after_length)) here in
      let own_read = tokens-properties at1 own (fuel below (suc (fuel after m))) _ found.1 (omega (arith, within, below_length, after_length)) fits strings_fit there1 in
      let below_read = tokens-spelled at2 below (suc (fuel after m)) _ found.2 (omega (arith, within, after_length)) fits strings_fit there2 in
      let end = token-end at3 _ (omega (arith, within, after_length)) there3 in
      let after_read = tokens-spelled (at3 + 4) after m rest found.3 within fits strings_fit there7 in
      rw begin (rw own_read (rw below_read (rw end (rw after_read refl))))
