-- The tree of a tree's blob, and of a file that begins with it, is that tree with its places.
use Rattle.std.proofs.Common.{◌≡◌, ◌≤◌, ◌<◌, ℕ, suc, ◌+◌, ◌-◌, ◌*◌, ◌%◌, ◌==◌, ◌^◌, List, [], ◌∷◌, ◌++◌, length, drop, Some, Result, Ok, true, false, nat_lt, refl, ap, sym, ◌∙◌, append_assoc, length-append, arith}
use Rattle.std.{specs.List.AllByRecursion, proofs.lemmas.Bool.le-ltb}
use Rattle.std.proofs.lemmas.List.{drop-drop, drop-append-le}
use Rattle.uimg_texts.specs.Numbers.{be32}
use Rattle.uimg_base.specs.Results.{◌>>=◌}
use Rattle.uimg_blob_reading.specs.{Reading.Fault, Grammar.{root, without_nops}}
use Rattle.uimg_blob_reading.specs.Tokens.{Token, Blocks, last, token_at, tokens_from, tokens}
use Rattle.uimg_blob_reading.specs.Blob.{magic, blocks, tree}
use Rattle.uimg_blob_reading.specs.Plain.{Named, Nodes, no_node, a_node, IsName, AreNamed, unplaced_in}
use Rattle.uimg_blob_writing.specs.{Alignment.{filling, sized}, declared.blob_end.BlobEnd.BlobEnd}
use Rattle.uimg_blob_writing.specs.declared.reservation.Reservation.{Reservation}
use Rattle.uimg_blob_writing.specs.Encoding.{word, reserved, structure_offset, header, blob_size, blob, structure, strings, names_of, nodes_bytes, name_offset, encode_with}
use Rattle.uimg_blob_writing.proofs.Spelling.{placed, past, past_name, past_property, past_properties, spelled, fuel, fuel_properties}
use Rattle.uimg_blob_writing.proofs.GrammarLaws.{root-spelled, without_nops-spelled, unplaced-placed}
use Rattle.uimg_blob_writing.proofs.TokenLaws.{be32-word, drop-piece, IsFound, AreFound, tokens-spelled, token-last, past-length}
use Rattle.uimg_blob_writing.proofs.AlignmentLaws.{sized-least, length-filled}
use Rattle.uimg_blob_writing.proofs.NameLaws.{Stands, stands, AllNames, all_names}

-- each token has a byte at least
fuel_properties-past : (at : ℕ) (own : List Named) (m : ℕ) → at + fuel_properties own m ≤ past_properties at own + m
unfolding fuel_properties past_properties
fuel_properties-past at [] m = omega arith
fuel_properties-past at (p ∷ own) m = omega (arith, fuel_properties-past (past_property at p) own m)

fuel-past : (at : ℕ) (t : Nodes) (m : ℕ) → at + fuel t m ≤ past at t + m
unfolding fuel past
fuel-past at no_node m = omega arith
fuel-past at (a_node name own below after) m =
    let at1 = past_name at name in
    let at2 = past_properties at1 own in
    let at3 = past at2 below in
    omega (arith, fuel_properties-past at1 own (fuel below (suc (fuel after m))), fuel-past at2 below (suc (fuel after m)), fuel-past (at3 + 4) after m)

fuel_properties-more : (own : List Named) (m k : ℕ) → fuel_properties own m + k ≡ fuel_properties own (m + k)
unfolding fuel_properties
fuel_properties-more [] m k = refl
fuel_properties-more (p ∷ own) m k = omega (arith, fuel_properties-more own m k)

fuel-more : (t : Nodes) (m k : ℕ) → fuel t m + k ≡ fuel t (m + k)
unfolding fuel
fuel-more no_node m k = refl
fuel-more (a_node name own below after) m k =
    let below_more = fuel-more below (suc (fuel after m)) k in
    let after_more : suc (fuel after m) + k ≡ suc (fuel after (m + k)) = omega (arith, fuel-more after m k) in
    let own_more : fuel_properties own (fuel below (suc (fuel after m))) + k ≡ fuel_properties own (fuel below (suc (fuel after (m + k)))) =
    fuel_properties-more own (fuel below (suc (fuel after m))) k
    ∙ ap (λ (n : ℕ). fuel_properties own n) (below_more ∙ ap (λ (n : ℕ). fuel below n) after_more) in
    omega (arith, own_more)

-- a header of a blob is accepted
accepted : (file : List ℕ) (size o s g : ℕ) → 40 ≤ o → o % 4 ≡ 0 → size ≤ length file → o + s + g ≤ size → be32 file 0 ≡ magic → be32 file 4 ≡ size → be32 file 8 ≡ o → be32 file 12 ≡ o + s
    → be32 file 20 ≡ 17 → be32 file 24 ≡ 16 → be32 file 32 ≡ g → be32 file 36 ≡ s
    → blocks file ≡ Ok (record { bytes = file; structure = o; structure_end = o + s; strings = o + s; strings_size = g })
unfolding blocks
accepted file size o s g behind words len enough e0 e4 e8 e12 e20 e24 e32 e36 =
    let long : nat_lt (length file) 40 ≡ false = le-ltb _ _ (omega (arith, behind, len, enough)) in
    let small : nat_lt size 40 ≡ false = le-ltb _ _ (omega (arith, behind, enough)) in
    let whole : nat_lt (length file) size ≡ false = le-ltb _ _ len in
    let structure_inside : nat_lt size (o + s) ≡ false = le-ltb _ _ (omega (arith, enough)) in
    let strings_inside : nat_lt size (o + s + g) ≡ false = le-ltb _ _ (omega (arith, enough)) in
    let whole_words : (o % 4 == 0) ≡ true = ap (λ (n : ℕ). n == 0) words in
    rw (e0, e4, e8, e12, e20, e24, e32, e36, long, small, whole, whole_words, structure_inside, strings_inside) refl

-- how many bytes a reservation block has
pub length-reserved : (rs : List Reservation) → length (reserved rs) ≡ 16 * suc (length rs)
length-reserved [] = refl
length-reserved (r ∷ rs) = omega (arith, length-reserved rs)

regroup : (a b c d e : List ℕ) → a ++ b ++ c ++ d ++ e ≡ a ++ ((b ++ c) ++ (d ++ e))
regroup a b c d e = simp append_assoc

module _ (ending : BlobEnd) (rs : List Reservation) (s g more : List ℕ) where
  -- where the structure block begins
  abbrev at : ℕ
  at = structure_offset rs

  pub size : ℕ
  size = blob_size ending at (length s) (length g)

  -- all but what stands behind the strings
  pub front : List ℕ
  front = header (blob_size ending at (length s) (length g)) at (length s) (length g) ++ reserved rs ++ s ++ g

  pub slack : List ℕ
  slack = filling ending (length front)

  front-length : length front ≡ at + length s + length g
  unfolding front
  front-length = omega (arith, length-append (reserved rs ++ s) g, length-append (reserved rs) s, length-reserved rs)

  from_structure : drop at (blob ending rs s g ++ more) ≡ (s ++ g) ++ (slack ++ more)
  unfolding blob slack front
  from_structure =
      drop-piece (blob ending rs s g ++ more) 40 (reserved rs) ((s ++ g) ++ (slack ++ more)) (16 * suc (length rs)) (length-reserved rs) (regroup (reserved rs) s g slack more)

  blob-length : length (blob ending rs s g) ≡ size
  unfolding size blob front
  blob-length = length-filled ending front ∙ ap (sized ending) front-length

  blob-blocks : length (blob ending rs s g) < 2 ^ 32 → blocks (blob ending rs s g ++ more) ≡ Ok (record { bytes = blob ending rs s g ++ more; structure = at; structure_end = at + length s; strings = at + length s; strings_size = length g })
  unfolding size blob
  blob-blocks fits =
      let file = blob ending rs s g ++ more in
      let short : size < 2 ^ 32 = omega (arith, blob-length, fits) in
      let end : at + length s + length g ≤ size = sized-least ending (at + length s + length g) in
      accepted file size at (length s) (length g) (omega arith) (omega arith) (omega (arith, blob-length, length-append (blob ending rs s g) more)) end
      (be32-word file 0 magic (drop 4 file) (omega arith) refl)
      (be32-word file 4 size (drop 8 file) short refl)
      (be32-word file 8 at (drop 12 file) (omega (arith, end, short)) refl)
      (be32-word file 12 (at + length s) (drop 16 file) (omega (arith, end, short)) refl)
      (be32-word file 20 17 (drop 24 file) (omega arith) refl)
      (be32-word file 24 16 (drop 28 file) (omega arith) refl)
      (be32-word file 32 (length g) (drop 36 file) (omega (arith, end, short)) refl)
      (be32-word file 36 (length s) (drop 40 file) (omega (arith, end, short)) refl)

  -- the number at 4 is the length
  blob-totalsize : length (blob ending rs s g) < 2 ^ 32 → be32 (blob ending rs s g ++ more) 4 ≡ length (blob ending rs s g)
  unfolding size blob
  blob-totalsize fits =
      let file = blob ending rs s g ++ more in
      let short : size < 2 ^ 32 = omega (arith, blob-length, fits) in
      be32-word file 4 size (drop 8 file) short refl ∙ sym blob-length

-- how many bytes a blob has
pub length-encode : (ending : BlobEnd) (rs : List Reservation) (t : Nodes) → length (encode_with ending rs t) ≡ blob_size ending (structure_offset rs) (length (structure t)) (length (strings (names_of t)))
unfolding size
length-encode ending rs t = blob-length ending rs (structure t) (strings (names_of t)) []

-- the blob of a tree reads as the tree
module _ (ending : BlobEnd) (rs : List Reservation) (name : List ℕ) (own : List Named) (below : Nodes) (named : AreNamed (a_node name own below no_node)) (fits : length (encode_with ending rs (a_node name own below no_node)) < 2 ^ 32) (more : List ℕ) where
  abbrev t : Nodes
  t = a_node name own below no_node

  abbrev names : List (List ℕ)
  names = names_of t

  -- where the structure block begins, that block, the strings block and what stands behind them
  abbrev o : ℕ
  o = structure_offset rs

  abbrev s : List ℕ
  s = structure t

  abbrev g : List ℕ
  g = strings names

  abbrev end : List ℕ
  end = slack ending rs s g more ++ more

  abbrev file : List ℕ
  file = encode_with ending rs t ++ more

  abbrev b : Blocks
  b = record { bytes = file; structure = o; structure_end = o + length s; strings = o + length s; strings_size = length g }

  encode-length : length (encode_with ending rs t) ≡ blob_size ending o (length s) (length g)
  unfolding size
  encode-length = blob-length ending rs s g more

  -- the strings end in the blob
  enough : o + length s + length g ≤ length (encode_with ending rs t)
  enough = omega (arith, encode-length, sized-least ending (o + length s + length g))

  from_strings : drop (o + length s) file ≡ g ++ end
  from_strings = drop-piece file o s (g ++ end) (length s) refl (from_structure ending rs s g more ∙ append_assoc s g end)

  found_at : (n : List ℕ) → IsName n → Stands names n → IsFound b names n
  found_at n is_name stands_there =
      let offset = name_offset names n in
      record {
        is_name = is_name;
        rest = stands_there.rest ++ end;
        below = stands_there.below;
        here = sym (drop-drop offset (o + length s) file) ∙ ap (drop offset) from_strings
            ∙ drop-append-le offset g end (omega (arith, stands_there.below)) ∙ ap (λ (w : List ℕ). w ++ end) stands_there.here ∙ append_assoc n (0 ∷ stands_there.rest) end;
      }

  found_properties : (ps : List Named) → AllByRecursion (λ p. IsName p.name) ps → AllByRecursion (λ p. Stands names p.name) ps → AllByRecursion (λ p. IsFound b names p.name) ps
  found_properties [] h k = tt
  found_properties (p ∷ ps) h k = (found_at p.name h.0 k.0, found_properties ps h.1 k.1)

  found_all : (u : Nodes) → AreNamed u → AllNames names (Stands names) (stands names) u → AreFound b names u
  unfolding AllNames AreFound
  found_all no_node h k = tt
  found_all (a_node n ps inner after) h k = (h.0, found_properties ps h.1 k.0, found_all inner h.2 k.1, found_all after h.3 k.2)

  found : AreFound b names t
  found = found_all t named (all_names names (Stands names) (stands names) [] t (λ n h. h))

  -- the fuel that is left after the last token
  abbrev left : ℕ
  left = suc (length s) - fuel t 1

  encode-tokens : tokens b ≡ spelled o t (last (past o t) ∷ [])
  unfolding tokens_from
  encode-tokens =
      let nodes = nodes_bytes names t in
      let structure_length : length s ≡ length nodes + 4 = length-append nodes (word 9) in
      let past_is : past o t ≡ o + length nodes = past-length b names o t in
      let fuel_left = fuel-past o t 1 in
      let strings_fit : length g < 2 ^ 32 = omega (arith, enough, fits) in
      let end_fits : o + length s < 2 ^ 32 = omega (arith, enough, fits) in
      let block : o + length s - o ≡ length s = omega arith in
      let one_more : 1 + left ≡ suc left = omega arith in
      let whole : fuel t 1 + left ≡ suc (length s) = omega (arith, structure_length, past_is, fuel_left) in
      let fuels : suc (o + length s - o) ≡ fuel t (suc left) =
      ap suc block ∙ sym whole ∙ fuel-more t 1 left ∙ ap (λ (n : ℕ). fuel t n) one_more in
      let here : drop o file ≡ nodes ++ (word 9 ++ (g ++ end)) =
      from_structure ending rs s g more ∙ append_assoc s g end ∙ append_assoc nodes (word 9) (g ++ end) in
      let there : drop (past o t) file ≡ word 9 ++ (g ++ end) =
      ap (λ (k : ℕ). drop k file) past_is ∙ drop-piece file o nodes _ (length nodes) refl here in
      let at_last : token_at b (past o t) ≡ last (past o t) = token-last b names (past o t) (g ++ end) (omega (arith, past_is, structure_length)) there in
      let the_last : tokens_from (suc left) b (Some (past o t)) ≡ last (past o t) ∷ [] = rw at_last refl in
      ap (λ (n : ℕ). tokens_from n b (Some o)) fuels
      ∙ tokens-spelled b names o t (suc left) (word 9 ++ (g ++ end)) found (omega (arith, past_is, structure_length)) end_fits strings_fit here
      ∙ ap (λ (ts : List Token). spelled o t ts) the_last

  pub encode-tree : tree file ≡ Ok (placed o t)
  unfolding tree without_nops
  encode-tree =
      ap (λ (r : Result Blocks Fault). r >>= λ found. root (without_nops (tokens found))) (blob-blocks ending rs s g more fits)
      ∙ ap (λ (ts : List Token). root (without_nops ts)) encode-tokens
      ∙ ap root (without_nops-spelled o t (last (past o t) ∷ []))
      ∙ root-spelled o name own below (past o t)

  pub totalsize : be32 file 4 ≡ length (encode_with ending rs t)
  totalsize = blob-totalsize ending rs s g more fits

  -- where the nodes stand
  pub from_nodes : drop o file ≡ nodes_bytes names t ++ (word 9 ++ (g ++ end))
  from_nodes = from_structure ending rs s g more ∙ append_assoc s g end ∙ append_assoc (nodes_bytes names t) (word 9) (g ++ end)

  pub long : o ≤ length file
  long = omega (arith, enough, length-append (encode_with ending rs t) more)

  pub reads_back : unplaced_in (tree file) ≡ Ok t
  reads_back = ap unplaced_in encode-tree ∙ ap (λ (u : Nodes). let y : Result Nodes Fault = Ok u in y) (unplaced-placed o t)
