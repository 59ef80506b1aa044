-- A message tells the signed part of the tree that it was taken from.
use Rattle.std.proofs.Common.{◌≡◌, ℕ, zero, suc, ◌+◌, ◌-◌, ◌≤◌, List, [], ◌∷◌, ◌++◌, length, take, drop, map, Option, Some, None, Ok, Err, Bool, true, false, if◌then◌else◌, ◌==◌, refl, ap, sym, subst, ◌∙◌, inl, inr, arith}
use Rattle.std.specs.Prelude.{nat_lt, flat_map}
use Rattle.std.specs.List.{AllByRecursion}
use Rattle.std.proofs.lemmas.{List.{drop-drop, take_all}, Bool.{ltb-true, ltb-false}}
use Rattle.uimg_texts.specs.{Nul.before_nul, Slices.slice, Numbers.{be32, up4}}
use Rattle.uimg_blob_reading.proofs.{NumberLaws.{be32-slice, slice-slice}, PhaseLaws.{some_some, by_bool}}
use Rattle.uimg_blob_reading.specs.Tokens.{Token, begin_node, end_node, prop, nop, last, stray, Blocks, token_at, next, offset, tokens, tokens_from}
use Rattle.uimg_blob_reading.specs.{Grammar.{Siblings, root, without_nops}, Blob.{blocks, blocks_named, tree, met}}
use Rattle.uimg_signing.specs.declared.faults.SigningFault.{SigningFault, TheVariants.StringsOutside}
use Rattle.uimg_signing.specs.{Covering.{Placed, in_nodes, after, covers, size_of, bytes_of}, Turning.is_last, Going.{GoesWell}}
use Rattle.uimg_signing.specs.{Message.{message, refusal}, Refusing.{names_size, walk_refusal}, SignedParts.{Part, begins_node, ends_node, says, skips, closes, part_of, signed_part, parts, NameSigned, NamesSigned}}
use Rattle.uimg_signing.proofs.{GoingLaws.{err_ok, true_false, well_some, well_next, bad, begins_well}, StepLaws.last_next, MessageLaws.{named, tokens_met}, ShortLaws.tree_of, SignedNameLaws.names_signed}
use Rattle.uimg_signing.proofs.{PieceLaws.{Split, split, name_by, pieces, Whole, comes_apart}, TokenLaws.{Good, right_at, next_is, word_at, node_named, nul_front, nul_take, piece}}

-- the part that bytes with this word say, with these strings
abbrev part_by : ℕ → List ℕ → List ℕ → Part
part_by word strings bytes =
    if word == 1 then begins_node (name_by (before_nul (drop 4 bytes)))
    else if word == 2 then ends_node
    else if word == 3 then says (name_by (before_nul (drop (be32 bytes 8) strings))) (slice bytes 12 (be32 bytes 4))
    else if word == 4 then skips else closes

abbrev part_in : List ℕ → List ℕ → Part
part_in strings bytes = part_by (be32 bytes 0) strings bytes

-- The name of a property ends in the strings.
abbrev Ended : List ℕ → List ℕ → Type 0
Ended strings bytes = be32 bytes 0 ≡ 3 → (name : List ℕ) × (before_nul (drop (be32 bytes 8) strings) ≡ Some name)

drop_front : (n m : ℕ) (xs : List ℕ) → drop n (take m xs) ≡ take (m - n) (drop n xs)
drop_front zero m xs = let all : m ≡ m - 0 = omega arith in ap (λ (k : ℕ). take k xs) all
drop_front (suc n) zero xs = let none : 0 ≡ 0 - suc n = omega arith in ap (λ (k : ℕ). take k (drop (suc n) xs)) none
drop_front (suc n) (suc m) [] = sym (take_all (suc m - suc n) [] (omega arith))
drop_front (suc n) (suc m) (x ∷ xs) = drop_front n m xs ∙ (let same : m - n ≡ suc m - suc n = omega arith in ap (λ (k : ℕ). take k (drop n xs)) same)

-- a name in the signed strings begins as one in the file
name_front : (file : List ℕ) (strings size at : ℕ) → drop at (slice file strings size) ≡ take (size - at) (drop (strings + at) file)
name_front file strings size at = drop_front at size (drop strings file) ∙ ap (take (size - at)) (drop-drop at strings file)

word_not : {A : Type 0} (file : List ℕ) (at size w : ℕ) → 4 ≤ size → be32 file at ≡ w → (3 ≡ w → ⊥) → be32 (slice file at size) 0 ≡ 3 → A
word_not file at size w some is other three = absurd (other (sym three ∙ word_at file at size w some is))

-- a name that is signed ends in the strings
ended : (file : List ℕ) (strings size : ℕ) (t : Token) → Good file strings t → NameSigned file size t → Ended (slice file strings size) (bytes_of file t)
ended file strings size (begin_node at (Ok name)) g signed = word_not file at (4 + up4 (length name + 1)) 1 (omega arith) g.right.0 (λ h. omega (arith, h))
ended file strings size (begin_node at (Err fault)) g signed = true_false true refl g.sane
ended file strings size (end_node at) g signed = word_not file at 4 2 (omega arith) g.right (λ h. omega (arith, h))
ended file strings size (prop at (Ok p)) g signed = λ three. (
  p.name,
  ap (λ (n : ℕ). before_nul (drop n (slice file strings size))) (be32-slice file at (12 + up4 (length p.value)) 8 (omega arith))
      ∙ ap before_nul (name_front file strings size (be32 file (at + 8)))
      ∙ nul_take (size - be32 file (at + 8)) (drop (strings + be32 file (at + 8)) file) p.name g.right.1 (omega (arith, signed)),
)
ended file strings size (prop at (Err fault)) g signed = true_false true refl g.sane
ended file strings size (nop at) g signed = word_not file at 4 4 (omega arith) g.right (λ h. omega (arith, h))
ended file strings size (last at) g signed = word_not file at 4 9 (omega arith) g.right (λ h. omega (arith, h))
ended file strings size (stray at fault) g signed = true_false true refl g.sane

by_word_at : (file strings : List ℕ) (at size w : ℕ) → 4 ≤ size → be32 file at ≡ w → part_in strings (slice file at size) ≡ part_by w strings (slice file at size)
by_word_at file strings at size w some is = ap (λ (x : ℕ). part_by x strings (slice file at size)) (word_at file at size w some is)

alone : (p q : Part) → q ≡ p → (let l : List Part = p ∷ [] in l) ≡ q ∷ []
alone p q is = ap (λ (x : Part). (let l : List Part = x ∷ [] in l)) (sym is)

-- the bytes of a token say its part
told : (file : List ℕ) (strings size : ℕ) (t : Token) → Good file strings t → Ended (slice file strings size) (bytes_of file t) → part_of t ≡ part_in (slice file strings size) (bytes_of file t) ∷ []
told file strings size (begin_node at (Ok name)) g end =
    alone _ _ (by_word_at file (slice file strings size) at (4 + up4 (length name + 1)) 1 (omega arith) g.right.0 ∙ ap (λ (o : Option (List ℕ)). begins_node (name_by o)) (node_named file at name g.right.1))
told file strings size (begin_node at (Err fault)) g end = true_false true refl g.sane
told file strings size (end_node at) g end = alone _ _ (by_word_at file (slice file strings size) at 4 2 (omega arith) g.right)
told file strings size (prop at (Ok p)) g end =
    let many = 12 + up4 (length p.value) in
    let b = slice file at many in
    let said = end (word_at file at many 3 (omega arith) g.right.0) in
    let n = be32 file (at + 8) in
    let here : before_nul (drop n (slice file strings size)) ≡ Some said.0 = ap (λ (i : ℕ). before_nul (drop i (slice file strings size))) (sym (be32-slice file at many 8 (omega arith))) ∙ said.1 in
    let all = nul_front (size - n) (drop (strings + n) file) said.0 (ap before_nul (sym (name_front file strings size n)) ∙ here) in
    let value : slice b 12 (be32 b 4) ≡ p.value =
    ap (slice b 12) (be32-slice file at many 4 (omega arith)) ∙ slice-slice file at many 12 (be32 file (at + 4)) (omega (arith, g.right.3)) ∙ sym g.right.2 in
    alone _ _ (by_word_at file (slice file strings size) at many 3 (omega arith) g.right.0
    ∙ ap (λ (o : Option (List ℕ)). says (name_by o) (slice b 12 (be32 b 4))) said.1
    ∙ ap (λ (l : List ℕ). says l (slice b 12 (be32 b 4))) (some_some said.0 p.name (sym all ∙ g.right.1)) ∙ ap (says p.name) value)
told file strings size (prop at (Err fault)) g end = true_false true refl g.sane
told file strings size (nop at) g end = alone _ _ (by_word_at file (slice file strings size) at 4 4 (omega arith) g.right)
told file strings size (last at) g end = alone _ _ (by_word_at file (slice file strings size) at 4 9 (omega arith) g.right)
told file strings size (stray at fault) g end = true_false true refl g.sane

none_after : (nodes : List ℕ) (n : ℕ) (b : Blocks) (o : Option ℕ) → o ≡ None → in_nodes nodes (tokens_from n b o) ≡ []
unfolding tokens_from in_nodes
none_after nodes zero b None is = refl
none_after nodes (suc n) b None is = refl
none_after nodes n b (Some at) is = absurd (grind (arith, is))

-- the tokens of a tree are whole
whole_from : (t : Siblings) (b : Blocks) (n at : ℕ) (nodes : List ℕ) → b.structure_end ≤ length b.bytes → GoesWell t nodes (tokens_from n b (Some at)) → Whole (Good b.bytes b.strings) (in_nodes nodes (tokens_from n b (Some at)))
unfolding tokens_from in_nodes
whole_from t b zero at nodes inside well = absurd (well_some t nodes well)
whole_from t b (suc n) at nodes inside well =
    let k = token_at b at in
    let w = well_next t nodes k (tokens_from n b (next k)) well in
    let s = right_at b at nodes inside in
    let there = next_is nodes k w.0 in
    let place = ap (λ (i : ℕ). (let o : Option ℕ = Some (i + size_of k) in o)) s.1 in
    let fits : at + size_of k ≤ b.structure_end = by_bool (nat_lt b.structure_end (at + size_of k))
    (λ past. absurd (bad t b nodes n at (inr (record { fits = s.0 w.0; beyond = ltb-true b.structure_end (at + size_of k) past; next = λ on. there on ∙ place })) well))
    (λ within. ltb-false b.structure_end (at + size_of k) within) in (
      record { nodes = nodes; sane = w.0; right = s.2; fits = omega (arith, fits, inside, s.1) },
      by_bool (is_last k)
          (λ end. inl (end, none_after (after nodes k) n b (next k) (last_next k end)))
          (λ on. inr (
            on,
            subst (λ (o : Option ℕ). Whole (Good b.bytes b.strings) (in_nodes (after nodes k) (tokens_from n b o))) (sym (there on))
                (whole_from t b n (offset k + size_of k) (after nodes k) inside (subst (λ (o : Option ℕ). GoesWell t (after nodes k) (tokens_from n b o)) (there on) (w.1 on))),
          )),
    )

goods : (good : Token → Type 0) (ps : List Placed) → Whole good ps → AllByRecursion (λ p. good p.token) ps
goods good [] whole = absurd whole
goods good (p ∷ ps) (g, inl end) = (g, subst (AllByRecursion (λ (p : Placed). good p.token)) (sym end.1) tt)
goods good (p ∷ ps) (g, inr on) = (g, goods good ps on.1)

ended_one : (c : Bool) (strings bytes : List ℕ) (qs : List (List ℕ)) → (c ≡ true → Ended strings bytes) → AllByRecursion (Ended strings) qs → AllByRecursion (Ended strings) ((if c then bytes ∷ [] else []) ++ qs)
ended_one false strings bytes qs end all = all
ended_one true strings bytes qs end all = (end refl, all)

-- signed names end in the signed strings
ended_all : (listed : ℕ → Bool) (file : List ℕ) (strings size : ℕ) (ps : List Placed) → AllByRecursion (λ p. Good file strings p.token) ps
    → AllByRecursion (λ p. covers listed p.nodes p.token ≡ true → NameSigned file size p.token) ps → AllByRecursion (Ended (slice file strings size)) (pieces listed file ps)
ended_all listed file strings size [] good signed = tt
ended_all listed file strings size (p ∷ ps) good signed =
    ended_one (covers listed p.nodes p.token) (slice file strings size) (bytes_of file p.token) (pieces listed file ps) (λ covered. ended file strings size p.token good.0 (signed.0 covered)) (ended_all listed file strings size ps good.1 signed.1)

told_one : (c : Bool) (strings bytes : List ℕ) (xs ys : List Part) (qs : List (List ℕ)) → AllByRecursion (Ended strings) ((if c then bytes ∷ [] else []) ++ qs)
    → (Ended strings bytes → xs ≡ part_in strings bytes ∷ []) → (AllByRecursion (Ended strings) qs → ys ≡ map (part_in strings) qs)
    → ((if c then xs else []) ++ ys) ≡ map (part_in strings) ((if c then bytes ∷ [] else []) ++ qs)
told_one false strings bytes xs ys qs end one all = all end
told_one true strings bytes xs ys qs end one all = ap (λ (l : List Part). l ++ ys) (one end.0) ∙ ap (λ (l : List Part). part_in strings bytes ∷ l) (all end.1)

-- the pieces and the strings say the parts
told_all : (listed : ℕ → Bool) (file : List ℕ) (strings size : ℕ) (ps : List Placed) → AllByRecursion (λ p. Good file strings p.token) ps
    → AllByRecursion (Ended (slice file strings size)) (pieces listed file ps) → flat_map (signed_part listed) ps ≡ map (part_in (slice file strings size)) (pieces listed file ps)
told_all listed file strings size [] good end = refl
told_all listed file strings size (p ∷ ps) good end =
    told_one (covers listed p.nodes p.token) (slice file strings size) (bytes_of file p.token) (part_of p.token) (flat_map (signed_part listed) ps) (pieces listed file ps) end
    (told file strings size p.token good.0) (told_all listed file strings size ps good.1)

-- the structure block is inside the file
block_inside : (file : List ℕ) (b : Blocks) → blocks file ≡ Ok b → be32 file 8 + be32 file 36 ≤ length file
unfolding blocks
block_inside file b h = grind (arith, err_ok, h)

whole_met : (file : List ℕ) (t : Siblings) → tree file ≡ Ok t → Whole (Good file (be32 file 12)) (in_nodes [] (met file))
whole_met file t is =
    let r = tree_of file t is in
    let b = blocks_named file in
    let same : r.0 ≡ b = sym (named file r.0 r.1) in
    let rooted : root (without_nops (tokens b)) ≡ Ok t = subst (λ (x : Blocks). root (without_nops (tokens x)) ≡ Ok t) same r.2 in
    let blocked : blocks file ≡ Ok b = subst (λ (x : Blocks). blocks file ≡ Ok x) same r.1 in
    subst (λ (ts : List Token). Whole (Good file (be32 file 12)) (in_nodes [] ts)) (tokens_met file b t blocked is)
    (whole_from t b (suc (b.structure_end - b.structure)) b.structure [] (block_inside file b blocked) (begins_well (tokens b) t rooted))

passed : (past : Bool) (other : Option SigningFault) → (let o : Option SigningFault = if past then Some StringsOutside else other in o) ≡ None → other ≡ None
passed true other h = absurd (grind (arith, h))
passed false other h = h

-- A message of a tree that is not refused signs the names of its properties.
pub signed_names : (file : List ℕ) (t : Siblings) (listed : ℕ → Bool) (strings : ℕ) → tree file ≡ Ok t → refusal listed file strings ≡ None → NamesSigned listed file strings
signed_names file t listed strings is none =
    let b = blocks_named file in
    names_signed listed b strings (in_nodes [] (met file)) (goods (Good file (be32 file 12)) (in_nodes [] (met file)) (whole_met file t is))
    (passed (nat_lt (be32 file 32) strings) (walk_refusal listed b (names_size file (be32 file 12) strings) [] (met file)) none)

-- Two trees whose messages are the same bytes have the same signed parts, whatever nodes and however many
-- bytes of strings each was taken for, if one of them is not refused.
pub same_parts : (f g : List ℕ) (t u : Siblings) (listed listed' : ℕ → Bool) (s r : ℕ) → tree f ≡ Ok t → tree g ≡ Ok u
    → refusal listed f s ≡ None → message listed f s ≡ message listed' g r → parts listed [] (met f) ≡ parts listed' [] (met g)
same_parts f g t u listed listed' s r f_tree g_tree taken same =
    let names = signed_names f t listed s f_tree taken in
    let fs = in_nodes [] (met f) in
    let gs = in_nodes [] (met g) in
    let f_whole = whole_met f t f_tree in
    let g_whole = whole_met g u g_tree in
    let n = length fs + length gs in
    let f_strings = slice f (be32 f 12) s in
    let g_strings = slice g (be32 g 12) r in
    let apart : (pieces listed f fs, f_strings) ≡ (pieces listed' g gs, g_strings) =
    sym (comes_apart (Good f (be32 f 12)) listed f f_strings (piece f (be32 f 12)) fs n (omega arith) f_whole)
    ∙ ap (split n) same ∙ comes_apart (Good g (be32 g 12)) listed' g g_strings (piece g (be32 g 12)) gs n (omega arith) g_whole in
    let f_good = goods (Good f (be32 f 12)) fs f_whole in
    let f_ended = ended_all listed f (be32 f 12) s fs f_good names in
    told_all listed f (be32 f 12) s fs f_good f_ended
    ∙ ap (λ (p : Split). map (part_in p.1) p.0) apart
    ∙ sym (told_all listed' g (be32 g 12) r gs (goods (Good g (be32 g 12)) gs g_whole) (subst (λ (p : Split). AllByRecursion (Ended p.1) p.0) apart f_ended))
