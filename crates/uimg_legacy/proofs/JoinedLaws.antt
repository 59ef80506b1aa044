-- The parts joined, one at a time.
use Rattle.std.proofs.Common.{◌≡◌, ◌≤◌, ◌<◌, ℕ, zero, suc, ◌+◌, ◌-◌, ◌%◌, List, [], ◌∷◌, ◌++◌, length, take, get_or, replicate, length-append, append_assoc, append-nil, ◌∙◌, ap, sym, subst, refl, arith}
use Rattle.std.specs.Int.{to_be_bytes, w32}
use Rattle.std.proofs.lemmas.List.{take_more, take_all, length-replicate}
use Rattle.uimg_base.specs.Sink.{Sink, AppendsAll, AppendsPrefix}
use Rattle.uimg_base.proofs.SinkLaws.{prefix_none, prefix_first, prefix_then, prefix_at}
use Rattle.uimg_texts.specs.Numbers.{up4}
use Rattle.uimg_legacy.specs.Building.{padding, joined, size_table}
use Rattle.uimg_legacy.proofs.TableLaws.{size_words}

-- how long the zeros are
length-padding : (n : ℕ) → length (padding n) ≡ up4 n - n
length-padding n = length-replicate {A = ℕ} (up4 n - n) 0

-- the zeros behind what begins at a multiple of 4
padding_behind : (first n : List ℕ) → padding (length (first ++ padding (length first) ++ n)) ≡ padding (length n)
padding_behind first n =
    let all = length-append (first ++ padding (length first)) n in
    let prefix = length-append first (padding (length first)) in
    let zeros = length-padding (length first) in
    let same : up4 (length (first ++ padding (length first) ++ n)) - length (first ++ padding (length first) ++ n) ≡ up4 (length n) - length n = omega (arith, all, prefix, zeros) in
    ap (λ (k : ℕ). replicate k 0) same

-- no parts
pub joined_nil : joined [] ≡ []
unfolding joined
joined_nil = refl

pub joined_none : length (joined []) ≡ 0
unfolding joined
joined_none = refl

-- one more part behind the others
joined_snoc : (ps : List (List ℕ)) (p : List ℕ) → joined (ps ++ p ∷ []) ≡ joined ps ++ (padding (length (joined ps)) ++ p)
unfolding joined
joined_snoc [] p = refl
joined_snoc (x ∷ []) p = append_assoc x (padding (length x)) p
joined_snoc (x ∷ z ∷ zs) p =
    let prefix = x ++ padding (length x) in
    let rest = joined (z ∷ zs) in
    ap (λ (w : List ℕ). prefix ++ w) (joined_snoc (z ∷ zs) p)
    ∙ ap (λ (w : List ℕ). prefix ++ (rest ++ (w ++ p))) (sym (padding_behind x rest))
    ∙ sym (append_assoc prefix rest (padding (length (prefix ++ rest)) ++ p))

-- the whole table
pub table_whole : (ps : List (List ℕ)) → size_table ps ≡ size_words ps ++ to_be_bytes w32 0
unfolding size_table
table_whole ps = refl

-- the words as far as they were joined
pub words_all : (ps : List (List ℕ)) (n : ℕ) → length ps ≤ n → size_words (take n ps) ≡ size_words ps
words_all ps n h = ap size_words (take_all n ps h)

-- a prefix of one size's word, after the words before it
pub table_prefix : (s m t : Sink) (ps : List (List ℕ)) (i : ℕ) → i < length ps → AppendsAll s m (size_words (take i ps)) → AppendsPrefix m t (to_be_bytes w32 (length (get_or ps i []))) → AppendsPrefix s t (size_table ps)
table_prefix s m t ps i h p q =
    subst (λ (w : List ℕ). AppendsPrefix s t w) (sym (table_whole ps))
    (prefix_first s t (size_words ps) (to_be_bytes w32 0) (prefix_at s m t (λ p. to_be_bytes w32 (length p)) ps i [] h p q))

-- the words before a size are a prefix of the table
pub table_start : (s t : Sink) (ps : List (List ℕ)) (i : ℕ) → i < length ps → AppendsAll s t (size_words (take i ps)) → AppendsPrefix s t (size_table ps)
table_start s t ps i h p = table_prefix s t t ps i h p (prefix_none t _)

-- the first parts and one more
pub joined_more : (ps : List (List ℕ)) (i : ℕ) → i < length ps → joined (take (i + 1) ps) ≡ joined (take i ps) ++ (padding (length (joined (take i ps))) ++ get_or ps i [])
joined_more ps i h = ap joined (take_more ps i [] h) ∙ joined_snoc (take i ps) (get_or ps i [])

-- where they end
pub length_more : (ps : List (List ℕ)) (i : ℕ) → i < length ps → length (joined (take (i + 1) ps)) ≡ up4 (length (joined (take i ps))) + length (get_or ps i [])
length_more ps i h =
    let all = length-append (joined (take i ps)) (padding (length (joined (take i ps))) ++ get_or ps i []) in
    let rest = length-append (padding (length (joined (take i ps)))) (get_or ps i []) in
    let zeros = length-padding (length (joined (take i ps))) in
    let more = ap length (joined_more ps i h) in
    omega (arith, all, rest, zeros, more)

-- the remainder of their length by 4
pub remainder_more : (ps : List (List ℕ)) (i : ℕ) → i < length ps → length (joined (take (i + 1) ps)) % 4 ≡ length (get_or ps i []) % 4
remainder_more ps i h = omega (arith, length_more ps i h)

-- all of them
pub joined_all : (ps : List (List ℕ)) (n : ℕ) → length ps ≤ n → joined (take n ps) ≡ joined ps
joined_all ps n h = ap joined (take_all n ps h)

-- the first parts stand before the others
joined_rest : (ps : List (List ℕ)) (n : ℕ) → (rest : List ℕ) × (joined ps ≡ joined (take n ps) ++ rest)
unfolding joined
joined_rest ps zero = (joined ps, refl)
joined_rest [] (suc n) = ([], refl)
joined_rest (p ∷ []) (suc zero) = ([], sym (append-nil p))
joined_rest (p ∷ []) (suc (suc n)) = ([], sym (append-nil p))
joined_rest (p ∷ q ∷ more) (suc zero) =
    (padding (length p) ++ joined (q ∷ more), append_assoc p (padding (length p)) (joined (q ∷ more)))
joined_rest (p ∷ q ∷ more) (suc (suc n)) =
    let prefix = p ++ padding (length p) in
    let others = joined_rest (q ∷ more) (suc n) in
    (others.0, ap (λ (w : List ℕ). prefix ++ w) others.1 ∙ sym (append_assoc prefix (joined (q ∷ take n more)) others.0))

-- a prefix of the zeros before a part, and of that part, after the parts before it
pub joined_prefix : (s m t : Sink) (ps : List (List ℕ)) (i : ℕ) → i < length ps → AppendsAll s m (joined (take i ps)) → AppendsPrefix m t (padding (length (joined (take i ps))) ++ get_or ps i []) → AppendsPrefix s t (joined ps)
joined_prefix s m t ps i h p q =
    let more = prefix_then s m t (joined (take i ps)) (padding (length (joined (take i ps))) ++ get_or ps i []) p q in
    let here : AppendsPrefix s t (joined (take (i + 1) ps)) = subst (λ (w : List ℕ). AppendsPrefix s t w) (sym (joined_more ps i h)) more in
    let rest = joined_rest ps (i + 1) in
    subst (λ (w : List ℕ). AppendsPrefix s t w) (sym rest.1) (prefix_first s t (joined (take (i + 1) ps)) rest.0 here)
