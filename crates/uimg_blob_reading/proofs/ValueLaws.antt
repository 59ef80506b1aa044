-- What a property more changes of the words of a node's values.
use Rattle.std.proofs.Common.{◌≡◌, ◌<◌, ℕ, suc, List, [], ◌∷◌, ◌++◌, length, map, cond, if◌then◌else◌, Option, Some, None, Bool, true, false, refl, ap, sym, ◌∙◌, arith, set, get_or}
use Rattle.std.specs.{Option.{option_map, option_or}, Str.bytes_eq}
use Rattle.std.proofs.lemmas.{List.Folds.find-append, Slice.Eq.bytes_eq-Decides}
use Rattle.uimg_blob_reading.specs.{declared.keys.Key.Key, Tokens.Property, Keys.name_of}
use Rattle.uimg_blob_reading.specs.Kept.{property_named, slot, value_word}

-- the words of the values of keys
abbrev pub words_of : List Key → List Property → List ℕ
words_of keys own = map (λ key. value_word (property_named own (name_of key))) keys

-- whether a key's name is that of none of others
abbrev pub is_apart : Key → List Key → Bool
is_apart key [] = true
is_apart key (next ∷ keys) = cond (bytes_eq (name_of next) (name_of key)) false (is_apart key keys)

-- whether the names of keys differ
abbrev pub are_apart : List Key → Bool
are_apart [] = true
are_apart (key ∷ keys) = cond (is_apart key keys) (are_apart keys) false

or_none : {X : Type 0} (x : Option X) → option_or x None ≡ x
or_none x = grind arith

-- the first property of a name, with a property more
first_more : (own : List Property) (p : Property) (name : List ℕ) → property_named (own ++ p ∷ []) name ≡ option_or (property_named own name) (cond (bytes_eq name p.name) (Some p) None)
first_more own p name = find-append (λ (q : Property). bytes_eq name q.name) own (p ∷ [])

other_name : (own : List Property) (p : Property) (name : List ℕ) → bytes_eq name p.name ≡ false → property_named (own ++ p ∷ []) name ≡ property_named own name
other_name own p name differs = first_more own p name
    ∙ ap (λ (b : Bool). option_or (property_named own name) (cond b (Some p) None)) differs ∙ or_none (property_named own name)

had_one : (own : List Property) (p q : Property) (name : List ℕ) → property_named own name ≡ Some q → property_named (own ++ p ∷ []) name ≡ property_named own name
had_one own p q name had = first_more own p name
    ∙ ap (λ (o : Option Property). option_or o (cond (bytes_eq name p.name) (Some p) None)) had ∙ sym had

had_none : (own : List Property) (p : Property) (name : List ℕ) → property_named own name ≡ None → bytes_eq name p.name ≡ true → property_named (own ++ p ∷ []) name ≡ Some p
had_none own p name none same = grind (arith, first_more)

by_bool : {P : Type 0} (b : Bool) → (b ≡ true → P) → (b ≡ false → P) → P
by_bool b h other = grind arith

some_none : {X : Type 0} {x : X} → Some x ≡ None → ⊥
some_none h = grind (arith, h)

true_false : true ≡ false → ⊥
true_false h = grind (arith, h)

some_some : {X : Type 0} (x y : X) → Some x ≡ Some y → x ≡ y
some_some x y h = cc

none_of : (x : Option ℕ) → option_map suc x ≡ None → x ≡ None
none_of x h = grind (arith, some_none)

some_of : (x : Option ℕ) (j : ℕ) → option_map suc x ≡ Some j → (i : ℕ) × (x ≡ Some i) × (j ≡ suc i)
some_of x j h = grind (arith, some_none, some_some)

-- the place of a name among a key and others
at_key : (name : List ℕ) (key : Key) (keys : List Key) (b : Bool) → bytes_eq (name_of key) name ≡ b
    → slot name (key ∷ keys) ≡ (if b then Some 0 else option_map suc (slot name keys))
at_key name key keys b is = ap (λ (c : Bool). if c then Some 0 else option_map suc (slot name keys)) is

apart_absent : (key : Key) (keys : List Key) → is_apart key keys ≡ true → slot (name_of key) keys ≡ None
apart_absent key [] h = refl
apart_absent key (next ∷ keys) h = by_bool (bytes_eq (name_of next) (name_of key))
    (λ same_name. absurd (true_false (sym h ∙ ap (λ (b : Bool). cond b false (is_apart key keys)) same_name)))
    (λ other. at_key (name_of key) next keys false other
    ∙ ap (option_map suc) (apart_absent key keys (sym (ap (λ (b : Bool). cond b false (is_apart key keys)) other) ∙ h)))

-- a property whose name is other key's
pub absent : (keys : List Key) (own : List Property) (p : Property) → slot p.name keys ≡ None → words_of keys (own ++ p ∷ []) ≡ words_of keys own
absent [] own p h = refl
absent (key ∷ keys) own p h = by_bool (bytes_eq (name_of key) p.name)
    (λ same_name. absurd (some_none (sym (at_key p.name key keys true same_name) ∙ h)))
    (λ other. ap (λ (o : Option Property). value_word o ∷ words_of keys (own ++ p ∷ [])) (other_name own p (name_of key) other)
    ∙ ap (λ (ws : List ℕ). value_word (property_named own (name_of key)) ∷ ws)
    (absent keys own p (none_of _ (sym (at_key p.name key keys false other) ∙ h))))

-- a property after one of its name
pub repeated : (keys : List Key) (own : List Property) (p q : Property) → property_named own p.name ≡ Some q → words_of keys (own ++ p ∷ []) ≡ words_of keys own
repeated [] own p q h = refl
repeated (key ∷ keys) own p q h =
    ap (λ (o : Option Property). value_word o ∷ words_of keys (own ++ p ∷ [])) (by_bool (bytes_eq (name_of key) p.name)
    (λ same_name. had_one own p q (name_of key) (ap (property_named own) ((bytes_eq-Decides (name_of key) p.name).0 same_name) ∙ h))
    (λ other. other_name own p (name_of key) other))
    ∙ ap (λ (ws : List ℕ). value_word (property_named own (name_of key)) ∷ ws) (repeated keys own p q h)

-- the first property of its name, where that is a key's
pub stored : (keys : List Key) (own : List Property) (p : Property) (j : ℕ) → slot p.name keys ≡ Some j → are_apart keys ≡ true → property_named own p.name ≡ None
    → words_of keys (own ++ p ∷ []) ≡ set (words_of keys own) j (value_word (Some p))
stored [] own p j h apart none = absurd (some_none (sym h))
stored (key ∷ keys) own p j h apart none = by_bool (bytes_eq (name_of key) p.name)
    (λ same_name.
    let same : name_of key ≡ p.name = (bytes_eq-Decides (name_of key) p.name).0 same_name in
    let here : j ≡ 0 = sym (some_some 0 j (sym (at_key p.name key keys true same_name) ∙ h)) in
    let alone : is_apart key keys ≡ true = by_bool (is_apart key keys) (λ a. a) (λ a. absurd (true_false (sym apart ∙ ap (λ (b : Bool). cond b (are_apart keys) false) a))) in
    let gone : slot p.name keys ≡ None = ap (λ (n : List ℕ). slot n keys) (sym same) ∙ apart_absent key keys alone in
    ap (λ (o : Option Property). value_word o ∷ words_of keys (own ++ p ∷ [])) (had_none own p (name_of key) (ap (property_named own) same ∙ none) same_name)
    ∙ ap (λ (ws : List ℕ). value_word (Some p) ∷ ws) (absent keys own p gone)
    ∙ ap (λ (i : ℕ). set (words_of (key ∷ keys) own) i (value_word (Some p))) (sym here))
    (λ other.
    let x = some_of _ j (sym (at_key p.name key keys false other) ∙ h) in
    let alone : is_apart key keys ≡ true = by_bool (is_apart key keys) (λ a. a) (λ a. absurd (true_false (sym apart ∙ ap (λ (b : Bool). cond b (are_apart keys) false) a))) in
    let more : are_apart keys ≡ true = sym (ap (λ (b : Bool). cond b (are_apart keys) false) alone) ∙ apart in
    ap (λ (o : Option Property). value_word o ∷ words_of keys (own ++ p ∷ [])) (other_name own p (name_of key) other)
    ∙ ap (λ (ws : List ℕ). value_word (property_named own (name_of key)) ∷ ws) (stored keys own p x.0 x.1 more none)
    ∙ ap (λ (i : ℕ). set (words_of (key ∷ keys) own) i (value_word (Some p))) (sym x.2))

-- the word of a key's value
pub word_at : (keys : List Key) (own : List Property) (name : List ℕ) (j : ℕ) → slot name keys ≡ Some j
    → get_or (words_of keys own) j 0 ≡ value_word (property_named own name)
word_at [] own name j h = absurd (some_none (sym h))
word_at (key ∷ keys) own name j h = by_bool (bytes_eq (name_of key) name)
    (λ same_name. ap (λ (i : ℕ). get_or (words_of (key ∷ keys) own) i 0) (sym (some_some 0 j (sym (at_key name key keys true same_name) ∙ h)))
    ∙ ap (λ (n : List ℕ). value_word (property_named own n)) ((bytes_eq-Decides (name_of key) name).0 same_name))
    (λ other. let x = some_of _ j (sym (at_key name key keys false other) ∙ h) in
    ap (λ (i : ℕ). get_or (words_of (key ∷ keys) own) i 0) x.2 ∙ word_at keys own name x.0 x.1)

pub slot_below : (keys : List Key) (name : List ℕ) (j : ℕ) → slot name keys ≡ Some j → j < length keys
slot_below [] name j h = absurd (some_none (sym h))
slot_below (key ∷ keys) name j h = by_bool (bytes_eq (name_of key) name)
    (λ same_name. omega (arith, some_some 0 j (sym (at_key name key keys true same_name) ∙ h)))
    (λ other. let x = some_of _ j (sym (at_key name key keys false other) ∙ h) in omega (arith, slot_below keys name x.0 x.1, x.2))
