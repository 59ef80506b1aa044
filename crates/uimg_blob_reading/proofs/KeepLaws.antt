-- What a property more changes of the entries.
use Rattle.std.proofs.Common.{◌≡◌, ◌<◌, ◌+◌, ◌-◌, ℕ, suc, List, [], ◌∷◌, ◌++◌, length, map, replicate, Option, Some, None, IfSome, refl, ap, sym, ◌∙◌, arith, set, get_or, Bool, true, false, cond}
use Rattle.std.specs.{Str.bytes_eq, List.{slice_get, AllByRecursion}}
use Rattle.std.proofs.lemmas.{List.{set-append_left, map-append}, Option.get_or_from_slice_get}
use Rattle.std.proofs.Math.{ListN.get_or-append, Seq.get_or-append_seam}
use Rattle.uimg_blob_reading.specs.{declared.{roles.Role.Role, keys.Key.Key}, Tokens.Property}
use Rattle.uimg_blob_reading.specs.{Grammar.none, Keys.name_of, Roles.{role_at, keys_of}}
use Rattle.uimg_blob_reading.specs.Walk.{Open, opened}
use Rattle.uimg_blob_reading.specs.SoFar.{next_number, next_level, open_row, so_far, entries_so_far}
use Rattle.uimg_blob_reading.specs.Kept.{property_named, Kept, kept, entry_of, slot, value_word, span_word, number_word, role_word}
use Rattle.uimg_blob_reading.proofs.SoFarLaws.{Seam, length_so_far}
use Rattle.uimg_blob_reading.proofs.EntryLaws.{seam_put, length_entries}
use Rattle.uimg_blob_reading.proofs.ValueLaws.{words_of, are_apart, repeated, stored, word_at, slot_below}

last_row : (ls : List Open) (at : ℕ) (name : List ℕ) (own : List Property) → so_far (opened at name own none ∷ ls) ≡ so_far ls ++ open_row ls at name own ∷ []
unfolding so_far kept
last_row ls at name own = refl

pub length_words : (keys : List Key) (own : List Property) → length (words_of keys own) ≡ length keys
length_words [] own = refl
length_words (key ∷ keys) own = ap suc (length_words keys own)

apart : (role : Role) → are_apart (keys_of role) ≡ true
apart role = grind arith

-- the zeros behind the values of a role
abbrev pub padded : Role → List ℕ → List ℕ
padded role words = words ++ replicate (11 - length (keys_of role)) 0

-- the words of an entry, with those of its values
abbrev pub entry_words : Kept → List ℕ → List ℕ
entry_words k values = span_word (k.at + 4) (length k.name) ∷ number_word k.parent ∷ k.end ∷ role_word k.role ∷ 0 ∷ values

append_row : (ls : List Open) (row : Kept) → map entry_of (so_far ls ++ row ∷ []) ≡ entries_so_far ls ++ entry_of row ∷ []
append_row ls row = map-append entry_of (so_far ls) (row ∷ [])

-- nothing is kept of the property
pub unchanged : (ls : List Open) (at : ℕ) (name : List ℕ) (own : List Property) (p : Property)
    → words_of (keys_of (role_at (next_level ls) name)) (own ++ p ∷ []) ≡ words_of (keys_of (role_at (next_level ls) name)) own
    → entries_so_far (opened at name own none ∷ ls) ≡ entries_so_far (opened at name (own ++ p ∷ []) none ∷ ls)
unchanged ls at name own p same = grind (arith, append_row, last_row)

-- a value that is not there has the word 0, and no other has
zero_word : (o : Option Property) → IfSome o (λ q. 0 < q.place) → value_word o ≡ 0 → o ≡ None
zero_word o placed h = grind arith

first_placed : (own : List Property) (name : List ℕ) → AllByRecursion (λ q. 0 < q.place) own → IfSome (property_named own name) (λ q. 0 < q.place)
first_placed [] name placed = tt
first_placed (q ∷ own) name placed = at_first (bytes_eq name q.name) q own name placed.0 (first_placed own name placed.1)
  where
    at_first : (b : Bool) (q : Property) (own : List Property) (name : List ℕ) → 0 < q.place → IfSome (property_named own name) (λ q. 0 < q.place) → IfSome (cond b (Some q) (property_named own name)) (λ q. 0 < q.place)
    at_first true q own name here rest = here
    at_first false q own name here rest = rest

-- the value's place is kept
pub changed : (ls : List Open) (at number j : ℕ) (name : List ℕ) (own : List Property) (p : Property) (es : List (List ℕ)) (e : List ℕ)
    → es ≡ entries_so_far (opened at name own none ∷ ls) → number ≡ next_number ls → slice_get es number ≡ Some e
    → slot p.name (keys_of (role_at (next_level ls) name)) ≡ Some j → AllByRecursion (λ q. 0 < q.place) own → get_or e (j + 5) 0 ≡ 0
    → set es number (set e (j + 5) (span_word p.place (length p.value))) ≡ entries_so_far (opened at name (own ++ p ∷ []) none ∷ ls)
changed ls at number j name own p es e old is read place placed zero =
    let role : Role = role_at (next_level ls) name in
    let row : Kept = open_row ls at name own in
    let w : ℕ = span_word p.place (length p.value) in
    let below : j < length (words_of (keys_of role) own) = omega (arith, slot_below (keys_of role) p.name j place, length_words (keys_of role) own) in
    let s : Seam (next_number ls) (λ k. record k { own = k.own ++ p ∷ [] }) (so_far (opened at name own none ∷ ls)) (so_far (opened at name (own ++ p ∷ []) none ∷ ls)) = record {
      before = so_far ls;
      row = row;
      after = [];
      place = length_so_far ls;
      old_is = last_row ls at name own;
      new_is = last_row ls at name (own ++ p ∷ []);
    } in
    ap (λ (i : ℕ). set es i (set e (j + 5) w)) is
    ∙ seam_put (next_number ls) _ _ _ es e (set e (j + 5) w) s old (ap (λ (i : ℕ). slice_get es i) (sym is) ∙ read) (λ entry.
    let five : j + 5 ≡ suc (suc (suc (suc (suc j)))) = omega arith in
    let word : get_or (padded role (words_of (keys_of role) own)) j 0 ≡ 0 =
    ap (λ (i : ℕ). get_or (entry_of row) i 0) (sym five) ∙ sym (ap (λ (x : List ℕ). get_or x (j + 5) 0) entry) ∙ zero in
    let without : property_named own p.name ≡ None = zero_word (property_named own p.name) (first_placed own p.name placed)
    (sym (word_at (keys_of role) own p.name j place) ∙ sym (get_or-append (words_of (keys_of role) own) (replicate (11 - length (keys_of role)) 0) 0 j below) ∙ word) in
    ap (λ (x : List ℕ). set x (j + 5) w) entry
    ∙ ap (λ (i : ℕ). set (entry_of row) i w) five
    ∙ ap (λ (ws : List ℕ). entry_words row ws) (set-append_left (words_of (keys_of role) own) (replicate (11 - length (keys_of role)) 0) j w below)
    ∙ ap (λ (ws : List ℕ). entry_words row (padded role ws)) (sym (stored (keys_of role) own p j place (apart role) without)))

-- the property's name came before
pub again : (ls : List Open) (at j : ℕ) (name : List ℕ) (own : List Property) (p : Property)
    → slot p.name (keys_of (role_at (next_level ls) name)) ≡ Some j
    → (value_word (property_named own p.name) ≡ 0 → ⊥)
    → entries_so_far (opened at name own none ∷ ls) ≡ entries_so_far (opened at name (own ++ p ∷ []) none ∷ ls)
again ls at j name own p place some = had (property_named own p.name) refl
  where
    had : (o : Option Property) → property_named own p.name ≡ o → entries_so_far (opened at name own none ∷ ls) ≡ entries_so_far (opened at name (own ++ p ∷ []) none ∷ ls)
    had None is = absurd (some (ap value_word is))
    had (Some q) is = unchanged ls at name own p (repeated (keys_of (role_at (next_level ls) name)) own p q is)

-- the place of a key, where the role and the name are known by other names
pub placed_at : (p : Property) (role : Role) (key : Key) (o : Option ℕ) (ls : List Open) (name : List ℕ) → role ≡ role_at (next_level ls) name → name_of key ≡ p.name
    → slot (name_of key) (keys_of role) ≡ o → slot p.name (keys_of (role_at (next_level ls) name)) ≡ o
placed_at p role key o ls name same named place =
    sym (ap (λ (r : Role). slot (name_of key) (keys_of r)) same ∙ ap (λ (n : List ℕ). slot n (keys_of (role_at (next_level ls) name))) named) ∙ place

-- the word of a value in the innermost node's entry
pub kept_word : (ls : List Open) (at number j : ℕ) (name : List ℕ) (own : List Property) (p : Property) (es : List (List ℕ)) (e : List ℕ)
    → es ≡ entries_so_far (opened at name own none ∷ ls) → number ≡ next_number ls → slice_get es number ≡ Some e
    → slot p.name (keys_of (role_at (next_level ls) name)) ≡ Some j → get_or e (j + 5) 0 ≡ value_word (property_named own p.name)
kept_word ls at number j name own p es e old is read place =
    let role : Role = role_at (next_level ls) name in
    let row : Kept = open_row ls at name own in
    let below : j < length (words_of (keys_of role) own) = omega (arith, slot_below (keys_of role) p.name j place, length_words (keys_of role) own) in
    let five : j + 5 ≡ suc (suc (suc (suc (suc j)))) = omega arith in
    let long : length (entries_so_far ls) ≡ next_number ls = length_entries (so_far ls) ∙ length_so_far ls in
    let entry : e ≡ entry_of row = sym (get_or_from_slice_get es number e [] read)
    ∙ ap (λ (x : List (List ℕ)). get_or x number []) (old ∙ ap (map entry_of) (last_row ls at name own) ∙ append_row ls row)
    ∙ ap (λ (i : ℕ). get_or (entries_so_far ls ++ entry_of row ∷ []) i []) (is ∙ sym long)
    ∙ get_or-append_seam (entries_so_far ls) (entry_of row) [] [] in
    ap (λ (x : List ℕ). get_or x (j + 5) 0) entry ∙ ap (λ (i : ℕ). get_or (entry_of row) i 0) five
    ∙ get_or-append (words_of (keys_of role) own) (replicate (11 - length (keys_of role)) 0) 0 j below
    ∙ word_at (keys_of role) own p.name j place
