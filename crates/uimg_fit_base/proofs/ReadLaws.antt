-- In every file whose blob is accepted, each name and each value stands at its place.
use Rattle.std.proofs.Common.{◌≡◌, ◌≤◌, ℕ, zero, suc, ◌+◌, ◌-◌, ◌%◌, List, [], ◌∷◌, length, take, drop, Option, Some, None, Result, Ok, Err, Bool, true, false, nat_lt, not, ◌==◌, if◌then◌else◌, refl, ap, sym, subst, ◌∙◌, arith}
use Rattle.std.{specs.{Bool.⊤, List.AllByRecursion, Result.IfOk}, proofs.lemmas.Bool.ltb-false}
use Rattle.std.proofs.lemmas.List.{length-take, length-take-le, length-drop, take-take}
use Rattle.uimg_texts.specs.{Slices.slice, Nul.before_nul, Numbers.be32}
use Rattle.uimg_base.specs.Results.{◌>>=◌}
use Rattle.uimg_blob_reading.specs.{declared.fault.BlobFault.BlobFault, Reading.Fault}
use Rattle.uimg_blob_reading.specs.Blob.{magic, ends_outside, blocks_named, blocks, tree}
use Rattle.uimg_blob_reading.proofs.PhaseLaws.{some_none, some_some}
use Rattle.uimg_blob_reading.specs.declared.fault.BlobFault.TheVariants.{TooShort, BadMagic, BadVersion, BlockOutside, BadNodeName, Truncated, BadPropertyName, BadToken}
use Rattle.uimg_blob_reading.specs.Tokens.{Property, Token, Blocks, begin_node, end_node, prop, nop, last, stray, reach, node_name, property_with_name, property_at, token_at, next, tokens_from, tokens}
use Rattle.uimg_blob_reading.specs.Grammar.{Siblings, none, node, properties, end, inside, children, ended, root, without_nops}
use Rattle.uimg_fit_base.specs.Lying.{NameLies, ValueLies, Lie}

-- a refusal is passed by
passed : {A E : Type 0} (Q : A → Type 0) (b : Bool) (e : E) (r : Result A E) → (b ≡ false → IfOk r Q) → IfOk (if b then Err e else r) Q
passed Q true e r h = tt
passed Q false e r h = h refl

refused : (b : Bool) (f g : BlobFault) (P : List ℕ → Type 0) → IfOk (if b then Err f else Err g) P
refused true f g P = tt
refused false f g P = tt

pub on-bind : {A B : Type 0} (P : A → Type 0) (Q : B → Type 0) (r : Result A Fault) (f : A → Result B Fault) → IfOk r P → ((x : A) → P x → IfOk (f x) Q) → IfOk (r >>= f) Q
on-bind P Q (Ok x) f h g = g x h
on-bind P Q (Err e) f h g = tt

-- The bytes before a NUL are a prefix.
record IsPrefix (bytes name : List ℕ) : Type 0 where
  within : length name + 1 ≤ length bytes
  is : take (length name) bytes ≡ name

one-more : (b : ℕ) (bytes : List ℕ) (o : Option (List ℕ)) (name : List ℕ) → ((m : List ℕ) → o ≡ Some m → IsPrefix bytes m)
    → (elim o as (λ _. Option (List ℕ)) [ None ↦ None | Some m ↦ Some (suc b ∷ m) ]) ≡ Some name → IsPrefix (suc b ∷ bytes) name
one-more b bytes None name more is = absurd (some_none (sym is))
one-more b bytes (Some m) name more is =
    let h = more m refl in
    subst (IsPrefix (suc b ∷ bytes)) (some_some (suc b ∷ m) name is)
    (record { within = omega (arith, h.within); is = ap (λ (l : List ℕ). suc b ∷ l) h.is })

before-prefix : (bytes name : List ℕ) → before_nul bytes ≡ Some name → IsPrefix bytes name
unfolding before_nul
before-prefix [] name is = absurd (some_none (sym is))
before-prefix (zero ∷ bytes) name is = subst (IsPrefix (zero ∷ bytes)) (some_some [] name is) (record { within = omega arith; is = refl })
before-prefix (suc b ∷ bytes) name is = one-more b bytes (before_nul bytes) name (λ m e. before-prefix bytes m e) is

module _ (file : List ℕ) where
  -- The blocks are of the file, and end in it.
  abbrev AreInside : Blocks → Type 0
  AreInside b = (b.bytes ≡ file) × (b.structure_end ≤ length file)

  named-inside : nat_lt (length file) (be32 file 4) ≡ false → ends_outside file 8 36 ≡ false → AreInside (blocks_named file)
  named-inside e6 e8 =
      let total : be32 file 4 ≤ length file = ltb-false _ _ e6 in
      let ends : be32 file 8 + be32 file 36 ≤ be32 file 4 = ltb-false _ _ e8 in
      (refl, omega (arith, total, ends))

  -- the table of refusals
  nine : (b1 b2 b3 b4 b5 b6 b7 b8 b9 : Bool) (e1 e2 e3 e4 e5 e6 e7 e8 e9 : Fault) (b : Blocks) → (b6 ≡ false → b8 ≡ false → AreInside b)
      → IfOk (if b1 then Err e1 else if b2 then Err e2 else if b3 then Err e3 else if b4 then Err e4 else if b5 then Err e5 else if b6 then Err e6 else if b7 then Err e7 else if b8 then Err e8 else if b9 then Err e9 else Ok b) AreInside
  nine b1 b2 b3 b4 b5 b6 b7 b8 b9 e1 e2 e3 e4 e5 e6 e7 e8 e9 b h =
      passed AreInside b1 e1 _ (λ h1. passed AreInside b2 e2 _ (λ h2. passed AreInside b3 e3 _ (λ h3. passed AreInside b4 e4 _ (λ h4. passed AreInside b5 e5 _ (λ h5.
      passed AreInside b6 e6 _ (λ h6. passed AreInside b7 e7 _ (λ h7. passed AreInside b8 e8 _ (λ h8. passed AreInside b9 e9 _ (λ h9. h h6 h8)))))))))

  blocks-inside : IfOk (blocks file) AreInside
  unfolding blocks
  blocks-inside = nine (nat_lt (length file) 40) (not (be32 file 0 == magic)) (nat_lt (be32 file 20) 17) (nat_lt 17 (be32 file 24)) (nat_lt (be32 file 4) 40) (nat_lt (length file) (be32 file 4))
      (not (be32 file 8 % 4 == 0)) (ends_outside file 8 36) (ends_outside file 12 32)
      (TooShort, 0) (BadMagic, 0) (BadVersion, 20) (BadVersion, 24) (BlockOutside, 4) (BlockOutside, 4) (BlockOutside, 8) (BlockOutside, 8) (BlockOutside, 12) (blocks_named file) (λ h6 h8. named-inside h6 h8)

  -- a name that stands before a NUL within reach
  name-lies : (at e : ℕ) (name : List ℕ) → at + 4 ≤ e → e ≤ length file → before_nul (reach file (at + 4) e) ≡ Some name → NameLies file at name
  name-lies at e name before ends is =
      let prefix = before-prefix (reach file (at + 4) e) name is in
      let cut = take (e - (at + 4)) (drop (at + 4) file) in
      let long : length cut ≡ e - (at + 4) = length-take-le (e - (at + 4)) (drop (at + 4) file) (omega (arith, ends, length-drop (at + 4) file)) in
      let short : length name ≤ e - (at + 4) = omega (arith, prefix.within, length-take 256 cut, long) in
      let few : length name ≤ 256 = omega (arith, prefix.within, length-take 256 cut, long) in
      record {
        short = omega (arith, prefix.within, length-take 256 cut, long);
        within = omega (arith, short, before, ends);
        here = sym (take-take (length name) (e - (at + 4)) (drop (at + 4) file) short) ∙ sym (take-take (length name) 256 cut few) ∙ prefix.is;
      }

  found-lies : (at e : ℕ) (o : Option (List ℕ)) (size : ℕ) → ((name : List ℕ) → o ≡ Some name → NameLies file at name) → IfOk (node_name o size) (NameLies file at)
  found-lies at e (Some name) size h = h name refl
  found-lies at e None size h = refused (size == 256) BadNodeName Truncated (NameLies file at)

  part-lies : (name : List ℕ) (at n : ℕ) → at + n ≤ length file → ValueLies file (record { name = name; place = at; value = slice file at n })
  part-lies name at n h =
      let len : length (slice file at n) ≡ n = length-take-le n (drop at file) (omega (arith, h, length-drop at file)) in
      record {
        within = omega (arith, len, h);
        here = ap (λ (k : ℕ). slice file at k) len;
      }

  named-lies : (o : Option (List ℕ)) (at n : ℕ) → at + n ≤ length file → IfOk (property_with_name o at (slice file at n)) (ValueLies file)
  named-lies None at n h = tt
  named-lies (Some name) at n h = part-lies name at n h

  last-step : (b1 b2 b3 : Bool) (f1 f2 : BlobFault) (o : Option (List ℕ)) (at n : ℕ) → (b2 ≡ false → at + n ≤ length file)
      → IfOk (if b1 then Err f1 else if b2 then Err f2 else if b3 then property_with_name o at (slice file at n) else Err BadPropertyName) (ValueLies file)
  last-step true b2 b3 f1 f2 o at n h = tt
  last-step false true b3 f1 f2 o at n h = tt
  last-step false false true f1 f2 o at n h = named-lies o at n (h refl)
  last-step false false false f1 f2 o at n h = tt

  property-lies : (structure structure_end strings strings_size : ℕ) → structure_end ≤ length file → (at : ℕ)
      → IfOk (property_at (record { bytes = file; structure = structure; structure_end = structure_end; strings = strings; strings_size = strings_size }) at) (ValueLies file)
  property-lies structure structure_end strings strings_size within at =
      last-step _ _ _ _ _ _ (at + 12) (be32 file (at + 4))
      (λ e. let ends : at + 12 + be32 file (at + 4) ≤ structure_end = ltb-false _ _ e in omega (arith, ends, within))

  abbrev TokenHas : Token → Type 0
  TokenHas (begin_node at name) = IfOk name (NameLies file at)
  TokenHas (end_node at) = ⊤
  TokenHas (prop at p) = IfOk p (ValueLies file)
  TokenHas (nop at) = ⊤
  TokenHas (last at) = ⊤
  TokenHas (stray at fault) = ⊤

  by-word : (b0 b1 b2 b3 b4 b5 : Bool) (at : ℕ) (f0 f6 : BlobFault) (name : Result (List ℕ) BlobFault) (p : Result Property BlobFault)
      → (b0 ≡ false → IfOk name (NameLies file at)) → IfOk p (ValueLies file)
      → TokenHas (if b0 then stray at f0 else if b1 then begin_node at name else if b2 then end_node at else if b3 then prop at p else if b4 then nop at else if b5 then last at else stray at f6)
  by-word true b1 b2 b3 b4 b5 at f0 f6 name p g h = tt
  by-word false true b2 b3 b4 b5 at f0 f6 name p g h = g refl
  by-word false false true b3 b4 b5 at f0 f6 name p g h = tt
  by-word false false false true b4 b5 at f0 f6 name p g h = h
  by-word false false false false true b5 at f0 f6 name p g h = tt
  by-word false false false false false true at f0 f6 name p g h = tt
  by-word false false false false false false at f0 f6 name p g h = tt

  token-has-in : (structure structure_end strings strings_size : ℕ) → structure_end ≤ length file → (at : ℕ)
      → TokenHas (token_at (record { bytes = file; structure = structure; structure_end = structure_end; strings = strings; strings_size = strings_size }) at)
  unfolding token_at
  token-has-in structure structure_end strings strings_size ends at =
      let w = be32 file at in
      let near = reach file (at + 4) structure_end in
      by-word (nat_lt structure_end (at + 4)) (w == 1) (w == 2) (w == 3) (w == 4) (w == 9) at Truncated BadToken (node_name (before_nul near) (length near)) _
      (λ e. found-lies at structure_end (before_nul near) (length near) (λ name is. name-lies at structure_end name (ltb-false _ _ e) ends is))
      (property-lies structure structure_end strings strings_size ends at)

  token-has : (b : Blocks) → AreInside b → (at : ℕ) → TokenHas (token_at b at)
  token-has b h at =
      subst (λ (w : List ℕ). TokenHas (token_at (record { bytes = w; structure = b.structure; structure_end = b.structure_end; strings = b.strings; strings_size = b.strings_size }) at)) (sym h.0)
      (token-has-in b.structure b.structure_end b.strings b.strings_size h.1 at)

  tokens-have : (n : ℕ) (b : Blocks) → AreInside b → (o : Option ℕ) → AllByRecursion TokenHas (tokens_from n b o)
  unfolding tokens_from
  tokens-have zero b h None = tt
  tokens-have (suc n) b h None = tt
  tokens-have zero b h (Some at) = tt
  tokens-have (suc n) b h (Some at) = (token-has b h at, tokens-have n b h (next (token_at b at)))

  without_nops-have : (ts : List Token) → AllByRecursion TokenHas ts → AllByRecursion TokenHas (without_nops ts)
  unfolding without_nops
  without_nops-have [] h = tt
  without_nops-have (nop at ∷ ts) h = without_nops-have ts h.1
  without_nops-have (begin_node at name ∷ ts) h = (h.0, without_nops-have ts h.1)
  without_nops-have (end_node at ∷ ts) h = (tt, without_nops-have ts h.1)
  without_nops-have (prop at p ∷ ts) h = (h.0, without_nops-have ts h.1)
  without_nops-have (last at ∷ ts) h = (tt, without_nops-have ts h.1)
  without_nops-have (stray at fault ∷ ts) h = (tt, without_nops-have ts h.1)

  abbrev Rest : List Token → Type 0
  Rest ts = AllByRecursion TokenHas ts

  abbrev PropertiesHave : List Property × List Token → Type 0
  PropertiesHave r = AllByRecursion (ValueLies file) r.0 × Rest r.1

  abbrev NodesHave : Siblings × List Token → Type 0
  NodesHave r = Lie file r.0 × Rest r.1

  properties-have : (ts : List Token) → Rest ts → IfOk (properties ts) PropertiesHave
  unfolding properties
  properties-have [] h = (tt, h)
  properties-have (prop at (Ok p) ∷ ts) h = on-bind PropertiesHave PropertiesHave (properties ts) _ (properties-have ts h.1) (λ more k. ((h.0, k.0), k.1))
  properties-have (prop at (Err fault) ∷ ts) h = tt
  properties-have (begin_node at name ∷ ts) h = (tt, h)
  properties-have (end_node at ∷ ts) h = (tt, h)
  properties-have (nop at ∷ ts) h = (tt, h)
  properties-have (last at ∷ ts) h = (tt, h)
  properties-have (stray at fault ∷ ts) h = (tt, h)

  end-has : (ts : List Token) → Rest ts → IfOk (end ts) Rest
  end-has [] h = tt
  end-has (end_node at ∷ ts) h = h.1
  end-has (prop at p ∷ ts) h = tt
  end-has (begin_node at name ∷ ts) h = tt
  end-has (nop at ∷ ts) h = tt
  end-has (last at ∷ ts) h = tt
  end-has (stray at fault ∷ ts) h = tt

  abbrev InsideHas : (List Property × Siblings) × List Token → Type 0
  InsideHas r = AllByRecursion (ValueLies file) r.0.0 × Lie file r.0.1 × Rest r.1

  inside-has : (read : List Token → Result (Siblings × List Token) Fault) → ((ts : List Token) → Rest ts → IfOk (read ts) NodesHave) → (ts : List Token) → Rest ts → IfOk (inside read ts) InsideHas
  inside-has read all ts h =
      on-bind PropertiesHave InsideHas (properties ts) _ (properties-have ts h) (λ own k.
      on-bind NodesHave InsideHas (read own.1) _ (all own.1 k.1) (λ below l.
      on-bind Rest InsideHas (end below.1) _ (end-has below.1 l.1) (λ rest m. (k.0, l.0, m))))

  children-have : (n : ℕ) (ts : List Token) → Rest ts → IfOk (children n ts) NodesHave
  unfolding children
  children-have zero ts h = (tt, h)
  children-have (suc n) (begin_node at (Ok name) ∷ ts) h =
      on-bind InsideHas NodesHave (inside (children n) ts) _ (inside-has (children n) (λ us k. children-have n us k) ts h.1) (λ it k.
      on-bind NodesHave NodesHave (children n it.1) _ (children-have n it.1 k.2) (λ more l. ((h.0, k.0, k.1, l.0), l.1)))
  children-have (suc n) (begin_node at (Err fault) ∷ ts) h = tt
  children-have (suc n) [] h = (tt, h)
  children-have (suc n) (end_node at ∷ ts) h = (tt, h)
  children-have (suc n) (prop at p ∷ ts) h = (tt, h)
  children-have (suc n) (nop at ∷ ts) h = (tt, h)
  children-have (suc n) (last at ∷ ts) h = (tt, h)
  children-have (suc n) (stray at fault ∷ ts) h = (tt, h)

  ended-has : (t : Siblings) → Lie file t → (ts : List Token) → IfOk (ended t ts) (Lie file)
  ended-has t h [] = tt
  ended-has t h (last at ∷ ts) = h
  ended-has t h (end_node at ∷ ts) = tt
  ended-has t h (prop at p ∷ ts) = tt
  ended-has t h (begin_node at name ∷ ts) = tt
  ended-has t h (nop at ∷ ts) = tt
  ended-has t h (stray at fault ∷ ts) = tt

  root-has : (ts : List Token) → Rest ts → IfOk (root ts) (Lie file)
  unfolding root
  root-has [] h = tt
  root-has (begin_node at (Ok name) ∷ ts) h =
      on-bind InsideHas (Lie file) (inside (children (length ts)) ts) _ (inside-has (children (length ts)) (λ us k. children-have (length ts) us k) ts h.1)
      (λ it k. ended-has (node at name it.0.0 it.0.1 none) (h.0, k.0, k.1, tt) it.1)
  root-has (begin_node at (Err fault) ∷ ts) h = tt
  root-has (end_node at ∷ ts) h = tt
  root-has (prop at p ∷ ts) h = tt
  root-has (nop at ∷ ts) h = tt
  root-has (last at ∷ ts) h = tt
  root-has (stray at fault ∷ ts) h = tt

  -- each name and value of a tree that was read stands at its place
  pub tree-lies : IfOk (tree file) (Lie file)
  unfolding tree
  tree-lies = on-bind AreInside (Lie file) (blocks file) _ blocks-inside (λ b h. root-has (without_nops (tokens b)) (without_nops-have (tokens b) (tokens-have _ b h (Some b.structure))))
