-- Each name stands among the strings at its offset.
use Rattle.std.proofs.Common.{◌≡◌, ◌≤◌, ℕ, ◌+◌, List, [], ◌∷◌, ◌++◌, length, drop, Bool, true, false, if◌then◌else◌, refl, ap, sym, ◌∙◌, append_assoc, length-append, arith, Result, Ok, Err}
use Rattle.std.specs.{Bool.⊤, List.{list_any, AllByRecursion}, Str.bytes_eq, Result.OnErr}
use Rattle.std.proofs.lemmas.{Bool.{or_left, or_right}, Slice.Eq.bytes_eq-Decides}
use Rattle.std.proofs.{lemmas.List.Folds.list_any-append, Math.Seq.drop-append-add}
use Rattle.uimg_blob_reading.specs.Plain.{Named, NamedOf, Nodes, NodesOf, no_node, a_node}
use Rattle.uimg_blob_writing.specs.Encoding.{with_nul, strings, name_offset, with_name, with_names, with_names_in}

-- a name is among names
abbrev pub Has : List (List ℕ) → List ℕ → Type 0
Has names name = list_any (bytes_eq name) names ≡ true

-- a name that is among names stands at its offset
pub record Stands (names : List (List ℕ)) (name : List ℕ) : Type 0 where
  pub rest : List ℕ
  pub below : name_offset names name + (length name + 1) ≤ length (strings names)
  pub here : drop (name_offset names name) (strings names) ≡ name ++ 0 ∷ rest

stands_at : (first : List ℕ) (names : List (List ℕ)) (name : List ℕ) (same : Bool) → (same ≡ true → name ≡ first) → (same ≡ false → Stands names name) →
    (rest : List ℕ) × ((if same then 0 else length (with_nul first) + name_offset names name) + (length name + 1) ≤ length (strings (first ∷ names)))
    × (drop (if same then 0 else length (with_nul first) + name_offset names name) (strings (first ∷ names)) ≡ name ++ 0 ∷ rest)
stands_at first names name true same other =
    let e = same refl in
    let all = length-append (with_nul first) (strings names) in
    let len : length first ≡ length name = ap (λ (w : List ℕ). length w) (sym e) in
    (strings names, omega (arith, all, len, length-append first (0 ∷ [])), append_assoc first (0 ∷ []) (strings names) ∙ ap (λ (w : List ℕ). w ++ 0 ∷ strings names) (sym e))
stands_at first names name false same other =
    let s = other refl in
    let all = length-append (with_nul first) (strings names) in
    (s.rest, omega (arith, all, s.below), drop-append-add (with_nul first) (strings names) (name_offset names name) ∙ s.here)

pub stands : (names : List (List ℕ)) (name : List ℕ) → Has names name → Stands names name
unfolding name_offset
stands [] name h = absurd (cc)
stands (first ∷ names) name h =
    let found = stands_at first names name (bytes_eq name first) ((bytes_eq-Decides name first).0)
    (λ other. stands names name (rw other at h)) in
    record { rest = found.0; below = found.1; here = found.2 }

-- names that are there stay
has_kept : (names : List (List ℕ)) (name more : List ℕ) (there : Bool) → Has names name → Has (if there then names else names ++ more ∷ []) name
has_kept names name more true h = h
has_kept names name more false h = list_any-append (bytes_eq name) names (more ∷ []) ∙ or_left (list_any (bytes_eq name) names) _ h

pub has-with_name : (names : List (List ℕ)) (name more : List ℕ) → Has names name → Has (with_name names more) name
has-with_name names name more h = has_kept names name more (list_any (bytes_eq more) names) h

-- a name that is added is there
has_last : (names : List (List ℕ)) (name : List ℕ) (there : Bool) → there ≡ list_any (bytes_eq name) names → Has (if there then names else names ++ name ∷ []) name
has_last names name true e = sym e
has_last names name false e =
    let same : bytes_eq name name ≡ true = (bytes_eq-Decides name name).1 refl in
    list_any-append (bytes_eq name) names (name ∷ [])
    ∙ or_right (list_any (bytes_eq name) names) _ (or_left (bytes_eq name name) false same)

pub has-added : (names : List (List ℕ)) (name : List ℕ) → Has (with_name names name) name
has-added names name = has_last names name (list_any (bytes_eq name) names) refl

pub has-with_names : (names : List (List ℕ)) (name : List ℕ) (own : List Named) → Has names name → Has (with_names names own) name
unfolding with_names
has-with_names names name [] h = h
has-with_names names name (p ∷ own) h = has-with_names (with_name names p.name) name own (has-with_name names name p.name h)

pub has-with_names_in : (names : List (List ℕ)) (name : List ℕ) (t : Nodes) → Has names name → Has (with_names_in names t) name
unfolding with_names_in
has-with_names_in names name no_node h = h
has-with_names_in names name (a_node n own below after) h =
    let own_names = with_names names own in
    has-with_names_in (with_names_in own_names below) name after
    (has-with_names_in own_names name below (has-with_names names name own h))

-- a fact on each name among some, for the properties of nodes
module _ (all : List (List ℕ)) (P : List ℕ → Type 0) (from : (name : List ℕ) → Has all name → P name) where
  unfoldable pub AllNames : Nodes → Type 0
  AllNames no_node = ⊤
  AllNames (a_node name own below after) = AllByRecursion (λ p. P p.name) own × AllNames below × AllNames after

  all_properties : (names : List (List ℕ)) (own : List Named) → ((name : List ℕ) → Has (with_names names own) name → Has all name) → AllByRecursion (λ p. P p.name) own
  unfolding with_names
  all_properties names [] up = tt
  all_properties names (p ∷ own) up = (
    from p.name (up p.name (has-with_names (with_name names p.name) p.name own (has-added names p.name))),
    all_properties (with_name names p.name) own up,
  )

  pub all_names : (names : List (List ℕ)) (t : Nodes) → ((name : List ℕ) → Has (with_names_in names t) name → Has all name) → AllNames t
  unfolding with_names_in AllNames
  all_names names no_node up = tt
  all_names names (a_node name own below after) up =
      let own_names = with_names names own in
      let below_names = with_names_in own_names below in (
        all_properties names own (λ n h. up n (has-with_names_in below_names n after (has-with_names_in own_names n below h))),
        all_names own_names below (λ n h. up n (has-with_names_in below_names n after h)),
        all_names below_names after up,
      )

-- names are never fewer than before
length-if : (names : List (List ℕ)) (name : List ℕ) (there : Bool) → length names ≤ length (if there then names else names ++ name ∷ [])
length-if names name true = omega arith
length-if names name false = omega (arith, length-append names (name ∷ []))

pub length-with_names : {V : Type 0} (names : List (List ℕ)) (own : List (NamedOf V)) → length names ≤ length (with_names names own)
unfolding with_names
length-with_names names [] = omega arith
length-with_names names (p ∷ own) =
    let one : length names ≤ length (with_name names p.name) = length-if names p.name (list_any (bytes_eq p.name) names) in
    omega (arith, one, length-with_names (with_name names p.name) own)

pub length-with_names_in : {V : Type 0} (names : List (List ℕ)) (t : NodesOf V) → length names ≤ length (with_names_in names t)
unfolding with_names_in
length-with_names_in names no_node = omega arith
length-with_names_in names (a_node name own below after) =
    let mine = with_names names own in
    omega (arith, length-with_names names own, length-with_names_in mine below, length-with_names_in (with_names_in mine below) after)

-- what holds where an answer is a refusal
pub on-err : {X E P : Type 0} (r : Result X E) → P → OnErr r P
on-err (Ok x) p = tt
on-err (Err e) p = p
