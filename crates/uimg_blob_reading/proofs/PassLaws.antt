-- What a token does to the phase of a pass.
use Rattle.std.proofs.Common.{◌≡◌, ◌<◌, ◌≤◌, ◌+◌, ℕ, List, [], ◌∷◌, ◌++◌, length, Option, Some, None, Result, Ok, Err, Bool, false, refl, ap, sym, ◌∙◌, subst, get_or, set, length-append, arith}
use Rattle.std.{proofs.lemmas.List.length-set, specs.List.{slice_get, AllByRecursion}}
use Rattle.std.specs.Option.{is_some}
use Rattle.uimg_blob_reading.specs.declared.fault.IndexFault.{IndexFault, TheVariants.Read}
use Rattle.uimg_blob_reading.specs.{declared.states.State.State, Walk.{Open, opened, close, join}}
use Rattle.uimg_blob_reading.specs.{declared.roles.Role.Role, Grammar.{Siblings, none, node}}
use Rattle.uimg_blob_reading.specs.{declared.roles.Role.TheVariants.Root, Tokens.{Property, Token}}
use Rattle.uimg_blob_reading.specs.Kept.{entry_of, number_word, role_word, number_of_role}
use Rattle.uimg_blob_reading.specs.Entering.{begun_entry, ended_entries, GainsProperty}
use Rattle.uimg_blob_reading.specs.SoFar.{next_number, level_past, next_level, open_row, so_far}
use Rattle.uimg_blob_reading.specs.Roles.{Level, in_root, role_at, level_after, is_images_role, is_configurations_role}
use Rattle.uimg_blob_reading.specs.Passes.{Phase, inside, after, stack, child_level, PassStep, on, begins_in, ends_in, prop_in, is_after, bare, root_level, noted_images, noted_configurations, InPhase, Acts, RefusesMemory, IsPlaced}
use Rattle.uimg_blob_reading.proofs.SoFarLaws.{length_so_far, property_row, end_row, root_row}
use Rattle.uimg_blob_reading.proofs.PhaseLaws.{some_none, some_some, true_false, count_is}
use Rattle.uimg_blob_reading.proofs.RoleLaws.{row_at, level_is}
use Rattle.uimg_blob_reading.proofs.EntryLaws.{entered, left_inner, left_root}
use Rattle.uimg_blob_reading.proofs.NoteLaws.{seam_number, images_begun, configurations_begun, marks_begin}

-- the entries stay as many
pub length_ended : (n : ℕ) (es : List (List ℕ)) → length (ended_entries n es) ≡ length es
length_ended n es = length-set es n (set (get_or es n []) 2 (length es))

number_same : (a b : Option ℕ) → number_word a ≡ number_word b → a ≡ b
number_same a b h = grind arith

past_join : (l : Level) (a below : Siblings) (at : ℕ) (name : List ℕ) (own : List Property) → level_past l (join a (node at name own below none)) ≡ level_after (level_past l a) name
unfolding level_past
past_join l none below at name own = refl
past_join l (node at' name' own' below' next) below at name own = past_join (level_after l name') next below at name own

marks_end : (o parent : Open) (ls : List Open) → root_level (close o parent ∷ ls) ≡ root_level (o ∷ parent ∷ ls)
unfolding next_level
marks_end o parent ls = grind (arith, past_join)

placed_end : (o parent : Open) → IsPlaced parent → IsPlaced (close o parent)
placed_end (opened at name own below) (opened at' name' own' below') h = h

number_end : (is_it : Role → Bool) (o parent : Open) (ls : List Open) → number_of_role is_it 0 (so_far (o ∷ parent ∷ ls)) ≡ number_of_role is_it 0 (so_far (close o parent ∷ ls))
number_end is_it (opened at name own below) (opened at' name' own' below') ls =
    seam_number is_it _ _ _ _ (λ k. refl) (end_row at name own below at' name' own' below' ls)

-- the role of a node that begins where none is open
pub root_in : (p : Phase) (s : State) (es : List (List ℕ)) (name : List ℕ) → InPhase p s es → s.current ≡ None → Root ≡ role_at (next_level (stack p)) name
unfolding next_level
root_in p s es name h is = grind (arith, some_none)

-- the role of a child of the innermost node
pub child_in : (p : Phase) (s : State) (n : ℕ) (name : List ℕ) (role parent : Role) (es : List (List ℕ)) (e : List ℕ) → InPhase p s es → s.current ≡ Some n → slice_get es n ≡ Some e
    → ((r : Role) → get_or e 3 0 ≡ role_word r → parent ≡ r) → role ≡ role_at (child_level parent (is_some s.images) (is_some s.configurations)) name → role ≡ role_at (next_level (stack p)) name
child_in (inside []) s n name role parent es e h is read word child = absurd (some_none (sym is ∙ h.current))
child_in (inside (opened at own_name own below ∷ ls)) s n name role parent es e h is read word child =
    let entry : e ≡ entry_of (open_row ls at own_name own) = row_at ls at n own_name own below es e h.entries read (some_some n (next_number ls) (sym is ∙ h.current)) in
    child ∙ ap (λ (r : Role). role_at (child_level r (is_some s.images) (is_some s.configurations)) name) (word (role_at (next_level ls) own_name) (ap (λ (x : List ℕ). get_or x 3 0) entry))
    ∙ ap (λ (l : Level). role_at l name) (sym (level_is ls at own_name own below (is_some s.images) (is_some s.configurations) h.marks))
child_in (after o) s n name role parent es e h is read word child = absurd (some_none (sym is ∙ h.current))

-- a node begins
pub begin_goes : (p : Phase) (s : State) (es new : List (List ℕ)) (name : List ℕ) (role : Role) (at n : ℕ) (images configurations : Option ℕ)
    → InPhase p s es → false ≡ is_after p → role ≡ role_at (next_level (stack p)) name → new ≡ es ++ begun_entry s.at (length name) s.current role ∷ []
    → images ≡ noted_images role n s.images → configurations ≡ noted_configurations role n s.configurations
    → s.at + 8 ≤ at → n ≡ length es
    → (q : Phase) × (begins_in p s.at (Ok name) ≡ on q) × InPhase q (record { at = at; current = Some n; images = images; configurations = configurations }) new
begin_goes (inside ls) s es new name role at n images configurations h is role_is added its_images its_configurations ahead number =
    let many : n ≡ length (so_far ls) = number ∙ count_is ls es h.entries ∙ sym (length_so_far ls) in
    let more : length new ≡ length es + 1 = ap length added ∙ length-append es (begun_entry s.at (length name) s.current role ∷ []) in (
      inside (opened s.at name [] none ∷ ls),
      refl,
      record {
        entries = entered ls s.at name s.current role es new h.entries h.current role_is added;
        current = ap (λ (k : ℕ). Some k) (number ∙ count_is ls es h.entries);
        marks = marks_begin ls s.at n name role s.images s.configurations role_is h.marks
            ∙ ap (λ (o : Option ℕ). in_root (is_some o) (is_some (noted_configurations role n s.configurations))) (sym its_images)
            ∙ ap (λ (o : Option ℕ). in_root (is_some images) (is_some o)) (sym its_configurations);
        placed = (tt, h.placed);
        few = omega (arith, h.few, ahead, more);
        images = its_images ∙ images_begun ls s.at n name role s.images (is_some s.configurations) role_is h.marks h.images many;
        configurations = its_configurations ∙ configurations_begun ls s.at n name role s.configurations (is_some s.images) role_is h.marks h.configurations many;
      },
    )
begin_goes (after o) s es new name role at n images configurations h is role_is added its_images its_configurations ahead number = absurd (true_false (sym is))

-- the innermost node ends
pub end_goes : (p : Phase) (s : State) (es : List (List ℕ)) (n : ℕ) (e : List ℕ) (parent : Option ℕ)
    → InPhase p s es → s.current ≡ Some n → slice_get es n ≡ Some e → get_or e 1 0 ≡ number_word parent
    → (q : Phase) × (ends_in p s.at ≡ on q) × InPhase q (record { at = s.at + 4; current = parent; images = s.images; configurations = s.configurations }) (ended_entries n es)
unfolding next_number
end_goes (inside []) s es n e parent h is read word = absurd (some_none (sym is ∙ h.current))
end_goes (inside (opened at name own below ∷ [])) s es n e parent h is read word =
    let number : n ≡ 0 = some_some n 0 (sym is ∙ h.current) in
    let entry : e ≡ entry_of (open_row [] at name own) = row_at [] at n name own below es e h.entries read number in (
      after (opened at name own below),
      refl,
      record {
        entries = left_root (opened at name own below) n es e h.entries number read;
        current = number_same parent None (sym word ∙ ap (λ (x : List ℕ). get_or x 1 0) entry);
        marks = tt;
        placed = tt;
        few = omega (arith, h.few, length_ended n es);
        images = h.images ∙ seam_number is_images_role _ _ _ _ (λ k. refl) (root_row at name own below);
        configurations = h.configurations ∙ seam_number is_configurations_role _ _ _ _ (λ k. refl) (root_row at name own below);
      },
    )
end_goes (inside (opened at name own below ∷ outer ∷ ls)) s es n e parent h is read word =
    let number : n ≡ next_number (outer ∷ ls) = some_some n (next_number (outer ∷ ls)) (sym is ∙ h.current) in
    let entry : e ≡ entry_of (open_row (outer ∷ ls) at name own) = row_at (outer ∷ ls) at n name own below es e h.entries read number in (
      inside (close (opened at name own below) outer ∷ ls),
      refl,
      record {
        entries = left_inner (opened at name own below) outer ls n es e h.entries number read;
        current = number_same parent (Some (next_number ls)) (sym word ∙ ap (λ (x : List ℕ). get_or x 1 0) entry);
        marks = marks_end (opened at name own below) outer ls ∙ h.marks;
        placed = (placed_end (opened at name own below) outer h.placed.1.0, h.placed.1.1);
        few = omega (arith, h.few, length_ended n es);
        images = h.images ∙ number_end is_images_role (opened at name own below) outer ls;
        configurations = h.configurations ∙ number_end is_configurations_role (opened at name own below) outer ls;
      },
    )
end_goes (after o) s es n e parent h is read word = absurd (some_none (sym is ∙ h.current))

all_more : (own : List Property) (x : Property) → AllByRecursion (λ q. 0 < q.place) own → 0 < x.place → AllByRecursion (λ q. 0 < q.place) (own ++ x ∷ [])
all_more [] x h here = (here, tt)
all_more (q ∷ own) x h here = (h.0, all_more own x h.1 here)

marks_prop : (ls : List Open) (at : ℕ) (name : List ℕ) (own more : List Property) (below : Siblings) → root_level (opened at name more below ∷ ls) ≡ root_level (opened at name own below ∷ ls)
unfolding next_level
marks_prop ls at name own more below = grind arith

-- the innermost node has a property
pub prop_goes : (p : Phase) (s : State) (es new : List (List ℕ)) (n : ℕ) (x : Property) (at : ℕ)
    → InPhase p s es → Some n ≡ bare p → 0 < x.place
    → GainsProperty n x es new → length new ≡ length es → s.at ≤ at
    → (q : Phase) × (prop_in p s.at (Ok x) ≡ on q) × InPhase q (record { at = at; current = s.current; images = s.images; configurations = s.configurations }) new
prop_goes (inside []) s es new n x at h is place put same ahead = absurd (some_none is)
prop_goes (inside (opened place' name own none ∷ ls)) s es new n x at h is place put same ahead = (
  inside (opened place' name (own ++ x ∷ []) none ∷ ls),
  refl,
  record {
    entries = put place' name own ls h.entries (some_some n (next_number ls) is) h.placed.0;
    current = h.current;
    marks = marks_prop ls place' name own (own ++ x ∷ []) none ∙ h.marks;
    placed = (all_more own x h.placed.0 place, h.placed.1);
    few = omega (arith, h.few, same, ahead);
    images = h.images ∙ seam_number is_images_role _ _ _ _ (λ k. refl) (property_row ls place' name own x);
    configurations = h.configurations ∙ seam_number is_configurations_role _ _ _ _ (λ k. refl) (property_row ls place' name own x);
  },
)
prop_goes (inside (opened place' name own (node a b c d e) ∷ ls)) s es new n x at h is place put same ahead = absurd (some_none is)
prop_goes (after o) s es new n x at h is place put same ahead = absurd (some_none is)

pub acts_read : (x : PassStep) (following : Option ℕ) (r : Result (Option State) IndexFault) (old new : List (List ℕ)) → r ≡ Err Read → new ≡ old → Acts x following r old new
acts_read x following r old new is same = subst (λ (k : Result (Option State) IndexFault). Acts x following k old new) (sym is) same

pub refuses_read : {X : Type 0} (t : Token) (r : Result X IndexFault) → r ≡ Err Read → RefusesMemory t r
refuses_read {X = X} t r is = subst (λ (k : Result X IndexFault). RefusesMemory t k) (sym is) tt
