-- What files that were begun hold, and their names.
use Rattle.std.proofs.Common.{◌≡◌, ℕ, suc, ◌+◌, ◌^◌, ◌<◌, ◌≤◌, List, [], ◌∷◌, ◌++◌, map, length, codes, decimal, string_bytes, bytes_eq, slice_get, ◌-◌, is_none, option_to_list, Bool, true, false, ◌||◌, if◌then◌else◌, not, Option, Some, None, refl, ap, ap₂, sym, subst, ◌∙◌, true≢false, arith}
use Rattle.std.specs.List.{list_all}
use Rattle.std.specs.Option.{option_map_or}
use Rattle.std.proofs.lemmas.Bool.{and_parts}
use Rattle.std.proofs.lemmas.List.{append-nil}
use Rattle.std.proofs.lemmas.List.Folds.{list_all-append}
use Rattle.uimg_unpacking.specs.Contents.{Files, IsTrueTo, files_after, held, held_in, is_in, differ}
use Rattle.uimg_world.specs.Deeds.{Deed, Creates, Closes, Removes}
use Rattle.uimg_world.specs.declared.call.Answer.{Answer}
use Rattle.uimg_world.specs.declared.call.Answer.TheVariants.{Done}
use Rattle.uimg_unpacking.specs.FileNames.{is_among, is_file_name}
use Rattle.uimg_unpacking.specs.Leaving.{KeepsNone, Leaves}
use Rattle.uimg_unpacking.specs.Naming.{NamesFiles, PutsBackFiles}
use Rattle.uimg_unpacking.specs.Places.{Obeys, Terms, is_begun_in, is_file_of}
use Rattle.uimg_unpacking.specs.Refusals.{last_name}
use Rattle.uimg_unpacking.specs.Staged.{are_numbered_in, without_last, complete, complete_names, held_new, staged, names_of, with_name, uses_names, LeavesOthers}
use Rattle.uimg_unpacking.specs.declared.staged_file.StagedFile.{StagedFile}
use Rattle.uimg_unpacking.proofs.ContentLaws.{HasPaths, Numbered, all_numbered, as_held, numbers_told, removes_other, creates_other, closes_other, closes_it, two_new, not_or}
use Rattle.uimg_unpacking.proofs.LeavingLaws.{none_closed, none_created, quiet}
use Rattle.uimg_unpacking.proofs.RecoverLaws.{named_all, taken_back}
use Rattle.uimg_unpacking.proofs.NameUses.{names_used}
use Rattle.uimg_unpacking.proofs.Placing.{begun_named, both, differs, not_eq, own_in}

-- the paths of numbers in the folder that was made, as facts
abbrev pub NumberedIn : Option (List ℕ) → List StagedFile → Type 0
NumberedIn None files = files ≡ []
NumberedIn (Some made) files = Numbered made 0 files

pub is_numbered : (made : Option (List ℕ)) (files : List StagedFile) → are_numbered_in made files ≡ true → NumberedIn made files
unfolding are_numbered_in
is_numbered None [] is = refl
is_numbered None (its ∷ files) is = absurd (true≢false (sym is))
is_numbered (Some made) files is = all_numbered made 0 files is

pub tell_numbered : (made : Option (List ℕ)) (files : List StagedFile) → NumberedIn made files → are_numbered_in made files ≡ true
unfolding are_numbered_in
tell_numbered None files has = subst (λ (fs : List StagedFile). are_numbered_in None fs ≡ true) (sym has) refl
tell_numbered (Some made) files has = numbers_told made 0 files has

-- the files before the last
pub front_of : (left : List StagedFile) (its : StagedFile) → without_last (left ++ its ∷ []) ≡ left
front_of [] its = refl
front_of (one ∷ []) its = refl
front_of (one ∷ next ∷ left) its = ap (λ (l : List StagedFile). one ∷ l) (front_of (next ∷ left) its)

pub front_numbered : (made : List ℕ) (n : ℕ) (left : List StagedFile) (its : StagedFile) → Numbered made n (left ++ its ∷ []) → Numbered made n left
front_numbered made n [] its numbered = tt
front_numbered made n (one ∷ left) its numbered = (numbered.0, front_numbered made (suc n) left its numbered.1)

pub last_numbered : (made : List ℕ) (n : ℕ) (left : List StagedFile) (its : StagedFile) → Numbered made n (left ++ its ∷ []) → HasPaths made (n + length left) its
last_numbered made n [] its numbered = subst (λ (k : ℕ). HasPaths made k its) (omega arith) numbered.0
last_numbered made n (one ∷ left) its numbered = subst (λ (k : ℕ). HasPaths made k its) (omega arith) (last_numbered made (suc n) left its numbered.1)

pub more_numbered : (made : List ℕ) (n k : ℕ) (files : List StagedFile) (its : StagedFile) → k ≡ n + length files → Numbered made n files → HasPaths made k its → Numbered made n (files ++ its ∷ [])
more_numbered made n k [] its is numbered paths = (subst (λ (m : ℕ). HasPaths made m its) (omega (arith, is)) paths, tt)
more_numbered made n k (one ∷ files) its is numbered paths = (numbered.0, more_numbered made (suc n) k files its (omega (arith, is)) numbered.1 paths)

-- none of these is the file at a path
abbrev pub none_at : List ℕ → List StagedFile → Bool
none_at path = list_all (λ its. not (bytes_eq path (string_bytes its.new)))

pub none_numbered : (made : List ℕ) (n k : ℕ) (files : List StagedFile) (its : StagedFile) → n + length files ≤ k → Numbered made n files → HasPaths made k its → none_at (string_bytes its.new) files ≡ true
none_numbered made n k [] its less numbered paths = refl
none_numbered made n k (one ∷ files) its less numbered paths =
    both _ _
    (ap not (differs (string_bytes its.new) (string_bytes one.new) (λ is. two_new made k n paths.small numbered.0.small (λ e. omega (arith, e, less)) (sym paths.new ∙ is ∙ numbered.0.new))))
    (none_numbered made (suc n) k files its (omega (arith, less)) numbered.1 paths)

-- a call at another path leaves what they hold
pub held_each : (path : List ℕ) (files : List StagedFile) (before after : List Deed) → ((p : List ℕ) → bytes_eq path p ≡ false → held after p ≡ held before p) → none_at path files ≡ true → held_new after files ≡ held_new before files
held_each path [] before after leaves none = refl
held_each path (one ∷ files) before after leaves none =
    let h = and_parts (not (bytes_eq path (string_bytes one.new))) (none_at path files) none in
    ap₂ (λ (x : Option (List ℕ)) (xs : List (Option (List ℕ))). x ∷ xs) (leaves (string_bytes one.new) (not_eq _ h.0)) (held_each path files before after leaves h.1)

front_none : (path : List ℕ) (files : List StagedFile) → none_at path files ≡ true → none_at path (without_last files) ≡ true
front_none path [] none = refl
front_none path (one ∷ []) none = refl
front_none path (one ∷ next ∷ files) none =
    let h = and_parts (not (bytes_eq path (string_bytes one.new))) (none_at path (next ∷ files)) none in
    both _ _ h.0 (front_none path (next ∷ files) h.1)

pub complete_none : (path : List ℕ) (files : List StagedFile) (is_writing : Bool) → none_at path files ≡ true → none_at path (complete files is_writing) ≡ true
complete_none path files true none = front_none path files none
complete_none path files false none = none

-- a file is created that none of them is
new_none : (made : Option (List ℕ)) (files : List StagedFile) (its : StagedFile) → NumberedIn made (files ++ its ∷ []) → none_at (string_bytes its.new) files ≡ true
new_none None [] its numbered = refl
new_none None (one ∷ files) its numbered = cc
new_none (Some path) files its numbered =
    none_numbered path 0 (length files) files its (omega arith) (front_numbered path 0 files its numbered) (subst (λ (k : ℕ). HasPaths path k its) (omega arith) (last_numbered path 0 files its numbered))

pub created_same : (made : Option (List ℕ)) (files : List StagedFile) (is_writing : Bool) (its : StagedFile) (answer : Answer) (before after : List Deed) → NumberedIn made (files ++ its ∷ []) → after ≡ Creates (string_bytes its.new) answer ∷ before → staged after files is_writing ≡ staged before files is_writing
created_same made files is_writing its answer before after numbered is =
    held_each (string_bytes its.new) (complete files is_writing) before after
    (λ p other. as_held before after p p (λ start. ap (λ (t : List Deed). files_after start t p) is ∙ creates_other start (string_bytes its.new) p answer before other))
    (complete_none (string_bytes its.new) files is_writing (new_none made files its numbered))

-- the last one is closed
pub closed_same : (made : Option (List ℕ)) (files left : List StagedFile) (its : StagedFile) (is_synced : Bool) (contents : Option (List ℕ)) (answer : Answer) (before after : List Deed) → files ≡ left ++ its ∷ [] → NumberedIn made files → after ≡ Closes (string_bytes its.new) is_synced contents answer ∷ before → held_new after left ≡ held_new before left
closed_same made files left its is_synced contents answer before after are numbered is =
    held_each (string_bytes its.new) left before after
    (λ p other. as_held before after p p (λ start. ap (λ (t : List Deed). files_after start t p) is ∙ closes_other start (string_bytes its.new) p is_synced contents answer before other))
    (new_none made left its (subst (NumberedIn made) are numbered))

map-append : (f : StagedFile → Option (List ℕ)) (xs ys : List StagedFile) → map f (xs ++ ys) ≡ map f xs ++ map f ys
map-append f [] ys = refl
map-append f (x ∷ xs) ys = ap (λ (l : List (Option (List ℕ))). f x ∷ l) (map-append f xs ys)

pub closed_failed : (made : Option (List ℕ)) (files left : List StagedFile) (its : StagedFile) (is_synced : Bool) (contents : Option (List ℕ)) (answer : Answer) (before after : List Deed) → files ≡ left ++ its ∷ [] → NumberedIn made files → after ≡ Closes (string_bytes its.new) is_synced contents answer ∷ before → staged after files true ≡ staged before files true
closed_failed made files left its is_synced contents answer before after are numbered is =
    let front : without_last files ≡ left = ap without_last are ∙ front_of left its in
    ap (held_new after) front ∙ closed_same made files left its is_synced contents answer before after are numbered is ∙ ap (held_new before) (sym front)

pub closed_done : (made : Option (List ℕ)) (files left : List StagedFile) (its : StagedFile) (is_synced : Bool) (contents : Option (List ℕ)) (before after : List Deed) → files ≡ left ++ its ∷ [] → NumberedIn made files → after ≡ Closes (string_bytes its.new) is_synced contents Done ∷ before → staged after files false ≡ staged before files true ++ contents ∷ []
closed_done made files left its is_synced contents before after are numbered is =
    let front : without_last files ≡ left = ap without_last are ∙ front_of left its in
    ap (held_new after) are ∙ map-append (λ file. held after (string_bytes file.new)) left (its ∷ [])
    ∙ ap₂ (λ (xs ys : List (Option (List ℕ))). xs ++ ys)
    (closed_same made files left its is_synced contents Done before after are numbered is ∙ ap (held_new before) (sym front))
    (ap (λ (x : Option (List ℕ)). x ∷ []) (ap (λ (t : List Deed). held t (string_bytes its.new)) is ∙ closes_it (string_bytes its.new) is_synced contents before))

-- the last one is removed
pub removed_same : (made : Option (List ℕ)) (files left : List StagedFile) (its : StagedFile) (answer : Answer) (before after : List Deed) → files ≡ left ++ its ∷ [] → NumberedIn made files → after ≡ Removes (string_bytes its.new) answer ∷ before → held_new after left ≡ staged before files true
removed_same made files left its answer before after are numbered is =
    let front : without_last files ≡ left = ap without_last are ∙ front_of left its in
    held_each (string_bytes its.new) left before after
    (λ p other. as_held before after p p (λ start. ap (λ (t : List Deed). files_after start t p) is ∙ removes_other start (string_bytes its.new) p answer before other))
    (new_none made left its (subst (NumberedIn made) are numbered))
    ∙ ap (held_new before) (sym front)

pub front_in : (made : Option (List ℕ)) (files left : List StagedFile) (its : StagedFile) → files ≡ left ++ its ∷ [] → NumberedIn made files → NumberedIn made left
front_in None files [] its are numbered = refl
front_in None files (one ∷ left) its are numbered = absurd (empty (sym numbered ∙ are))
  where
    empty : [] ≡ one ∷ (left ++ its ∷ []) → ⊥
    empty is = omega (arith, ap (λ (l : List StagedFile). length l) is)
front_in (Some path) files left its are numbered = front_numbered path 0 left its (subst (Numbered path 0) are numbered)

-- the files hold at their names what they held
pub held_by_names : (folder : List ℕ) (names : List (List ℕ)) (before after : List Deed) → list_all is_file_name names ≡ true → ((p : List ℕ) → is_file_of folder p ≡ true → held after p ≡ held before p) → held_in folder after names ≡ held_in folder before names
held_by_names folder [] before after all leaves = refl
held_by_names folder (name ∷ names) before after all leaves =
    let h = and_parts (is_file_name name) (list_all is_file_name names) all in
    ap₂ (λ (x : Option (List ℕ)) (xs : List (Option (List ℕ))). x ∷ xs) (leaves (folder ++ codes "/" ++ name) (own_in folder name h.0)) (held_by_names folder names before after h.1 leaves)

pub are_names : (folder : List ℕ) (files : List StagedFile) → list_all (is_begun_in folder) files ≡ true → list_all is_file_name (names_of files) ≡ true
are_names folder [] all = refl
are_names folder (its ∷ files) all =
    let h = and_parts (is_begun_in folder its) (list_all (is_begun_in folder) files) all in
    both _ _ (begun_named folder its h.0) (are_names folder files h.1)

names-append : (left : List StagedFile) (its : StagedFile) → names_of (left ++ its ∷ []) ≡ names_of left ++ string_bytes its.name ∷ []
names-append [] its = refl
names-append (one ∷ left) its = ap (λ (l : List (List ℕ)). string_bytes one.name ∷ l) (names-append left its)

without : (p : StagedFile → Bool) (left : List StagedFile) (its : StagedFile) → list_all p (left ++ its ∷ []) ≡ true → list_all p left ≡ true
without p left its all = (and_parts (list_all p left) (list_all p (its ∷ [])) (sym (list_all-append p left (its ∷ [])) ∙ all)).0

-- what is true of all files is true of those before the last
front_all : (p : StagedFile → Bool) (files : List StagedFile) → list_all p files ≡ true → list_all p (without_last files) ≡ true
front_all p [] all = refl
front_all p (one ∷ []) all = refl
front_all p (one ∷ next ∷ files) all =
    let h = and_parts (p one) (list_all p (next ∷ files)) all in
    both _ _ h.0 (front_all p (next ∷ files) h.1)

complete_all : (p : StagedFile → Bool) (files : List StagedFile) (is_writing : Bool) → list_all p files ≡ true → list_all p (complete files is_writing) ≡ true
complete_all p files true all = front_all p files all
complete_all p files false all = all

not_in_front : (x : List ℕ) (files : List StagedFile) → not (is_in x (names_of files)) ≡ true → not (is_in x (names_of (without_last files))) ≡ true
not_in_front x [] is = refl
not_in_front x (one ∷ []) is = refl
not_in_front x (one ∷ next ∷ files) is =
    let h = not_or (bytes_eq x (string_bytes one.name)) (is_in x (names_of (next ∷ files))) is in
    ap₂ (λ (a b : Bool). not (a || b)) h.0 (not_eq (is_in x (names_of (without_last (next ∷ files)))) (not_in_front x (next ∷ files) h.1))

front_unlike : (files : List StagedFile) → differ (names_of files) ≡ true → differ (names_of (without_last files)) ≡ true
front_unlike [] unlike = refl
front_unlike (one ∷ []) unlike = refl
front_unlike (one ∷ next ∷ files) unlike =
    let h = and_parts (not (is_in (string_bytes one.name) (names_of (next ∷ files)))) (differ (names_of (next ∷ files))) unlike in
    both _ _ (not_in_front (string_bytes one.name) (next ∷ files) h.0) (front_unlike (next ∷ files) h.1)

complete_unlike : (files : List StagedFile) (is_writing : Bool) → differ (names_of files) ≡ true → differ (names_of (complete files is_writing)) ≡ true
complete_unlike files true unlike = front_unlike files unlike
complete_unlike files false unlike = unlike

pub none_of_names : (name : List ℕ) (files : List StagedFile) → is_in name (names_of files) ≡ false → list_all (λ its. not (bytes_eq name (string_bytes its.name))) files ≡ true
none_of_names name [] is = refl
none_of_names name (its ∷ files) is =
    let h = not_or (bytes_eq name (string_bytes its.name)) (is_in name (names_of files)) (ap not is) in
    both _ _ (ap not h.0) (none_of_names name files (not_eq _ h.1))

held_by_others : (folder : List ℕ) (names others : List (List ℕ)) (before after : List Deed) → list_all is_file_name names ≡ true → list_all (λ name. not (is_in name others)) names ≡ true → LeavesOthers folder others before after → held_in folder after names ≡ held_in folder before names
held_by_others folder [] others before after all apart leaves = refl
held_by_others folder (name ∷ names) others before after all apart leaves =
    let a = and_parts (is_file_name name) (list_all is_file_name names) all in
    let b = and_parts (not (is_in name others)) (list_all (λ x. not (is_in x others)) names) apart in
    ap₂ (λ (x : Option (List ℕ)) (xs : List (Option (List ℕ))). x ∷ xs) (as_held before after (folder ++ codes "/" ++ name) (folder ++ codes "/" ++ name) (λ start. leaves start name a.0 (not_eq _ b.0))) (held_by_others folder names others before after a.1 b.1 leaves)

names_all : (p : List ℕ → Bool) (files : List StagedFile) → list_all p (names_of files) ≡ true → list_all (λ its. p (string_bytes its.name)) files ≡ true
names_all p [] all = refl
names_all p (its ∷ files) all = let h = and_parts (p (string_bytes its.name)) (list_all p (names_of files)) all in both _ _ h.0 (names_all p files h.1)

all_names : (p : List ℕ → Bool) (files : List StagedFile) → list_all (λ its. p (string_bytes its.name)) files ≡ true → list_all p (names_of files) ≡ true
all_names p [] all = refl
all_names p (its ∷ files) all = let h = and_parts (p (string_bytes its.name)) (list_all (λ it. p (string_bytes it.name)) files) all in both _ _ h.0 (all_names p files h.1)

-- The files that are complete have their names, and hold there what they held in the temporary folder.
pub hold_named : (folder : List ℕ) (files : List StagedFile) (is_writing : Bool) (others : List (List ℕ)) (used : List ℕ → Bool) (before seen after : List Deed) → list_all (is_begun_in folder) files ≡ true → uses_names used (names_of files) others ≡ true
    → held_in folder seen (complete_names files is_writing) ≡ staged before files is_writing → LeavesOthers folder others seen after → held_in folder after (complete_names files is_writing) ≡ staged before files is_writing
hold_named folder files is_writing others used before seen after all is holds leaves =
    let uses = names_used used (names_of files) others is in
    let some = complete files is_writing in
    let named = are_names folder some (complete_all (is_begun_in folder) files is_writing all) in
    let apart = all_names (λ name. not (is_in name others)) some (complete_all (λ its. not (is_in (string_bytes its.name) others)) files is_writing (names_all (λ name. not (is_in name others)) files uses.apart)) in
    held_by_others folder (names_of some) others seen after named apart leaves ∙ holds

-- their names are file names, and differ
pub complete_facts : (folder : List ℕ) (files : List StagedFile) (is_writing : Bool) (others : List (List ℕ)) (used : List ℕ → Bool) → list_all (is_begun_in folder) files ≡ true → uses_names used (names_of files) others ≡ true
    → (list_all is_file_name (complete_names files is_writing) ≡ true) × (differ (complete_names files is_writing) ≡ true)
complete_facts folder files is_writing others used all is = (
  are_names folder (complete files is_writing) (complete_all (is_begun_in folder) files is_writing all),
  complete_unlike files is_writing (names_used used (names_of files) others is).unlike,
)

pub hold_cleared : (t : Terms) (files : List StagedFile) (is_writing : Bool) (before after : List Deed) → list_all (is_begun_in t.0) files ≡ true → Obeys t false before after → held_in t.0 after (complete_names files is_writing) ≡ held_in t.0 before (complete_names files is_writing)
hold_cleared t files is_writing before after begun does =
    held_by_names t.0 (complete_names files is_writing) before after (are_names t.0 (complete files is_writing) (complete_all (is_begun_in t.0) files is_writing begun)) (λ p own. as_held before after p p (λ start. quiet t before after does start p own))

-- files with their numbers, as they are told
pub numbered_front : (made : Option (List ℕ)) (files left : List StagedFile) (its : StagedFile) → files ≡ left ++ its ∷ [] → are_numbered_in made files ≡ true → are_numbered_in made left ≡ true
numbered_front made files left its are is = tell_numbered made left (front_in made files left its are (is_numbered made files is))

pub numbered_more : (made : List ℕ) (k : ℕ) (files : List StagedFile) (its : StagedFile) → are_numbered_in (Some made) files ≡ true → k ≡ length files → k < 2 ^ 64 → string_bytes its.new ≡ made ++ codes "/new-" ++ decimal k → string_bytes its.old ≡ made ++ codes "/old-" ++ decimal k
    → are_numbered_in (Some made) (files ++ its ∷ []) ≡ true
numbered_more made k files its is count small new old =
    tell_numbered (Some made) (files ++ its ∷ []) (more_numbered made 0 k files its (omega (arith, count)) (is_numbered (Some made) files is) (record { small = small; new = new; old = old }))

pub numbered_made : (made : Option (List ℕ)) (path : List ℕ) (files : List StagedFile) → made ≡ None → are_numbered_in made files ≡ true → are_numbered_in (Some path) files ≡ true
numbered_made made path files none is =
    let empty : files ≡ [] = is_numbered None files (subst (λ (m : Option (List ℕ)). are_numbered_in m files ≡ true) none is) in
    subst (λ (fs : List StagedFile). are_numbered_in (Some path) fs ≡ true) (sym empty) (tell_numbered (Some path) [] tt)

pub numbered_none : are_numbered_in None [] ≡ true
numbered_none = tell_numbered None [] refl

pub created_staged : (made : Option (List ℕ)) (files : List StagedFile) (is_writing : Bool) (its : StagedFile) (answer : Answer) (before after : List Deed) → are_numbered_in made (files ++ its ∷ []) ≡ true → after ≡ Creates (string_bytes its.new) answer ∷ before → staged after files is_writing ≡ staged before files is_writing
created_staged made files is_writing its answer before after is made-it = created_same made files is_writing its answer before after (is_numbered made (files ++ its ∷ []) is) made-it

pub removed_staged : (made : Option (List ℕ)) (files left : List StagedFile) (its : StagedFile) (answer : Answer) (before after : List Deed) → files ≡ left ++ its ∷ [] → are_numbered_in made files ≡ true → after ≡ Removes (string_bytes its.new) answer ∷ before → staged after left false ≡ staged before files true
removed_staged made files left its answer before after are is removed = removed_same made files left its answer before after are (is_numbered made files is) removed

-- one more is added, and is being written
pub added_staged : (calls : List Deed) (files now : List StagedFile) (its : StagedFile) → now ≡ files ++ its ∷ [] → staged calls now true ≡ staged calls files false
added_staged calls files now its is = ap (held_new calls) (ap without_last is ∙ front_of files its)

pub added_names : (files now : List StagedFile) (its : StagedFile) → now ≡ files ++ its ∷ [] → complete_names now true ≡ complete_names files false
added_names files now its is = ap names_of (ap without_last is ∙ front_of files its)

pub names_pushed : (files now : List StagedFile) (its : StagedFile) (is_pushed : Bool) → now ≡ (if is_pushed then files ++ its ∷ [] else files) → names_of now ≡ with_name is_pushed (names_of files) (string_bytes its.name)
names_pushed files now its true is = ap names_of is ∙ names-append files its
names_pushed files now its false is = ap names_of is

pub names_last : (files left : List StagedFile) (its : StagedFile) → files ≡ left ++ its ∷ [] → names_of files ≡ names_of left ++ string_bytes its.name ∷ []
names_last files left its is = ap names_of is ∙ names-append left its

-- the last one is closed, by what that answers
pub closed_staged : (made : Option (List ℕ)) (files left : List StagedFile) (its : StagedFile) (is_synced : Bool) (contents : Option (List ℕ)) (before after : List Deed) → files ≡ left ++ its ∷ [] → are_numbered_in made files ≡ true → after ≡ Closes (string_bytes its.new) is_synced contents Done ∷ before
    → staged after files false ≡ staged before files true ++ contents ∷ []
closed_staged made files left its is_synced contents before after are is closed = closed_done made files left its is_synced contents before after are (is_numbered made files is) closed

pub unclosed_staged : (made : Option (List ℕ)) (files left : List StagedFile) (its : StagedFile) (is_synced : Bool) (contents : Option (List ℕ)) (answer : Answer) (before after : List Deed) → files ≡ left ++ its ∷ [] → are_numbered_in made files ≡ true → after ≡ Closes (string_bytes its.new) is_synced contents answer ∷ before
    → staged after files true ≡ staged before files true
unclosed_staged made files left its is_synced contents answer before after are is closed = closed_failed made files left its is_synced contents answer before after are (is_numbered made files is) closed

-- the last one is complete, too
pub closed_names : (files left : List StagedFile) (its : StagedFile) → files ≡ left ++ its ∷ [] → complete_names files false ≡ complete_names files true ++ string_bytes its.name ∷ []
closed_names files left its are =
    names_last files left its are ∙ ap (λ (l : List StagedFile). names_of l ++ string_bytes its.name ∷ []) (sym (ap without_last are ∙ front_of left its))

-- the last of some files
pub last_is : (files : List StagedFile) (its : StagedFile) → slice_get files (length files - 1) ≡ Some its → (left : List StagedFile) × (files ≡ left ++ its ∷ [])
last_is [] its is = absurd (nothing is)
  where
    nothing : {X : Type 0} {x : X} → None ≡ Some x → ⊥
    nothing is = true≢false (ap is_none is)
last_is (one ∷ []) its is = ([], ap (λ (o : Option StagedFile). option_to_list o) is)
last_is (one ∷ next ∷ files) its is =
    let e : length (one ∷ next ∷ files) - 1 ≡ suc (length (next ∷ files) - 1) = omega arith in
    let k = last_is (next ∷ files) its (sym (ap (slice_get (one ∷ next ∷ files)) e) ∙ is) in
    (one ∷ k.0, ap (λ (l : List StagedFile). one ∷ l) k.1)

-- the last one is taken away, if there is one
pub numbered_popped : (made : Option (List ℕ)) (files left : List StagedFile) (o : Option StagedFile) → files ≡ left ++ option_to_list o → are_numbered_in made files ≡ true → are_numbered_in made left ≡ true
numbered_popped made files left None are is = subst (λ (fs : List StagedFile). are_numbered_in made fs ≡ true) (are ∙ append-nil left) is
numbered_popped made files left (Some its) are is = numbered_front made files left its are is

pub dropped_staged : (made : Option (List ℕ)) (files left now : List StagedFile) (is_writing : Bool) (its : StagedFile) (answer : Answer) (before middle after : List Deed) → files ≡ left ++ its ∷ [] → are_numbered_in made files ≡ true → middle ≡ before
    → after ≡ Removes (string_bytes its.new) answer ∷ middle → now ≡ left → is_writing ≡ false → staged after now is_writing ≡ staged before files true
dropped_staged made files left now is_writing its answer before middle after are is same removed now-left done =
    ap₂ (λ (fs : List StagedFile) (b : Bool). staged after fs b) now-left done
    ∙ removed_staged made files left its answer before after are is (removed ∙ ap (λ (t : List Deed). Removes (string_bytes its.new) answer ∷ t) same)

pub dropped_names : (files left now : List StagedFile) (is_writing : Bool) (its : StagedFile) → files ≡ left ++ its ∷ [] → now ≡ left → is_writing ≡ false → complete_names now is_writing ≡ complete_names files true
dropped_names files left now is_writing its are now-left done =
    ap₂ complete_names now-left done ∙ ap names_of (sym (ap without_last are ∙ front_of left its))

pushed_at : (files : List StagedFile) (its : StagedFile) → slice_get (files ++ its ∷ []) (length (files ++ its ∷ []) - 1) ≡ Some its
pushed_at [] its = refl
pushed_at (one ∷ []) its = refl
pushed_at (one ∷ next ∷ files) its =
    let e : length (one ∷ next ∷ (files ++ its ∷ [])) - 1 ≡ suc (length (next ∷ (files ++ its ∷ [])) - 1) = omega arith in
    ap (slice_get (one ∷ next ∷ (files ++ its ∷ []))) e ∙ pushed_at (next ∷ files) its

pub pushed_last : (files now : List StagedFile) (its : StagedFile) → now ≡ files ++ its ∷ [] → last_name now ≡ string_bytes its.name
pushed_last files now its is = ap (λ (fs : List StagedFile). last_name fs) is ∙ ap (λ (o : Option StagedFile). option_map_or (λ it. string_bytes it.name) o []) (pushed_at files its)

pub held_staged : (before after : List Deed) (files : List StagedFile) (is_writing : Bool) → held after ≡ held before → staged after files is_writing ≡ staged before files is_writing
held_staged before after files is_writing same = ap (λ (h : List ℕ → Option (List ℕ)). map (λ its. h (string_bytes its.new)) (complete files is_writing)) same

pub same_staged : (before after : List Deed) (files now : List StagedFile) (was is_writing : Bool) → held after ≡ held before → now ≡ files → is_writing ≡ was → staged after now is_writing ≡ staged before files was
same_staged before after files now was is_writing same are writing =
    ap₂ (λ (fs : List StagedFile) (b : Bool). staged after fs b) are writing ∙ held_staged before after files was same

-- before the temporary folder is made there are no files, and nothing is kept
pub none_unmade : (made : Option (List ℕ)) (calls : List Deed) → made ≡ None → KeepsNone made calls
none_unmade made calls is start told path other = absurd (true≢false (ap is_none (sym is ∙ other)))

complete_none_of : (is_writing : Bool) → complete [] is_writing ≡ []
complete_none_of true = refl
complete_none_of false = refl

pub unmade_staged : (made : Option (List ℕ)) (files : List StagedFile) (is_writing : Bool) (before after : List Deed) → made ≡ None → are_numbered_in made files ≡ true → staged after files is_writing ≡ staged before files is_writing
unmade_staged made files is_writing before after is numbered =
    let empty : files ≡ [] = is_numbered None files (subst (λ (m : Option (List ℕ)). are_numbered_in m files ≡ true) is numbered) in
    let gone : complete files is_writing ≡ [] = ap (λ (fs : List StagedFile). complete fs is_writing) empty ∙ complete_none_of is_writing in
    ap (held_new after) gone ∙ sym (ap (held_new before) gone)

-- nothing is kept after a file was created or closed
pub none_made : (made : Option (List ℕ)) (files : List StagedFile) (its : StagedFile) (answer : Answer) (before after : List Deed) → are_numbered_in made (files ++ its ∷ []) ≡ true → after ≡ Creates (string_bytes its.new) answer ∷ before → KeepsNone made before → KeepsNone made after
none_made None files its answer before after numbered is none = none_unmade None after refl
none_made (Some path) files its answer before after numbered is none =
    none_created path (length files) its answer before after (subst (λ (k : ℕ). HasPaths path k its) (omega arith) (last_numbered path 0 files its (is_numbered (Some path) (files ++ its ∷ []) numbered))) is none

pub none_shut : (made : Option (List ℕ)) (files left : List StagedFile) (its : StagedFile) (is_synced : Bool) (contents : Option (List ℕ)) (answer : Answer) (before after : List Deed) → files ≡ left ++ its ∷ [] → are_numbered_in made files ≡ true
    → after ≡ Closes (string_bytes its.new) is_synced contents answer ∷ before → KeepsNone made before → KeepsNone made after
none_shut None files left its is_synced contents answer before after are numbered is none = none_unmade None after refl
none_shut (Some path) files left its is_synced contents answer before after are numbered is none =
    none_closed path (length left) its is_synced contents answer before after (subst (λ (k : ℕ). HasPaths path k its) (omega arith) (last_numbered path 0 left its (subst (Numbered path 0) are (is_numbered (Some path) files numbered)))) is none

-- Names that are taken back leave the folder as it was.
pub all_taken_back : (folder : List ℕ) (made : Option (List ℕ)) (files : List StagedFile) (named : ℕ) (all : Bool) (s t u v : List Deed) → list_all (is_begun_in folder) files ≡ true → are_numbered_in made files ≡ true → differ (names_of files) ≡ true → KeepsNone made s
    → NamesFiles files named all s t → ((start : Files) → files_after start u ≡ files_after start t) → ((start : Files) → IsTrueTo start u → IsTrueTo start t) → PutsBackFiles files named true u v → Leaves folder s v
all_taken_back folder (Some path) files named all s t u v begun numbered unlike none names same told puts =
    taken_back folder path files named all s t u v begun (is_numbered (Some path) files numbered) unlike none names same told puts
all_taken_back folder None files named all s t u v begun numbered unlike none names same told puts = λ start true_to p own.
    let empty : files ≡ [] = is_numbered None files numbered in
    let n : NamesFiles [] named all s t = subst (λ (fs : List StagedFile). NamesFiles fs named all s t) empty names in
    let b : PutsBackFiles [] named true u v = subst (λ (fs : List StagedFile). PutsBackFiles fs named true u v) empty puts in
    ap (λ (l : List Deed). files_after start l p) b.1 ∙ ap (λ (x : Files). x p) (same start) ∙ ap (λ (l : List Deed). files_after start l p) n.1.1

-- All files that got their names hold there what they held.
all_held : (folder : List ℕ) (made : Option (List ℕ)) (files : List StagedFile) (before after : List Deed) → list_all (is_begun_in folder) files ≡ true → NumberedIn made files → differ (names_of files) ≡ true
    → NamesFiles files (length files) true before after → held_in folder after (names_of files) ≡ held_new before files
all_held folder None files before after all numbered unlike names =
    subst (λ (fs : List StagedFile). held_in folder after (names_of fs) ≡ held_new before fs) (sym numbered) refl
all_held folder (Some made) files before after all numbered unlike names = named_all folder made 0 files before after all numbered unlike names

pub all_hold : (t : Terms) (made : Option (List ℕ)) (files : List StagedFile) (before seen synced after : List Deed) → list_all (is_begun_in t.0) files ≡ true → are_numbered_in made files ≡ true → differ (names_of files) ≡ true → NamesFiles files (length files) true before seen
    → ((start : Files) → files_after start synced ≡ files_after start seen) → Obeys t false synced after → held_in t.0 after (names_of files) ≡ held_new before files
all_hold t made files before seen synced after all numbered unlike names same does =
    held_by_names t.0 (names_of files) seen after (are_names t.0 files all) (λ p own. as_held seen after p p (λ start. quiet t synced after does start p own ∙ ap (λ (x : Files). x p) (same start)))
    ∙ all_held t.0 made files before seen all (is_numbered made files numbered) unlike names

-- where no name is given, no file is complete
none_in_none : (names : List (List ℕ)) → list_all (is_among []) names ≡ true → names ≡ []
none_in_none [] all = refl
none_in_none (name ∷ names) all = absurd (true≢false (sym all))

no_begun : (files : List StagedFile) → names_of files ≡ [] → files ≡ []
no_begun [] is = refl
no_begun (its ∷ files) is = absurd (omega (arith, ap (λ (l : List (List ℕ)). length l) is))

none_of_length : (names : List (List ℕ)) → length names ≡ 0 → names ≡ []
none_of_length [] is = refl
none_of_length (name ∷ names) is = absurd (omega (arith, is))

pub no_names : (given : List (List ℕ)) (files : List StagedFile) (is_writing : Bool) (others : List (List ℕ)) → length given ≡ 0 → uses_names (is_among given) (names_of files) others ≡ true → complete_names files is_writing ≡ []
no_names given files is_writing others zero uses =
    let gone : given ≡ [] = none_of_length given zero in
    let used = names_used (is_among given) (names_of files) others uses in
    let empty : files ≡ [] = no_begun files (none_in_none (names_of files) (subst (λ (ns : List (List ℕ)). list_all (is_among ns) (names_of files) ≡ true) gone used.are_used)) in
    ap names_of (ap (λ (fs : List StagedFile). complete fs is_writing) empty ∙ complete_none_of is_writing)
