-- What was called is what the rules allow.
use Rattle.std.proofs.Common.{◌≡◌, ℕ, List, [], ◌∷◌, ◌++◌, Bool, true, false, refl, ap, sym, ◌∙◌}
use mathlib.Core.List.{append_assoc}
use Rattle.std.proofs.lemmas.List.Folds.{list_all-append}
use Rattle.std.proofs.lemmas.Bool.{and_parts}
use Rattle.uimg_world.specs.Deeds.{Deed, changes, changes_only, Creates, Links, Renames, Removes, MakesFolder, RemovesFolder, RemovesAll, Syncs, Resolves, Looks, Identifies, Opens, Explains, Reads, Finds, Lists, Overwrites, LendsReader, LendsShelf, Closes}
use Rattle.uimg_world.specs.declared.call.Answer.{Answer}
use Rattle.uimg_unpacking.specs.Places.{ChangesWithin, Obeys, Terms, is_temporary_folder, may_change, since, stays_within}
use Rattle.uimg_world.specs.declared.kind.Kind.{Kind}
use Rattle.uimg_unpacking.proofs.Placing.{both, folder_changes, obeys_within}

changes_of : (new old : List Deed) → changes (new ++ old) ≡ changes new ++ changes old
changes_of [] old = refl
changes_of (Opens p x ∷ new) old = changes_of new old
changes_of (Explains p ∷ new) old = changes_of new old
changes_of (Reads p x ∷ new) old = changes_of new old
changes_of (Finds p x ∷ new) old = changes_of new old
changes_of (Lists p x ∷ new) old = changes_of new old
changes_of (Identifies p x ∷ new) old = changes_of new old
changes_of (Looks p x ∷ new) old = changes_of new old
changes_of (Resolves p x ∷ new) old = changes_of new old
changes_of (LendsReader ∷ new) old = changes_of new old
changes_of (Creates p x ∷ new) old = ap (λ (t : List Deed). Creates p x ∷ t) (changes_of new old)
changes_of (Links p q x ∷ new) old = ap (λ (t : List Deed). Links p q x ∷ t) (changes_of new old)
changes_of (Renames p q x ∷ new) old = ap (λ (t : List Deed). Renames p q x ∷ t) (changes_of new old)
changes_of (Removes p x ∷ new) old = ap (λ (t : List Deed). Removes p x ∷ t) (changes_of new old)
changes_of (MakesFolder p x ∷ new) old = ap (λ (t : List Deed). MakesFolder p x ∷ t) (changes_of new old)
changes_of (RemovesFolder p x ∷ new) old = ap (λ (t : List Deed). RemovesFolder p x ∷ t) (changes_of new old)
changes_of (RemovesAll p x ∷ new) old = ap (λ (t : List Deed). RemovesAll p x ∷ t) (changes_of new old)
changes_of (Syncs p x ∷ new) old = ap (λ (t : List Deed). Syncs p x ∷ t) (changes_of new old)
changes_of (Overwrites p x ∷ new) old = ap (λ (t : List Deed). Overwrites p x ∷ t) (changes_of new old)
changes_of (LendsShelf p ∷ new) old = ap (λ (t : List Deed). LendsShelf p ∷ t) (changes_of new old)
changes_of (Closes p s c x ∷ new) old = ap (λ (t : List Deed). Closes p s c x ∷ t) (changes_of new old)

-- the changes among calls that stay within a folder
changes_stay : (folder : List ℕ) (is_naming : Bool) (trace : List Deed) → stays_within folder is_naming trace ≡ true → stays_within folder is_naming (changes trace) ≡ true
changes_stay folder n [] ok = refl
changes_stay folder n (Opens p x ∷ trace) ok = changes_stay folder n trace ok
changes_stay folder n (Explains p ∷ trace) ok = changes_stay folder n trace ok
changes_stay folder n (Reads p x ∷ trace) ok = changes_stay folder n trace ok
changes_stay folder n (Finds p x ∷ trace) ok = changes_stay folder n trace ok
changes_stay folder n (Lists p x ∷ trace) ok = changes_stay folder n trace ok
changes_stay folder n (Identifies p x ∷ trace) ok = changes_stay folder n trace ok
changes_stay folder n (Looks p x ∷ trace) ok = changes_stay folder n trace ok
changes_stay folder n (Resolves p x ∷ trace) ok = changes_stay folder n trace ok
changes_stay folder n (LendsReader ∷ trace) ok = changes_stay folder n trace ok
changes_stay folder n (Creates p x ∷ trace) ok = let h = and_parts _ _ ok in both _ _ h.0 (changes_stay folder n trace h.1)
changes_stay folder n (Links p q x ∷ trace) ok = let h = and_parts _ _ ok in both _ _ h.0 (changes_stay folder n trace h.1)
changes_stay folder n (Renames p q x ∷ trace) ok = let h = and_parts _ _ ok in both _ _ h.0 (changes_stay folder n trace h.1)
changes_stay folder n (Removes p x ∷ trace) ok = let h = and_parts _ _ ok in both _ _ h.0 (changes_stay folder n trace h.1)
changes_stay folder n (MakesFolder p x ∷ trace) ok = let h = and_parts _ _ ok in both _ _ h.0 (changes_stay folder n trace h.1)
changes_stay folder n (RemovesFolder p x ∷ trace) ok = let h = and_parts _ _ ok in both _ _ h.0 (changes_stay folder n trace h.1)
changes_stay folder n (RemovesAll p x ∷ trace) ok = let h = and_parts _ _ ok in both _ _ h.0 (changes_stay folder n trace h.1)
changes_stay folder n (Syncs p x ∷ trace) ok = changes_stay folder n trace ok
changes_stay folder n (Overwrites p x ∷ trace) ok = let h = and_parts _ _ ok in both _ _ h.0 (changes_stay folder n trace h.1)
changes_stay folder n (LendsShelf p ∷ trace) ok = let h = and_parts _ _ ok in both _ _ h.0 (changes_stay folder n trace h.1)
changes_stay folder n (Closes p s c x ∷ trace) ok = let h = and_parts _ _ ok in both _ _ h.0 (changes_stay folder n trace h.1)

pub within : (t : Terms) (is_naming : Bool) (old new : List Deed) → Obeys t is_naming old new → ChangesWithin t.0 is_naming old new
within t is_naming old new does = record {
  made = changes (since old new);
  is = ap changes does.is ∙ changes_of (since old new) old;
  within = changes_stay t.0 is_naming (since old new) (obeys_within t is_naming (since old new) does.rules);
}

-- what was changed before, and then
pub changed_more : (folder : List ℕ) (is_naming : Bool) (old middle new : List Deed) → ChangesWithin folder is_naming middle new → ChangesWithin folder is_naming old middle → ChangesWithin folder is_naming old new
changed_more folder n old middle new last first = record {
  made = last.made ++ first.made;
  is = last.is ∙ ap (λ (t : List Deed). last.made ++ t) first.is ∙ sym (append_assoc last.made first.made (changes old));
  within = list_all-append (changes_only (may_change folder n)) last.made first.made ∙ both _ _ last.within first.within;
}

pub changed_none : (folder : List ℕ) (old new : List Deed) → changes new ≡ changes old → ChangesWithin folder false old new
changed_none folder old new same = record { made = []; is = same; within = refl }

pub changed_since : (folder : List ℕ) (old middle new : List Deed) → changes middle ≡ changes old → ChangesWithin folder false middle new → ChangesWithin folder false old new
changed_since folder old middle new same last = changed_more folder false old middle new last (changed_none folder old middle same)

pub changed_one : (folder : List ℕ) (deed : Deed) (old new : List Deed) → changes new ≡ deed ∷ changes old → changes_only (may_change folder false) deed ≡ true → ChangesWithin folder false old new
changed_one folder deed old new is ok = record { made = deed ∷ []; is = is; within = both _ _ ok refl }

pub looked : (path : List ℕ) (kind : Kind) (old new : List Deed) → new ≡ Looks path kind ∷ old → changes new ≡ changes old
looked path kind old new is = ap changes is

pub changed_removed : (folder path : List ℕ) (answer : Answer) (old new : List Deed) → is_temporary_folder folder path ≡ true → new ≡ Removes path answer ∷ old → ChangesWithin folder false old new
changed_removed folder path answer old new inside is = changed_one folder (Removes path answer) old new (ap changes is) (folder_changes folder path false inside)

pub changed_removed_all : (folder path : List ℕ) (answer : Answer) (old new : List Deed) → is_temporary_folder folder path ≡ true → new ≡ RemovesAll path answer ∷ old → ChangesWithin folder false old new
changed_removed_all folder path answer old new inside is = changed_one folder (RemovesAll path answer) old new (ap changes is) (folder_changes folder path false inside)
