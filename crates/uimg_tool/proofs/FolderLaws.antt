-- A name that is noted as met is among those that were opened.
use Rattle.std.proofs.Common.{◌≡◌, inl, inr, ◌||◌, ◌&&◌, ◌==◌, ℕ, List, ◌∷◌, Bool, true, false, IsTrue, refl, ap, subst, sym, ◌∙◌, true≢false}
use Rattle.uimg_base.specs.{Device.{Device, IsFresh}, Named.{FileMap, Opens}}
use Rattle.std.specs.List.{list_any}
use Rattle.std.specs.{Borrow.Bor, Prelude.{Option, length}}
use Rattle.std.specs.Path.{path_join}
use Rattle.uimg_tool.specs.Bodies.{bodies_of}
use Rattle.uimg_tool.specs.LeavingOut.{NotesMet, SameFolders, leads_to, seen_in}
use Rattle.uimg_tool.specs.declared.lookup.Folders.{Folders}
use Rattle.uimg_world.specs.FileIds.{is_image}
use Rattle.uimg_world.specs.declared.file_id.FileId.{FileId}

or_first : (a b : Bool) → a ≡ true → (a || b) ≡ true
or_first a b is = ap (λ (x : Bool). x || b) is

or_second : (a b : Bool) → b ≡ true → (a || b) ≡ true
or_second true b is = refl
or_second false b is = is

by_parts : (a b c : Bool) → (a || b) ≡ true → (a ≡ true → c ≡ true) → (b || c) ≡ true
by_parts true b c is then_c = or_second b c (then_c refl)
by_parts false b c is then_c = or_first b c is

pub noted : (leads : List ℕ → Bool) (name : List ℕ) (names : List (List ℕ)) (failed old new : Bool) → NotesMet (leads name) failed old new → (old ≡ true → list_any leads names ≡ true) → new ≡ true → list_any leads (name ∷ names) ≡ true
noted leads name names failed old new (inl is) before met = by_parts old (leads name) (list_any leads names) (sym is ∙ met) before
noted leads name names failed old new (inr same) before met = or_second (leads name) (list_any leads names) (before (sym same.1 ∙ met))

-- at the path of a name
pub leads_at : (identities : List ℕ → Option FileId) (folder left_out name path : List ℕ) (old : Bool) → path ≡ path_join folder name → (old || is_image (identities path) (identities left_out)) ≡ (old || leads_to identities folder left_out name)
unfolding leads_to
leads_at identities folder left_out name path old is = ap (λ (p : List ℕ). old || is_image (identities p) (identities left_out)) is

-- the same over files that stay honest
pub opened : (first leads : List ℕ → Bool) (name : List ℕ) (names : List (List ℕ)) (failed old new honest still : Bool) → first ≡ leads → still ≡ honest
    → (IsTrue honest → NotesMet (first name) failed old new) → (IsTrue honest → old ≡ true → list_any leads names ≡ true) → IsTrue still → new ≡ true → list_any leads (name ∷ names) ≡ true
opened first leads name names failed old new honest still is same notes before after =
    let was = subst IsTrue same after in noted leads name names failed old new (subst (λ (l : List ℕ → Bool). NotesMet (l name) failed old new) is (notes was)) (before was)

-- at the path of a name
pub refuses_at : (identities : List ℕ → Option FileId) (folder left_out name path : List ℕ) (failed : Bool) → path ≡ path_join folder name
    → (is_image (identities path) (identities left_out) ≡ true → failed ≡ true) → leads_to identities folder left_out name ≡ true → failed ≡ true
unfolding leads_to
refuses_at identities folder left_out name path failed is refuses leads = refuses (ap (λ (p : List ℕ). is_image (identities p) (identities left_out)) is ∙ leads)

-- a folder alone is honest only if what opens its files is
both : (a b : Bool) → IsTrue (a && b) → (a ≡ true) × IsTrue b
both true b is = (refl, is)
both false b is = absurd (true≢false (sym is))

pub is_alone : (n : ℕ) (honest : Bool) → IsTrue (n == 0 && honest) → (n == 0) ≡ true
is_alone n honest is = (both (n == 0) honest is).0

pub is_honest : (n : ℕ) (honest : Bool) → IsTrue (n == 0 && honest) → IsTrue honest
is_honest n honest is = (both (n == 0) honest is).1

pub opens_here : (folder name : List ℕ) (n : ℕ) (files : FileMap) (opened : Device) → Opens files (path_join folder name) opened → Opens (seen_in folder n files) name opened
opens_here folder name n files opened opens = record {
  bytes = λ is. opens.bytes (is_honest n files.honest is);
  honest = λ is. opens.honest (is_honest n files.honest is);
  fresh = opens.fresh;
}

-- nothing is said of a file that may be in another folder
pub opens_there : (folder name : List ℕ) (n : ℕ) (files : FileMap) (opened : Device) → (n == 0) ≡ false → IsFresh opened → Opens (seen_in folder n files) name opened
opens_there folder name n files opened others fresh = record {
  bytes = λ is. absurd (true≢false (sym (is_alone n files.honest is) ∙ others));
  honest = λ is. absurd (true≢false (sym (is_alone n files.honest is) ∙ others));
  fresh = fresh;
}

-- folders that stay the same
module _ {R S : Type 0} (map : R → FileMap) (identities : R → List ℕ → Option FileId) (old new : Folders R S) (same : SameFolders map identities old new) where
  pub still_leads : (leads : List ℕ → Bool) → leads_to (identities old.reader) old.folder.now old.left_out.now ≡ leads → leads_to (identities new.reader) new.folder.now new.left_out.now ≡ leads
  still_leads leads is =
      ap (λ (ids : List ℕ → Option FileId). leads_to ids new.folder.now new.left_out.now) same.kept ∙ ap (λ (f : Bor (List ℕ)). leads_to (identities old.reader) f.now new.left_out.now) same.folder
      ∙ ap (λ (f : Bor (List ℕ)). leads_to (identities old.reader) old.folder.now f.now) same.left_out ∙ is

  pub still_honest : (length new.others.now == 0 && (map new.reader).honest) ≡ (length old.others.now == 0 && (map old.reader).honest)
  still_honest = ap (λ (f : Bor (List (Bor (List ℕ)))). length f.now == 0 && (map new.reader).honest) same.others ∙ ap (λ (h : Bool). length old.others.now == 0 && h) same.files.honest

-- the files of one folder, as they are seen at first
pub starts : {R S : Type 0} (map : R → FileMap) (folders : Folders R S) (is_xip : Bool) (reader : R) (folder : Bor (List ℕ)) (start : FileMap) → is_xip ≡ false → folders.reader ≡ reader → folders.folder ≡ folder → length folders.others.now ≡ 0
    → start ≡ bodies_of is_xip (seen_in folders.folder.now (length folders.others.now) (map folders.reader)) → start ≡ seen_in folder.now 0 (map reader)
starts {R = R} map folders is_xip reader folder start plain reads in_it alone is =
    is ∙ ap (λ (b : Bool). bodies_of b (seen_in folders.folder.now (length folders.others.now) (map folders.reader))) plain
    ∙ ap (λ (r : R). seen_in folders.folder.now (length folders.others.now) (map r)) reads ∙ ap (λ (f : Bor (List ℕ)). seen_in f.now (length folders.others.now) (map reader)) in_it
    ∙ ap (λ (n : ℕ). seen_in folder.now n (map reader)) alone
