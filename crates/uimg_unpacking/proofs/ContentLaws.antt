-- What is at paths after calls, and which paths differ.
use Rattle.std.proofs.Common.{◌≡◌, ℕ, suc, ◌^◌, ◌<◌, List, [], ◌∷◌, ◌++◌, codes, decimal, string_bytes, bytes_eq, Bool, true, false, ◌&&◌, ◌||◌, ◌==◌, if◌then◌else◌, not, Option, Some, None, refl, ap, ap₂, sym, ◌∙◌, true≢false}
use Rattle.std.specs.Bool.{⊤}
use Rattle.std.specs.Cmp.{unsigned_Decides}
use mathlib.Core.List.{append_assoc}
use Rattle.std.specs.List.{list_all}
use Rattle.std.specs.Option.{option_map_or}
use Rattle.std.proofs.lemmas.Bool.{and_parts, lt-ltb, ltb-true}
use Rattle.std.proofs.lemmas.Slice.Eq.{bytes_eq-Decides}
use Rattle.std.proofs.lemmas.Fmt.{decimal_injective}
use Rattle.uimg_unpacking.specs.Contents.{Files, at, files_after, bytes_in, held}
use Rattle.uimg_world.specs.Deeds.{Deed, Creates, Closes, Links, Renames, Removes, MakesFolder, RemovesFolder}
use Rattle.uimg_world.specs.declared.call.Answer.{Answer}
use Rattle.uimg_world.specs.declared.call.Answer.TheVariants.{Done, Exists, Failed}
use Rattle.uimg_unpacking.specs.FileNames.{is_file_name}
use Rattle.uimg_unpacking.specs.Places.{behind, is_digit, is_file_of, is_temporary_file, is_temporary_folder, is_inner, may_change, past_digits}
use Rattle.uimg_unpacking.specs.Staged.{has_paths, are_numbered}
use Rattle.uimg_unpacking.specs.declared.staged_file.StagedFile.{StagedFile}
use Rattle.uimg_unpacking.proofs.Placing.{cancel, differs, old_new_path}

-- the paths of a number, as facts
pub record HasPaths (made : List ℕ) (number : ℕ) (its : StagedFile) : Type 0 where
  pub small : number < 2 ^ 64
  pub new : string_bytes its.new ≡ made ++ codes "/new-" ++ decimal number
  pub old : string_bytes its.old ≡ made ++ codes "/old-" ++ decimal number

abbrev pub Numbered : List ℕ → ℕ → List StagedFile → Type 0
Numbered made number [] = ⊤
Numbered made number (its ∷ files) = HasPaths made number its × Numbered made (suc number) files

pub has_its_paths : (made : List ℕ) (number : ℕ) (its : StagedFile) → has_paths made number its ≡ true → HasPaths made number its
unfolding has_paths
has_its_paths made number its is =
    let h = and_parts _ _ is in
    let k = and_parts _ _ h.0 in
    record { small = ltb-true _ _ k.0; new = (bytes_eq-Decides _ _).0 k.1; old = (bytes_eq-Decides _ _).0 h.1 }

pub paths_told : (made : List ℕ) (number : ℕ) (its : StagedFile) → HasPaths made number its → has_paths made number its ≡ true
unfolding has_paths
paths_told made number its has = ap₂ (λ (a b : Bool). a && b) (ap₂ (λ (a b : Bool). a && b) (lt-ltb _ _ has.small) ((bytes_eq-Decides _ _).1 has.new)) ((bytes_eq-Decides _ _).1 has.old)

pub all_numbered : (made : List ℕ) (number : ℕ) (files : List StagedFile) → are_numbered made number files ≡ true → Numbered made number files
all_numbered made number [] is = tt
all_numbered made number (its ∷ files) is =
    let h = and_parts (has_paths made number its) (are_numbered made (suc number) files) is in
    (has_its_paths made number its h.0, all_numbered made (suc number) files h.1)

pub numbers_told : (made : List ℕ) (number : ℕ) (files : List StagedFile) → Numbered made number files → are_numbered made number files ≡ true
numbers_told made number [] has = refl
numbers_told made number (its ∷ files) has = ap₂ (λ (a b : Bool). a && b) (paths_told made number its has.0) (numbers_told made (suc number) files has.1)

-- equal paths, and other ones
same : (p : List ℕ) → bytes_eq p p ≡ true
same p = (bytes_eq-Decides p p).1 refl

pub never : (p q : List ℕ) → bytes_eq p q ≡ false → p ≡ q → ⊥
never p q other is = true≢false (sym ((bytes_eq-Decides p q).1 is) ∙ other)

pub flipped : (p q : List ℕ) → bytes_eq p q ≡ false → bytes_eq q p ≡ false
flipped p q other = differs q p (λ is. never p q other (sym is))

pub at_it : (p : List ℕ) (found : Option (Option (List ℕ))) (files : Files) → at p found files p ≡ found
at_it p found files = ap (λ (b : Bool). if b then found else files p) (same p)

pub at_other : (p q : List ℕ) (found : Option (Option (List ℕ))) (files : Files) → bytes_eq p q ≡ false → at p found files q ≡ files q
at_other p q found files other = ap (λ (b : Bool). if b then found else files q) other

-- calls at other paths
pub removes_other : (start : Files) (q p : List ℕ) (answer : Answer) (before : List Deed) → bytes_eq q p ≡ false → files_after start (Removes q answer ∷ before) p ≡ files_after start before p
removes_other start q p Done before other = at_other q p None (files_after start before) other
removes_other start q p Exists before other = refl
removes_other start q p Failed before other = refl

pub creates_other : (start : Files) (q p : List ℕ) (answer : Answer) (before : List Deed) → bytes_eq q p ≡ false → files_after start (Creates q answer ∷ before) p ≡ files_after start before p
creates_other start q p Done before other = at_other q p (Some None) (files_after start before) other
creates_other start q p Exists before other = refl
creates_other start q p Failed before other = refl

pub closes_other : (start : Files) (q p : List ℕ) (is_synced : Bool) (contents : Option (List ℕ)) (answer : Answer) (before : List Deed) → bytes_eq q p ≡ false → files_after start (Closes q is_synced contents answer ∷ before) p ≡ files_after start before p
closes_other start q p is_synced contents Done before other = at_other q p (Some contents) (files_after start before) other
closes_other start q p is_synced contents Exists before other = at_other q p (Some None) (files_after start before) other
closes_other start q p is_synced contents Failed before other = at_other q p (Some None) (files_after start before) other

pub closes_it : (p : List ℕ) (is_synced : Bool) (contents : Option (List ℕ)) (before : List Deed) → held (Closes p is_synced contents Done ∷ before) p ≡ contents
closes_it p is_synced contents before = ap bytes_in (at_it p (Some contents) (files_after (λ asked. Some None) before))

pub links_other : (start : Files) (from to p : List ℕ) (answer : Answer) (before : List Deed) → bytes_eq to p ≡ false → files_after start (Links from to answer ∷ before) p ≡ files_after start before p
links_other start from to p Done before other = at_other to p (files_after start before from) (files_after start before) other
links_other start from to p Exists before other = refl
links_other start from to p Failed before other = refl

pub renames_other : (start : Files) (from to p : List ℕ) (answer : Answer) (before : List Deed) → bytes_eq from p ≡ false → bytes_eq to p ≡ false → files_after start (Renames from to answer ∷ before) p ≡ files_after start before p
renames_other start from to p Done before a b =
    at_other to p (files_after start before from) (at from None (files_after start before)) b ∙ at_other from p None (files_after start before) a
renames_other start from to p Exists before a b = refl
renames_other start from to p Failed before a b = refl

pub makes_other : (start : Files) (q p : List ℕ) (answer : Answer) (before : List Deed) → bytes_eq q p ≡ false → files_after start (MakesFolder q answer ∷ before) p ≡ files_after start before p
makes_other start q p Done before other = at_other q p (Some None) (files_after start before) other
makes_other start q p Exists before other = refl
makes_other start q p Failed before other = refl

pub unmakes_other : (start : Files) (q p : List ℕ) (answer : Answer) (before : List Deed) → bytes_eq q p ≡ false → files_after start (RemovesFolder q answer ∷ before) p ≡ files_after start before p
unmakes_other start q p Done before other = at_other q p None (files_after start before) other
unmakes_other start q p Exists before other = refl
unmakes_other start q p Failed before other = refl

-- what is held, where what is there is the same for all files
pub as_held : (before after : List Deed) (p q : List ℕ) → ((start : Files) → files_after start after p ≡ files_after start before q) → held after p ≡ held before q
as_held before after p q is = ap bytes_in (is (λ asked. Some None))

-- what is at the start of a path
some : (b : Bool) (o : Option (List ℕ)) (rest : List ℕ) → (if b then o else None) ≡ Some rest → (b ≡ true) × (o ≡ Some rest)
some true o rest is = (refl, is)
some false o rest is = cc

same_number : (a b : ℕ) → (a == b) ≡ true → a ≡ b
same_number a b is = (unsigned_Decides a b).0 is

behind_is : (text path rest : List ℕ) → behind text path ≡ Some rest → path ≡ text ++ rest
behind_is [] path rest is = ap (λ (o : Option (List ℕ)). option_map_or (λ r. r) o []) is
behind_is (b ∷ text) [] rest is = cc
behind_is (b ∷ text) (c ∷ path) rest is =
    let h = some (b == c) (behind text path) rest is in
    ap₂ (λ (x : ℕ) (xs : List ℕ). x ∷ xs) (sym (same_number b c h.0)) (behind_is text path rest h.1)

-- an option that passes a test is something that does
passed : (f : List ℕ → Bool) (o : Option (List ℕ)) → option_map_or f o false ≡ true → (rest : List ℕ) × ((o ≡ Some rest) × (f rest ≡ true))
passed f None is = absurd (true≢false (sym is))
passed f (Some rest) is = (rest, (refl, is))

-- the name of a file of the folder
pub own_name : (folder p : List ℕ) → is_file_of folder p ≡ true → (name : List ℕ) × ((p ≡ folder ++ codes "/" ++ name) × (is_file_name name ≡ true))
unfolding is_file_of
own_name folder p own =
    let o = passed is_file_name (behind (folder ++ codes "/") p) own in
    (o.0, (behind_is (folder ++ codes "/") p o.0 o.1.0, o.1.1))

hidden : (rest : List ℕ) → is_file_name (codes ".uimg-new" ++ rest) ≡ false
hidden rest = refl

-- what is in a hidden folder, or is one, is none of the folder's files
hidden_other : (test : List ℕ → Bool) (folder q p : List ℕ) → option_map_or test (behind (folder ++ codes "/.uimg-new") q) false ≡ true → is_file_of folder p ≡ true → bytes_eq q p ≡ false
unfolding is_file_of
hidden_other test folder q p temporary own = differs q p (λ is.
    let t = passed test (behind (folder ++ codes "/.uimg-new") q) temporary in
    let o = passed is_file_name (behind (folder ++ codes "/") p) own in
    let a : q ≡ folder ++ codes "/.uimg-new" ++ t.0 = behind_is (folder ++ codes "/.uimg-new") q t.0 t.1.0 in
    let b : p ≡ folder ++ codes "/" ++ o.0 = behind_is (folder ++ codes "/") p o.0 o.1.0 in
    let e : folder ++ (codes "/" ++ o.0) ≡ folder ++ (codes "/" ++ (codes ".uimg-new" ++ t.0)) =
    sym (append_assoc folder (codes "/") o.0) ∙ sym b ∙ sym is ∙ a ∙ append_assoc folder (codes "/.uimg-new") t.0 in
    let n : o.0 ≡ codes ".uimg-new" ++ t.0 = cancel (codes "/") o.0 (codes ".uimg-new" ++ t.0) (cancel folder (codes "/" ++ o.0) (codes "/" ++ (codes ".uimg-new" ++ t.0)) e) in
    true≢false (sym (sym (ap is_file_name n) ∙ o.1.1) ∙ hidden t.0))

pub temporary_other : (folder q p : List ℕ) → is_temporary_file folder q ≡ true → is_file_of folder p ≡ true → bytes_eq q p ≡ false
unfolding is_temporary_file
temporary_other folder q p temporary own = hidden_other (λ rest. is_inner (past_digits rest)) folder q p temporary own

folder_other : (folder q p : List ℕ) → is_temporary_folder folder q ≡ true → is_file_of folder p ≡ true → bytes_eq q p ≡ false
unfolding is_temporary_folder
folder_other folder q p temporary own = hidden_other (list_all is_digit) folder q p temporary own

either_other : (a b : Bool) (q p : List ℕ) → (a ≡ true → bytes_eq q p ≡ false) → (b ≡ true → bytes_eq q p ≡ false) → (a || b || false) ≡ true → bytes_eq q p ≡ false
either_other true b q p f g is = f refl
either_other false true q p f g is = g refl
either_other false false q p f g is = cc

-- what may be changed before files get their names is none of the folder's files
pub early_other : (folder q p : List ℕ) → may_change folder false q ≡ true → is_file_of folder p ≡ true → bytes_eq q p ≡ false
unfolding may_change
early_other folder q p is own =
    either_other (is_temporary_folder folder q) (is_temporary_file folder q) q p (λ a. folder_other folder q p a own) (λ b. temporary_other folder q p b own) is

-- the paths of numbers
pub two_new : (made : List ℕ) (i j : ℕ) → i < 2 ^ 64 → j < 2 ^ 64 → (i ≡ j → ⊥) → made ++ codes "/new-" ++ decimal i ≡ made ++ codes "/new-" ++ decimal j → ⊥
two_new made i j a b other is = other (decimal_injective i j a b (cancel (made ++ codes "/new-") (decimal i) (decimal j) is))

pub two_old : (made : List ℕ) (i j : ℕ) → i < 2 ^ 64 → j < 2 ^ 64 → (i ≡ j → ⊥) → made ++ codes "/old-" ++ decimal i ≡ made ++ codes "/old-" ++ decimal j → ⊥
two_old made i j a b other is = other (decimal_injective i j a b (cancel (made ++ codes "/old-") (decimal i) (decimal j) is))

pub new_apart : (made : List ℕ) (i j : ℕ) (a b : StagedFile) → HasPaths made i a → HasPaths made j b → (i ≡ j → ⊥) → bytes_eq (string_bytes a.new) (string_bytes b.new) ≡ false
new_apart made i j a b p q other = differs (string_bytes a.new) (string_bytes b.new) (λ is. two_new made i j p.small q.small other (sym p.new ∙ is ∙ q.new))

pub old_apart : (made : List ℕ) (i j : ℕ) (a b : StagedFile) → HasPaths made i a → HasPaths made j b → bytes_eq (string_bytes a.old) (string_bytes b.new) ≡ false
old_apart made i j a b p q = differs (string_bytes a.old) (string_bytes b.new) (λ is. old_new_path made (decimal i) (decimal j) (sym p.old ∙ is ∙ q.new))

pub olds_apart : (made : List ℕ) (i j : ℕ) (a b : StagedFile) → HasPaths made i a → HasPaths made j b → (i ≡ j → ⊥) → bytes_eq (string_bytes a.old) (string_bytes b.old) ≡ false
olds_apart made i j a b p q other = differs (string_bytes a.old) (string_bytes b.old) (λ is. two_old made i j p.small q.small other (sym p.old ∙ is ∙ q.old))

-- what is true of each of some files
pub not_or : (a b : Bool) → not (a || b) ≡ true → (a ≡ false) × (not b ≡ true)
not_or true b is = absurd (true≢false (sym is))
not_or false b is = (refl, is)
