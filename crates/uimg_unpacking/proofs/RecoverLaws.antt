-- What names that are taken back restore, and what files with names hold.
use Rattle.std.proofs.Common.{◌≡◌, ℕ, zero, suc, ◌<◌, List, [], ◌∷◌, ◌++◌, length, codes, decimal, string_bytes, bytes_eq, is_some, Bool, true, false, not, if◌then◌else◌, Option, Some, None, refl, ap, ap₂, sym, subst, ◌∙◌, arith}
use Rattle.std.specs.Bool.{⊤}
use Rattle.std.specs.List.{list_all}
use Rattle.std.proofs.lemmas.Bool.{and_parts}
use Rattle.uimg_unpacking.specs.Contents.{Files, IsTrueTo, files_after, held, held_in, is_in, differ}
use Rattle.uimg_world.specs.Deeds.{Deed}
use Rattle.uimg_unpacking.specs.FileNames.{is_file_name}
use Rattle.uimg_unpacking.specs.Leaving.{Leaves, KeepsNone}
use Rattle.uimg_unpacking.specs.Naming.{recovered, NamesIt, PutsItBack, NamesFiles, PutsBackFiles}
use Rattle.uimg_unpacking.specs.Places.{is_begun_in, is_file_of}
use Rattle.uimg_unpacking.specs.Staged.{LeavesOthers, held_new, names_of}
use Rattle.uimg_unpacking.specs.declared.staged_file.StagedFile.{StagedFile}
use Rattle.uimg_unpacking.proofs.ContentLaws.{HasPaths, Numbered, as_held, flipped, never, new_apart, not_or, old_apart, olds_apart, temporary_other}
use Rattle.uimg_unpacking.proofs.Placing.{begun_named, begun_new, begun_old, begun_path, begun_whole, cancel, differs, own_in}
use Rattle.uimg_unpacking.proofs.LeavingLaws.{by_path}

-- no path of these files is this one
abbrev Away : List ℕ → List StagedFile → Type 0
Away p [] = ⊤
Away p (its ∷ files) =
    ((bytes_eq (string_bytes its.new) p ≡ false) × ((bytes_eq (string_bytes its.old) p ≡ false) × (bytes_eq (string_bytes its.whole) p ≡ false))) × Away p files

names_earlier : (files : List StagedFile) (named : ℕ) (all : Bool) (s t : List Deed) → NamesFiles files named all s t → (start : Files) → IsTrueTo start t → IsTrueTo start s
names_earlier [] named all s t names start told = subst (IsTrueTo start) names.1.1 told
names_earlier (its ∷ files) zero all s t names start told = names.1.earlier start told
names_earlier (its ∷ files) (suc named) all s t names start told = names.1.0.earlier start (names_earlier files named all names.0 t names.1.1 start told)

names_rest : (files : List StagedFile) (named : ℕ) (all : Bool) (s t : List Deed) → NamesFiles files named all s t → (start : Files) (p : List ℕ) → Away p files → files_after start t p ≡ files_after start s p
names_rest [] named all s t names start p away = ap (λ (l : List Deed). files_after start l p) names.1.1
names_rest (its ∷ files) zero all s t names start p away = names.1.rest start p away.0.0 away.0.1.0 away.0.1.1
names_rest (its ∷ files) (suc named) all s t names start p away =
    names_rest files named all names.0 t names.1.1 start p away.1 ∙ names.1.0.rest start p away.0.0 away.0.1.0 away.0.1.1

puts_earlier : (files : List StagedFile) (named : ℕ) (back : Bool) (s t : List Deed) → PutsBackFiles files named back s t → (start : Files) → IsTrueTo start t → IsTrueTo start s
puts_earlier [] named back s t puts start told = subst (IsTrueTo start) puts.1 told
puts_earlier (its ∷ files) zero back s t puts start told = puts.earlier start told
puts_earlier (its ∷ files) (suc named) back s t puts start told = puts.1.1.1.1.0.earlier start (puts_earlier files named puts.1.0 puts.1.1.0 t puts.1.1.1.1.1 start told)

puts_rest : (files : List StagedFile) (named : ℕ) (back : Bool) (s t : List Deed) → PutsBackFiles files named back s t → (start : Files) (p : List ℕ) → Away p files → files_after start t p ≡ files_after start s p
puts_rest [] named back s t puts start p away = ap (λ (l : List Deed). files_after start l p) puts.1
puts_rest (its ∷ files) zero back s t puts start p away = puts.rest start p away.0.1.0 away.0.1.1
puts_rest (its ∷ files) (suc named) back s t puts start p away =
    puts_rest files named puts.1.0 puts.1.1.0 t puts.1.1.1.1.1 start p away.1 ∙ puts.1.1.1.1.0.rest start p away.0.1.0 away.0.1.1

-- another name of the folder
pub other_name : (folder : List ℕ) (its : StagedFile) (name : List ℕ) → is_begun_in folder its ≡ true → bytes_eq name (string_bytes its.name) ≡ false → bytes_eq (string_bytes its.whole) (folder ++ codes "/" ++ name) ≡ false
other_name folder its name begun other =
    differs (string_bytes its.whole) (folder ++ codes "/" ++ name) (λ e. never name (string_bytes its.name) other (sym (cancel (folder ++ codes "/") (string_bytes its.name) name (sym (begun_path folder its begun) ∙ e))))

away_name : (folder : List ℕ) (files : List StagedFile) (name : List ℕ) → list_all (is_begun_in folder) files ≡ true → is_file_name name ≡ true → not (is_in name (names_of files)) ≡ true → Away (folder ++ codes "/" ++ name) files
away_name folder [] name all is other = tt
away_name folder (its ∷ files) name all is other =
    let h = and_parts (is_begun_in folder its) (list_all (is_begun_in folder) files) all in
    let o = not_or (bytes_eq name (string_bytes its.name)) (is_in name (names_of files)) other in
    let p = folder ++ codes "/" ++ name in
    let own : is_file_of folder p ≡ true = own_in folder name is in
    ((temporary_other folder (string_bytes its.new) p (begun_new folder its h.0) own, (temporary_other folder (string_bytes its.old) p (begun_old folder its h.0) own, other_name folder its name h.0 o.0)), away_name folder files name h.1 is o.1)

away_whole : (folder : List ℕ) (its : StagedFile) (files : List StagedFile) → is_begun_in folder its ≡ true → list_all (is_begun_in folder) files ≡ true → differ (names_of (its ∷ files)) ≡ true → Away (string_bytes its.whole) files
away_whole folder its files begun all unlike =
    let d = and_parts (not (is_in (string_bytes its.name) (names_of files))) (differ (names_of files)) unlike in
    subst (λ (p : List ℕ). Away p files) (sym (begun_path folder its begun)) (away_name folder files (string_bytes its.name) all (begun_named folder its begun) d.0)

-- the paths of a file differ from the temporary ones of later files
abbrev OldsApart : StagedFile → List StagedFile → Type 0
OldsApart its [] = ⊤
OldsApart its (next ∷ files) =
    ((bytes_eq (string_bytes its.new) (string_bytes next.old) ≡ false) × ((bytes_eq (string_bytes its.old) (string_bytes next.old) ≡ false) × (bytes_eq (string_bytes its.whole) (string_bytes next.old) ≡ false))) × OldsApart its files

olds_away : (folder made : List ℕ) (n m : ℕ) (its : StagedFile) (files : List StagedFile) → n < m → is_begun_in folder its ≡ true → list_all (is_begun_in folder) files ≡ true → HasPaths made n its → Numbered made m files → OldsApart its files
olds_away folder made n m its [] less begun all paths numbered = tt
olds_away folder made n m its (next ∷ files) less begun all paths numbered =
    let h = and_parts (is_begun_in folder next) (list_all (is_begun_in folder) files) all in
    let next_old = string_bytes next.old in (
      (
        flipped next_old (string_bytes its.new) (old_apart made m n next its numbered.0 paths),
        (
          olds_apart made n m its next paths numbered.0 (λ e. omega (arith, e, less)),
          flipped next_old (string_bytes its.whole) (temporary_other folder next_old (string_bytes its.whole) (begun_old folder next h.0) (begun_whole folder its begun)),
        ),
      ),
      olds_away folder made n (suc m) its files (omega (arith, less)) begun h.1 paths numbered.1,
    )

away_old : (folder made : List ℕ) (n m : ℕ) (its : StagedFile) (files : List StagedFile) → n < m → is_begun_in folder its ≡ true → list_all (is_begun_in folder) files ≡ true → HasPaths made n its → Numbered made m files → Away (string_bytes its.old) files
away_old folder made n m its [] less begun all paths numbered = tt
away_old folder made n m its (next ∷ files) less begun all paths numbered =
    let h = and_parts (is_begun_in folder next) (list_all (is_begun_in folder) files) all in
    let old = string_bytes its.old in (
      (
        flipped old (string_bytes next.new) (old_apart made n m its next paths numbered.0),
        (
          olds_apart made m n next its numbered.0 paths (λ e. omega (arith, e, less)),
          flipped old (string_bytes next.whole) (temporary_other folder old (string_bytes next.whole) (begun_old folder its begun) (begun_whole folder next h.0)),
        ),
      ),
      away_old folder made n (suc m) its files (omega (arith, less)) begun h.1 paths numbered.1,
    )

-- what later files hold in the temporary folder, after one got its name
held_rest : (folder made : List ℕ) (n m : ℕ) (its : StagedFile) (files : List StagedFile) (is_named : Bool) (before after : List Deed) → n < m → is_begun_in folder its ≡ true → list_all (is_begun_in folder) files ≡ true → HasPaths made n its → Numbered made m files
    → NamesIt its is_named before after → held_new after files ≡ held_new before files
held_rest folder made n m its [] b before after less begun all paths numbered step = refl
held_rest folder made n m its (next ∷ files) b before after less begun all paths numbered step =
    let h = and_parts (is_begun_in folder next) (list_all (is_begun_in folder) files) all in
    let new = string_bytes next.new in
    ap₂ (λ (x : Option (List ℕ)) (xs : List (Option (List ℕ))). x ∷ xs)
    (as_held before after new new (λ start. step.rest start new (new_apart made n m its next paths numbered.0 (λ e. omega (arith, e, less))) (old_apart made n m its next paths numbered.0)
    (flipped new (string_bytes its.whole) (temporary_other folder new (string_bytes its.whole) (begun_new folder next h.0) (begun_whole folder its begun)))))
    (held_rest folder made n (suc m) its files b before after (omega (arith, less)) begun h.1 paths numbered.1 step)

-- files that got their names hold there what they held before
pub named_all : (folder made : List ℕ) (n : ℕ) (files : List StagedFile) (before after : List Deed) → list_all (is_begun_in folder) files ≡ true → Numbered made n files → differ (names_of files) ≡ true → NamesFiles files (length files) true before after
    → held_in folder after (names_of files) ≡ held_new before files
named_all folder made n [] before after all numbered unlike names = refl
named_all folder made n (its ∷ files) before after all numbered unlike names =
    let h = and_parts (is_begun_in folder its) (list_all (is_begun_in folder) files) all in
    let d = and_parts (not (is_in (string_bytes its.name) (names_of files))) (differ (names_of files)) unlike in
    let whole = string_bytes its.whole in
    ap₂ (λ (x : Option (List ℕ)) (xs : List (Option (List ℕ))). x ∷ xs)
    (ap (held after) (sym (begun_path folder its h.0))
    ∙ as_held before after whole (string_bytes its.new) (λ start. names_rest files (length files) true names.0 after names.1.1 start whole (away_whole folder its files h.0 h.1 unlike) ∙ names.1.0.there refl start))
    (named_all folder made (suc n) files names.0 after h.1 numbered.1 d.1 names.1.1
    ∙ held_rest folder made n (suc n) its files true before names.0 (omega arith) h.0 h.1 numbered.0 numbered.1 names.1.0)

-- files of other names are left
pub named_others : (folder : List ℕ) (files : List StagedFile) (named : ℕ) (are_all : Bool) (before after : List Deed) → list_all (is_begun_in folder) files ≡ true → NamesFiles files named are_all before after → LeavesOthers folder (names_of files) before after
named_others folder files named all before after begun names start name is other =
    names_rest files named all before after names start (folder ++ codes "/" ++ name) (away_name folder files name begun is (ap not other))

-- nothing is kept for any of these files
abbrev NoneKept : Files → List StagedFile → Type 0
NoneKept files [] = ⊤
NoneKept files (its ∷ more) = (files (string_bytes its.old) ≡ None) × NoneKept files more

none_kept : (made : List ℕ) (n : ℕ) (files : List StagedFile) (at-them : Files) → Numbered made n files → ((number : ℕ) → at-them (made ++ codes "/old-" ++ decimal number) ≡ None) → NoneKept at-them files
none_kept made n [] x numbered none = tt
none_kept made n (its ∷ files) x numbered none = (ap x numbered.0.old ∙ none n, none_kept made (suc n) files x numbered.1 none)

none_after : (its : StagedFile) (files : List StagedFile) (is_named : Bool) (before after : List Deed) (start : Files) → NamesIt its is_named before after → OldsApart its files → NoneKept (files_after start before) files → NoneKept (files_after start after) files
none_after its [] b before after start step away none = tt
none_after its (next ∷ files) b before after start step away none =
    (step.rest start (string_bytes next.old) away.0.0 away.0.1.0 away.0.1.1 ∙ none.0, none_after its files b before after start step away.1 none.1)

-- what a path gets back if names are taken back
abbrev recovered_at : Files → List StagedFile → ℕ → List ℕ → Option (Option (List ℕ))
recovered_at x [] named p = x p
recovered_at x (its ∷ files) zero p = if bytes_eq (string_bytes its.whole) p then recovered false x (string_bytes its.old) p else x p
recovered_at x (its ∷ files) (suc named) p = if bytes_eq (string_bytes its.whole) p then recovered true x (string_bytes its.old) p else recovered_at x files named p

names_recover : (folder made : List ℕ) (n : ℕ) (files : List StagedFile) (named : ℕ) (all : Bool) (s t : List Deed) → list_all (is_begun_in folder) files ≡ true → Numbered made n files → NamesFiles files named all s t
    → (start : Files) → IsTrueTo start t → NoneKept (files_after start s) files → (p : List ℕ) → is_file_of folder p ≡ true → recovered_at (files_after start t) files named p ≡ files_after start s p
names_recover folder made n [] named all s t begun numbered names start told none p own = ap (λ (l : List Deed). files_after start l p) names.1.1
names_recover folder made n (its ∷ files) zero all s t begun numbered names start told none p own =
    let h = and_parts (is_begun_in folder its) (list_all (is_begun_in folder) files) begun in
    let old = string_bytes its.old in
    let x = files_after start t in
    by_path (string_bytes its.whole) p (recovered false x old p) (x p) (files_after start s p)
    (λ same. subst (λ (w : List ℕ). recovered false x old w ≡ files_after start s w) same (names.1.kept start told none.0))
    (λ other. names.1.rest start p (temporary_other folder (string_bytes its.new) p (begun_new folder its h.0) own) (temporary_other folder old p (begun_old folder its h.0) own) other)
names_recover folder made n (its ∷ files) (suc named) all s t begun numbered names start told none p own =
    let h = and_parts (is_begun_in folder its) (list_all (is_begun_in folder) files) begun in
    let old = string_bytes its.old in
    let x = files_after start t in
    let seen = names.0 in
    let one = names.1.0 in
    let true_to : IsTrueTo start seen = names_earlier files named all seen t names.1.1 start told in
    by_path (string_bytes its.whole) p (x old) (recovered_at x files named p) (files_after start s p)
    (λ same.
    names_rest files named all seen t names.1.1 start old (away_old folder made n (suc n) its files (omega arith) h.0 h.1 numbered.0 numbered.1)
    ∙ one.kept start true_to none.0 ∙ ap (files_after start s) same)
    (λ other.
    names_recover folder made (suc n) files named all seen t h.1 numbered.1 names.1.1 start told
    (none_after its files true s seen start one (olds_away folder made n (suc n) its files (omega arith) h.0 h.1 numbered.0 numbered.1) none.1) p own
    ∙ one.rest start p (temporary_other folder (string_bytes its.new) p (begun_new folder its h.0) own) (temporary_other folder old p (begun_old folder its h.0) own) other)

-- the same is at two times where old files are kept
abbrev SameOlds : Files → Files → List StagedFile → Type 0
SameOlds x y [] = ⊤
SameOlds x y (its ∷ files) = (x (string_bytes its.old) ≡ y (string_bytes its.old)) × SameOlds x y files

same_olds : (its : StagedFile) (files : List StagedFile) (has_name back : Bool) (before after : List Deed) (start : Files) → PutsItBack its has_name back before after → OldsApart its files → SameOlds (files_after start after) (files_after start before) files
same_olds its [] h b before after start step away = tt
same_olds its (next ∷ files) h b before after start step away =
    (step.rest start (string_bytes next.old) away.0.1.0 away.0.1.1, same_olds its files h b before after start step away.1)

recover_same : (x y : Files) (files : List StagedFile) (named : ℕ) (p : List ℕ) → SameOlds x y files → x p ≡ y p → recovered_at x files named p ≡ recovered_at y files named p
recover_same x y [] named p olds is = is
recover_same x y (its ∷ files) zero p olds is =
    ap₂ (λ (o q : Option (Option (List ℕ))). if bytes_eq (string_bytes its.whole) p then (if is_some o then o else q) else q) olds.0 is
recover_same x y (its ∷ files) (suc named) p olds is =
    ap₂ (λ (o q : Option (Option (List ℕ))). if bytes_eq (string_bytes its.whole) p then o else q) olds.0 (recover_same x y files named p olds.1 is)

puts_recover : (folder made : List ℕ) (n : ℕ) (files : List StagedFile) (named : ℕ) (back : Bool) (s t : List Deed) → list_all (is_begun_in folder) files ≡ true → Numbered made n files → differ (names_of files) ≡ true → PutsBackFiles files named back s t → back ≡ true
    → (start : Files) → IsTrueTo start t → (p : List ℕ) → is_file_of folder p ≡ true → recovered_at (files_after start s) files named p ≡ files_after start t p
puts_recover folder made n [] named back s t begun numbered unlike puts is start told p own = sym (ap (λ (l : List Deed). files_after start l p) puts.1)
puts_recover folder made n (its ∷ files) zero back s t begun numbered unlike puts is start told p own =
    let h = and_parts (is_begun_in folder its) (list_all (is_begun_in folder) files) begun in
    let old = string_bytes its.old in
    let x = files_after start s in
    by_path (string_bytes its.whole) p (recovered false x old p) (x p) (files_after start t p)
    (λ same. subst (λ (w : List ℕ). recovered false x old w ≡ files_after start t w) same (sym (puts.back is start told)))
    (λ other. sym (puts.rest start p (temporary_other folder old p (begun_old folder its h.0) own) other))
puts_recover folder made n (its ∷ files) (suc named) back s t begun numbered unlike puts is start told p own =
    let h = and_parts (is_begun_in folder its) (list_all (is_begun_in folder) files) begun in
    let d = and_parts (not (is_in (string_bytes its.name) (names_of files))) (differ (names_of files)) unlike in
    let old = string_bytes its.old in
    let x = files_after start s in
    let one_back = puts.0 in
    let others = puts.1.0 in
    let seen = puts.1.1.0 in
    let one = puts.1.1.1.1.0 in
    let rest = puts.1.1.1.1.1 in
    let done = and_parts one_back others (sym puts.1.1.1.0 ∙ is) in
    let true_to : IsTrueTo start seen = puts_earlier files named others seen t rest start told in
    by_path (string_bytes its.whole) p (x old) (recovered_at x files named p) (files_after start t p)
    (λ same.
    sym (one.back done.0 start true_to) ∙ sym (puts_rest files named others seen t rest start (string_bytes its.whole) (away_whole folder its files h.0 h.1 unlike)) ∙ ap (files_after start t) same)
    (λ other.
    sym (recover_same (files_after start seen) x files named p (same_olds its files true one_back s seen start one (olds_away folder made n (suc n) its files (omega arith) h.0 h.1 numbered.0 numbered.1))
    (one.rest start p (temporary_other folder old p (begun_old folder its h.0) own) other))
    ∙ puts_recover folder made (suc n) files named others seen t h.1 numbered.1 d.1 rest done.1 start told p own)

-- Names that are taken back leave the files of the folder as they were.
pub taken_back : (folder made : List ℕ) (files : List StagedFile) (named : ℕ) (all : Bool) (s t u v : List Deed) → list_all (is_begun_in folder) files ≡ true → Numbered made 0 files → differ (names_of files) ≡ true → KeepsNone (Some made) s
    → NamesFiles files named all s t → ((start : Files) → files_after start u ≡ files_after start t) → ((start : Files) → IsTrueTo start u → IsTrueTo start t) → PutsBackFiles files named true u v → Leaves folder s v
taken_back folder made files named all s t u v begun numbered unlike none names same told puts start true_to p own =
    let late : IsTrueTo start u = puts_earlier files named true u v puts start true_to in
    let mid : IsTrueTo start t = told start late in
    let first : IsTrueTo start s = names_earlier files named all s t names start mid in
    sym (puts_recover folder made 0 files named true u v begun numbered unlike puts refl start true_to p own)
    ∙ ap (λ (x : Files). recovered_at x files named p) (same start)
    ∙ names_recover folder made 0 files named all s t begun numbered names start mid (none_kept made 0 files (files_after start s) numbered (none start first made refl)) p own
