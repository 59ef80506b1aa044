-- How files get their names one after another, and lose them.
use Rattle.std.proofs.Common.{◌≡◌, ℕ, zero, suc, ◌+◌, ◌<◌, length, slice_index_or, drop-cons, List, [], ◌∷◌, Bool, true, false, ◌&&◌, nat_lt, refl, sym, ap₂, subst, drop, ◌∙◌, arith}
use Rattle.std.proofs.lemmas.Bool.{lt-ltb, le-ltb, ltb-true, ltb-false}
use Rattle.uimg_world.specs.Deeds.{Deed}
use Rattle.uimg_unpacking.specs.Naming.{NamesIt, NamesFiles, PutsItBack, PutsBackFiles, UnlessLater}
use Rattle.uimg_unpacking.specs.declared.staged_file.StagedFile.{StagedFile}

-- what is left to take back of the files from a number on
abbrev pub LeftBack : List StagedFile → ℕ → ℕ → Bool → List Deed → List Deed → Type 0
LeftBack files zero named back before after = PutsBackFiles files named back before after
LeftBack files (suc number) zero back before after = (back ≡ true) × (after ≡ before)
LeftBack files (suc number) (suc named) back before after = LeftBack files number named back before after

pub none_left : (number named : ℕ) (t : List Deed) → LeftBack [] number named true t t
none_left zero named t = (refl, refl)
none_left (suc number) zero t = (refl, refl)
none_left (suc number) (suc named) t = none_left number named t

lt_suc : (a b : ℕ) → nat_lt (suc a) (suc b) ≡ nat_lt a b
lt_suc a b = by_case (nat_lt a b) refl
  where
    by_case : (t : Bool) → nat_lt a b ≡ t → nat_lt (suc a) (suc b) ≡ t
    by_case true is = lt-ltb _ _ (omega (arith, ltb-true a b is))
    by_case false is = le-ltb _ _ (omega (arith, ltb-false a b is))

zero_lt : (a : ℕ) → nat_lt 0 (suc a) ≡ true
zero_lt a = lt-ltb _ _ (omega arith)

not_lt_zero : (a : ℕ) → nat_lt a 0 ≡ false
not_lt_zero a = le-ltb _ _ (omega arith)

with_done : (one back : Bool) → back ≡ true → (one && back) ≡ one
with_done true back is = is
with_done false back is = refl

pub one_back : (its : StagedFile) (files : List StagedFile) (number named : ℕ) (one back : Bool) (s m t : List Deed)
    → UnlessLater (nat_lt named number) its (nat_lt number named) one s m → LeftBack files (suc number) named back m t
    → LeftBack (its ∷ files) number named (one && back) s t
one_back its files zero zero one back s m t p q =
    subst (λ (u : List Deed). PutsItBack its false (one && back) s u) (sym q.1)
    (subst (λ (b : Bool). PutsItBack its false b s m) (sym (with_done one back q.0)) p)
one_back its files zero (suc named) one back s m t p q =
    (one, (back, (m, (refl, (rw (not_lt_zero (suc named), zero_lt named) at p, q)))))
one_back its files (suc number) zero one back s m t p q =
    let done = rw (zero_lt number) at p in
    (ap₂ (λ (a b : Bool). a && b) done.0 q.0, q.1 ∙ done.1)
one_back its files (suc number) (suc named) one back s m t p q =
    one_back its files number named one back s m t (rw (lt_suc named number, lt_suc number named) at p) q

-- the first of the files from a number on
pub first_of : {X : Type 0} (xs : List X) (i : ℕ) (d : X) → i < length xs → drop i xs ≡ slice_index_or xs i d ∷ drop (i + 1) xs
first_of xs i d inside =
    let e : suc i ≡ i + 1 = omega arith in
    subst (λ (n : ℕ). drop i xs ≡ slice_index_or xs i d ∷ drop n xs) e (drop-cons xs i d inside)

-- what one more named file adds
pub one_named : (files : List StagedFile) (i : ℕ) (its : StagedFile) (named : ℕ) (are_all : Bool) (s m t : List Deed)
    → drop i files ≡ its ∷ drop (i + 1) files → NamesIt its true s m
    → NamesFiles (drop (i + 1) files) named are_all m t → NamesFiles (drop i files) (suc named) are_all s t
one_named files i its named are_all s m t is p q =
    subst (λ (fs : List StagedFile). NamesFiles fs (suc named) are_all s t) (sym is) (m, (p, q))

pub not_named_next : (files : List StagedFile) (i : ℕ) (its : StagedFile) (s t : List Deed)
    → drop i files ≡ its ∷ drop (i + 1) files → NamesIt its false s t → NamesFiles (drop i files) 0 false s t
not_named_next files i its s t is p =
    subst (λ (fs : List StagedFile). NamesFiles fs 0 false s t) (sym is) (refl, p)

-- what taking back one more file adds
pub back_of : (files : List StagedFile) (i named : ℕ) (its : StagedFile) (one back : Bool) (s m t : List Deed)
    → drop i files ≡ its ∷ drop (i + 1) files → UnlessLater (nat_lt named i) its (nat_lt i named) one s m
    → LeftBack (drop (i + 1) files) (i + 1) named back m t → LeftBack (drop i files) i named (one && back) s t
back_of files i named its one back s m t is p q =
    let e : i + 1 ≡ suc i = omega arith in
    subst (λ (fs : List StagedFile). LeftBack fs i named (one && back) s t) (sym is)
    (one_back its (drop (i + 1) files) i named one back s m t p (subst (λ (n : ℕ). LeftBack (drop (i + 1) files) n named back m t) e q))

pub and_assoc : (a b c : Bool) → ((a && b) && c) ≡ (a && (b && c))
and_assoc true b c = refl
and_assoc false b c = refl

pub and_true : (a : Bool) → (a && true) ≡ a
and_true true = refl
and_true false = refl
