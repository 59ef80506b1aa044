-- Pieces that are written in two steps are written in one.
use Rattle.std.proofs.Common.{◌≡◌, ◌≤◌, ◌<◌, ◌+◌, ℕ, zero, suc, List, [], ◌∷◌, ◌++◌, length, map, take, drop, get_or, Option, Result, Ok, Err, Bool, true, false, IsTrue, is_err, refl, ap, sym, subst, ◌∙◌, append_assoc, append-nil, arith}
use Rattle.std.{specs.{Bool.OnFalse, List.{flat_map, AllByRecursion}}, proofs.lemmas.List.take_all}
use Rattle.std.specs.Result.{IsErrAnd, OnOk}
use Rattle.uimg_base.specs.{Device.RisesIf, Sink.Sink, Named.{FileMap, SameFiles}}
use Rattle.uimg_base.{specs.Writing.{Writes, Written}, proofs.SinkLaws.{Appends-none, prefix_first, prefix_none}}
use Rattle.uimg_base.proofs.WritingLaws.{written_then}
use Rattle.uimg_blob_writing.specs.declared.fault.TreeFault.{TreeFault, TheVariants.Put}
use Rattle.uimg_blob_writing.specs.Content.{Content, bytes, content_bytes, file_of, IsKept, IsBytes}
use Rattle.uimg_blob_writing.specs.{Faults.{is_put, is_no_file, is_read}, Pieces.WritesPieces}
use Rattle.uimg_blob_writing.specs.UsingFiles.{OpensEach}
use Rattle.uimg_blob_writing.proofs.OpenedLaws.{each_none, each_then, each_stops}

-- the answer of a call that writes
abbrev pub Answer : Type 0
Answer = Result (Unit {0}) TreeFault

-- it ended well, or with a fault
abbrev pub went_well : Answer
went_well = Ok tt

abbrev pub failed : TreeFault → Answer
failed fault = Err fault

-- facts on all of two lists
pub all-first : {X : Type 0} (P : X → Type 0) (xs ys : List X) → AllByRecursion P (xs ++ ys) → AllByRecursion P xs
all-first P [] ys h = tt
all-first P (x ∷ xs) ys h = (h.0, all-first P xs ys h.1)

pub all-second : {X : Type 0} (P : X → Type 0) (xs ys : List X) → AllByRecursion P (xs ++ ys) → AllByRecursion P ys
all-second P [] ys h = h
all-second P (x ∷ xs) ys h = all-second P xs ys h.1

pub all-both : {X : Type 0} (P : X → Type 0) (xs ys : List X) → AllByRecursion P xs → AllByRecursion P ys → AllByRecursion P (xs ++ ys)
all-both P [] ys h k = k
all-both P (x ∷ xs) ys h k = (h.0, all-both P xs ys h.1 k)

-- the elements of two lists
pub flat_map-both : {X Y : Type 0} (f : X → List Y) (xs ys : List X) → flat_map f (xs ++ ys) ≡ flat_map f xs ++ flat_map f ys
flat_map-both f [] ys = refl
flat_map-both {Y = Y} f (x ∷ xs) ys = ap (λ (w : List Y). f x ++ w) (flat_map-both f xs ys) ∙ sym (append_assoc (f x) (flat_map f xs) (flat_map f ys))

same-files : (a b c : FileMap) → SameFiles a b → SameFiles b c → SameFiles a c
same-files a b c p q = record { bytes = q.bytes ∙ p.bytes; honest = q.honest ∙ p.honest; complete = q.complete ∙ p.complete }

-- a counter that stood, and then rose or stood
pub rises-then : (e : Bool) (a b c : ℕ) → b ≡ a → RisesIf e b c → RisesIf e a c
rises-then e a b c p q = subst (λ (n : ℕ). RisesIf e n c) p q

module _ (steady : Bool) (r : Answer) (m n k : FileMap) (s t u : Sink) (xs ys : List Content) where
  -- the first pieces, and then the others
  pub goes : WritesPieces steady went_well m n s t xs → WritesPieces steady r n k t u ys → WritesPieces steady r m k s u (xs ++ ys)
  goes p q =
      let same = p.files.same in
      record {
        files = record { same = same-files m n k same q.files.same; refusals = rises-then (is_no_file r) m.refusals n.refusals k.refusals p.files.refusals q.files.refusals };
        opened =
            subst (λ (l : List (List ℕ)). OpensEach (is_err r) l m k) (sym (flat_map-both file_of xs ys))
            (each_then (is_err r) (flat_map file_of xs) (flat_map file_of ys) m n k p.opened q.opened);
        faults = rises-then (is_put r) s.faults t.faults u.faults p.faults q.faults;
        found = λ complete kept.
            let later = subst (λ (f : List ℕ → Option (List ℕ)). AllByRecursion (IsKept f) ys) (sym same.bytes) (all-second (IsKept m.bytes) xs ys kept) in
            q.found (subst IsTrue (sym same.complete) complete) later;
        reads = λ always honest kept.
            let later = subst (λ (f : List ℕ → Option (List ℕ)). AllByRecursion (IsKept f) ys) (sym same.bytes) (all-second (IsKept m.bytes) xs ys kept) in
            q.reads always (subst IsTrue (sym same.honest) honest) later;
        in_memory = λ embedded. q.in_memory (all-second IsBytes xs ys embedded);
        kept = λ honest.
            let later = subst (λ (f : List ℕ → Option (List ℕ)). OnFalse (is_err r) (AllByRecursion (IsKept f) ys)) same.bytes (q.kept (subst IsTrue (sym same.honest) honest)) in
            kept-both (is_err r) (p.kept honest) later;
        written = λ honest.
            let later = subst (λ (f : List ℕ → Option (List ℕ)). Written (is_err r) t u (flat_map (content_bytes f) ys)) same.bytes (q.written (subst IsTrue (sym same.honest) honest)) in
            subst (λ (w : List ℕ). Written (is_err r) s u w) (sym (flat_map-both (content_bytes m.bytes) xs ys))
            (written_then (is_err r) s t u (flat_map (content_bytes m.bytes) xs) (flat_map (content_bytes m.bytes) ys) (p.written honest).all later);
      }
    where
      kept-both : (e : Bool) → AllByRecursion (IsKept m.bytes) xs → OnFalse e (AllByRecursion (IsKept m.bytes) ys) → OnFalse e (AllByRecursion (IsKept m.bytes) (xs ++ ys))
      kept-both true h k = k
      kept-both false h k = all-both (IsKept m.bytes) xs ys h k

-- a refusal in the first pieces
pub stops : (steady : Bool) (f : TreeFault) (m n : FileMap) (s t : Sink) (xs ys : List Content) → WritesPieces steady (failed f) m n s t xs → WritesPieces steady (failed f) m n s t (xs ++ ys)
stops steady f m n s t xs ys p = record {
  files = p.files;
  opened =
      subst (λ (l : List (List ℕ)). OpensEach true l m n) (sym (flat_map-both file_of xs ys))
      (each_stops (flat_map file_of xs) (flat_map file_of ys) m n p.opened);
  faults = p.faults;
  found = λ complete kept. p.found complete (all-first (IsKept m.bytes) xs ys kept);
  reads = λ always honest kept. p.reads always honest (all-first (IsKept m.bytes) xs ys kept);
  in_memory = λ embedded. p.in_memory (all-first IsBytes xs ys embedded);
  kept = λ honest. p.kept honest;
  written = λ honest. subst (λ (w : List ℕ). Written true s t w) (sym (flat_map-both (content_bytes m.bytes) xs ys)) (record {
    all = (p.written honest).all;
    prefix = prefix_first s t (flat_map (content_bytes m.bytes) xs) (flat_map (content_bytes m.bytes) ys) (p.written honest).prefix;
  });
}

-- no piece is written yet
pub none-yet : (steady : Bool) (m : FileMap) (s : Sink) → WritesPieces steady went_well m m s s []
none-yet steady m s = record {
  files = record { same = record { bytes = refl; honest = refl; complete = refl }; refusals = refl };
  opened = each_none false m;
  faults = refl;
  found = λ complete kept. refl;
  reads = λ always honest kept. refl;
  in_memory = λ embedded. refl;
  kept = λ honest. tt;
  written = λ honest. record { all = record { appended = Appends-none s.contents }; prefix = prefix_none s [] };
}

-- bytes that are put are a piece
pub puts-all : (steady : Bool) (m : FileMap) (s t : Sink) (b : List ℕ) → Writes false s t b → WritesPieces steady went_well m m s t (bytes b ∷ [])
puts-all steady m s t b p = record {
  opened = each_none false m;
  files = record { same = record { bytes = refl; honest = refl; complete = refl }; refusals = refl };
  faults = p.faults;
  found = λ complete kept. refl;
  reads = λ always honest kept. refl;
  in_memory = λ embedded. refl;
  kept = λ honest. (tt, tt);
  written = λ honest. subst (λ (w : List ℕ). Written false s t w) (sym (append-nil b)) (record { all = p.all; prefix = p.prefix });
}

pub puts-prefix : (steady : Bool) (m : FileMap) (s t : Sink) (b : List ℕ) → Writes true s t b → WritesPieces steady (failed Put) m m s t (bytes b ∷ [])
puts-prefix steady m s t b p = record {
  opened = each_none true m;
  files = record { same = record { bytes = refl; honest = refl; complete = refl }; refusals = refl };
  faults = p.faults;
  found = λ complete kept. refl;
  reads = λ always honest kept. refl;
  in_memory = λ embedded. refl;
  kept = λ honest. tt;
  written = λ honest. subst (λ (w : List ℕ). Written true s t w) (sym (append-nil b)) (record { all = p.all; prefix = p.prefix });
}

-- an answer that is a refusal
pub refused : (steady : Bool) (r : Answer) (f : TreeFault) (m n : FileMap) (s t : Sink) (xs : List Content) → IsErrAnd r (λ e. e ≡ f) → WritesPieces steady (failed f) m n s t xs → WritesPieces steady r m n s t xs
refused steady (Ok x) f m n s t xs h p = absurd h
refused steady (Err e) f m n s t xs h p = subst (λ (g : TreeFault). WritesPieces steady (failed g) m n s t xs) (sym h) p

-- the elements before one, that one, and the rest
pub flat_map-at : {X Y : Type 0} (f : X → List Y) (xs : List X) (i : ℕ) (d : X) → i < length xs → flat_map f xs ≡ flat_map f (take i xs) ++ f (get_or xs i d) ++ flat_map f (drop (suc i) xs)
flat_map-at f [] i d h = absurd (omega (arith, h))
flat_map-at f (x ∷ xs) zero d h = refl
flat_map-at {Y = Y} f (x ∷ xs) (suc i) d h =
    ap (λ (w : List Y). f x ++ w) (flat_map-at f xs i d (omega (arith, h)))
    ∙ sym (append_assoc (f x) (flat_map f (take i xs) ++ f (get_or xs i d)) (flat_map f (drop (suc i) xs)))
    ∙ ap (λ (w : List Y). w ++ flat_map f (drop (suc i) xs)) (sym (append_assoc (f x) (flat_map f (take i xs)) (f (get_or xs i d))))

-- one element more
pub flat_map-suc : {X Y : Type 0} (f : X → List Y) (xs : List X) (i : ℕ) (d : X) → i < length xs → flat_map f (take (suc i) xs) ≡ flat_map f (take i xs) ++ f (get_or xs i d)
flat_map-suc f [] i d h = absurd (omega (arith, h))
flat_map-suc f (x ∷ xs) zero d h = append-nil (f x)
flat_map-suc {Y = Y} f (x ∷ xs) (suc i) d h = ap (λ (w : List Y). f x ++ w) (flat_map-suc f xs i d (omega (arith, h))) ∙ sym (append_assoc (f x) (flat_map f (take i xs)) (f (get_or xs i d)))

-- the pieces of a list of elements, one after another
module _ (steady : Bool) {X : Type 0} (f : X → List Content) (xs : List X) (i : ℕ) (d : X) (h : i < length xs) (m n k : FileMap) (s t u : Sink) where
  pub each-goes : WritesPieces steady went_well m n s t (flat_map f (take i xs)) → WritesPieces steady went_well n k t u (f (get_or xs i d)) → WritesPieces steady went_well m k s u (flat_map f (take (i + 1) xs))
  each-goes p q =
      let next : suc i ≡ i + 1 = omega arith in
      subst (λ (ps : List Content). WritesPieces steady went_well m k s u ps) (sym (flat_map-suc f xs i d h) ∙ ap (λ (j : ℕ). flat_map f (take j xs)) next)
      (goes steady went_well m n k s t u (flat_map f (take i xs)) (f (get_or xs i d)) p q)

  pub each-stops : (e : TreeFault) → WritesPieces steady went_well m n s t (flat_map f (take i xs)) → WritesPieces steady (failed e) n k t u (f (get_or xs i d)) → WritesPieces steady (failed e) m k s u (flat_map f xs)
  each-stops e p q =
      subst (λ (ps : List Content). WritesPieces steady (failed e) m k s u ps) (sym (flat_map-at f xs i d h))
      (stops steady e m k s u (flat_map f (take i xs) ++ f (get_or xs i d)) (flat_map f (drop (suc i) xs))
      (goes steady (failed e) m n k s t u (flat_map f (take i xs)) (f (get_or xs i d)) p q))

-- all elements
pub each-all : (steady : Bool) {X : Type 0} (f : X → List Content) (xs : List X) (i : ℕ) (h : length xs ≤ i) (m n : FileMap) (s t : Sink) → WritesPieces steady went_well m n s t (flat_map f (take i xs)) → WritesPieces steady went_well m n s t (flat_map f xs)
each-all steady {X = X} f xs i h m n s t p = subst (λ (l : List X). WritesPieces steady went_well m n s t (flat_map f l)) (take_all i xs h) p

-- a fact on all, at one
pub all-at : {X Y : Type 0} (P : Y → Type 0) (f : X → Y) (xs : List X) (i : ℕ) (d : X) → i < length xs → AllByRecursion P (map f xs) → P (f (get_or xs i d))
all-at P f [] i d h all = absurd (omega (arith, h))
all-at P f (x ∷ xs) zero d h all = all.0
all-at P f (x ∷ xs) (suc i) d h all = all-at P f xs i d (omega (arith, h)) all.1

-- bytes that are put together are three pieces
pub together : (steady : Bool) (e : Bool) (r : Answer) (m : FileMap) (s t : Sink) (a b c : List ℕ) → is_err r ≡ e → is_put r ≡ e → is_no_file r ≡ false → is_read r ≡ false → Writes e s t (a ++ b ++ c)
    → WritesPieces steady r m m s t (bytes a ∷ bytes b ∷ bytes c ∷ [])
together steady e r m s t a b c errs put opened read p =
    let text : a ++ b ++ c ≡ a ++ (b ++ (c ++ [])) = append_assoc a b c ∙ ap (λ (w : List ℕ). a ++ (b ++ w)) (sym (append-nil c)) in
    let same : Written e s t (a ++ b ++ c) = record { all = p.all; prefix = p.prefix } in
    record {
      opened = each_none (is_err r) m;
      files = record { same = record { bytes = refl; honest = refl; complete = refl }; refusals = subst (λ (q : Bool). RisesIf q m.refusals m.refusals) (sym opened) refl };
      faults = subst (λ (q : Bool). RisesIf q s.faults t.faults) (sym put) p.faults;
      found = λ complete kept. opened;
      reads = λ always honest kept. read;
      in_memory = λ embedded. errs ∙ sym put;
      kept = λ honest. kept_all (is_err r);
      written = λ honest. subst (λ (q : Bool). Written q s t (a ++ (b ++ (c ++ [])))) (sym errs) (subst (λ (w : List ℕ). Written e s t w) text same);
    }
  where
    kept_all : (q : Bool) → OnFalse q (AllByRecursion (IsKept m.bytes) (bytes a ∷ bytes b ∷ bytes c ∷ []))
    kept_all true = tt
    kept_all false = (tt, (tt, (tt, tt)))

infixr 5 ◌▶◌
-- the first pieces, and then the others
pub ◌▶◌ : {steady : Bool} {r : Answer} {m n k : FileMap} {s t u : Sink} {xs ys : List Content} → WritesPieces steady went_well m n s t xs → WritesPieces steady r n k t u ys → WritesPieces steady r m k s u (xs ++ ys)
p ▶ q = goes _ _ _ _ _ _ _ _ _ _ p q

-- a refusal in the first pieces
pub before : {steady : Bool} {f : TreeFault} {m n : FileMap} {s t : Sink} {xs : List Content} (ys : List Content) → WritesPieces steady (failed f) m n s t xs → WritesPieces steady (failed f) m n s t (xs ++ ys)
before ys p = stops _ _ _ _ _ _ _ ys p

-- bytes that are put are a piece, all of them or a prefix
pub all-put : {steady : Bool} {m : FileMap} {s t : Sink} {b : List ℕ} → Writes false s t b → WritesPieces steady went_well m m s t (bytes b ∷ [])
all-put p = puts-all _ _ _ _ _ p

pub prefix-put : {steady : Bool} {m : FileMap} {s t : Sink} {b : List ℕ} → Writes true s t b → WritesPieces steady (failed Put) m m s t (bytes b ∷ [])
prefix-put p = puts-prefix _ _ _ _ _ p

-- what holds where an answer is not a refusal
pub on-ok : {P Q : Type 0} (r : Answer) → (P → Q) → OnFalse (is_err r) P → OnOk r Q
on-ok (Ok x) f p = f p
on-ok (Err e) f p = tt
