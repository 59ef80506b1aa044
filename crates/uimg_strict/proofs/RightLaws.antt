-- What a check finds right, and what a strict check of it means.
use Rattle.std.proofs.Common.{◌≡◌, ◌-◌, ℕ, List, [], ◌∷◌, length, nat_lt, Option, Some, None, Result, Ok, Err, Bool, true, false, if◌then◌else◌, refl, ap, sym, ◌∙◌}
use Rattle.std.specs.List.{AllByRecursion}
use Rattle.std.specs.Result.{result_ok}
use Rattle.std.proofs.lemmas.Bool.{false≢true}
use Rattle.uimg_sums.specs.declared.algo.Algo.{Algo}
use Rattle.uimg_texts.specs.declared.naming.Naming.TheVariants as naming
use Rattle.uimg_base.specs.Results.{◌>>=◌}
use Rattle.uimg_base.specs.declared.spans.Span.{Span}
use Rattle.uimg_blob_reading.specs.Reading.{Fault as BlobFaultAt}
use Rattle.uimg_blob_reading.specs.Blob.{tree}
use Rattle.uimg_blob_reading.specs.Grammar.{Siblings}
use Rattle.uimg_blob_reading.specs.LookUps.{NodeOf, hashes, images}
use Rattle.uimg_blob_reading.specs.Spots.{Spot, spots}
use Rattle.uimg_blob_reading.proofs.PhaseLaws.{some_none, some_some}
use Rattle.uimg_fit_base.specs.Files.{spots_in, listed_or}
use Rattle.uimg_fit_base.specs.Places.{place, bytes_at, payload}
use Rattle.uimg_fit_base.specs.Report.{named_word, is_right}
use Rattle.uimg_fit_base.specs.declared.fault.Fault.{Fault}
use Rattle.uimg_fit_base.specs.declared.fault.FitFault.{FitFault}
use Rattle.uimg_fit_checking.specs.Checks.{NamedFinding, wrong_in, is_weak, or_weak, found_of, image_finding, or_later, first_told, or_right, some_told, check_of}
use Rattle.uimg_fit_checking.specs.declared.checking.Finding.{Finding}
use Rattle.uimg_fit_checking.specs.declared.checking.Finding.TheVariants.{Right, Unhashed, Wrong, Weak, Overlapping, NoImage}
use Rattle.uimg_fit_reading.specs.Work.{hashed_size}
use Rattle.uimg_strict.specs.Looseness.{LooseSaid, loose_blob, loose_file, loose_in, looseness_of, is_nameless}
use Rattle.uimg_strict.specs.Soundness.{is_sound}
use Rattle.uimg_strict.specs.Readings.{RightPayload, ReadAsChecked}
use Rattle.uimg_strict.proofs.UBootLaws.{reads_same}

no_err : {X E : Type 0} (e : E) (x : X) → Err e ≡ Ok x → ⊥
no_err e x is = some_none (sym (ap result_ok is))

ok_ok : {X E : Type 0} (x y : X) → (let r : Result X E = Ok x in r) ≡ Ok y → x ≡ y
ok_ok x y is = some_some x y (ap result_ok is)

by_if : {X P : Type 0} (b : Bool) (x y : X) → ((if b then x else y) ≡ x → b ≡ true → P) → ((if b then x else y) ≡ y → b ≡ false → P) → P
by_if true x y yes_so not_so = yes_so refl refl
by_if false x y yes_so not_so = not_so refl refl

-- whether a finding is that all is right
abbrev says_right : {N : Type 0} → Finding N → Bool
says_right (Right payloads nodes) = true
says_right (Unhashed image) = false
says_right (Wrong image hash word) = false
says_right (Weak image) = false
says_right (Overlapping image) = false
says_right NoImage = false

-- it is never what is found in an image
wrong_never : (name message : List ℕ) (hs : List (NodeOf Spot)) (told : NamedFinding) → wrong_in name message hs ≡ Some told → says_right told ≡ false
unfolding wrong_in
wrong_never name message [] told is = absurd (some_none (sym is))
wrong_never name message (h ∷ hs) told is =
    by_if (is_right (named_word naming.All message h)) (wrong_in name message hs) (Some (Wrong name h.name (named_word naming.All message h)))
    (λ here so. wrong_never name message hs told (sym here ∙ is))
    (λ here so. ap says_right (sym (some_some (Wrong name h.name (named_word naming.All message h)) told (sym here ∙ is))))

weak_never : (o : Option NamedFinding) (need : Option Algo) (image : NodeOf Spot) (told : NamedFinding) → ((t : NamedFinding) → o ≡ Some t → says_right t ≡ false)
    → or_weak o need image ≡ Some told → says_right told ≡ false
weak_never (Some t) need image told never is = never told is
weak_never None need image told never is =
    by_if (is_weak need image) (Some (Weak image.name)) None
    (λ here so. ap says_right (sym (some_some (Weak image.name) told (sym here ∙ is))))
    (λ here so. absurd (some_none (sym (sym here ∙ is))))

found_never : (need : Option Algo) (left : ℕ) (image : NodeOf Spot) (message : List ℕ) (told : NamedFinding) → found_of need left image message ≡ Some told → says_right told ≡ false
found_never need left image message told is =
    by_if (nat_lt left (hashed_size naming.All image (Ok message))) (Some (Overlapping image.name)) (or_weak (wrong_in image.name message (hashes image)) need image)
    (λ here so. ap says_right (sym (some_some (Overlapping image.name) told (sym here ∙ is))))
    (λ here so. weak_never (wrong_in image.name message (hashes image)) need image told (wrong_never image.name message (hashes image)) (sym here ∙ is))

later_never : (r later : Result (Option NamedFinding) Fault) (told : NamedFinding) → ((t : NamedFinding) → r ≡ Ok (Some t) → says_right t ≡ false)
    → ((t : NamedFinding) → later ≡ Ok (Some t) → says_right t ≡ false) → or_later r later ≡ Ok (Some told) → says_right told ≡ false
later_never (Ok None) later told here there is = there told is
later_never (Ok (Some t)) later told here there is = here told is
later_never (Err fault) later told here there is = absurd (no_err fault (Some told) is)

image_never : (need : Option Algo) (left : ℕ) (image : NodeOf Spot) (r : Result (List ℕ) FitFault) (told : NamedFinding) → image_finding need left image r ≡ Ok (Some told) → says_right told ≡ false
image_never need left image (Ok message) told is = found_never need left image message told (ok_ok _ _ is)
image_never need left image (Err fault) told is = absurd (no_err _ (Some told) is)

never : (need : Option Algo) (file : List ℕ) (left : ℕ) (found : List (NodeOf Spot)) (told : NamedFinding) → first_told need file left found ≡ Ok (Some told) → says_right told ≡ false
unfolding first_told
never need file left [] told is = absurd (some_none (sym (ok_ok _ _ is)))
never need file left (image ∷ more) told is =
    later_never (image_finding need left image (payload file image)) (first_told need file (left - hashed_size naming.All image (payload file image)) more) told
    (image_never need left image (payload file image)) (never need file (left - hashed_size naming.All image (payload file image)) more) is

-- so nothing was found
right_first : (need : Option Algo) (file : List ℕ) (found : List (NodeOf Spot)) (r : Result (Option NamedFinding) Fault) (n m : ℕ) → first_told need file (length file) found ≡ r
    → (r >>= (λ first. Ok (or_right need found first))) ≡ Ok (Right n m) → first_told need file (length file) found ≡ Ok None
right_first need file found (Ok None) n m is right = is
right_first need file found (Ok (Some told)) n m is right =
    absurd (false≢true (sym (never need file (length file) found told is) ∙ ap says_right (ok_ok told (Right n m) right)))
right_first need file found (Err fault) n m is right = absurd (no_err fault (Right n m) right)

right_told : (need : Option Algo) (file : List ℕ) (found : List (NodeOf Spot)) (n m : ℕ) → some_told need file found ≡ Ok (Right n m) → first_told need file (length file) found ≡ Ok None
right_told None file found n m is = right_first None file found _ n m refl is
right_told (Some need) file [] n m is = absurd (false≢true (ap says_right (ok_ok NoImage (Right n m) is)))
right_told (Some need) file (image ∷ more) n m is = right_first (Some need) file (image ∷ more) _ n m refl is

-- nothing found in hash nodes, in an image, in images
all_right : (name message : List ℕ) (hs : List (NodeOf Spot)) → wrong_in name message hs ≡ None → AllByRecursion (λ h. is_right (named_word naming.All message h) ≡ true) hs
unfolding wrong_in
all_right name message [] is = tt
all_right name message (h ∷ hs) is =
    by_if (is_right (named_word naming.All message h)) (wrong_in name message hs) (Some (Wrong name h.name (named_word naming.All message h)))
    (λ here so. (so, all_right name message hs (sym here ∙ is)))
    (λ here so. absurd (some_none (sym here ∙ is)))

no_weak : (o : Option NamedFinding) (need : Option Algo) (image : NodeOf Spot) → or_weak o need image ≡ None → o ≡ None
no_weak (Some t) need image is = absurd (some_none is)
no_weak None need image is = refl

no_wrong : (need : Option Algo) (left : ℕ) (image : NodeOf Spot) (message : List ℕ) → found_of need left image message ≡ None → wrong_in image.name message (hashes image) ≡ None
no_wrong need left image message is =
    by_if (nat_lt left (hashed_size naming.All image (Ok message))) (Some (Overlapping image.name)) (or_weak (wrong_in image.name message (hashes image)) need image)
    (λ here so. absurd (some_none (sym here ∙ is)))
    (λ here so. no_weak (wrong_in image.name message (hashes image)) need image (sym here ∙ is))

by_place : (need : Option Algo) (file : List ℕ) (left : ℕ) (image : NodeOf Spot) (r : Result Span FitFault) → place file image ≡ r → image_finding need left image (r >>= bytes_at file) ≡ Ok None → RightPayload file image
by_place need file left image (Err fault) at is = absurd (no_err _ None is)
by_place need file left image (Ok p) at is = by_bytes (bytes_at file p) refl is
  where
    by_bytes : (b : Result (List ℕ) FitFault) → bytes_at file p ≡ b → image_finding need left image b ≡ Ok None → RightPayload file image
    by_bytes (Err fault) bytes is = absurd (no_err _ None is)
    by_bytes (Ok message) bytes is =
        record { at = p; message = message; is = at; bytes = bytes; right = all_right image.name message (hashes image) (no_wrong need left image message (ok_ok _ _ is)) }

later_first : (r later : Result (Option NamedFinding) Fault) → or_later r later ≡ Ok None → r ≡ Ok None
later_first (Ok None) later is = refl
later_first (Ok (Some t)) later is = is
later_first (Err fault) later is = is

later_rest : (r later : Result (Option NamedFinding) Fault) → or_later r later ≡ Ok None → later ≡ Ok None
later_rest (Ok None) later is = is
later_rest (Ok (Some t)) later is = absurd (some_none (ok_ok _ _ is))
later_rest (Err fault) later is = absurd (no_err fault None is)

all_payloads : (need : Option Algo) (file : List ℕ) (left : ℕ) (found : List (NodeOf Spot)) → first_told need file left found ≡ Ok None → AllByRecursion (RightPayload file) found
unfolding first_told
all_payloads need file left [] is = tt
all_payloads need file left (image ∷ more) is =
    let later = first_told need file (left - hashed_size naming.All image (payload file image)) more in (
      by_place need file left image (place file image) refl (later_first (image_finding need left image (payload file image)) later is),
      all_payloads need file (left - hashed_size naming.All image (payload file image)) more (later_rest (image_finding need left image (payload file image)) later is),
    )

-- nothing is refused of a file
not_loose : (sound nameless : Bool) (later : Option LooseSaid) → loose_blob sound nameless later ≡ None → later ≡ None
not_loose true true later is = is
not_loose true false later is = absurd (some_none is)
not_loose false nameless later is = absurd (some_none is)

by_images : (need : Option Algo) (file : List ℕ) (t : Siblings) (o : Option (List (NodeOf Spot))) (n m : ℕ) → tree file ≡ Ok t → images (spots t) ≡ o
    → (listed_or o >>= some_told need file) ≡ Ok (Right n m) → (listed_or o >>= (λ found. Ok (loose_file file (spots t) found))) ≡ Ok None → ReadAsChecked file
by_images need file t None n m is are right strict = absurd (no_err _ (Right n m) right)
by_images need file t (Some found) n m is are right strict = record {
  nodes = t;
  found = found;
  tree_is = is;
  images_are = are;
  right = all_payloads need file (length file) found (right_told need file found n m right);
  same = reads_same file t found is are (not_loose (is_sound file) (is_nameless (spots t)) (loose_in file (spots t) found) (ok_ok _ _ strict));
}

by_tree : (need : Option Algo) (file : List ℕ) (r : Result Siblings BlobFaultAt) (n m : ℕ) → tree file ≡ r
    → ((spots_in r >>= (λ t. listed_or (images t))) >>= some_told need file) ≡ Ok (Right n m)
    → (spots_in r >>= (λ t. listed_or (images t) >>= (λ found. Ok (loose_file file t found)))) ≡ Ok None → ReadAsChecked file
by_tree need file (Ok t) n m is right strict = by_images need file t (images (spots t)) n m is refl right strict
by_tree need file (Err fault) n m is right strict = absurd (no_err _ (Right n m) right)

-- Where a check finds all right and strictness refuses nothing, U-Boot reads the file as it was checked.
pub read_as_checked : (need : Option Algo) (file : List ℕ) (n m : ℕ) → check_of need file ≡ Ok (Right n m) → looseness_of file ≡ Ok None → ReadAsChecked file
read_as_checked need file n m right strict = by_tree need file (tree file) n m refl right strict
