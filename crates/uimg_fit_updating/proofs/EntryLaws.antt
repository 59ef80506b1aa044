-- The entries of a block, one after another.
use Rattle.std.proofs.Common.{◌≡◌, ℕ, suc, ◌≤◌, ◌<◌, ◌/◌, Bool, true, false, if◌then◌else◌, List, [], ◌∷◌, ◌++◌, length, drop, Option, Some, None, refl, ap, sym, ◌∙◌, arith, append_assoc, append-nil}
use Rattle.std.{proofs.lemmas.List.length-drop, specs.Option.option_map}
use Rattle.uimg_blob_writing.specs.declared.reservation.Reservation.{Reservation}
use Rattle.uimg_fit_updating.specs.Reservations.{reservation_at, ends_list, entries_of, entries_in}

counted : (bytes : List ℕ) → 16 ≤ length bytes → length bytes / 16 ≡ suc (length (drop 16 bytes) / 16)
counted bytes some = omega (arith, some, length-drop 16 bytes)

next_entries : (bytes : List ℕ) → 16 ≤ length bytes
    → entries_in bytes ≡ (if ends_list (reservation_at bytes) then Some [] else option_map (λ es. reservation_at bytes ∷ es) (entries_in (drop 16 bytes)))
unfolding entries_of
next_entries bytes some = ap (λ n. entries_of n bytes) (counted bytes some)

pub ended_here : (bytes : List ℕ) → 16 ≤ length bytes → ends_list (reservation_at bytes) ≡ true → entries_in bytes ≡ Some []
ended_here bytes some is =
    next_entries bytes some ∙ ap (λ (b : Bool). if b then Some [] else option_map (λ es. reservation_at bytes ∷ es) (entries_in (drop 16 bytes))) is

going_on : (bytes : List ℕ) → 16 ≤ length bytes → ends_list (reservation_at bytes) ≡ false → entries_in bytes ≡ option_map (λ es. reservation_at bytes ∷ es) (entries_in (drop 16 bytes))
going_on bytes some is =
    next_entries bytes some ∙ ap (λ (b : Bool). if b then Some [] else option_map (λ es. reservation_at bytes ∷ es) (entries_in (drop 16 bytes))) is

pub no_entries : (bytes : List ℕ) → length bytes < 16 → entries_in bytes ≡ None
unfolding entries_of
no_entries bytes few = let none : length bytes / 16 ≡ 0 = omega (arith, few) in ap (λ n. entries_of n bytes) none

pushed : (es : List Reservation) (e : Reservation) (found : Option (List Reservation))
    → option_map (λ more. (es ++ e ∷ []) ++ more) found ≡ option_map (λ more. es ++ more) (option_map (λ more. e ∷ more) found)
pushed es e None = refl
pushed es e (Some more) = ap Some (append_assoc es (e ∷ []) more)

-- with an entry that was read, those that are left are all
pub one_more : (es : List Reservation) (e : Reservation) (rest later : List ℕ) (all : Option (List Reservation)) → 16 ≤ length rest
    → e ≡ reservation_at rest → ends_list e ≡ false → later ≡ drop 16 rest → option_map (λ more. es ++ more) (entries_in rest) ≡ all
    → option_map (λ more. (es ++ e ∷ []) ++ more) (entries_in later) ≡ all
one_more es e rest later all some read goes left before =
    ap (λ (l : List ℕ). option_map (λ more. (es ++ e ∷ []) ++ more) (entries_in l)) left
    ∙ pushed es e (entries_in (drop 16 rest))
    ∙ ap (λ (x : Reservation). option_map (λ more. es ++ more) (option_map (λ more. x ∷ more) (entries_in (drop 16 rest)))) read
    ∙ ap (option_map (λ more. es ++ more)) (sym (going_on rest some (ap ends_list (sym read) ∙ goes)))
    ∙ before

pub all_there : (es : List Reservation) (e : Reservation) (rest : List ℕ) (all : Option (List Reservation)) → 16 ≤ length rest
    → e ≡ reservation_at rest → ends_list e ≡ true → option_map (λ more. es ++ more) (entries_in rest) ≡ all → Some es ≡ all
all_there es e rest all some read ends before =
    ap Some (sym (append-nil es)) ∙ ap (option_map (λ more. es ++ more)) (sym (ended_here rest some (ap ends_list (sym read) ∙ ends))) ∙ before

pub none_there : (es : List Reservation) (rest : List ℕ) (all : Option (List Reservation)) → length rest < 16
    → option_map (λ more. es ++ more) (entries_in rest) ≡ all → None ≡ all
none_there es rest all few before = ap (option_map (λ more. es ++ more)) (sym (no_entries rest few)) ∙ before
