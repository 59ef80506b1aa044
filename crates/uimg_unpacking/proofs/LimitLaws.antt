-- What was claimed is within the limits.
use Rattle.std.proofs.Common.{◌≡◌, ℕ, ◌+◌, ◌-◌, ◌^◌, ◌<◌, min, length-append, sum_by, List, [], ◌∷◌, ◌++◌, Bool, true, false, not, ◌&&◌, nat_lt, Option, Some, None, is_none, if◌then◌else◌, refl, ap, sym, subst, ◌∙◌, true≢false, arith}
use Rattle.uimg_fit_checking.specs.Unpacking.{Which}
use Rattle.uimg_fit_checking.specs.Claiming.{Claim, ClaimsTo, claim, claims_of}
use Rattle.uimg_unpacking.specs.Ends.{FitsFor, asked_which, is_whole}
use Rattle.uimg_unpacking.specs.Limiting.{bytes_in, claims_by, exceeded, exceeded_bytes, files_in, fits, is_over, sum64}
use Rattle.uimg_unpacking.specs.Troubles.{noted, trouble_in}
use Rattle.uimg_unpacking.specs.declared.limits.Limits.{Limits}
use Rattle.std.specs.Prelude.{Result, Ok, Err}
use Rattle.uimg_fit_base.specs.declared.fault.Fault.{Fault}
use Rattle.uimg_fit_checking.specs.declared.unpacking.Unpacked.{Unpacked, TheVariants.{Taken, Overlapping}}
use Rattle.uimg_unpacking.specs.declared.trouble.Trouble.{Trouble}
use Rattle.uimg_unpacking.specs.declared.unpacking.Unpacking.{Unpacking}
use Rattle.uimg_unpacking.specs.declared.trouble.Trouble.TheVariants.{TooManyBytes}
use Rattle.std.proofs.lemmas.Bool.{le-ltb}
use Rattle.std.specs.Int.{from_be_bytes, to_be_bytes, w64}
use Rattle.std.proofs.lemmas.Nat.{from_be_bytes-to_be_bytes_8}
use Rattle.std.proofs.lemmas.List.Sums.{sum_by-append}

pub files_more : (claims : List Claim) (one : Claim) → files_in (claims ++ one ∷ []) ≡ sum64 (files_in claims) 1
files_more claims one = ap (λ (n : ℕ). min n (2 ^ 64 - 1)) (length-append claims (one ∷ [])) ∙ omega arith

pub bytes_more : (claims : List Claim) (one : Claim) → bytes_in (claims ++ one ∷ []) ≡ sum64 (bytes_in claims) one.size
bytes_more claims one =
    let sum : sum_by (λ it. it.size) (claims ++ one ∷ []) ≡ sum_by (λ it. it.size) claims + one.size = search (arith, sum_by-append (λ (it : Claim). it.size) claims (one ∷ [])) in
    ap (λ (n : ℕ). min n (2 ^ 64 - 1)) sum ∙ omega arith

-- one claim more was noted
pub claim_noted : (old new : List (List ℕ)) (name size : List ℕ) (n : ℕ) → new ≡ size ∷ name ∷ old → size ≡ to_be_bytes w64 n → n < 2 ^ 64 → claims_by new ≡ claims_by old ++ claim name n ∷ []
claim_noted old new name size n is bytes fits-it =
    ap claims_by is ∙ ap (λ (k : ℕ). claims_by old ++ claim name k ∷ []) (ap (from_be_bytes w64) bytes ∙ from_be_bytes-to_be_bytes_8 n fits-it)

none_over : (o : Option ℕ) (bytes : ℕ) → is_none (exceeded_bytes o bytes) ≡ true → not (is_over o bytes) ≡ true
none_over None bytes is = refl
none_over (Some most) bytes is = by_case (TooManyBytes most) (nat_lt most bytes) is
  where
    by_case : (t : Trouble) (b : Bool) → is_none (if b then Some t else None) ≡ true → not b ≡ true
    by_case t true is = absurd (true≢false (sym is))
    by_case t false is = refl

by_files : (is_more : Bool) (t : Trouble) (o : Option ℕ) (bytes : ℕ) → is_none (if is_more then Some t else exceeded_bytes o bytes) ≡ true → (not is_more && not (is_over o bytes)) ≡ true
by_files true t o bytes is = absurd (true≢false (sym is))
by_files false t o bytes is = none_over o bytes is

within : (limits : Limits) (claims : List Claim) → is_none (exceeded limits claims) ≡ true → fits limits claims ≡ true
within limits claims is = by_files (nat_lt limits.files (files_in claims)) _ limits.bytes (bytes_in claims) is

pub none_exceeds : (limits : Limits) → is_none (exceeded limits []) ≡ true
none_exceeds limits = by_files_none limits.files limits.bytes _
  where
    at_none : (o : Option ℕ) → is_none (exceeded_bytes o 0) ≡ true
    at_none None = refl
    at_none (Some most) = ap (λ (b : Bool). is_none (if b then Some (TooManyBytes most) else None)) (le-ltb most 0 (omega arith))

    by_files_none : (files : ℕ) (o : Option ℕ) (t : Trouble) → is_none (if nat_lt files 0 then Some t else exceeded_bytes o 0) ≡ true
    by_files_none files o t = ap (λ (b : Bool). is_none (if b then Some t else exceeded_bytes o 0)) (le-ltb files 0 (omega arith)) ∙ at_none o

-- a trouble is noted where a limit is exceeded
pub fits_noted : {X : Type 0} (r : Result X Trouble) (old new : Option Trouble) (limits : Limits) (claims : List Claim) → trouble_in r ≡ exceeded limits claims → new ≡ noted r old → is_none new ≡ true → is_none (exceeded limits claims) ≡ true
fits_noted (Ok done) old new limits claims told is none = ap is_none (sym told)
fits_noted (Err trouble) old new limits claims told is none = absurd (true≢false (sym none ∙ ap is_none is))

pub fits_kept : {X : Type 0} (r : Result X Trouble) (old new : Option Trouble) (limits : Limits) (claims : List Claim) → new ≡ noted r old → (is_none old ≡ true → is_none (exceeded limits claims) ≡ true) → is_none new ≡ true → is_none (exceeded limits claims) ≡ true
fits_kept (Ok done) old new limits claims is fits none = fits (sym (ap is_none is) ∙ none)
fits_kept (Err trouble) old new limits claims is fits none = absurd (true≢false (sym none ∙ ap is_none is))

pub fits_by : (asked limits its : Limits) (claims : List Claim) → asked ≡ its → limits ≡ its → is_none (exceeded limits claims) ≡ true → fits asked claims ≡ true
fits_by asked limits its claims these those is = subst (λ (l : Limits). fits l claims ≡ true) (those ∙ sym these) (within limits claims is)

pub all_claimed : (r : Result Unpacked Fault) (all before after : List Claim) → is_whole r ≡ true → before ≡ [] → ClaimsTo all r before after → after ≡ all
all_claimed (Ok (Taken whole)) all before after is none told = told ∙ ap (λ (cs : List Claim). cs ++ all) none
all_claimed (Ok (Overlapping name)) all before after is none told = absurd (true≢false (sym is))
all_claimed (Err fault) all before after is none told = absurd (true≢false (sym is))

pub fits_for : (asked : Unpacking) (only : Which) (file : List ℕ) (claims : List Claim) → Some only ≡ asked_which asked → claims ≡ claims_of only file → fits asked.limits claims ≡ true → FitsFor asked (asked_which asked) file
fits_for asked only file claims asks all is =
    subst (λ (o : Option Which). FitsFor asked o file) asks (subst (λ (cs : List Claim). fits asked.limits cs ≡ true) all is)
