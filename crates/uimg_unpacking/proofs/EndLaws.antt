-- How the unpacking of a FIT image ends by its bytes.
use Rattle.std.proofs.Common.{◌≡◌, ◌==◌, ◌&&◌, ◌||◌, nat_lt, ℕ, zero, suc, List, [], ◌∷◌, length, Option, Some, None, is_none, is_some, Bool, true, false, refl, ap, sym, subst, ◌∙◌, true≢false, arith}
use Rattle.std.specs.Prelude.{Result, Ok, Err, if◌then◌else◌}
use Rattle.std.specs.List.{list_all}
use Rattle.uimg_fit_base.specs.declared.fault.Fault.{Fault, TheVariants.{Blob, Fit, Read, Put}}
use Rattle.uimg_fit_base.specs.declared.fault.FitFault.TheVariants.{NoSuchImage}
use Rattle.uimg_fit_checking.specs.Unpacking.{Take, UnpackOutcome, Which, taken, overlaps, unpack_of, is_any, is_kept, EndsAs}
use Rattle.uimg_fit_checking.specs.declared.unpacking.Unpacked.{Unpacked, TheVariants.{Taken, Overlapping}}
use Rattle.uimg_fit_checking.specs.declared.unpacking.node_names.NodeName.{NodeName}
use Rattle.uimg_unpacking.specs.declared.trouble.Trouble.{Trouble}
use Rattle.uimg_unpacking.specs.declared.trouble.Trouble.TheVariants as of
use Rattle.uimg_unpacking.specs.declared.unpacking.Ended.{Ended}
use Rattle.uimg_unpacking.specs.declared.unpacking.Ended.TheVariants.{Kept, Refused, NoImage, Weak, Stopped, StoppedLegacy, Troubled}
use Rattle.uimg_unpacking.specs.declared.unpacking.Unpacking.{Unpacking}
use Rattle.uimg_unpacking.specs.{Leaving.{Leaves, are_undone, is_left}, Places.{Obeys, Terms}}
use Rattle.uimg_world.specs.Deeds.{Deed}
use Rattle.uimg_unpacking.specs.Ends.{asked_which, chooses, end_of_taken, end_of, end_by, has_failed, is_whole, Ends, EndsByFile}
use Rattle.uimg_unpacking.proofs.Placing.{obeys_naming}

true_false : true ≡ false → ⊥
true_false h = grind (arith, h)

-- what failed is not said to have ended well
failed : (end other by : Ended) → end ≡ other → has_failed other ≡ true → has_failed end ≡ false → end ≡ by
failed end other by is bad good = absurd (true_false (sym (ap has_failed is ∙ bad) ∙ good))

above : (n : ℕ) → (suc n == 0) ≡ false
above n = grind arith

-- none was begun just if there is none
as_many : (count : ℕ) (ts : List Take) → nat_lt 0 count ≡ (is_any ts || false) → (count == 0) ≡ (length ts == 0)
as_many zero [] is = refl
as_many zero (one ∷ more) is = absurd (true_false (sym is))
as_many (suc n) [] is = absurd (grind (arith, is))
as_many (suc n) (one ∷ more) is = above n ∙ sym (above (length more))

abbrev by_count : Unpacking → Bool → Bool → Ended
by_count asked all none =
    if none && chooses asked then Stopped (Fit NoSuchImage) else if none && is_some asked.need then NoImage else if all then Kept else Refused

same_end : (asked : Unpacking) (all : Bool) (count : ℕ) (ts : List Take) → all ≡ list_all is_kept ts → nat_lt 0 count ≡ (is_any ts || false) → end_of_taken asked all count ≡ end_of_taken asked (list_all is_kept ts) (length ts)
same_end asked all count ts kept is = ap (λ (b : Bool). by_count asked b (count == 0)) kept ∙ ap (by_count asked (list_all is_kept ts)) (as_many count ts is)

taken_end : (asked : Unpacking) (told : Result UnpackOutcome Fault) (all : Bool) (count : ℕ) → EndsAs (Ok (Taken all)) told false (nat_lt 0 count) → end_of_taken asked all count ≡ end_of asked told
taken_end asked (Ok (taken ts)) all count ends = same_end asked all count ts ends.0 ends.1
taken_end asked (Ok (overlaps name)) all count ends = absurd ends
taken_end asked (Err fault) all count ends = absurd ends

overlap_end : (asked : Unpacking) (told : Result UnpackOutcome Fault) (name : NodeName) (b : Bool) → EndsAs (Ok (Overlapping name)) told false b → Refused ≡ end_of asked told
overlap_end asked (Ok (taken ts)) name b ends = absurd ends
overlap_end asked (Ok (overlaps its)) name b ends = refl
overlap_end asked (Err fault) name b ends = absurd ends

by_result : (asked : Unpacking) (told : Result UnpackOutcome Fault) (r : Result Unpacked Fault) (count : ℕ) (trouble : Option Trouble) (end : Ended) (old new : Option (List ℕ)) → EndsAs r told false (nat_lt 0 count) → Ends asked r count trouble end old new
    → has_failed end ≡ false → end ≡ end_of asked told
by_result asked told (Ok (Taken all)) count (Some trouble) end old new ends is good = failed end (Troubled trouble) _ is refl good
by_result asked told (Ok (Taken all)) count None end old new ends is good = is ∙ taken_end asked told all count ends
by_result asked told (Ok (Overlapping name)) count trouble Refused old new ends is good = overlap_end asked told name (nat_lt 0 count) ends
by_result asked told (Ok (Overlapping name)) count trouble (Troubled bad) old new ends is good = absurd (true_false good)
by_result asked told (Ok (Overlapping name)) count trouble Kept old new ends is good = absurd is
by_result asked told (Ok (Overlapping name)) count trouble NoImage old new ends is good = absurd is
by_result asked told (Ok (Overlapping name)) count trouble Weak old new ends is good = absurd is
by_result asked told (Ok (Overlapping name)) count trouble (Stopped fault) old new ends is good = absurd is
by_result asked told (Ok (Overlapping name)) count trouble (StoppedLegacy fault) old new ends is good = absurd is
by_result asked told (Err (Blob fault at)) count trouble end old new ends is good = is ∙ sym (ap (end_of asked) (ends.0 (sym (ap has_failed is) ∙ good)))
by_result asked told (Err (Fit fault)) count trouble end old new ends is good = is ∙ sym (ap (end_of asked) ends.0)
by_result asked told (Err Read) count trouble end old new ends is good = failed end (Stopped Read) _ is refl good
by_result asked told (Err Put) count (Some trouble) end old new ends is good = failed end (Troubled trouble) _ is refl good
by_result asked told (Err Put) count None end old new ends is good = failed end (Troubled of.Put) _ is refl good

-- it ends by the bytes of the file
pub ends_by_file : (asked : Unpacking) (file : List ℕ) (only : Which) (r : Result Unpacked Fault) (before after count : ℕ) (trouble : Option Trouble) (end : Ended) (old new : Option (List ℕ)) → Some only ≡ asked_which asked → before ≡ 0 → count ≡ after
    → EndsAs r (unpack_of asked.need only file) (nat_lt 0 before) (nat_lt 0 after) → Ends asked r count trouble end old new → EndsByFile asked file end
ends_by_file asked file only r before after count trouble end old new named none counted ends is good =
    by_result asked (unpack_of asked.need only file) r count trouble end old new (subst (λ (n : ℕ). EndsAs r (unpack_of asked.need only file) false (nat_lt 0 n)) (sym counted)
    (subst (λ (n : ℕ). EndsAs r (unpack_of asked.need only file) (nat_lt 0 n) (nat_lt 0 after)) none ends)) is good
    ∙ ap (λ (o : Option Which). end_by asked o file) named

-- what is whole at an end
abbrev is_kept_end : Ended → Bool
is_kept_end Kept = true
is_kept_end _ = false

kept_taken : (asked : Unpacking) (all : Bool) (none asks : Bool) → is_kept_end (if none then Stopped (Fit NoSuchImage) else if asks then NoImage else if all then Kept else Refused) ≡ true → all ≡ true
kept_taken asked all true asks is = absurd (true≢false (sym is))
kept_taken asked all false true is = absurd (true≢false (sym is))
kept_taken asked true false false is = refl
kept_taken asked false false false is = absurd (true≢false (sym is))

other_end : {P : Type 0} (end other : Ended) → end ≡ other → is_kept_end other ≡ false → end ≡ Kept → P
other_end end other is bad good = absurd (true≢false (sym (ap is_kept_end good) ∙ ap is_kept_end is ∙ bad))

-- At the end that all is kept, all was whole and there was no trouble.
pub whole_at : (asked : Unpacking) (r : Result Unpacked Fault) (count : ℕ) (trouble : Option Trouble) (end : Ended) (old new : Option (List ℕ)) → Ends asked r count trouble end old new → end ≡ Kept → (is_whole r ≡ true) × (trouble ≡ None)
whole_at asked (Ok (Taken all)) count (Some trouble) end old new is good = other_end end (Troubled trouble) is refl good
whole_at asked (Ok (Taken all)) count None end old new is good =
    (kept_taken asked all (count == 0 && chooses asked) (count == 0 && is_some asked.need) (sym (ap is_kept_end is) ∙ ap is_kept_end good), refl)
whole_at asked (Ok (Overlapping name)) count trouble Kept old new is good = absurd is
whole_at asked (Ok (Overlapping name)) count trouble Refused old new is good = other_end Refused Refused refl refl good
whole_at asked (Ok (Overlapping name)) count trouble NoImage old new is good = absurd is
whole_at asked (Ok (Overlapping name)) count trouble Weak old new is good = absurd is
whole_at asked (Ok (Overlapping name)) count trouble (Stopped fault) old new is good = absurd is
whole_at asked (Ok (Overlapping name)) count trouble (StoppedLegacy fault) old new is good = absurd is
whole_at asked (Ok (Overlapping name)) count trouble (Troubled bad) old new is good = other_end (Troubled bad) (Troubled bad) refl refl good
whole_at asked (Err (Blob fault at)) count trouble end old new is good = other_end end (Stopped (Blob fault at)) is refl good
whole_at asked (Err (Fit fault)) count trouble end old new is good = other_end end (Stopped (Fit fault)) is refl good
whole_at asked (Err Read) count trouble end old new is good = other_end end (Stopped Read) is refl good
whole_at asked (Err Put) count (Some trouble) end old new is good = other_end end (Troubled trouble) is refl good
whole_at asked (Err Put) count None end old new is good = other_end end (Troubled of.Put) is refl good

-- which files get names after which trouble
pub may_name : (names keeps_good : Bool) (trouble : Option Trouble) → names ≡ true → is_none trouble ≡ true → (names && (keeps_good || is_none trouble)) ≡ true
may_name true true trouble a b = refl
may_name true false trouble a b = b
may_name false good trouble a b = absurd (true_false (sym a))

pub by_naming : (folder : List ℕ) (first last : List Deed) (names keeps_good may : Bool) (trouble : Option Trouble) → may ≡ (names && (keeps_good || is_none trouble)) → keeps_good ≡ false
    → (may ≡ false → Leaves folder first last) → (is_none trouble ≡ true → Leaves folder first last) → Leaves folder first last
by_naming folder first last names good may None is not_good f g = g refl
by_naming folder first last names good may (Some trouble) is not_good f g = f (is ∙ ap (λ (b : Bool). names && (b || false)) not_good ∙ off names)
  where
    off : (b : Bool) → (b && false) ≡ false
    off true = refl
    off false = refl

-- where no file may have its name at an end
pub data Unnamed (names : Bool) (count : ℕ) (trouble : Option Trouble) : Type 0 where
  none_named : names ≡ false → Unnamed names count trouble
  undone : are_undone trouble ≡ true → Unnamed names count trouble
  no_payload : count ≡ 0 → trouble ≡ None → Unnamed names count trouble

zero_is : (n : ℕ) → (n == 0) ≡ true → n ≡ 0
zero_is zero is = refl
zero_is (suc n) is = absurd (true_false (sym is ∙ above n))

taken_left : (asked : Unpacking) (names : Bool) (count : ℕ) → is_left (end_of_taken asked true count) ≡ true → Unnamed names count None
taken_left asked names count left = by_case (count == 0) refl
  where
    by_case : (none : Bool) → (count == 0) ≡ none → Unnamed names count None
    by_case true is = no_payload (zero_is count is) refl
    by_case false is = absurd (true_false (sym left ∙ ap (λ (b : Bool). is_left (by_count asked true b)) is))

pub left_by : (asked : Unpacking) (unpacked : Result Unpacked Fault) (count : ℕ) (trouble : Option Trouble) (end : Ended) (old new : Option (List ℕ)) → Ends asked unpacked count trouble end old new → asked.keeps_good ≡ false → is_left end ≡ true
    → Unnamed (asked.keeps_good || is_whole unpacked) count trouble
left_by asked (Ok (Taken true)) count (Some trouble) end old new ends good left = undone (ap is_left (sym ends) ∙ left)
left_by asked (Ok (Taken true)) count None end old new ends good left = taken_left asked (asked.keeps_good || true) count (ap is_left (sym ends) ∙ left)
left_by asked (Ok (Taken false)) count trouble end old new ends good left = none_named (ap (λ (b : Bool). b || false) good)
left_by asked (Ok (Overlapping name)) count trouble end old new ends good left = none_named (ap (λ (b : Bool). b || false) good)
left_by asked (Err fault) count trouble end old new ends good left = none_named (ap (λ (b : Bool). b || false) good)

pub left_as : (folder : List ℕ) (old new : List Deed) (names given : Bool) (count : ℕ) (trouble : Option Trouble) → given ≡ names → Unnamed names count trouble
    → (given ≡ false → Leaves folder old new) → (are_undone trouble ≡ true → Leaves folder old new) → (count ≡ 0 → trouble ≡ None → Leaves folder old new) → Leaves folder old new
left_as folder old new names given count trouble is (none_named off) f g h = f (is ∙ off)
left_as folder old new names given count trouble is (undone e) f g h = g e
left_as folder old new names given count trouble is (no_payload empty none) f g h = h empty none

-- calls while files may get names, if they are asked for
pub obeys_if : (t : Terms) (names rest may : Bool) (old new : List Deed) → may ≡ (names && rest) → Obeys t may old new → Obeys t names old new
obeys_if t true rest may old new is does = obeys_naming t may old new does
obeys_if t false rest may old new is does = subst (λ (b : Bool). Obeys t b old new) is does
