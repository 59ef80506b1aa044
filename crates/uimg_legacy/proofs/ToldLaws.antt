-- What takers are told, step by step.
use Rattle.std.proofs.Common.{◌≡◌, ◌≤◌, ◌<◌, ◌∙◌, ◌+◌, ◌-◌, ◌++◌, ℕ, zero, suc, List, [], ◌∷◌, Bool, true, false, IsTrue, Option, Some, None, refl, ap, sym, subst, arith}
use Rattle.std.specs.Prelude.{Result, Ok, Err, is_err, nat_lt}
use Rattle.std.proofs.lemmas.List.{append_assoc, append-nil}
use Rattle.std.proofs.lemmas.Bool.{ltb-true}
use Rattle.uimg_legacy.proofs.DataLaws.{asked_first}
use Rattle.uimg_legacy.specs.{Faults.is_refused, Unpacking.{is_part_asked, is_there}}
use Rattle.uimg_legacy.specs.Told.{Deed, Deed.Claimed, ToldBetween, RefusesPart, claims, claims_to, takes_if, takes_to, taking, settling}
use Rattle.uimg_legacy.specs.Told.{TellsDeeds, TellsDataBetween, TellsEnd, TellsAllBetween}
use Rattle.uimg_legacy.specs.declared.fault.LegacyFault.{LegacyFault}
use Rattle.uimg_legacy.specs.declared.fault.LegacyFault.TheVariants as of
use Rattle.uimg_legacy.specs.declared.fault.Fault.{Fault, TheVariants.{Legacy, Read, Put}}

-- nothing was told before something failed
pub told_none : (deeds old new : List Deed) → new ≡ old → ToldBetween true deeds old new
told_none deeds old new same = record {
  some = [];
  rest = deeds;
  told = same ∙ sym (append-nil old);
  part = refl;
  whole = λ e. let no : true ≡ false = e in cc;
}

-- all was told
pub told_all : (failed : Bool) (deeds old new : List Deed) → new ≡ old ++ deeds → ToldBetween failed deeds old new
told_all failed deeds old new e = record {
  some = deeds;
  rest = [];
  told = e;
  part = sym (append-nil deeds);
  whole = λ known. refl;
}

-- all that was told, if nothing failed
pub told_whole : (deeds old new : List Deed) → ToldBetween false deeds old new → new ≡ old ++ deeds
told_whole deeds old new t =
    t.told ∙ ap (λ (xs : List Deed). old ++ xs) (sym (append-nil t.some) ∙ ap (λ (xs : List Deed). t.some ++ xs) (sym (t.whole refl)) ∙ sym t.part)

-- more is told after some
pub told_more : (failed : Bool) (first next old middle new : List Deed) → middle ≡ old ++ first → ToldBetween failed next middle new → ToldBetween failed (first ++ next) old new
told_more failed first next old middle new e t = record {
  some = first ++ t.some;
  rest = t.rest;
  told = t.told ∙ ap (λ (xs : List Deed). xs ++ t.some) e ∙ append_assoc old first t.some;
  part = ap (λ (xs : List Deed). first ++ xs) t.part ∙ sym (append_assoc first t.some t.rest);
  whole = t.whole;
}

-- what fails in the first part fails in the whole
pub told_before : (first next old new : List Deed) → ToldBetween true first old new → ToldBetween true (first ++ next) old new
told_before first next old new t = record {
  some = t.some;
  rest = t.rest ++ next;
  told = t.told;
  part = ap (λ (xs : List Deed). xs ++ next) t.part ∙ append_assoc t.some t.rest next;
  whole = λ e. let no : true ≡ false = e in cc;
}

-- deeds that begin with others
pub record Begins (deeds first : List Deed) : Type 0 where
  pub rest : List Deed
  pub is : deeds ≡ first ++ rest

pub told_within : (deeds first old new : List Deed) → Begins deeds first → ToldBetween true first old new → ToldBetween true deeds old new
told_within deeds first old new b t =
    subst (λ (xs : List Deed). ToldBetween true xs old new) (sym b.is) (told_before first b.rest old new t)

-- nothing is told where nothing is to be told
pub told_nothing : (failed : Bool) (old new : List Deed) → new ≡ old → ToldBetween failed [] old new
told_nothing failed old new same = told_all failed [] old new (same ∙ sym (append-nil old))

-- no part is claimed at first, and then one more
pub claims_none : (old : List Deed) → old ≡ old ++ claims_to 0
unfolding claims_to
claims_none old = sym (append-nil old)

pub claims_more : (number : ℕ) (old middle new : List Deed) → middle ≡ old ++ claims_to number → new ≡ middle ++ Claimed number ∷ [] → new ≡ old ++ claims_to (number + 1)
unfolding claims_to
claims_more number old middle new first last =
    let next : suc number ≡ number + 1 = omega arith in
    subst (λ (n : ℕ). new ≡ old ++ claims_to n) next (last ∙ ap (λ (xs : List Deed). xs ++ Claimed number ∷ []) first ∙ append_assoc old (claims_to number) (Claimed number ∷ []))

-- the claims of some parts are the first of those of more
claims_after : (few more : ℕ) → Begins (claims_to (more + few)) (claims_to few)
unfolding claims_to
claims_after few zero =
    let none : 0 + few ≡ few = omega arith in
    record { rest = []; is = ap claims_to none ∙ sym (append-nil (claims_to few)) }
claims_after few (suc more) =
    let b = claims_after few more in
    let next : suc more + few ≡ suc (more + few) = omega arith in
    record {
      rest = b.rest ++ Claimed (more + few) ∷ [];
      is = ap claims_to next ∙ ap (λ (xs : List Deed). xs ++ Claimed (more + few) ∷ []) b.is ∙ append_assoc (claims_to few) b.rest (Claimed (more + few) ∷ []);
    }

-- a claim fails
pub claims_fail : {X E : Type 0} (result : Result X E) (only : Option ℕ) (number count : ℕ) (old middle new : List Deed) → is_err result ≡ true → only ≡ None → number < count → middle ≡ old ++ claims_to number → new ≡ middle ++ Claimed number ∷ [] → ToldBetween (is_err result) (claims only count) old new
claims_fail {X} {E} result only number count old middle new failed all there first last =
    let few : count - (number + 1) + (number + 1) ≡ count = omega (arith, there) in
    let begins = subst (λ (n : ℕ). Begins (claims_to n) (claims_to (number + 1))) few (claims_after (number + 1) (count - (number + 1))) in
    let told = told_within (claims_to count) (claims_to (number + 1)) old new begins (told_all true (claims_to (number + 1)) old new (claims_more number old middle new first last)) in
    subst (λ (b : Bool). ToldBetween b (claims only count) old new) (sym failed) (subst (λ (o : Option ℕ). ToldBetween true (claims o count) old new) (sym all) told)

-- no part is taken at first, and then one more
pub takes_none : (only : Option ℕ) (old : List Deed) → old ≡ old ++ takes_to only 0
unfolding takes_to
takes_none only old = sym (append-nil old)

takes_next : (only : Option ℕ) (number : ℕ) (old middle new : List Deed) → middle ≡ old ++ takes_to only number → new ≡ middle ++ takes_if (is_part_asked only number) number → new ≡ old ++ takes_to only (suc number)
unfolding takes_to
takes_next only number old middle new first last =
    let deeds = takes_if (is_part_asked only number) number in
    last ∙ ap (λ (xs : List Deed). xs ++ deeds) first ∙ append_assoc old (takes_to only number) deeds

pub takes_more : (only : Option ℕ) (number : ℕ) (old middle new : List Deed) → middle ≡ old ++ takes_to only number → ToldBetween false (takes_if (is_part_asked only number) number) middle new → new ≡ old ++ takes_to only (number + 1)
takes_more only number old middle new first last =
    let next : suc number ≡ number + 1 = omega arith in
    subst (λ (n : ℕ). new ≡ old ++ takes_to only n) next (takes_next only number old middle new first (told_whole _ middle new last))

-- what is told of some parts is the first of what is told of more
takes_after : (only : Option ℕ) (few more : ℕ) → Begins (takes_to only (more + few)) (takes_to only few)
unfolding takes_to
takes_after only few zero =
    let none : 0 + few ≡ few = omega arith in
    record { rest = []; is = ap (takes_to only) none ∙ sym (append-nil (takes_to only few)) }
takes_after only few (suc more) =
    let b = takes_after only few more in
    let next : suc more + few ≡ suc (more + few) = omega arith in
    let deeds = takes_if (is_part_asked only (more + few)) (more + few) in
    record {
      rest = b.rest ++ deeds;
      is = ap (takes_to only) next ∙ ap (λ (xs : List Deed). xs ++ deeds) b.is ∙ append_assoc (takes_to only few) b.rest deeds;
    }

takes_through : (only : Option ℕ) (number : ℕ) (old middle new : List Deed) → middle ≡ old ++ takes_to only number → ToldBetween true (takes_if (is_part_asked only number) number) middle new → ToldBetween true (takes_to only (suc number)) old new
unfolding takes_to
takes_through only number old middle new first last =
    told_more true (takes_to only number) (takes_if (is_part_asked only number) number) old middle new first last

-- the taking of a part fails
pub takes_fail : {X E : Type 0} (result : Result X E) (only : Option ℕ) (number count : ℕ) (old middle new : List Deed) → is_err result ≡ true → number < count → middle ≡ old ++ takes_to only number → ToldBetween true (takes_if (is_part_asked only number) number) middle new → ToldBetween (is_err result) (takes_to only count) old new
takes_fail {X} {E} result only number count old middle new failed there first last =
    let few : count - suc number + suc number ≡ count = omega (arith, there) in
    let begins = subst (λ (n : ℕ). Begins (takes_to only n) (takes_to only (suc number))) few (takes_after only (suc number) (count - suc number)) in
    subst (λ (b : Bool). ToldBetween b (takes_to only count) old new) (sym failed)
    (told_within (takes_to only count) (takes_to only (suc number)) old new begins (takes_through only number old middle new first last))

-- a failure that is no refusal is none at a part
pub refuses_none : {X : Type 0} (result : Result X Fault) → is_refused result ≡ false → RefusesPart result
refuses_none {X} (Ok x) e = tt
refuses_none {X} (Err (Legacy fault)) e = let no : true ≡ false = e in cc
refuses_none {X} (Err Read) e = tt
refuses_none {X} (Err Put) e = tt

-- an image of one part: that is claimed and taken
whole_claims : (only : Option ℕ) → is_there only 1 ≡ true → claims only 1 ≡ Claimed 0 ∷ []
unfolding claims_to
whole_claims None there = refl
whole_claims (Some n) there =
    let none : n ≡ 0 = omega (arith, ltb-true n 1 there) in
    ap (λ (k : ℕ). Claimed k ∷ []) none

whole_takes : (only : Option ℕ) → is_there only 1 ≡ true → takes_to only 1 ≡ takes_if true 0
unfolding takes_to
whole_takes only there = ap (λ (asked : Bool). takes_if asked 0) (asked_first only there)

pub whole_unclaimed : (only : Option ℕ) (old new : List Deed) → is_there only 1 ≡ true → new ≡ old ++ Claimed 0 ∷ [] → ToldBetween true (taking only 1) old new
whole_unclaimed only old new there told =
    told_before (claims only 1) (takes_to only 1) old new (told_all true (claims only 1) old new (told ∙ ap (λ (xs : List Deed). old ++ xs) (sym (whole_claims only there))))

pub whole_taken : (failed : Bool) (only : Option ℕ) (old middle new : List Deed) → is_there only 1 ≡ true → middle ≡ old ++ Claimed 0 ∷ [] → ToldBetween failed (takes_if true 0) middle new → ToldBetween failed (taking only 1) old new
whole_taken failed only old middle new there claimed told =
    told_more failed (claims only 1) (takes_to only 1) old middle new (claimed ∙ ap (λ (xs : List Deed). old ++ xs) (sym (whole_claims only there)))
    (subst (λ (xs : List Deed). ToldBetween failed xs middle new) (sym (whole_takes only there)) told)

-- what is told at a fault of a part
tells_at : (X : Type 0) (only : Option ℕ) (count : ℕ) (fault : Fault) (old new : List Deed) → RefusesPart {X = X} (Err fault) → ToldBetween true (taking only count) old new → TellsDeeds only count (Err fault) old new
tells_at X only count (Legacy of.PartOutside) old new at_part told = told
tells_at X only count (Legacy of.BadDataCrc) old new at_part told = told
tells_at X only count (Legacy of.TooShort) old new at_part told = absurd at_part
tells_at X only count (Legacy of.BadMagic) old new at_part told = absurd at_part
tells_at X only count (Legacy of.BadHeaderCrc) old new at_part told = absurd at_part
tells_at X only count (Legacy of.Truncated) old new at_part told = absurd at_part
tells_at X only count (Legacy of.NoTableEnd) old new at_part told = absurd at_part
tells_at X only count (Legacy of.NoSuchPart) old new at_part told = absurd at_part
tells_at X only count (Legacy of.EmptyPart) old new at_part told = absurd at_part
tells_at X only count (Legacy of.TooLarge) old new at_part told = absurd at_part
tells_at X only count Read old new at_part told = told
tells_at X only count Put old new at_part told = told

pub tells_part : (X : Type 0) (only : Option ℕ) (count : ℕ) (result : Result Bool Fault) (fault : Fault) (old new : List Deed) → result ≡ Err fault → RefusesPart {X = X} (Err fault) → ToldBetween true (taking only count) old new → TellsDataBetween only result old new
tells_part X only count result fault old new is at_part told = record {
  count = count;
  told = subst (λ (r : Result Bool Fault). TellsDeeds only count r old new) (sym is) (tells_at X only count fault old new at_part told);
}

-- nothing is told before
tells_none : (only : Option ℕ) (count : ℕ) (fault : Fault) (old new : List Deed) → new ≡ old → TellsDeeds only count (Err fault) old new
tells_none only count (Legacy of.PartOutside) old new same = told_none (taking only count) old new same
tells_none only count (Legacy of.BadDataCrc) old new same = told_none (taking only count) old new same
tells_none only count (Legacy of.TooShort) old new same = same
tells_none only count (Legacy of.BadMagic) old new same = same
tells_none only count (Legacy of.BadHeaderCrc) old new same = same
tells_none only count (Legacy of.Truncated) old new same = same
tells_none only count (Legacy of.NoTableEnd) old new same = same
tells_none only count (Legacy of.NoSuchPart) old new same = same
tells_none only count (Legacy of.EmptyPart) old new same = same
tells_none only count (Legacy of.TooLarge) old new same = same
tells_none only count Read old new same = told_none (taking only count) old new same
tells_none only count Put old new same = told_none (taking only count) old new same

ends_at : (only : Option ℕ) (count dcrc : ℕ) (right : Bool) (fault : Fault) (old new : List Deed) → TellsDeeds only count (Err fault) old new → TellsEnd only count dcrc right (Err fault) old new
ends_at only count dcrc right (Legacy fault) old new told = told
ends_at only count dcrc right Read old new told = told
ends_at only count dcrc right Put old new told = told_before (taking only count) (settling right dcrc) old new told

-- the whole ends with a fault of the data, or before that
pub ends_by : (only : Option ℕ) (result : Result Bool Fault) (fault : Fault) (old new : List Deed) → result ≡ Err fault → TellsDataBetween only (Err fault) old new → TellsAllBetween only result old new
ends_by only result fault old new is told = record {
  count = told.count;
  dcrc = 0;
  right = true;
  told = subst (λ (r : Result Bool Fault). TellsEnd only told.count 0 true r old new) (sym is) (ends_at only told.count 0 true fault old new told.told);
}

pub ends_before : (only : Option ℕ) (result : Result Bool Fault) (fault : Fault) (old new : List Deed) → result ≡ Err fault → new ≡ old → TellsAllBetween only result old new
ends_before only result fault old new is same = ends_by only result fault old new is (record { count = 0; told = tells_none only 0 fault old new same })

-- the end itself fails, or is told
pub ends_untold : (only : Option ℕ) (dcrc : ℕ) (right was : Bool) (result : Result Bool Fault) (old middle new : List Deed) → result ≡ Err Put → TellsDataBetween only (Ok was) old middle → ToldBetween true (settling right dcrc) middle new → TellsAllBetween only result old new
ends_untold only dcrc right was result old middle new is taken told = record {
  count = taken.count;
  dcrc = dcrc;
  right = right;
  told = subst (λ (r : Result Bool Fault). TellsEnd only taken.count dcrc right r old new) (sym is) (told_more true (taking only taken.count) (settling right dcrc) old middle new taken.told told);
}

pub ends_told : (only : Option ℕ) (dcrc : ℕ) (right was kept : Bool) (old middle new : List Deed) → kept ≡ right → TellsDataBetween only (Ok was) old middle → ToldBetween false (settling right dcrc) middle new → TellsAllBetween only (Ok kept) old new
ends_told only dcrc right was kept old middle new is taken told = record {
  count = taken.count;
  dcrc = dcrc;
  right = right;
  told = (is, told_whole (taking only taken.count ++ settling right dcrc) old new (told_more false (taking only taken.count) (settling right dcrc) old middle new taken.told told));
}
