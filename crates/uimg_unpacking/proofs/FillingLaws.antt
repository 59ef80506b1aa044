-- Files that were kept hold the payloads of the definition.
use Rattle.std.proofs.Common.{◌≡◌, ◌==◌, ◌&&◌, ◌||◌, ℕ, List, [], flat_map, length, Option, Some, None, is_some, Bool, true, false, if◌then◌else◌, refl, ap, sym, subst, ◌∙◌, true≢false}
use Rattle.std.specs.Prelude.{Result, Ok, Err}
use Rattle.std.specs.List.{list_all}
use Rattle.uimg_fit_base.specs.declared.fault.Fault.{Fault, TheVariants.{Blob, Fit, Read, Put}}
use Rattle.uimg_fit_base.specs.declared.fault.FitFault.TheVariants.{NoSuchImage}
use Rattle.uimg_fit_checking.specs.Unpacking.{Take, UnpackOutcome, Which, taken, overlaps, unpack_of, Unpacks}
use Rattle.uimg_fit_checking.specs.declared.unpacking.Unpacked.{Unpacked, TheVariants.{Taken, Overlapping}}
use Rattle.uimg_unpacking.specs.Contents.{differ, held_in}
use Rattle.uimg_world.specs.Deeds.{Deed}
use Rattle.uimg_unpacking.specs.Ends.{asked_which, chooses, end_of_taken, is_whole, Ends}
use Rattle.uimg_unpacking.specs.Filling.{names_of_kept, kept_bytes, takes_by, takes_of, are_kept, Holds, FillsIf, Fills}
use Rattle.uimg_unpacking.specs.FileNames.{is_file_name}
use Rattle.uimg_unpacking.specs.Given.{seen_of, with_contents}
use Rattle.uimg_unpacking.specs.declared.trouble.Trouble.{Trouble}
use Rattle.uimg_unpacking.specs.declared.unpacking.Ended.{Ended}
use Rattle.uimg_unpacking.specs.declared.unpacking.Ended.TheVariants.{Kept, Refused, NoImage, Stopped, Troubled}
use Rattle.uimg_unpacking.specs.declared.unpacking.Unpacking.{Unpacking}
use Rattle.uimg_unpacking.proofs.GivenLaws.{given_by}

-- files of the names of payloads, as they were noted, hold these contents
pub record HeldAs (folder : List ℕ) (noted : List Take) (contents : List (Option (List ℕ))) (calls : List Deed) : Type 0 where
  pub are_names : list_all is_file_name (names_of_kept [] noted) ≡ true
  pub apart : differ (names_of_kept [] noted) ≡ true
  pub hold : held_in folder calls (names_of_kept [] noted) ≡ contents

-- an end at which payloads are kept comes of names that were given
or_true : (a : Bool) → (a || true) ≡ true
or_true true = refl
or_true false = refl

or_false : (a : Bool) → a ≡ true → (a || false) ≡ true
or_false true is = refl
or_false false is = is

names_by : (asked : Unpacking) (none asks all : Bool) → are_kept asked (if none then Stopped (Fit NoSuchImage) else if asks then NoImage else if all then Kept else Refused) ≡ true → (asked.keeps_good || all) ≡ true
names_by asked true asks all is = absurd (true≢false (sym is))
names_by asked false true all is = absurd (true≢false (sym is))
names_by asked false false true is = or_true asked.keeps_good
names_by asked false false false is = or_false asked.keeps_good is

pub named_at : (asked : Unpacking) (all : Bool) (count : ℕ) → are_kept asked (end_of_taken asked all count) ≡ true → (asked.keeps_good || all) ≡ true
named_at asked all count is = names_by asked (count == 0 && chooses asked) (count == 0 && is_some asked.need) all is

filled_by : (folder : List ℕ) (noted : List Take) (contents : List (Option (List ℕ))) (takes : List Take) (calls : List Deed) → length contents ≡ length (kept_bytes noted) → with_contents noted contents ≡ flat_map seen_of takes → HeldAs folder noted contents calls → Holds folder takes calls
filled_by folder noted contents takes calls same is holds =
    let by = given_by [] noted contents takes same is in
    record {
      are_names = ap (list_all is_file_name) (sym by.0) ∙ holds.are_names;
      apart = ap differ (sym by.0) ∙ holds.apart;
      hold = ap (held_in folder calls) (sym by.0) ∙ holds.hold ∙ by.1;
    }

not_kept : {P : Type 0} (asked : Unpacking) (end other : Ended) → end ≡ other → are_kept asked other ≡ false → are_kept asked end ≡ true → P
not_kept asked end other is bad good = absurd (true≢false (sym good ∙ ap (are_kept asked) is ∙ bad))

by_result : (asked : Unpacking) (told : Result UnpackOutcome Fault) (r : Result Unpacked Fault) (count : ℕ) (trouble : Option Trouble) (end : Ended) (old new : Option (List ℕ)) (noted : List Take) (contents : List (Option (List ℕ))) (takes : List Take) (calls : List Deed)
    → Unpacks seen_of r told [] takes → takes ≡ with_contents noted contents → length contents ≡ length (kept_bytes noted) → Ends asked r count trouble end old new
    → ((asked.keeps_good || is_whole r) ≡ true → trouble ≡ None → HeldAs asked.folder.path.now noted contents calls)
    → are_kept asked end ≡ true → FillsIf asked.folder.path.now (takes_by told) calls
by_result asked told (Ok (Taken all)) count (Some trouble) end old new noted contents takes calls unpacks are same is holds good = not_kept asked end (Troubled trouble) is refl good
by_result asked (Ok (taken ts)) (Ok (Taken all)) count None end old new noted contents takes calls unpacks are same is holds good =
    filled_by asked.folder.path.now noted contents ts calls same (sym are ∙ unpacks.0) (holds (named_at asked all count (sym (ap (are_kept asked) is) ∙ good)) refl)
by_result asked (Ok (overlaps name)) (Ok (Taken all)) count None end old new noted contents takes calls unpacks are same is holds good = tt
by_result asked (Err fault) (Ok (Taken all)) count None end old new noted contents takes calls unpacks are same is holds good = tt
by_result asked (Ok (taken ts)) (Ok (Overlapping name)) count trouble end old new noted contents takes calls unpacks are same is holds good = absurd unpacks
by_result asked (Ok (overlaps its)) (Ok (Overlapping name)) count trouble end old new noted contents takes calls unpacks are same is holds good = tt
by_result asked (Err fault) (Ok (Overlapping name)) count trouble end old new noted contents takes calls unpacks are same is holds good = tt
by_result asked told (Err (Blob fault at)) count trouble end old new noted contents takes calls unpacks are same is holds good = not_kept asked end (Stopped (Blob fault at)) is refl good
by_result asked told (Err (Fit fault)) count trouble end old new noted contents takes calls unpacks are same is holds good = not_kept asked end (Stopped (Fit fault)) is refl good
by_result asked told (Err Read) count trouble end old new noted contents takes calls unpacks are same is holds good = not_kept asked end (Stopped Read) is refl good
by_result asked told (Err Put) count (Some trouble) end old new noted contents takes calls unpacks are same is holds good = not_kept asked end (Troubled trouble) is refl good
by_result asked told (Err Put) count None end old new noted contents takes calls unpacks are same is holds good = not_kept asked end _ is refl good

-- the same for the requested name
pub fills : (asked : Unpacking) (file : List ℕ) (only : Which) (r : Result Unpacked Fault) (count : ℕ) (trouble : Option Trouble) (end : Ended) (old new : Option (List ℕ)) (folder : List ℕ) (noted : List Take) (contents : List (Option (List ℕ))) (before takes : List Take) (calls : List Deed)
    → Some only ≡ asked_which asked → before ≡ [] → folder ≡ asked.folder.path.now
    → Unpacks seen_of r (unpack_of asked.need only file) before takes → takes ≡ with_contents noted contents → length contents ≡ length (kept_bytes noted) → Ends asked r count trouble end old new
    → ((asked.keeps_good || is_whole r) ≡ true → trouble ≡ None → HeldAs folder noted contents calls)
    → Fills asked file end calls
fills asked file only r count trouble end old new folder noted contents before takes calls named none at unpacks are same is holds good =
    subst (λ (o : Option Which). FillsIf asked.folder.path.now (takes_of asked o file) calls) named
    (by_result asked (unpack_of asked.need only file) r count trouble end old new noted contents takes calls
    (subst (λ (b : List Take). Unpacks seen_of r (unpack_of asked.need only file) b takes) none unpacks) are same is
    (λ names no. subst (λ (f : List ℕ). HeldAs f noted contents calls) at (holds names no)) good)
