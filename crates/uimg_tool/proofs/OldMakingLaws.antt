-- What the making of an image by the names of mkimage asks of a world, and its status.
use Rattle.std.proofs.Common.{◌≡◌, ℕ, ◌≤◌, List, ◌∷◌, Bool, false, true, Result, Ok, Err, ◌⊎◌, inl, inr, ap, refl, subst, sym, ◌∙◌, string_bytes, true≢false}
use Rattle.std.specs.{Prelude.{IfOk, IfSome, Option, Some, None, [], is_err, is_ok}, declared.io.Error.Error}
use Rattle.std.specs.Borrow.{Bor}
use Rattle.uimg_base.specs.declared.status.Status.{Status}
use Rattle.uimg_requests.specs.declared.requests.MakeRequest.{MakeRequest}
use Rattle.uimg_tool.proofs.DrawingLaws.{writes_as}
use Rattle.uimg_tool.specs.{BesidePaths.{Finishes, incomplete, named, not_named}, Finishing.FinishesBy}
use Rattle.uimg_tool.specs.OldMakings.{Begins, FinishesMade, LendsAt, MakesFor, MakesWithin, Named, beside_it, in_place, no_memory, to_pipe, uncreated}
use Rattle.uimg_tool.specs.{RequestEnds.{MakeEnds, TreeEnds}, Statuses.end_status}
use Rattle.uimg_tool.specs.Writings.{WritesFor}
use Rattle.uimg_tool.specs.declared.request_fault.RequestFault.{RequestFault}
use Rattle.uimg_tool.specs.declared.safe_path.{SafePath.SafePath, Writing.Writing}
use Rattle.uimg_tool.specs.declared.safe_path.Writing.TheVariants as writing
use Rattle.uimg_world.specs.Deeds.{Deed, LendsShelf, Removes, Renames, changes}
use Rattle.uimg_world.specs.declared.call.Answer.{Answer}
use Rattle.uimg_world.specs.declared.call.Answer.TheVariants.{Done}
use Rattle.uimg_unpacking.specs.Naming.{is_done}

begins_as : {F : Type 0} (path : List ℕ) (one two : Result (Option (F × SafePath)) ℕ) (before after : List Deed) → one ≡ two → Begins path one before after → Begins path two before after
begins_as path one two before after is = subst (λ (r : Result (Option (_ × SafePath)) ℕ). Begins path r before after) is

pub made_beside : {F : Type 0} (path : List ℕ) (status : ℕ) (begun : Result (Option (F × SafePath)) ℕ) (new : F × SafePath) (before opened after : List Deed) → begun ≡ Ok (Some new)
    → Begins path begun before opened → FinishesMade new.1 status opened after → MakesFor path status before after
made_beside path status begun new before opened after is begins finishes =
    let b = begins_as path begun (Ok (Some new)) before opened is begins in
    beside_it new.1 b.0 opened b.1 b.2 finishes

-- nothing is in the new file
pub begun_empty : {F : Type 0} (contents : F → Option (List ℕ)) (begun : Result (Option (F × SafePath)) ℕ) (new : F × SafePath) → begun ≡ Ok (Some new)
    → IfOk begun (λ b. IfSome b (λ n. contents n.0 ≡ Some [])) → contents new.0 ≡ Some []
begun_empty contents begun new is = subst (λ (r : Result (Option (_ × SafePath)) ℕ). IfOk r (λ b. IfSome b (λ n. contents n.0 ≡ Some []))) is

-- A file that is removed did not get its name.
abbrev is_removal : List Deed → Bool
is_removal (Removes path answer ∷ trace) = true
is_removal trace = false

not_both : (path : SafePath) (made after : List Deed) → FinishesBy path false made after → Named path made after → ⊥
not_both path made after (answer, ended, named complete done is, kept) got = true≢false (sym complete)
not_both path made after (answer, ended, not_named removed complete undone is, kept) got = true≢false (sym complete)
not_both path made after (answer, ended, incomplete unfinished is, kept) got = true≢false (ap is_removal (sym (kept ∙ ap changes is) ∙ got))

pub made_is_done : (asked : MakeRequest) (end : Result Status RequestFault) → MakeEnds asked end → is_ok end ≡ true → end_status end ≡ 0
made_is_done asked (Ok status) ends ok = ap (λ (s : Status). end_status (Ok s)) ends
made_is_done asked (Err fault) ends ok = absurd (true≢false (sym ok))

pub tree_is_done : (image : Bor (List ℕ)) (end : Result Status RequestFault) → TreeEnds image end → is_ok end ≡ true → end_status end ≡ 0
tree_is_done image (Ok status) ends ok = ap (λ (s : Status). end_status (Ok s)) ends
tree_is_done image (Err fault) ends ok = absurd (true≢false (sym ok))

done_or_failed : (status end : ℕ) → end ≡ 0 → (status ≡ 3) ⊎ (status ≡ end) → (status ≡ 0) ⊎ (status ≡ 3)
done_or_failed status end done (inl failed) = inr failed
done_or_failed status end done (inr is) = inl (is ∙ done)

pub finishes_made : (path : SafePath) (status : ℕ) (end : Result Status RequestFault) (before made after : List Deed) → LendsAt (string_bytes path.new) (is_err end) before made
    → FinishesBy path (is_ok end) made after → (status ≡ 0 → Named path made after) → (is_ok end ≡ true → end_status end ≡ 0) → (status ≡ 3) ⊎ (status ≡ end_status end)
    → FinishesMade path status before after
finishes_made path status (Ok value) before made after (inl failed) finishes done is_done told = absurd (true≢false (sym failed.0))
finishes_made path status (Ok value) before made after (inr lent) finishes done is_done told = record {
  is_complete = true;
  made = made;
  lent = inr lent;
  finishes = finishes;
  done = λ none. done none ∙ ap (λ (t : List Deed). Renames (string_bytes path.new) (string_bytes path.whole) Done ∷ t) lent;
  complete = λ ok. done_or_failed status (end_status (Ok value)) (is_done refl) told;
}
finishes_made path status (Err fault) before made after lent finishes done is_done told = record {
  is_complete = false;
  made = made;
  lent = lent;
  finishes = finishes;
  done = λ none. absurd (not_both path made after finishes (done none));
  complete = λ ok. absurd (true≢false (sym ok));
}

lends_kept : (path : List ℕ) (status : ℕ) (has_failed : Bool) (before made after : List Deed) → (has_failed ≡ true → 1 ≤ status) → LendsAt path has_failed before made → changes after ≡ changes made
    → ((1 ≤ status) × (changes after ≡ changes before)) ⊎ (changes after ≡ LendsShelf path ∷ changes before)
lends_kept path status has_failed before made after fails (inl same) kept = inl (fails same.0, kept ∙ same.1)
lends_kept path status has_failed before made after fails (inr lent) kept = inr (kept ∙ lent)

pub made_in_place : {F : Type 0} (path : List ℕ) (status : ℕ) (has_failed : Bool) (begun : Result (Option (F × SafePath)) ℕ) (before seen made after : List Deed) → begun ≡ Ok None
    → Begins path begun before seen → (has_failed ≡ true → 1 ≤ status) → LendsAt path has_failed seen made → changes after ≡ changes made → MakesFor path status before after
made_in_place path status has_failed begun before seen made after is begins fails lends kept =
    in_place seen (begins_as path begun (Ok None) before seen is begins) (lends_kept path status has_failed seen made after fails lends kept)

-- what exists there is not written to
pub left_in_place : {F : Type 0} (path : List ℕ) (status : ℕ) (begun : Result (Option (F × SafePath)) ℕ) (before after : List Deed) → begun ≡ Ok None
    → Begins path begun before after → 1 ≤ status → MakesFor path status before after
left_in_place path status begun before after is begins fails =
    in_place after (begins_as path begun (Ok None) before after is begins) (inl (fails, refl))

pub not_to_pipe : {F Z : Type 0} (path : List ℕ) (status : ℕ) (result : Result (Writing F) Z) (before after : List Deed) → result ≡ Ok writing.Pipe
    → WritesFor path result before after → 1 ≤ status → MakesFor path status before after
not_to_pipe path status result before after is writes fails = to_pipe fails (writes_as path result (Ok writing.Pipe) before after is writes)

pub not_created : {F Z : Type 0} (path : List ℕ) (status : ℕ) (result : Result (Writing F) Z) (reason : Error) (before after : List Deed) → result ≡ Ok (writing.Nowhere reason)
    → WritesFor path result before after → 1 ≤ status → MakesFor path status before after
not_created path status result reason before after is writes fails =
    let w = writes_as path result (Ok (writing.Nowhere reason)) before after is writes in uncreated w.0 w.1 fails w.2 w.3

pub not_begun : {F Z : Type 0} (path : List ℕ) (status : ℕ) (result : Result (Writing F) Z) (refused : Z) (before after : List Deed) → result ≡ Err refused
    → WritesFor path result before after → 1 ≤ status → MakesFor path status before after
not_begun path status result refused before after is writes fails =
    let w = writes_as path result (Err refused) before after is writes in no_memory w.0 w.1 fails w.2 w.3

-- after calls that change no file
pub within : (one path : List ℕ) (status : ℕ) (before seen after : List Deed) → one ≡ path → changes seen ≡ changes before → MakesFor one status seen after → MakesWithin path status before after
within one path status before seen after is kept makes = inr (seen, kept, subst (λ (p : List ℕ). MakesFor p status seen after) is makes)

pub within_more : (one path : List ℕ) (status : ℕ) (before seen after : List Deed) → one ≡ path → changes seen ≡ changes before → MakesWithin one status seen after → MakesWithin path status before after
within_more one path status before seen after is kept (inl same) = inl (same.0, same.1 ∙ kept)
within_more one path status before seen after is kept (inr made) = inr (made.0, made.1 ∙ kept, subst (λ (p : List ℕ). MakesFor p status made.0 after) is made.2)

-- a file that was begun ends by whether its making did
pub ends_named : {T E : Type 0} (path : SafePath) (end : Result T E) (answer : Answer) (before ended after : List Deed) → is_err end ≡ false
    → Finishes (string_bytes path.new) (string_bytes path.whole) true answer before ended → changes after ≡ changes ended → FinishesBy path (is_ok end) before after
ends_named path (Ok value) answer before ended after is finishes kept = (answer, ended, finishes, kept)
ends_named path (Err fault) answer before ended after is finishes kept = absurd (true≢false is)
