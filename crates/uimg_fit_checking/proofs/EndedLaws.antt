-- How unpacking ends, whatever its taker does.
use Rattle.std.proofs.Common.{◌≡◌, ℕ, List, [], ◌∷◌, ◌++◌, length, Option, Some, None, Bool, true, false, ◌&&◌, ◌||◌, refl, ap, sym, ◌∙◌, subst}
use Rattle.std.specs.Prelude.{Result, Ok, Err, is_ok, if◌then◌else◌, flat_map}
use Rattle.std.specs.List.{list_all}
use Rattle.std.specs.Option.{option_map}
use Rattle.std.proofs.Math.Bool.{and-true}
use Rattle.std.proofs.lemmas.List.{append_assoc, append-nil}
use Rattle.std.proofs.lemmas.List.Concat.{flat_map-append}
use Rattle.std.proofs.lemmas.List.Folds.{list_all-append}
use Rattle.uimg_sums.specs.declared.algo.Algo.{Algo}
use Rattle.uimg_blob_reading.specs.Grammar.{Siblings}
use Rattle.uimg_blob_reading.specs.LookUps.{NodeOf, hashes}
use Rattle.uimg_blob_reading.specs.Roles.{in_images}
use Rattle.uimg_blob_reading.proofs.PhaseLaws.{true_false}
use Rattle.uimg_blob_reading.specs.Spots.{Spot}
use Rattle.uimg_fit_base.specs.declared.fault.Fault.{Fault}
use Rattle.uimg_fit_base.specs.declared.fault.Fault.TheVariants as of
use Rattle.uimg_fit_base.specs.declared.fault.FitFault.{FitFault}
use Rattle.uimg_fit_base.specs.Places.{payload}
use Rattle.uimg_fit_reading.specs.Nodes.{AreFrom}
use Rattle.uimg_fit_checking.specs.declared.unpacking.Unpacked.{Unpacked}
use Rattle.uimg_fit_checking.specs.declared.unpacking.Unpacked.TheVariants.{Taken, Overlapping}
use Rattle.uimg_fit_checking.specs.declared.unpacking.node_names.NodeName.{NodeName}
use Rattle.uimg_fit_checking.specs.declared.unpacking.taker.Refusal.{Refusal}
use Rattle.uimg_fit_checking.specs.Checks.{NamedFinding, wrong_in, or_weak}
use Rattle.uimg_fit_checking.specs.Unpacking.{Take, UnpackOutcome, taken, overlaps, take_by, take_of, told_of, is_asked, bytes_or_none, is_kept, is_any, takes, overlapping, told_or_fault, as_bytes, EndsAs, GivesBy, Which}
use Rattle.uimg_fit_checking.specs.UnpackingParts.{TellsFound, ClaimsAll, EndsImage, EndsAll}
use Rattle.uimg_fit_checking.proofs.ClaimLaws.{fits_first}
use Rattle.uimg_fit_checking.proofs.TakeLaws.{takes_more, no_takes}
use Rattle.uimg_fit_reading.proofs.ImageLaws.{none_left}

-- a payload is kept if no refusal was found, else not
pub is_right : (need : Option Algo) (image : NodeOf Spot) (message : List ℕ) → None ≡ or_weak (wrong_in image.name message (hashes image)) need image → true ≡ is_kept (take_of need image message)
is_right need image message told = ap (λ (o : Option NamedFinding). is_kept (take_by image message o)) told

pub is_wrong : (need : Option Algo) (image : NodeOf Spot) (message : List ℕ) (refusal : Refusal) → Some (told_of image.name refusal) ≡ or_weak (wrong_in image.name message (hashes image)) need image
    → false ≡ is_kept (take_of need image message)
is_wrong need image message refusal told = ap (λ (o : Option NamedFinding). is_kept (take_by image message o)) told

-- an image that is not asked for
pub ends_skipped : (file : List ℕ) (only : Which) (one : Take) (image : NodeOf Spot) (begun : Bool) → is_asked only image.name ≡ false → EndsImage (is_asked only image.name) one (Ok true) (payload file image) begun begun
ends_skipped file only one image begun is = (sym (ap (λ (b : Bool). if b then is_kept one else true) is), sym (ap (λ (b : Bool). b || begun) is))

-- one whose payload is not there, or was not found
lacks_it : (file : List ℕ) (only : Which) (one : Take) (image : NodeOf Spot) (fault : Fault) (old new : Bool) → TellsFound only file image (Err fault) → EndsImage (is_asked only image.name) one (Err fault) (payload file image) old new
lacks_it file only one image (of.Blob fault at) old new tells = absurd tells
lacks_it file only one image (of.Fit fault) old new tells = tells
lacks_it file only one image of.Read old new tells = tt
lacks_it file only one image of.Put old new tells = tt

pub ends_lacking : (file : List ℕ) (only : Which) (one : Take) (image : NodeOf Spot) (fault : Fault) (r : Result Bool Fault) (old new : Bool) → r ≡ Err fault → TellsFound only file image (Err fault)
    → EndsImage (is_asked only image.name) one r (payload file image) old new
ends_lacking file only one image fault r old new is tells = subst (λ (x : Result Bool Fault). EndsImage (is_asked only image.name) one x (payload file image) old new) (sym is) (lacks_it file only one image fault old new tells)

-- one whose payload is there
pub ends_there : (file : List ℕ) (only : Which) (need : Option Algo) (image : NodeOf Spot) (message : List ℕ) (r : Result Bool Fault) (old new : Bool) → is_asked only image.name ≡ true → payload file image ≡ Ok message
    → EndsImage true (take_of need image message) r (Ok message) old new
    → EndsImage (is_asked only image.name) (take_of need image (bytes_or_none (payload file image))) r (payload file image) old new
ends_there file only need image message r old new asked is ended =
    subst (λ (p : Result (List ℕ) FitFault). EndsImage (is_asked only image.name) (take_of need image (bytes_or_none p)) r p old new) (sym is)
    (subst (λ (b : Bool). EndsImage b (take_of need image message) r (Ok message) old new) (sym asked) ended)

-- What was kept and begun so far, with what is still to be, is all.
pub record LeftToEnd (t : Siblings) (file : List ℕ) (need : Option Algo) (only : Which) (found : List (NodeOf Spot)) (all old new : Bool) (next : Option ℕ) : Type 0 where
  pub rest : List (NodeOf Spot)
  pub from : AreFrom t in_images next rest
  pub left : ℕ
  pub fits : overlapping only file left rest ≡ Ok None
  pub joined : (all && list_all is_kept (takes need only file rest)) ≡ list_all is_kept (takes need only file found)
  pub begun : (is_any (takes need only file rest) || new) ≡ (is_any (takes need only file found) || old)

pub end_first : (t : Siblings) (file : List ℕ) (need : Option Algo) (only : Which) (found : List (NodeOf Spot)) (old : Bool) (next : Option ℕ) → AreFrom t in_images next found
    → overlapping only file (length file) found ≡ Ok None → LeftToEnd t file need only found true old old next
end_first t file need only found old next from fits = record { rest = found; from = from; left = length file; fits = fits; joined = refl; begun = refl }

-- one more, if it is asked for
with_one : (b all ok : Bool) (one : Take) (later : List Take) → ok ≡ (if b then is_kept one else true) → ((all && ok) && list_all is_kept later) ≡ (all && list_all is_kept (if b then one ∷ later else later))
with_one b false ok one later is = refl
with_one true true ok one later is =
    ap (λ (x : Bool). x && list_all is_kept later) (is ∙ sym (and-true (is_kept one))) ∙ sym (list_all-append is_kept (one ∷ []) later)
with_one false true ok one later is = ap (λ (x : Bool). x && list_all is_kept later) is

begun_one : (b c : Bool) (one : Take) (later : List Take) → (is_any later || (b || c)) ≡ (is_any (if b then one ∷ later else later) || c)
begun_one true c one [] = refl
begun_one true c one (x ∷ later) = refl
begun_one false c one later = refl

pub end_more : (t : Siblings) (file : List ℕ) (need : Option Algo) (only : Which) (found : List (NodeOf Spot)) (all ok old m new : Bool) (next : Option ℕ)
    (k : LeftToEnd t file need only found all old m next) → (image : NodeOf Spot) (more : List (NodeOf Spot)) → k.rest ≡ image ∷ more → (following : Option ℕ)
    → EndsImage (is_asked only image.name) (take_of need image (bytes_or_none (payload file image))) (Ok ok) (payload file image) m new
    → AreFrom t in_images following more → LeftToEnd t file need only found (all && ok) old new following
end_more t file need only found all ok old m new next k image more are following ended from =
    let f = fits_first only file k.left image more (sym (ap (overlapping only file k.left) are) ∙ k.fits) in
    let one = take_of need image (bytes_or_none (payload file image)) in
    let now = ap (takes need only file) are ∙ takes_more need only file image more in
    record {
      rest = more;
      from = from;
      left = f.rest;
      fits = f.fits;
      joined = with_one (is_asked only image.name) all ok one (takes need only file more) ended.0 ∙ sym (ap (λ (l : List Take). all && list_all is_kept l) now) ∙ k.joined;
      begun = ap (λ (b : Bool). is_any (takes need only file more) || b) ended.1 ∙ begun_one (is_asked only image.name) m one (takes need only file more) ∙ sym (ap (λ (l : List Take). is_any l || m) now) ∙ k.begun;
    }

-- a device failed
cut : (b : Bool) (one : Take) (fault : Fault) (p : Result (List ℕ) FitFault) (ts : List Take) (old m new : Bool) → (b ≡ true → is_ok p ≡ true) → EndsImage b one (Err fault) p m new → EndsAll ts (Err fault) old new
cut b one (of.Blob fault at) p ts old m new there ended = ended
cut b one (of.Fit fault) p ts old m new there ended = true_false (sym (there ended.0) ∙ ap (λ (r : Result (List ℕ) FitFault). is_ok r) ended.1)
cut b one of.Read p ts old m new there ended = tt
cut b one of.Put p ts old m new there ended = tt

pub end_cut : (t : Siblings) (file : List ℕ) (need : Option Algo) (only : Which) (found : List (NodeOf Spot)) (all old m new : Bool) (next : Option ℕ)
    (k : LeftToEnd t file need only found all old m next) → (image : NodeOf Spot) (more : List (NodeOf Spot)) → k.rest ≡ image ∷ more → (fault : Fault)
    → EndsImage (is_asked only image.name) (take_of need image (bytes_or_none (payload file image))) (Err fault) (payload file image) m new
    → EndsAll (takes need only file found) (Err fault) old new
end_cut t file need only found all old m new next k image more are fault ended =
    let f = fits_first only file k.left image more (sym (ap (overlapping only file k.left) are) ∙ k.fits) in
    cut (is_asked only image.name) (take_of need image (bytes_or_none (payload file image))) fault (payload file image) (takes need only file found) old m new f.there ended

-- all were taken
pub end_done : (t : Siblings) (file : List ℕ) (need : Option Algo) (only : Which) (found : List (NodeOf Spot)) (all old new : Bool) (next : Option ℕ) → next ≡ None
    → LeftToEnd t file need only found all old new next → EndsAll (takes need only file found) (Ok all) old new
end_done t file need only found all old new next none k =
    let nothing : k.rest ≡ [] = none_left t in_images k.rest (subst (λ (o : Option ℕ). AreFrom t in_images o k.rest) none k.from) in
    let now = ap (takes need only file) nothing ∙ no_takes need only file in
    (sym (ap (λ (l : List Take). all && list_all is_kept l) now ∙ and-true all) ∙ k.joined, sym (ap (λ (l : List Take). is_any l || new) now) ∙ k.begun)

-- an image is refused
refuses : (told : Result UnpackOutcome Fault) (o : Result (Option (List ℕ)) FitFault) (ts : List Take) (fault : Fault) (old new : Bool) → told ≡ told_or_fault o ts → ClaimsAll o (Err fault) → new ≡ old → EndsAs (Err fault) told old new
refuses told o ts (of.Blob fault at) old new same claims none = absurd claims
refuses told o ts (of.Fit fault) old new same claims none = (same ∙ ap (λ (x : Result (Option (List ℕ)) FitFault). told_or_fault x ts) claims, none)
refuses told o ts of.Read old new same claims none = tt
refuses told o ts of.Put old new same claims none = tt

pub ends_refused : (told : Result UnpackOutcome Fault) (o : Result (Option (List ℕ)) FitFault) (ts : List Take) (fault : Fault) (r : Result Unpacked Fault) (old new : Bool) → r ≡ Err fault → told ≡ told_or_fault o ts → ClaimsAll o (Err fault) → new ≡ old → EndsAs r told old new
ends_refused told o ts fault r old new is same claims none = subst (λ (x : Result Unpacked Fault). EndsAs x told old new) (sym is) (refuses told o ts fault old new same claims none)

-- payloads overlap
pub ends_overlapping : (told : Result UnpackOutcome Fault) (o : Result (Option (List ℕ)) FitFault) (ts : List Take) (name : NodeName) (found : Option NodeName) (old new : Bool) → told ≡ told_or_fault o ts → found ≡ Some name
    → o ≡ Ok (option_map as_bytes found) → new ≡ old → EndsAs (Ok (Overlapping name)) told old new
ends_overlapping told o ts name found old new same is claims none =
    let all : told ≡ Ok (overlaps (as_bytes name)) =
    same ∙ ap (λ (x : Result (Option (List ℕ)) FitFault). told_or_fault x ts) (claims ∙ ap (λ (f : Option NodeName). let r : Result (Option (List ℕ)) FitFault = Ok (option_map as_bytes f) in r) is) in
    subst (λ (r : Result UnpackOutcome Fault). EndsAs (Ok (Overlapping name)) r old new) (sym all) (refl, none)

-- they don't
pub ends_taken : (told : Result UnpackOutcome Fault) (o : Result (Option (List ℕ)) FitFault) (ts : List Take) (all old m new : Bool) → told ≡ told_or_fault o ts → o ≡ Ok None → m ≡ old → EndsAll ts (Ok all) m new → EndsAs (Ok (Taken all)) told old new
ends_taken told o ts all old m new same fits none ended =
    let whole : told ≡ Ok (taken ts) = same ∙ ap (λ (x : Result (Option (List ℕ)) FitFault). told_or_fault x ts) fits in
    subst (λ (r : Result UnpackOutcome Fault). EndsAs (Ok (Taken all)) r old new) (sym whole) (subst (λ (b : Bool). EndsAll ts (Ok all) b new) none ended)

stops : (ts : List Take) (fault : Fault) (told : Result UnpackOutcome Fault) (old m new : Bool) → EndsAll ts (Err fault) m new → EndsAs (Err fault) told old new
stops ts (of.Blob fault at) told old m new ended = absurd ended
stops ts (of.Fit fault) told old m new ended = absurd ended
stops ts of.Read told old m new ended = tt
stops ts of.Put told old m new ended = tt

-- a device failed while they were taken
pub ends_stopped : (told : Result UnpackOutcome Fault) (ts : List Take) (fault : Fault) (r : Result Unpacked Fault) (old m new : Bool) → r ≡ Err fault → EndsAll ts (Err fault) m new → EndsAs r told old new
ends_stopped told ts fault r old m new is ended = subst (λ (x : Result Unpacked Fault). EndsAs x told old new) (sym is) (stops ts fault told old m new ended)

-- nothing was given
pub gives_none : (seen : Take → List Take) (given : List Take) → GivesBy seen true given given
gives_none seen given = record { given = []; is = sym (append-nil given); kept = refl }

-- one was
pub gives_one : (seen : Take → List Take) (one : Take) (all : Bool) (old m new : List Take) → m ≡ old → new ≡ m ++ seen one → all ≡ is_kept one → GivesBy seen all old new
gives_one seen one all old m new before is kept =
    record { given = one ∷ []; is = is ∙ ap (λ (l : List Take). l ++ seen one) before ∙ ap (λ (l : List Take). old ++ l) (sym (append-nil (seen one))); kept = kept ∙ sym (and-true (is_kept one)) }

-- more were
pub gives_more : (seen : Take → List Take) (all ok : Bool) (old middle new : List Take) → GivesBy seen all old middle → GivesBy seen ok middle new → GivesBy seen (all && ok) old new
gives_more seen all ok old middle new first last = record {
  given = first.given ++ last.given;
  is = last.is ∙ ap (λ (l : List Take). l ++ flat_map seen last.given) first.is ∙ append_assoc old (flat_map seen first.given) (flat_map seen last.given)
      ∙ ap (λ (l : List Take). old ++ l) (sym (flat_map-append seen first.given last.given));
  kept = ap (λ (b : Bool). b && ok) first.kept ∙ ap (λ (b : Bool). list_all is_kept first.given && b) last.kept ∙ sym (list_all-append is_kept first.given last.given);
}
