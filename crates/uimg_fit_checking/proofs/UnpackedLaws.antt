-- What is told of a file that is unpacked.
use Rattle.std.proofs.Common.{◌≡◌, ◌≤◌, ◌+◌, ◌*◌, ◌++◌, ℕ, List, [], length, Option, Some, None, Bool, refl, ap, sym, ◌∙◌, subst, arith}
use Rattle.std.specs.Prelude.{Result, Ok, Err}
use Rattle.std.specs.List.{sum_by}
use Rattle.std.specs.Option.{option_map}
use Rattle.std.proofs.lemmas.List.{append-nil}
use Rattle.uimg_sums.specs.declared.algo.Algo.{Algo}
use Rattle.uimg_base.specs.Results.{◌>>=◌}
use Rattle.uimg_blob_reading.specs.Blob.{tree}
use Rattle.uimg_blob_reading.specs.Counts.{index_cost}
use Rattle.uimg_blob_reading.specs.Grammar.{Siblings}
use Rattle.uimg_blob_reading.specs.LookUps.{NodeOf, images}
use Rattle.uimg_blob_reading.specs.Spots.{Spot, spots}
use Rattle.uimg_fit_base.specs.declared.fault.Fault.{Fault}
use Rattle.uimg_fit_base.specs.declared.fault.Fault.TheVariants as of
use Rattle.uimg_fit_base.specs.declared.fault.FitFault.{FitFault}
use Rattle.uimg_fit_base.proofs.FileLaws.{images_are}
use Rattle.uimg_fit_reading.specs.Nodes.{GivesTree}
use Rattle.uimg_fit_checking.specs.Claiming.{Claim, ClaimsTo, claims, claims_in, claims_of}
use Rattle.uimg_fit_checking.specs.declared.unpacking.Unpacked.{Unpacked}
use Rattle.uimg_fit_checking.specs.declared.unpacking.Unpacked.TheVariants.{Taken, Overlapping}
use Rattle.uimg_fit_checking.specs.declared.unpacking.node_names.NodeName.{NodeName}
use Rattle.uimg_fit_checking.specs.Unpacking.{Take, UnpackOutcome, taken, overlaps, takes, overlapping, told_or_fault, images_unpacked, unpack_of, unpack_work, as_bytes, StopsIn, Unpacks, Which}
use Rattle.uimg_fit_checking.specs.UnpackingParts.{ClaimsAll, TakesAll, EndsAll, take_allowance}
use Rattle.uimg_fit_checking.proofs.CheckLaws.{check_within}
use Rattle.uimg_fit_checking.proofs.TakeLaws.{allowed}

-- what is told of a file whose images are known
pub unpack_is : (file : List ℕ) (t : Siblings) (need : Option Algo) (only : Which) (found : List (NodeOf Spot)) → tree file ≡ Ok t → images (spots t) ≡ Some found
    → unpack_of need only file ≡ told_or_fault (overlapping only file (length file) found) (takes need only file found)
unpack_is file t need only found is has =
    ap (λ (r : Result (List (NodeOf Spot)) Fault). r >>= images_unpacked need only file) (images_are file t (Some found) is has)

-- the claims of its images
pub claims_is : (file : List ℕ) (t : Siblings) (only : Which) (found : List (NodeOf Spot)) → tree file ≡ Ok t → images (spots t) ≡ Some found → claims_of only file ≡ claims only file (length file) found
claims_is file t only found is has = ap (claims_in only file) (images_are file t (Some found) is has)

treeless : (X : Type 0) (file : List ℕ) (es : List (List ℕ)) (fault : Fault) (all old : List Claim) → GivesTree file (Err fault) es → ClaimsTo {X = X} all (Err fault) old old
treeless X file es (of.Blob fault at) all old gives = refl
treeless X file es (of.Fit fault) all old gives = absurd gives
treeless X file es of.Read all old gives = record { rest = all; is = refl }
treeless X file es of.Put all old gives = record { rest = all; is = refl }

claims_again : (X Y : Type 0) (fault : Fault) (all old new : List Claim) → ClaimsTo {X = X} all (Err fault) old new → ClaimsTo {X = Y} all (Err fault) old new
claims_again X Y (of.Blob fault at) all old new claimed = claimed
claims_again X Y (of.Fit fault) all old new claimed = claimed
claims_again X Y of.Read all old new claimed = claimed
claims_again X Y of.Put all old new claimed = claimed

later : (X : Type 0) (fault : Fault) (all : List Claim) (ts : List Take) (a b : Bool) (old new : List Claim) → EndsAll ts (Err fault) a b → new ≡ old ++ all → ClaimsTo {X = X} all (Err fault) old new
later X (of.Blob fault at) all ts a b old new ended told = absurd ended
later X (of.Fit fault) all ts a b old new ended told = absurd ended
later X of.Read all ts a b old new ended told = record { rest = []; is = append-nil new ∙ told }
later X of.Put all ts a b old new ended told = record { rest = []; is = append-nil new ∙ told }

-- nothing is claimed of a tree that cannot be read
pub claims_treeless : (X : Type 0) (file : List ℕ) (es : List (List ℕ)) (fault : Fault) (r : Result X Fault) (all old : List Claim) → r ≡ Err fault → GivesTree file (Err fault) es → ClaimsTo all r old old
claims_treeless X file es fault r all old is gives = subst (λ (x : Result X Fault). ClaimsTo all x old old) (sym is) (treeless X file es fault all old gives)

-- the claims are those of the result, by another name of all of them
pub claims_by : (X Y : Type 0) (file : List ℕ) (only : Which) (found : List (NodeOf Spot)) (fault : Fault) (r : Result Y Fault) (told : List Claim) (old new : List Claim) → r ≡ Err fault → told ≡ claims only file (length file) found
    → ClaimsTo {X = X} (claims only file (length file) found) (Err fault) old new → ClaimsTo told r old new
claims_by X Y file only found fault r told old new is named claimed =
    subst (λ (x : Result Y Fault). ClaimsTo told x old new) (sym is)
    (subst (λ (l : List Claim). ClaimsTo {X = Y} l (Err fault) old new) (sym named) (claims_again X Y fault (claims only file (length file) found) old new claimed))

-- all is claimed where a device fails later
pub claims_before_fault : (X : Type 0) (fault : Fault) (r : Result X Fault) (told all : List Claim) (ts : List Take) (a b : Bool) (old middle new : List Claim) → r ≡ Err fault → told ≡ all → EndsAll ts (Err fault) a b → middle ≡ old ++ all → new ≡ middle → ClaimsTo told r old new
claims_before_fault X fault r told all ts a b old middle new is named ended claimed same =
    subst (λ (x : Result X Fault). ClaimsTo told x old new) (sym is)
    (subst (λ (l : List Claim). ClaimsTo {X = X} l (Err fault) old new) (sym named) (later X fault all ts a b old new ended (same ∙ claimed)))

-- a device failed before anything was given
stops_none : (seen : Take → List Take) (r : Result UnpackOutcome Fault) (old new : List Take) → new ≡ old → StopsIn seen r old new
stops_none seen (Ok (taken ts)) old new same = record { count = 0; given = same ∙ sym (append-nil old) }
stops_none seen (Ok (overlaps name)) old new same = same
stops_none seen (Err fault) old new same = same

refuses : (seen : Take → List Take) (told : Result UnpackOutcome Fault) (o : Result (Option (List ℕ)) FitFault) (ts : List Take) (fault : Fault) (old new : List Take) → told ≡ told_or_fault o ts → ClaimsAll o (Err fault) → new ≡ old → Unpacks seen (Err fault) told old new
refuses seen told o ts (of.Blob fault at) old new same claims none = absurd claims
refuses seen told o ts (of.Fit fault) old new same claims none = (same ∙ ap (λ (x : Result (Option (List ℕ)) FitFault). told_or_fault x ts) claims, none)
refuses seen told o ts of.Read old new same claims none = stops_none seen told old new none
refuses seen told o ts of.Put old new same claims none = stops_none seen told old new none

-- an image is refused
pub unpack_refused : (seen : Take → List Take) (told : Result UnpackOutcome Fault) (o : Result (Option (List ℕ)) FitFault) (ts : List Take) (fault : Fault) (r : Result Unpacked Fault) (old new : List Take) → r ≡ Err fault → told ≡ told_or_fault o ts
    → ClaimsAll o (Err fault) → new ≡ old → Unpacks seen r told old new
unpack_refused seen told o ts fault r old new is same claims none =
    subst (λ (x : Result Unpacked Fault). Unpacks seen x told old new) (sym is) (refuses seen told o ts fault old new same claims none)

-- payloads overlap
pub unpack_overlaps : (seen : Take → List Take) (told : Result UnpackOutcome Fault) (o : Result (Option (List ℕ)) FitFault) (ts : List Take) (name : NodeName) (found : Option NodeName) (old new : List Take) → told ≡ told_or_fault o ts → found ≡ Some name
    → o ≡ Ok (option_map as_bytes found) → new ≡ old → Unpacks seen (Ok (Overlapping name)) told old new
unpack_overlaps seen told o ts name found old new same is claims none =
    let all : told ≡ Ok (overlaps (as_bytes name)) =
    same ∙ ap (λ (x : Result (Option (List ℕ)) FitFault). told_or_fault x ts) (claims ∙ ap (λ (f : Option NodeName). let r : Result (Option (List ℕ)) FitFault = Ok (option_map as_bytes f) in r) is) in
    subst (λ (r : Result UnpackOutcome Fault). Unpacks seen (Ok (Overlapping name)) r old new) (sym all) (refl, none)

-- they don't
pub fitting : (o : Result (Option (List ℕ)) FitFault) (found : Option NodeName) → found ≡ None → o ≡ Ok (option_map as_bytes found) → o ≡ Ok None
fitting o found is claims = claims ∙ ap (λ (f : Option NodeName). let r : Result (Option (List ℕ)) FitFault = Ok (option_map as_bytes f) in r) is

pub unpack_taken : (seen : Take → List Take) (told : Result UnpackOutcome Fault) (o : Result (Option (List ℕ)) FitFault) (ts : List Take) (all : Bool) (old middle new : List Take) → told ≡ told_or_fault o ts → o ≡ Ok None → middle ≡ old
    → TakesAll seen ts (Ok all) middle new → Unpacks seen (Ok (Taken all)) told old new
unpack_taken seen told o ts all old middle new same fits none given =
    let whole : told ≡ Ok (taken ts) = same ∙ ap (λ (x : Result (Option (List ℕ)) FitFault). told_or_fault x ts) fits in
    subst (λ (r : Result UnpackOutcome Fault). Unpacks seen (Ok (Taken all)) r old new) (sym whole)
    (subst (λ (l : List Take). TakesAll seen ts (Ok all) l new) none given)

stops : (seen : Take → List Take) (ts : List Take) (fault : Fault) (old new : List Take) → TakesAll seen ts (Err fault) old new → Unpacks seen (Err fault) (Ok (taken ts)) old new
stops seen ts (of.Blob fault at) old new given = absurd given
stops seen ts (of.Fit fault) old new given = absurd given
stops seen ts of.Read old new given = given
stops seen ts of.Put old new given = given

-- a device failed while they were taken
pub unpack_stops : (seen : Take → List Take) (told : Result UnpackOutcome Fault) (o : Result (Option (List ℕ)) FitFault) (ts : List Take) (fault : Fault) (r : Result Unpacked Fault) (old middle new : List Take) → r ≡ Err fault → told ≡ told_or_fault o ts → o ≡ Ok None
    → middle ≡ old → TakesAll seen ts (Err fault) middle new → Unpacks seen r told old new
unpack_stops seen told o ts fault r old middle new is same fits none given =
    let whole : told ≡ Ok (taken ts) = same ∙ ap (λ (x : Result (Option (List ℕ)) FitFault). told_or_fault x ts) fits in
    subst (λ (x : Result Unpacked Fault). Unpacks seen x told old new) (sym is)
    (subst (λ (x : Result UnpackOutcome Fault). Unpacks seen (Err fault) x old new) (sym whole)
    (stops seen ts fault old new (subst (λ (l : List Take). TakesAll seen ts (Err fault) l new) none given)))

-- what was asked for about the images is within the work
pub unpack_within : (file : List ℕ) (t : Siblings) (found : List (NodeOf Spot)) → tree file ≡ Ok t → images (spots t) ≡ Some found
    → index_cost file + 267 * length found + (length file + sum_by take_allowance found) ≤ unpack_work file
unpack_within file t found is has = omega (arith, check_within file t found is has, allowed found)
