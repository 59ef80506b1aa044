-- Taking payloads, one more at a time.
use Rattle.std.proofs.Common.{◌≡◌, ◌⊎◌, inl, inr, ◌≤◌, ◌+◌, ◌*◌, ℕ, List, [], ◌∷◌, ◌++◌, length, take, Option, Some, None, Bool, true, false, ◌&&◌, refl, ap, sym, ◌∙◌, subst, arith}
use Rattle.std.specs.Prelude.{Result, Ok, Err, is_ok, if◌then◌else◌, flat_map}
use Rattle.std.specs.List.{list_all, sum_by}
use Rattle.std.proofs.Math.Bool.{and-true}
use Rattle.std.proofs.Math.Seq.{take-append_seam}
use Rattle.std.proofs.lemmas.List.{append_assoc, append-nil}
use Rattle.std.proofs.lemmas.List.Concat.{flat_map-append}
use Rattle.std.proofs.lemmas.List.Folds.{list_all-append}
use Rattle.std.proofs.lemmas.List.Sums.{sum_by-cons}
use Rattle.std.specs.Io.KnownBytes.{Appends}
use Rattle.uimg_sums.specs.declared.algo.Algo.{Algo}
use Rattle.uimg_texts.specs.Slices.{slice}
use Rattle.uimg_texts.specs.declared.naming.Naming.TheVariants as naming
use Rattle.uimg_base.specs.declared.ranges.MoveFault.{MoveFault}
use Rattle.uimg_base.specs.declared.ranges.MoveFault.TheVariants as move
use Rattle.uimg_base.specs.declared.spans.Span.{Span}
use Rattle.uimg_base.proofs.Slices.{length-slice}
use Rattle.uimg_blob_reading.specs.Grammar.{Siblings}
use Rattle.uimg_blob_reading.specs.LookUps.{NodeOf, hashes}
use Rattle.uimg_blob_reading.specs.Roles.{in_images}
use Rattle.uimg_blob_reading.proofs.PhaseLaws.{true_false}
use Rattle.uimg_blob_reading.specs.Spots.{Spot}
use Rattle.uimg_fit_base.specs.declared.algo_sets.AlgoSet.{AlgoSet}
use Rattle.uimg_fit_base.specs.declared.fault.Fault.{Fault}
use Rattle.uimg_fit_base.specs.declared.fault.Fault.TheVariants as of
use Rattle.uimg_fit_base.specs.declared.fault.FitFault.{FitFault}
use Rattle.uimg_fit_base.specs.Faults.{of_move}
use Rattle.uimg_fit_base.specs.Places.{payload}
use Rattle.uimg_fit_base.specs.AlgoSets.{no_algos}
use Rattle.uimg_fit_checking.specs.declared.unpacking.taker.Vouched.{Vouched}
use Rattle.uimg_fit_checking.specs.declared.unpacking.taker.Refusal.{Refusal}
use Rattle.uimg_fit_checking.specs.Checks.{NamedFinding, wrong_in, or_weak}
use Rattle.uimg_fit_reading.specs.Allowances.{node_allowance}
use Rattle.uimg_fit_reading.specs.Nodes.{AreFrom}
use Rattle.uimg_fit_reading.specs.Plans.{with_all}
use Rattle.uimg_fit_checking.specs.Unpacking.{Take, kept, refused, told_of, take_by, take_of, is_asked, bytes_or_none, is_kept, vouched_by, takes, overlapping, GivenFirst, Which}
use Rattle.uimg_fit_checking.specs.UnpackingParts.{TellsFound, TakesTo, TakesAll, size_if, take_allowance}
use Rattle.uimg_fit_checking.proofs.CheckLaws.{some_nodes}
use Rattle.uimg_fit_checking.proofs.ClaimLaws.{fits_first}
use Rattle.uimg_fit_reading.proofs.ImageLaws.{none_left}
use Rattle.uimg_fit_reading.proofs.SharesLaws.{hashes_allowed}
use Rattle.uimg_texts.specs.declared.naming.Naming.{TheVariants.{Profile}}

-- what nothing was written before holds what was
filled : (c : Option (List ℕ)) (bytes : List ℕ) → Appends (Some []) c bytes → c ≡ Some bytes
filled None bytes appended = absurd appended
filled (Some xs) bytes appended = ap (λ (l : List ℕ). Some l) appended

pub filled_by : (a c : Option (List ℕ)) (bytes : List ℕ) → a ≡ Some [] → Appends a c bytes → c ≡ Some bytes
filled_by a c bytes empty appended = filled c bytes (subst (λ (o : Option (List ℕ)). Appends o c bytes) empty appended)

-- what becomes of a payload by what was found of it: it is kept, or refused
pub kept_is : (need : Option Algo) (image : NodeOf Spot) (message name : List ℕ) (set : AlgoSet) (vouched : Option Vouched) → name ≡ image.name → None ≡ or_weak (wrong_in image.name message (hashes image)) need image
    → set ≡ with_all naming.All no_algos (hashes image) → vouched ≡ vouched_by set message → kept name message vouched ≡ take_of need image message
kept_is need image message name set vouched named told algos is =
    ap (λ (n : List ℕ). kept n message vouched) named ∙ ap (λ (v : Option Vouched). kept image.name message v) is
    ∙ ap (λ (s : AlgoSet). kept image.name message (vouched_by s message)) algos ∙ ap (λ (o : Option NamedFinding). take_by image message o) told

pub refused_is : (need : Option Algo) (image : NodeOf Spot) (message name : List ℕ) (refusal : Refusal) → name ≡ image.name → Some (told_of image.name refusal) ≡ or_weak (wrong_in image.name message (hashes image)) need image
    → refused name (told_of name refusal) ≡ take_of need image message
refused_is need image message name refusal named told =
    ap (λ (n : List ℕ). refused n (told_of n refusal)) named ∙ ap (λ (o : Option NamedFinding). take_by image message o) told

-- it was given, or perhaps, or not
pub given_one : (seen : Take → List Take) (one its : Take) (ok : Bool) (p : Result (List ℕ) FitFault) (old m new : List Take) → one ≡ its → ok ≡ is_kept one → m ≡ old → new ≡ m ++ seen one → TakesTo seen true its (Ok ok) p old new
given_one seen one its ok p old m new is right before given =
    (given ∙ ap (λ (l : List Take). l ++ seen one) before ∙ ap (λ (o : Take). old ++ seen o) is, right ∙ ap is_kept is)

perhaps : (seen : Take → List Take) (one its : Take) (old m new : List Take) → one ≡ its → m ≡ old → (new ≡ m) ⊎ (new ≡ m ++ seen one) → (new ≡ old) ⊎ (new ≡ old ++ seen its)
perhaps seen one its old m new is before (inl same) = inl (same ∙ before)
perhaps seen one its old m new is before (inr given) = inr (given ∙ ap (λ (l : List Take). l ++ seen one) before ∙ ap (λ (o : Take). old ++ seen o) is)

pub perhaps_one : (seen : Take → List Take) (one its : Take) (r : Result Bool Fault) (p : Result (List ℕ) FitFault) (old m new : List Take) → r ≡ Err of.Put → one ≡ its → m ≡ old → (new ≡ m) ⊎ (new ≡ m ++ seen one) → TakesTo seen true its r p old new
perhaps_one seen one its r p old m new failed is before given =
    subst (λ (x : Result Bool Fault). TakesTo seen true its x p old new) (sym failed) (perhaps seen one its old m new is before given)

none_given : (seen : Take → List Take) (b : Bool) (its : Take) (m : MoveFault) (p : Result (List ℕ) FitFault) (old new : List Take) → new ≡ old → TakesTo seen b its (Err (of_move m)) p old new
none_given seen true its move.Read p old new same = same
none_given seen true its move.Put p old new same = inl same
none_given seen false its move.Read p old new same = same
none_given seen false its move.Put p old new same = same

pub given_none : (seen : Take → List Take) (its : Take) (m : MoveFault) (r : Result Bool Fault) (p : Result (List ℕ) FitFault) (old new : List Take) → r ≡ Err (of_move m) → new ≡ old → TakesTo seen true its r p old new
given_none seen its m r p old new failed same =
    subst (λ (x : Result Bool Fault). TakesTo seen true its x p old new) (sym failed) (none_given seen true its m p old new same)

-- an image that is not asked for
pub takes_skips : (seen : Take → List Take) (file : List ℕ) (only : Which) (one : Take) (image : NodeOf Spot) (given : List Take) → is_asked only image.name ≡ false
    → TakesTo seen (is_asked only image.name) one (Ok true) (payload file image) given given
takes_skips seen file only one image given is = subst (λ (b : Bool). TakesTo seen b one (Ok true) (payload file image) given given) (sym is) (refl, refl)

-- one whose payload is not there, or was not found
lacks_it : (seen : Take → List Take) (file : List ℕ) (only : Which) (one : Take) (image : NodeOf Spot) (fault : Fault) (given : List Take) → TellsFound only file image (Err fault) → TakesTo seen (is_asked only image.name) one (Err fault) (payload file image) given given
lacks_it seen file only one image (of.Blob fault at) given tells = absurd tells
lacks_it seen file only one image (of.Fit fault) given tells = subst (λ (b : Bool). TakesTo seen b one (Err (of.Fit fault)) (payload file image) given given) (sym tells.0) (refl, tells.1)
lacks_it seen file only one image of.Read given tells = none_given seen (is_asked only image.name) one move.Read (payload file image) given given refl
lacks_it seen file only one image of.Put given tells = none_given seen (is_asked only image.name) one move.Put (payload file image) given given refl

pub takes_lacks : (seen : Take → List Take) (file : List ℕ) (only : Which) (one : Take) (image : NodeOf Spot) (fault : Fault) (r : Result Bool Fault) (given : List Take) → r ≡ Err fault → TellsFound only file image (Err fault)
    → TakesTo seen (is_asked only image.name) one r (payload file image) given given
takes_lacks seen file only one image fault r given is tells = subst (λ (x : Result Bool Fault). TakesTo seen (is_asked only image.name) one x (payload file image) given given) (sym is) (lacks_it seen file only one image fault given tells)

-- one whose payload is there
pub takes_there : (seen : Take → List Take) (file : List ℕ) (only : Which) (need : Option Algo) (image : NodeOf Spot) (message : List ℕ) (r : Result Bool Fault) (old new : List Take) → is_asked only image.name ≡ true → payload file image ≡ Ok message
    → TakesTo seen true (take_of need image message) r (Ok message) old new
    → TakesTo seen (is_asked only image.name) (take_of need image (bytes_or_none (payload file image))) r (payload file image) old new
takes_there seen file only need image message r old new asked is told =
    subst (λ (p : Result (List ℕ) FitFault). TakesTo seen (is_asked only image.name) (take_of need image (bytes_or_none p)) r p old new) (sym is)
    (subst (λ (b : Bool). TakesTo seen b (take_of need image message) r (Ok message) old new) (sym asked) told)

-- what it may take
pub take_paid : (file : List ℕ) (only : Which) (image : NodeOf Spot) (span : Span) (asked middle new : ℕ) → is_asked only image.name ≡ true → payload file image ≡ Ok (slice file span.place span.length)
    → span.place + span.length ≤ length file → middle ≤ asked + 267 → new ≤ middle + (span.length + 383 * length (hashes image))
    → new ≤ asked + (size_if (is_asked only image.name) (payload file image) + take_allowance image)
take_paid file only image span asked middle new it is inside one two =
    let size : size_if (is_asked only image.name) (payload file image) ≡ length (slice file span.place span.length) =
    ap (λ (b : Bool). size_if b (payload file image)) it ∙ ap (size_if true) is in
    omega (arith, size, length-slice file span.place span.length inside, one, two, some_nodes (hashes image), hashes_allowed Profile image)

-- an image, and those after it
pub takes_more : (need : Option Algo) (only : Which) (file : List ℕ) (image : NodeOf Spot) (more : List (NodeOf Spot))
    → takes need only file (image ∷ more)
    ≡ (if is_asked only image.name then take_of need image (bytes_or_none (payload file image)) ∷ takes need only file more else takes need only file more)
unfolding takes
takes_more need only file image more = refl

pub no_takes : (need : Option Algo) (only : Which) (file : List ℕ) → takes need only file [] ≡ []
unfolding takes
no_takes need only file = refl

-- What is still to be paid for is within what may be.
pub record LeftToPay (t : Siblings) (file : List ℕ) (only : Which) (found : List (NodeOf Spot)) (asked new : ℕ) (next : Option ℕ) : Type 0 where
  pub rest : List (NodeOf Spot)
  pub from : AreFrom t in_images next rest
  pub left : ℕ
  pub fits : overlapping only file left rest ≡ Ok None
  pub paid : new + left + sum_by take_allowance rest ≤ asked + (length file + sum_by take_allowance found)

pub pay_first : (t : Siblings) (file : List ℕ) (only : Which) (found : List (NodeOf Spot)) (asked : ℕ) (next : Option ℕ) → AreFrom t in_images next found → overlapping only file (length file) found ≡ Ok None
    → LeftToPay t file only found asked asked next
pay_first t file only found asked next from fits = record { rest = found; from = from; left = length file; fits = fits; paid = omega arith }

pub pay_more : (t : Siblings) (file : List ℕ) (only : Which) (found : List (NodeOf Spot)) (asked new : ℕ) (next : Option ℕ) (k : LeftToPay t file only found asked new next)
    → (image : NodeOf Spot) (more : List (NodeOf Spot)) → k.rest ≡ image ∷ more → (later : ℕ) (following : Option ℕ) → later ≤ new + (size_if (is_asked only image.name) (payload file image) + take_allowance image)
    → AreFrom t in_images following more → LeftToPay t file only found asked later following
pay_more t file only found asked new next k image more are later following paid from =
    let f = fits_first only file k.left image more (sym (ap (overlapping only file k.left) are) ∙ k.fits) in
    record {
      rest = more;
      from = from;
      left = f.rest;
      fits = f.fits;
      paid = omega (arith, k.paid, paid, f.sum, ap (sum_by take_allowance) are, sum_by-cons take_allowance image more);
    }

pub pay_cut : (t : Siblings) (file : List ℕ) (only : Which) (found : List (NodeOf Spot)) (asked new : ℕ) (next : Option ℕ) (k : LeftToPay t file only found asked new next)
    → (image : NodeOf Spot) (more : List (NodeOf Spot)) → k.rest ≡ image ∷ more → (later : ℕ) → later ≤ new + (size_if (is_asked only image.name) (payload file image) + take_allowance image)
    → later ≤ asked + (length file + sum_by take_allowance found)
pay_cut t file only found asked new next k image more are later paid =
    let f = fits_first only file k.left image more (sym (ap (overlapping only file k.left) are) ∙ k.fits) in
    omega (arith, k.paid, paid, f.sum, ap (sum_by take_allowance) are, sum_by-cons take_allowance image more)

-- What was given, with what is still to be given, is all.
pub record LeftToTake (seen : Take → List Take) (t : Siblings) (file : List ℕ) (need : Option Algo) (only : Which) (found : List (NodeOf Spot)) (all : Bool) (old new : List Take) (next : Option ℕ) : Type 0 where
  pub rest : List (NodeOf Spot)
  pub from : AreFrom t in_images next rest
  pub left : ℕ
  pub fits : overlapping only file left rest ≡ Ok None
  pub given : List Take
  pub now : new ≡ old ++ flat_map seen given
  pub joined : given ++ takes need only file rest ≡ takes need only file found
  pub kept : all ≡ list_all is_kept given

pub take_first : (seen : Take → List Take) (t : Siblings) (file : List ℕ) (need : Option Algo) (only : Which) (found : List (NodeOf Spot)) (old : List Take) (next : Option ℕ) → AreFrom t in_images next found
    → overlapping only file (length file) found ≡ Ok None → LeftToTake seen t file need only found true old old next
take_first seen t file need only found old next from fits = record { rest = found; from = from; left = length file; fits = fits; given = []; now = sym (append-nil old); joined = refl; kept = refl }

-- what the list shows of one more
more_seen : (seen : Take → List Take) (one : Take) (given old m new : List Take) → m ≡ old ++ flat_map seen given → new ≡ m ++ seen one → new ≡ old ++ flat_map seen (given ++ one ∷ [])
more_seen seen one given old m new now more =
    more ∙ ap (λ (l : List Take). l ++ seen one) now ∙ append_assoc old (flat_map seen given) (seen one)
    ∙ ap (λ (l : List Take). old ++ l) (ap (λ (l : List Take). flat_map seen given ++ l) (sym (append-nil (seen one))) ∙ sym (flat_map-append seen given (one ∷ [])))

-- one more was given, or passed over
record OneMore (seen : Take → List Take) (b : Bool) (one : Take) (all ok : Bool) (before : List Take) (old new : List Take) (later whole : List Take) : Type 0 where
  given : List Take
  now : new ≡ old ++ flat_map seen given
  joined : given ++ later ≡ whole
  kept : (all && ok) ≡ list_all is_kept given

one_more : (seen : Take → List Take) (b : Bool) (one : Take) (all ok : Bool) (p : Result (List ℕ) FitFault) (given old m new later whole : List Take) → m ≡ old ++ flat_map seen given → all ≡ list_all is_kept given
    → given ++ (if b then one ∷ later else later) ≡ whole → TakesTo seen b one (Ok ok) p m new → OneMore seen b one all ok given old new later whole
one_more seen true one all ok p given old m new later whole now right joined told = record {
  given = given ++ one ∷ [];
  now = more_seen seen one given old m new now told.0;
  joined = append_assoc given (one ∷ []) later ∙ joined;
  kept = ap (λ (b : Bool). b && ok) right ∙ ap (λ (b : Bool). list_all is_kept given && b) (told.1 ∙ sym (and-true (is_kept one))) ∙ sym (list_all-append is_kept given (one ∷ []));
}
one_more seen false one all ok p given old m new later whole now right joined told = record {
  given = given;
  now = told.0 ∙ now;
  joined = joined;
  kept = ap (λ (b : Bool). all && b) told.1 ∙ and-true all ∙ right;
}

pub take_more : (seen : Take → List Take) (t : Siblings) (file : List ℕ) (need : Option Algo) (only : Which) (found : List (NodeOf Spot)) (all ok : Bool) (old m new : List Take) (next : Option ℕ)
    (k : LeftToTake seen t file need only found all old m next) → (image : NodeOf Spot) (more : List (NodeOf Spot)) → k.rest ≡ image ∷ more → (following : Option ℕ)
    → TakesTo seen (is_asked only image.name) (take_of need image (bytes_or_none (payload file image))) (Ok ok) (payload file image) m new
    → AreFrom t in_images following more → LeftToTake seen t file need only found (all && ok) old new following
take_more seen t file need only found all ok old m new next k image more are following told from =
    let f = fits_first only file k.left image more (sym (ap (overlapping only file k.left) are) ∙ k.fits) in
    let one = take_of need image (bytes_or_none (payload file image)) in
    let joined = sym (ap (λ (l : List Take). k.given ++ l) (ap (takes need only file) are ∙ takes_more need only file image more)) ∙ k.joined in
    let o = one_more seen (is_asked only image.name) one all ok (payload file image) k.given old m new (takes need only file more) (takes need only file found) k.now k.kept joined told in
    record { rest = more; from = from; left = f.rest; fits = f.fits; given = o.given; now = o.now; joined = o.joined; kept = o.kept }

-- what was given is the first of all
first_given : (seen : Take → List Take) (given later whole old new : List Take) → new ≡ old ++ flat_map seen given → given ++ later ≡ whole → GivenFirst seen old new whole
first_given seen given later whole old new now joined = record {
  count = length given;
  given = now ∙ ap (λ (l : List Take). old ++ flat_map seen l) (sym (take-append_seam given later) ∙ ap (take (length given)) joined);
}

stopped : (seen : Take → List Take) (b : Bool) (one : Take) (fault : Fault) (p : Result (List ℕ) FitFault) (given later whole old m new : List Take) → (b ≡ true → is_ok p ≡ true) → m ≡ old ++ flat_map seen given
    → given ++ (if b then one ∷ later else later) ≡ whole → TakesTo seen b one (Err fault) p m new → TakesAll seen whole (Err fault) old new
stopped seen true one (of.Blob fault at) p given later whole old m new there now joined told = told
stopped seen true one (of.Fit fault) p given later whole old m new there now joined told = true_false (sym (there refl) ∙ ap (λ (r : Result (List ℕ) FitFault). is_ok r) told.1)
stopped seen true one of.Read p given later whole old m new there now joined told = first_given seen given (one ∷ later) whole old new (told ∙ now) joined
stopped seen true one of.Put p given later whole old m new there now joined (inl same) = first_given seen given (one ∷ later) whole old new (same ∙ now) joined
stopped seen true one of.Put p given later whole old m new there now joined (inr more) =
    first_given seen (given ++ one ∷ []) later whole old new (more_seen seen one given old m new now more) (append_assoc given (one ∷ []) later ∙ joined)
stopped seen false one (of.Blob fault at) p given later whole old m new there now joined told = told
stopped seen false one (of.Fit fault) p given later whole old m new there now joined told = told
stopped seen false one of.Read p given later whole old m new there now joined told = first_given seen given later whole old new (told ∙ now) joined
stopped seen false one of.Put p given later whole old m new there now joined told = first_given seen given later whole old new (told ∙ now) joined

-- a device failed
pub take_cut : (seen : Take → List Take) (t : Siblings) (file : List ℕ) (need : Option Algo) (only : Which) (found : List (NodeOf Spot)) (all : Bool) (old m new : List Take) (next : Option ℕ)
    (k : LeftToTake seen t file need only found all old m next) → (image : NodeOf Spot) (more : List (NodeOf Spot)) → k.rest ≡ image ∷ more → (fault : Fault)
    → TakesTo seen (is_asked only image.name) (take_of need image (bytes_or_none (payload file image))) (Err fault) (payload file image) m new
    → TakesAll seen (takes need only file found) (Err fault) old new
take_cut seen t file need only found all old m new next k image more are fault told =
    let f = fits_first only file k.left image more (sym (ap (overlapping only file k.left) are) ∙ k.fits) in
    let joined = sym (ap (λ (l : List Take). k.given ++ l) (ap (takes need only file) are ∙ takes_more need only file image more)) ∙ k.joined in
    stopped seen (is_asked only image.name) (take_of need image (bytes_or_none (payload file image))) fault (payload file image) k.given (takes need only file more) (takes need only file found) old m new f.there k.now joined told

-- all were given
pub take_done : (seen : Take → List Take) (t : Siblings) (file : List ℕ) (need : Option Algo) (only : Which) (found : List (NodeOf Spot)) (all : Bool) (old new : List Take) (next : Option ℕ) → next ≡ None
    → LeftToTake seen t file need only found all old new next → TakesAll seen (takes need only file found) (Ok all) old new
take_done seen t file need only found all old new next none k =
    let nothing : k.rest ≡ [] = none_left t in_images k.rest (subst (λ (o : Option ℕ). AreFrom t in_images o k.rest) none k.from) in
    let whole : k.given ≡ takes need only file found = sym (ap (λ (l : List Take). k.given ++ l) (ap (takes need only file) nothing ∙ no_takes need only file) ∙ append-nil k.given) ∙ k.joined in
    (k.now ∙ ap (λ (l : List Take). old ++ flat_map seen l) whole, k.kept ∙ ap (list_all is_kept) whole)

pub pay_done : (t : Siblings) (file : List ℕ) (only : Which) (found : List (NodeOf Spot)) (asked new : ℕ) (next : Option ℕ) → LeftToPay t file only found asked new next
    → new ≤ asked + (length file + sum_by take_allowance found)
pay_done t file only found asked new next k = omega (arith, k.paid)

-- what the passes over the images may ask for
pub allowed : (found : List (NodeOf Spot)) → 267 * length found + sum_by take_allowance found ≤ sum_by (node_allowance Profile) found
allowed [] = omega arith
allowed (image ∷ more) = omega (arith, sum_by-cons take_allowance image more, sum_by-cons (node_allowance Profile) image more, allowed more)
