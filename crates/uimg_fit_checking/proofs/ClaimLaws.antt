-- Claiming images, one more at a time.
use Rattle.std.proofs.Common.{◌≡◌, ◌≤◌, ◌+◌, ◌-◌, ◌*◌, ◌<◌, ℕ, List, [], ◌∷◌, ◌++◌, length, Option, Some, None, Bool, true, false, IsTrue, refl, ap, sym, ◌∙◌, subst, arith}
use Rattle.std.specs.Prelude.{Result, Ok, Err, IfSome, is_ok, nat_lt, if◌then◌else◌}
use Rattle.std.proofs.lemmas.Bool.{lt-ltb, le-ltb, ltb-false, ltb-true}
use Rattle.std.proofs.lemmas.List.{append_assoc, append-nil}
use Rattle.uimg_texts.specs.Slices.{slice}
use Rattle.uimg_base.proofs.Slices.{length-slice}
use Rattle.uimg_blob_reading.specs.Grammar.{Siblings}
use Rattle.uimg_blob_reading.specs.LookUps.{NodeOf}
use Rattle.uimg_blob_reading.specs.Roles.{in_images}
use Rattle.uimg_blob_reading.specs.Spots.{Spot}
use Rattle.uimg_blob_reading.proofs.PhaseLaws.{by_bool, true_false}
use Rattle.uimg_fit_base.specs.declared.fault.Fault.{Fault}
use Rattle.uimg_fit_base.specs.declared.fault.Fault.TheVariants as of
use Rattle.uimg_fit_base.specs.declared.fault.FitFault.{FitFault}
use Rattle.uimg_fit_base.specs.Places.{payload, TellsPlace}
use Rattle.uimg_fit_checking.specs.declared.unpacking.claims.Claim.{Claim}
use Rattle.uimg_fit_checking.specs.declared.unpacking.claims.Claim.TheVariants.{Fits, Overlaps}
use Rattle.uimg_fit_checking.specs.declared.unpacking.node_names.NodeName.{NodeName}
use Rattle.uimg_fit_checking.specs.Claiming as Claiming
use Rattle.uimg_fit_checking.specs.Claiming.{ClaimsTo, claim, claim_of, claims, claims_before}
use Rattle.uimg_fit_checking.specs.Unpacking.{is_asked, overlapping, fits_before, as_bytes, Which}
use Rattle.uimg_fit_checking.specs.declared.unpacking.requested.Requested.{Requested}
use Rattle.uimg_fit_checking.specs.UnpackingParts.{IsPayloadOf, TellsFound, Claims, ClaimsAll, ClaimsImagesBetween, size_if}
use Rattle.uimg_fit_reading.specs.Nodes.{AreFrom}
use Rattle.uimg_fit_reading.proofs.ImageLaws.{none_left}

-- a requested image without a payload
pub found_lacks : (file : List ℕ) (only : Which) (image : NodeOf Spot) (fault : Fault) (r : Result (Option Requested) Fault) → r ≡ Err fault → is_asked only image.name ≡ true → TellsPlace file image (Err fault) → TellsFound only file image r
found_lacks file only image (of.Blob fault at) r is asked tells = absurd tells
found_lacks file only image (of.Fit fault) r is asked tells = subst (λ (x : Result (Option Requested) Fault). TellsFound only file image x) (sym is) (asked, tells)
found_lacks file only image of.Read r is asked tells = subst (λ (x : Result (Option Requested) Fault). TellsFound only file image x) (sym is) tt
found_lacks file only image of.Put r is asked tells = subst (λ (x : Result (Option Requested) Fault). TellsFound only file image x) (sym is) tt

-- What is told of the images that are left, with the bytes that are left, is told of all.
pub record LeftClaimed (t : Siblings) (file : List ℕ) (only : Which) (found : List (NodeOf Spot)) (asked new left : ℕ) (next : Option ℕ) (notes : Bool) (before after : List Claiming.Claim) : Type 0 where
  pub rest : List (NodeOf Spot)
  pub from : AreFrom t in_images next rest
  pub same : overlapping only file (length file) found ≡ overlapping only file left rest
  pub paid : new + 267 * length rest ≤ asked + 267 * length found
  pub claimed : IsTrue notes → before ++ claims only file (length file) found ≡ after ++ claims only file left rest

-- an image, and those after it
pub overlapping_more : (only : Which) (file : List ℕ) (left : ℕ) (image : NodeOf Spot) (more : List (NodeOf Spot))
    → overlapping only file left (image ∷ more)
    ≡ (if is_asked only image.name then fits_before image.name left (payload file image) (λ rest. overlapping only file rest more) else overlapping only file left more)
unfolding overlapping
overlapping_more only file left image more = refl

pub none_overlapping : (only : Which) (file : List ℕ) (left : ℕ) → overlapping only file left [] ≡ Ok None
unfolding overlapping
none_overlapping only file left = refl

rest_of : Claim → ℕ
rest_of (Fits rest) = rest
rest_of (Overlaps name) = 0

-- one that is not asked for, or fits
fits : (number : ℕ) (only : Which) (file : List ℕ) (left rest : ℕ) (image : NodeOf Spot) (found : Option Requested) (later : ℕ → Result (Option (List ℕ)) FitFault) → TellsFound only file image (Ok found)
    → IfSome found (IsPayloadOf number (length file)) → Claims left found (Fits rest) → (if is_asked only image.name then fits_before image.name left (payload file image) later else later left) ≡ later rest
unfolding rest_of
fits number only file left rest image None later tells inside same =
    ap (λ (b : Bool). if b then fits_before image.name left (payload file image) later else later left) tells ∙ ap later (sym (ap rest_of same))
fits number only file left rest image (Some it) later tells inside sum =
    let message = slice file it.span.place it.span.length in
    let len = length-slice file it.span.place it.span.length inside.inside in
    ap (λ (b : Bool). if b then fits_before image.name left (payload file image) later else later left) tells.asked
    ∙ ap (λ (p : Result (List ℕ) FitFault). fits_before image.name left p later) tells.is ∙ rw (le-ltb left (length message) (omega (arith, sum, len))) (ap later (omega (arith, sum, len)))

-- one with which they overlap
overlaps_here : (number : ℕ) (only : Which) (file : List ℕ) (left : ℕ) (image : NodeOf Spot) (found : Option Requested) (its : NodeName) (later : ℕ → Result (Option (List ℕ)) FitFault) → TellsFound only file image (Ok found)
    → IfSome found (IsPayloadOf number (length file)) → Claims left found (Overlaps its) → (if is_asked only image.name then fits_before image.name left (payload file image) later else later left) ≡ Ok (Some (as_bytes its))
overlaps_here number only file left image None its later tells inside same = absurd (cc)
overlaps_here number only file left image (Some it) its later tells inside over =
    let message = slice file it.span.place it.span.length in
    let len = length-slice file it.span.place it.span.length inside.inside in
    let named : image.name ≡ as_bytes its = sym (ap as_bytes over.1 ∙ tells.named) in
    ap (λ (b : Bool). if b then fits_before image.name left (payload file image) later else later left) tells.asked
    ∙ ap (λ (p : Result (List ℕ) FitFault). fits_before image.name left p later) tells.is
    ∙ rw (lt-ltb left (length message) (omega (arith, over.0, len))) (ap (λ (n : List ℕ). let r : Result (Option (List ℕ)) FitFault = Ok (Some n) in r) named)

-- one that is refused
refused_here : (only : Which) (file : List ℕ) (left : ℕ) (image : NodeOf Spot) (fault : Fault) (later : ℕ → Result (Option (List ℕ)) FitFault) → TellsFound only file image (Err fault)
    → ClaimsAll (if is_asked only image.name then fits_before image.name left (payload file image) later else later left) (Err fault)
refused_here only file left image (of.Blob fault at) later tells = absurd tells
refused_here only file left image (of.Fit fault) later tells =
    ap (λ (b : Bool). if b then fits_before image.name left (payload file image) later else later left) tells.0
    ∙ ap (λ (p : Result (List ℕ) FitFault). fits_before image.name left p later) tells.1
refused_here only file left image of.Read later tells = tt
refused_here only file left image of.Put later tells = tt

-- the claims of an image, and of those after it
claims_next : (only : Which) (file : List ℕ) (left : ℕ) (image : NodeOf Spot) (more : List (NodeOf Spot))
    → claims only file left (image ∷ more)
    ≡ (if is_asked only image.name then claims_before image.name left (payload file image) (λ rest. claims only file rest more) else claims only file left more)
unfolding claims
claims_next only file left image more = refl

no_claims : (only : Which) (file : List ℕ) (left : ℕ) → claims only file left [] ≡ []
unfolding claims
no_claims only file left = refl

-- that of one that is not asked for, or fits
claim_fits : (number : ℕ) (only : Which) (file : List ℕ) (left rest : ℕ) (image : NodeOf Spot) (found : Option Requested) (later : ℕ → List Claiming.Claim) → TellsFound only file image (Ok found)
    → IfSome found (IsPayloadOf number (length file)) → Claims left found (Fits rest) → (if is_asked only image.name then claims_before image.name left (payload file image) later else later left) ≡ claim_of left found ++ later rest
unfolding rest_of
claim_fits number only file left rest image None later tells inside same =
    ap (λ (b : Bool). if b then claims_before image.name left (payload file image) later else later left) tells ∙ ap later (sym (ap rest_of same))
claim_fits number only file left rest image (Some it) later tells inside sum =
    let message = slice file it.span.place it.span.length in
    let len = length-slice file it.span.place it.span.length inside.inside in
    let size = it.span.length in
    let gone : left - length message ≡ rest = omega (arith, sum, len) in
    ap (λ (b : Bool). if b then claims_before image.name left (payload file image) later else later left) tells.asked
    ∙ ap (λ (p : Result (List ℕ) FitFault). claims_before image.name left p later) tells.is
    ∙ rw (le-ltb left (length message) (omega (arith, sum, len)), le-ltb left size (omega (arith, sum)))
    (ap (λ (n : List ℕ). claim n (length message) ∷ later (left - length message)) (sym tells.named)
    ∙ ap (λ (k : ℕ). claim (as_bytes it.name) k ∷ later (left - length message)) len
    ∙ ap (λ (k : ℕ). claim (as_bytes it.name) size ∷ later k) gone)

-- of one with which they overlap there is none
claim_over : (number : ℕ) (only : Which) (file : List ℕ) (left : ℕ) (image : NodeOf Spot) (found : Option Requested) (its : NodeName) (later : ℕ → List Claiming.Claim) → TellsFound only file image (Ok found)
    → IfSome found (IsPayloadOf number (length file)) → Claims left found (Overlaps its) → (if is_asked only image.name then claims_before image.name left (payload file image) later else later left) ≡ claim_of left found
claim_over number only file left image None its later tells inside same = absurd (cc)
claim_over number only file left image (Some it) its later tells inside over =
    let message = slice file it.span.place it.span.length in
    let len = length-slice file it.span.place it.span.length inside.inside in
    ap (λ (b : Bool). if b then claims_before image.name left (payload file image) later else later left) tells.asked
    ∙ ap (λ (p : Result (List ℕ) FitFault). claims_before image.name left p later) tells.is
    ∙ rw (lt-ltb left (length message) (omega (arith, over.0, len)), lt-ltb left it.span.length over.0) refl

-- that of one whose claim failed is the first of those that are left
unclaimed : (number : ℕ) (only : Which) (file : List ℕ) (left : ℕ) (image : NodeOf Spot) (found : Option Requested) (later : ℕ → List Claiming.Claim) → TellsFound only file image (Ok found)
    → IfSome found (IsPayloadOf number (length file)) → (rest : List Claiming.Claim) × (claim_of left found ++ rest ≡ (if is_asked only image.name then claims_before image.name left (payload file image) later else later left))
unclaimed number only file left image None later tells inside =
    let whole = if is_asked only image.name then claims_before image.name left (payload file image) later else later left in
    (whole, refl)
unclaimed number only file left image (Some it) later tells inside = by_bool (nat_lt left it.span.length)
    (λ over.
    let less : left < it.span.length = ltb-true left it.span.length over in
    let is = claim_over number only file left image (Some it) it.name later tells inside (less, refl) in
    ([], append-nil (claim_of left (Some it)) ∙ sym is))
    (λ under.
    let rest = left - it.span.length in
    let sum : rest + it.span.length ≡ left = omega (arith, ltb-false left it.span.length under) in
    (later rest, sym (claim_fits number only file left rest image (Some it) later tells inside sum)))

pub claims_more : (t : Siblings) (file : List ℕ) (only : Which) (found : List (NodeOf Spot)) (asked new left : ℕ) (next : Option ℕ) (notes : Bool) (before after ended : List Claiming.Claim) (k : LeftClaimed t file only found asked new left next notes before after)
    → (image : NodeOf Spot) (more : List (NodeOf Spot)) → k.rest ≡ image ∷ more → (later rest : ℕ) (following : Option ℕ) (number : ℕ) (it : Option Requested) → later ≤ new + 267 → TellsFound only file image (Ok it)
    → IfSome it (IsPayloadOf number (length file)) → Claims left it (Fits rest)
    → AreFrom t in_images following more → (IsTrue notes → ended ≡ after ++ claim_of left it) → LeftClaimed t file only found asked later rest following notes before ended
claims_more t file only found asked new left next notes before after ended k image more are later rest following number it paid tells inside claimed from told = record {
  rest = more;
  from = from;
  same = k.same ∙ ap (overlapping only file left) are ∙ overlapping_more only file left image more
      ∙ fits number only file left rest image it (λ n. overlapping only file n more) tells inside claimed;
  paid = omega (arith, k.paid, paid, ap (λ (l : List (NodeOf Spot)). length l) are);
  claimed = λ known.
      let one = ap (claims only file left) are ∙ claims_next only file left image more ∙ claim_fits number only file left rest image it (λ n. claims only file n more) tells inside claimed in
      k.claimed known ∙ ap (λ (xs : List Claiming.Claim). after ++ xs) one ∙ sym (append_assoc after (claim_of left it) (claims only file rest more))
      ∙ ap (λ (xs : List Claiming.Claim). xs ++ claims only file rest more) (sym (told known));
}

pub claims_end : (t : Siblings) (file : List ℕ) (only : Which) (found : List (NodeOf Spot)) (asked new left : ℕ) (next : Option ℕ) (notes : Bool) (before after ended : List Claiming.Claim) (k : LeftClaimed t file only found asked new left next notes before after)
    → (image : NodeOf Spot) (more : List (NodeOf Spot)) → k.rest ≡ image ∷ more → (later : ℕ) (its : NodeName) (number : ℕ) (it : Option Requested) → later ≤ new + 267 → TellsFound only file image (Ok it)
    → IfSome it (IsPayloadOf number (length file)) → Claims left it (Overlaps its) → (IsTrue notes → ended ≡ after ++ claim_of left it)
    → ClaimsImagesBetween file only found asked later (Ok (Some its)) notes before ended
claims_end t file only found asked new left next notes before after ended k image more are later its number it paid tells inside claimed told = record {
  told = k.same ∙ ap (overlapping only file left) are ∙ overlapping_more only file left image more
      ∙ overlaps_here number only file left image it its (λ n. overlapping only file n more) tells inside claimed;
  paid = omega (arith, k.paid, paid, ap (λ (l : List (NodeOf Spot)). length l) are);
  claimed = λ known.
      let one = ap (claims only file left) are ∙ claims_next only file left image more ∙ claim_over number only file left image it its (λ n. claims only file n more) tells inside claimed in
      told known ∙ sym (k.claimed known ∙ ap (λ (xs : List Claiming.Claim). after ++ xs) one);
}

-- what was claimed before a fault
cut_claims : (file : List ℕ) (only : Which) (left : ℕ) (image : NodeOf Spot) (later : ℕ → List Claiming.Claim) (fault : Fault) (all before after : List Claiming.Claim) → TellsFound only file image (Err fault)
    → before ++ all ≡ after ++ (if is_asked only image.name then claims_before image.name left (payload file image) later else later left) → ClaimsTo {X = Option NodeName} all (Err fault) before after
cut_claims file only left image later (of.Blob fault at) all before after tells is = absurd tells
cut_claims file only left image later (of.Fit fault) all before after tells is =
    sym (is ∙ ap (λ (b : Bool). after ++ (if b then claims_before image.name left (payload file image) later else later left)) tells.0
    ∙ ap (λ (p : Result (List ℕ) FitFault). after ++ claims_before image.name left p later) tells.1 ∙ append-nil after)
cut_claims file only left image later of.Read all before after tells is = record { rest = _; is = sym is }
cut_claims file only left image later of.Put all before after tells is = record { rest = _; is = sym is }

pub claims_cut : (t : Siblings) (file : List ℕ) (only : Which) (found : List (NodeOf Spot)) (asked new left : ℕ) (next : Option ℕ) (notes : Bool) (before after ended : List Claiming.Claim) (k : LeftClaimed t file only found asked new left next notes before after)
    → (image : NodeOf Spot) (more : List (NodeOf Spot)) → k.rest ≡ image ∷ more → (later : ℕ) (fault : Fault) (r : Result (Option NodeName) Fault) → r ≡ Err fault → later ≤ new + 267 → TellsFound only file image (Err fault) → ended ≡ after
    → ClaimsImagesBetween file only found asked later r notes before ended
claims_cut t file only found asked new left next notes before after ended k image more are later fault r is paid tells same = record {
  told = subst (λ (x : Result (Option NodeName) Fault). ClaimsAll (overlapping only file (length file) found) x) (sym is)
      (subst (λ (x : Result (Option (List ℕ)) FitFault). ClaimsAll x (Err fault)) (sym (k.same ∙ ap (overlapping only file left) are ∙ overlapping_more only file left image more))
      (refused_here only file left image fault (λ n. overlapping only file n more) tells));
  paid = omega (arith, k.paid, paid, ap (λ (l : List (NodeOf Spot)). length l) are);
  claimed = λ known.
      let one = ap (claims only file left) are ∙ claims_next only file left image more in
      let told = cut_claims file only left image (λ n. claims only file n more) fault (claims only file (length file) found) before after tells (k.claimed known ∙ ap (λ (xs : List Claiming.Claim). after ++ xs) one) in
      subst (λ (x : Result (Option NodeName) Fault). ClaimsTo (claims only file (length file) found) x before ended) (sym is)
      (subst (λ (xs : List Claiming.Claim). ClaimsTo {X = Option NodeName} (claims only file (length file) found) (Err fault) before xs) (sym same) told);
}

pub claims_failed : (t : Siblings) (file : List ℕ) (only : Which) (found : List (NodeOf Spot)) (asked new left : ℕ) (next : Option ℕ) (notes : Bool) (before after ended : List Claiming.Claim) (k : LeftClaimed t file only found asked new left next notes before after)
    → (image : NodeOf Spot) (more : List (NodeOf Spot)) → k.rest ≡ image ∷ more → (later : ℕ) (r : Result (Option NodeName) Fault) → r ≡ Err of.Put → (number : ℕ) (it : Option Requested) → later ≤ new + 267 → TellsFound only file image (Ok it)
    → IfSome it (IsPayloadOf number (length file)) → (IsTrue notes → ended ≡ after ++ claim_of left it)
    → ClaimsImagesBetween file only found asked later r notes before ended
claims_failed t file only found asked new left next notes before after ended k image more are later r is number it paid tells inside told = record {
  told = subst (λ (x : Result (Option NodeName) Fault). ClaimsAll (overlapping only file (length file) found) x) (sym is) tt;
  paid = omega (arith, k.paid, paid, ap (λ (l : List (NodeOf Spot)). length l) are);
  claimed = λ known.
      let one = ap (claims only file left) are ∙ claims_next only file left image more in
      let u = unclaimed number only file left image it (λ n. claims only file n more) tells inside in
      let all = claims only file (length file) found in
      let first : ended ++ u.0 ≡ before ++ all = ap (λ (xs : List Claiming.Claim). xs ++ u.0) (told known) ∙ append_assoc after (claim_of left it) u.0 ∙ ap (λ (xs : List Claiming.Claim). after ++ xs) (u.1 ∙ sym one) ∙ sym (k.claimed known) in
      subst (λ (x : Result (Option NodeName) Fault). ClaimsTo all x before ended) (sym is) (record { rest = u.0; is = first });
}

pub claims_unread : (file : List ℕ) (only : Which) (found : List (NodeOf Spot)) (asked new : ℕ) (r : Result (Option NodeName) Fault) (notes : Bool) (before after : List Claiming.Claim) → r ≡ Err of.Read → new ≤ asked + 267 * length found → (IsTrue notes → after ≡ before)
    → ClaimsImagesBetween file only found asked new r notes before after
claims_unread file only found asked new r notes before after is paid same = record {
  told = subst (λ (x : Result (Option NodeName) Fault). ClaimsAll (overlapping only file (length file) found) x) (sym is) tt;
  paid = paid;
  claimed = λ known.
      let all = claims only file (length file) found in
      subst (λ (x : Result (Option NodeName) Fault). ClaimsTo all x before after) (sym is) (record { rest = all; is = ap (λ (xs : List Claiming.Claim). xs ++ all) (same known) });
}

pub claims_done : (t : Siblings) (file : List ℕ) (only : Which) (found : List (NodeOf Spot)) (asked new left : ℕ) (next : Option ℕ) (notes : Bool) (before after : List Claiming.Claim) → next ≡ None → LeftClaimed t file only found asked new left next notes before after
    → ClaimsImagesBetween file only found asked new (Ok None) notes before after
claims_done t file only found asked new left next notes before after none k =
    let nothing : k.rest ≡ [] = none_left t in_images k.rest (subst (λ (o : Option ℕ). AreFrom t in_images o k.rest) none k.from) in
    record {
      told = k.same ∙ ap (overlapping only file left) nothing ∙ none_overlapping only file left;
      paid = omega (arith, k.paid);
      claimed = λ known. sym (k.claimed known ∙ ap (λ (xs : List (NodeOf Spot)). after ++ claims only file left xs) nothing ∙ ap (λ (xs : List Claiming.Claim). after ++ xs) (no_claims only file left) ∙ append-nil after);
    }

-- Where payloads do not overlap, the next one fits, and those after it.
pub record FitsFirst (only : Which) (file : List ℕ) (left : ℕ) (image : NodeOf Spot) (more : List (NodeOf Spot)) : Type 0 where
  pub rest : ℕ
  pub sum : rest + size_if (is_asked only image.name) (payload file image) ≡ left
  pub there : is_asked only image.name ≡ true → is_ok (payload file image) ≡ true
  pub fits : overlapping only file rest more ≡ Ok None

no_name : (name : List ℕ) → ◌≡◌ {A = Result (Option (List ℕ)) FitFault} (Ok (Some name)) (Ok None) → ⊥
no_name name is = absurd (cc)

no_fault : (fault : FitFault) → ◌≡◌ {A = Result (Option (List ℕ)) FitFault} (Err fault) (Ok None) → ⊥
no_fault fault is = absurd (cc)

record Room (b : Bool) (left : ℕ) (p : Result (List ℕ) FitFault) (later : ℕ → Result (Option (List ℕ)) FitFault) : Type 0 where
  rest : ℕ
  sum : rest + size_if b p ≡ left
  there : b ≡ true → is_ok p ≡ true
  fits : later rest ≡ Ok None

room : (b : Bool) (name : List ℕ) (left : ℕ) (p : Result (List ℕ) FitFault) (later : ℕ → Result (Option (List ℕ)) FitFault) → (if b then fits_before name left p later else later left) ≡ Ok None → Room b left p later
room true name left (Ok message) later is = by_bool (nat_lt left (length message))
    (λ over. absurd (no_name name (sym (ap (λ (c : Bool). if c then Ok (Some name) else later (left - length message)) over) ∙ is)))
    (λ under. record {
      rest = left - length message;
      sum = omega (arith, ltb-false left (length message) under);
      there = λ yes. refl;
      fits = sym (ap (λ (c : Bool). if c then Ok (Some name) else later (left - length message)) under) ∙ is;
    })
room true name left (Err fault) later is = absurd (no_fault fault is)
room false name left p later is = record { rest = left; sum = omega arith; there = λ yes. absurd (true_false (sym yes)); fits = is }

pub fits_first : (only : Which) (file : List ℕ) (left : ℕ) (image : NodeOf Spot) (more : List (NodeOf Spot)) → overlapping only file left (image ∷ more) ≡ Ok None → FitsFirst only file left image more
fits_first only file left image more is =
    let r = room (is_asked only image.name) image.name left (payload file image) (λ n. overlapping only file n more) (sym (overlapping_more only file left image more) ∙ is) in
    record { rest = r.rest; sum = r.sum; there = r.there; fits = r.fits }
