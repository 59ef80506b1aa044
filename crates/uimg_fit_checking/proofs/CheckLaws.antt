-- Checking hash nodes and images, one more at a time.
use Rattle.std.proofs.Common.{◌≡◌, ◌<◌, ◌≤◌, ◌+◌, ◌-◌, ◌*◌, ℕ, List, [], ◌∷◌, length, Option, Some, None, is_none, ◌&&◌, Bool, true, false, not, refl, ap, sym, ◌∙◌, subst, arith}
use Rattle.std.specs.Prelude.{Result, Ok, Err, is_err, IfOk, if◌then◌else◌}
use Rattle.std.specs.List.{sum_by}
use Rattle.std.specs.Option.{is_some, option_map, option_map_or}
use Rattle.std.proofs.lemmas.Bool.{lt-ltb, le-ltb}
use Rattle.std.proofs.lemmas.List.Sums.{sum_by-cons}
use Rattle.uimg_sums.specs.declared.algo.Algo.{Algo}
use Rattle.uimg_texts.specs.Slices.{slice}
use Rattle.uimg_texts.specs.declared.naming.Naming.TheVariants as naming
use Rattle.uimg_base.specs.Results.{◌>>=◌}
use Rattle.uimg_base.specs.declared.source.SourceFault.{SourceFault}
use Rattle.uimg_base.specs.declared.spans.Span.{Span}
use Rattle.uimg_blob_reading.specs.Blob.{tree}
use Rattle.uimg_blob_reading.specs.Counts.{index_cost, nodes_met, texts_met}
use Rattle.uimg_blob_reading.specs.Grammar.{Siblings}
use Rattle.uimg_blob_reading.specs.LookUps.{NodeOf, hashes, images}
use Rattle.uimg_blob_reading.specs.Reading.{Fault as BlobFaultAt}
use Rattle.uimg_blob_reading.specs.Roles.{in_images}
use Rattle.uimg_blob_reading.specs.Spots.{Spot, spots}
use Rattle.uimg_blob_reading.proofs.PhaseLaws.{true_false}
use Rattle.uimg_fit_base.specs.declared.algo_sets.AlgoSet.{AlgoSet}
use Rattle.uimg_fit_base.specs.declared.fault.Fault.{Fault}
use Rattle.uimg_fit_base.specs.declared.fault.Fault.TheVariants as of
use Rattle.uimg_fit_base.specs.declared.fault.FitFault.{FitFault}
use Rattle.uimg_fit_base.specs.declared.verdicts.Verdict.{Verdict}
use Rattle.uimg_fit_base.specs.AlgoSets.{is_empty, no_algos}
use Rattle.uimg_fit_base.specs.Faults.{Gives}
use Rattle.uimg_fit_base.specs.Places.{payload, TellsPlace}
use Rattle.uimg_fit_base.specs.Report.{named_word, is_right}
use Rattle.uimg_fit_base.proofs.FileLaws.{images_are}
use Rattle.uimg_fit_checking.specs.declared.checking.Finding.{Finding}
use Rattle.uimg_fit_checking.specs.declared.checking.Finding.TheVariants as fit_finding
use Rattle.uimg_fit_checking.specs.declared.checking.checked_payloads.Checked.{Checked}
use Rattle.uimg_fit_checking.specs.declared.checking.checked_payloads.Checked.TheVariants.{On, Ended}
use Rattle.uimg_fit_checking.specs.declared.wrong_hashes.WrongHash.{WrongHash}
use Rattle.uimg_fit_reading.specs.Allowances.{node_allowance, allowance}
use Rattle.uimg_fit_checking.specs.Checks.{NamedFinding, check_work, named_finding, wrong_in, is_weak, or_weak, found_of, image_finding, or_later, first_told, images_finding, some_told, check_of, or_right}
use Rattle.uimg_fit_checking.specs.CheckParts.{FindsWrongBetween, IsChecked, TellsChecked, left_of, ChecksPayloadBetween, ChecksImageBetween, ChecksImagesBetween}
use Rattle.uimg_fit_reading.specs.HashReports.{AllCovered}
use Rattle.uimg_fit_reading.specs.Nodes.{AreFrom, HashesAt, FirstHash}
use Rattle.uimg_fit_reading.specs.Plans.{are_compared, with_all}
use Rattle.uimg_fit_checking.specs.Vouching.{has_from}
use Rattle.uimg_fit_reading.specs.Work.{hashed_size}
use Rattle.uimg_fit_reading.proofs.AllowanceLaws.{tree-paid}
use Rattle.uimg_fit_reading.proofs.CompareLaws.{compared_any, compared_size}
use Rattle.uimg_fit_reading.proofs.HashReportLaws.{covered_first}
use Rattle.uimg_fit_reading.proofs.ImageLaws.{front, none_left}
use Rattle.uimg_fit_reading.proofs.PlanLaws.{if_err}
use Rattle.uimg_fit_reading.proofs.SharesLaws.{hashes_allowed, images_allowed}
use Rattle.uimg_texts.specs.declared.naming.Naming.{TheVariants.{Profile}}
use Rattle.uimg_blob_reading.specs.Keys.{is_text}

-- The first hash node that is not right among those that are left is the first of all.
pub record LeftRight (t : Siblings) (set : AlgoSet) (message : List ℕ) (hs : List (NodeOf Spot)) (asked new : ℕ) (next : Option ℕ) : Type 0 where
  pub left : List (NodeOf Spot)
  pub at : HashesAt t next left
  pub covered : AllCovered naming.All set left
  pub same : (name : List ℕ) → wrong_in name message hs ≡ wrong_in name message left
  pub paid : new + 96 * length left ≤ asked + 96 * length hs

pub rights_first : (t : Siblings) (set : AlgoSet) (message : List ℕ) (hs : List (NodeOf Spot)) (asked : ℕ) (next : Option ℕ) → HashesAt t next hs → AllCovered naming.All set hs
    → LeftRight t set message hs asked asked next
rights_first t set message hs asked next at covered = record { left = hs; at = at; covered = covered; same = λ name. refl; paid = omega arith }

right_next : (name message : List ℕ) (h : NodeOf Spot) (hs : List (NodeOf Spot)) → is_right (named_word naming.All message h) ≡ true → wrong_in name message (h ∷ hs) ≡ wrong_in name message hs
unfolding wrong_in
right_next name message h hs is = rw is refl

wrong_next : (name message : List ℕ) (h : NodeOf Spot) (hs : List (NodeOf Spot)) → is_right (named_word naming.All message h) ≡ false
    → wrong_in name message (h ∷ hs) ≡ Some (fit_finding.Wrong name h.name (named_word naming.All message h))
unfolding wrong_in
wrong_next name message h hs is = rw is refl

none_wrong : (name message : List ℕ) → wrong_in name message [] ≡ None
unfolding wrong_in
none_wrong name message = refl

pub rights_more : (t : Siblings) (set : AlgoSet) (message : List ℕ) (hs : List (NodeOf Spot)) (asked new number : ℕ) (next : Option ℕ) (k : LeftRight t set message hs asked new next)
    (f : FirstHash t number k.left) (word : Verdict) (following : Option ℕ) (later : ℕ) → word ≡ named_word naming.All message f.hash → is_right word ≡ true → later ≤ new + 96 → HashesAt t following f.more
    → LeftRight t set message hs asked later following
rights_more t set message hs asked new number next k f word following later is good paid at = record {
  left = f.more;
  at = at;
  covered = (covered_first naming.All set k.left t number f k.covered).1;
  same = λ name. k.same name ∙ ap (wrong_in name message) f.are ∙ right_next name message f.hash f.more (ap is_right (sym is) ∙ good);
  paid = omega (arith, paid, k.paid, ap (λ (l : List (NodeOf Spot)). length l) f.are);
}

pub rights_cut : (t : Siblings) (set : AlgoSet) (file message : List ℕ) (hs : List (NodeOf Spot)) (asked new number : ℕ) (next : Option ℕ) (k : LeftRight t set message hs asked new next)
    → FirstHash t number k.left → (later : ℕ) (r : Result (Option WrongHash) SourceFault) → later ≤ new + 96 → is_err r ≡ true → FindsWrongBetween file message hs asked later r
rights_cut t set file message hs asked new number next k f later r paid failed = record {
  told = λ name. if_err r _ failed;
  short = if_err r _ failed;
  paid = omega (arith, paid, k.paid, ap (λ (l : List (NodeOf Spot)). length l) f.are);
}

pub rights_end : (t : Siblings) (set : AlgoSet) (file message : List ℕ) (hs : List (NodeOf Spot)) (asked new number : ℕ) (next : Option ℕ) (hash : Span)
    (k : LeftRight t set message hs asked new next) (f : FirstHash t number k.left) (word : Verdict) (later : ℕ) → word ≡ named_word naming.All message f.hash → is_right word ≡ false
    → slice file hash.place hash.length ≡ f.hash.name → hash.length ≤ 255 → later ≤ new + 96
    → FindsWrongBetween file message hs asked later (Ok (Some (record { hash = hash; word = word })))
rights_end t set file message hs asked new number next hash k f word later is bad named short paid = record {
  short = short;
  told = λ name. ap (λ (n : List ℕ). Some (fit_finding.Wrong name n word)) named ∙ ap (λ (w : Verdict). Some (fit_finding.Wrong name f.hash.name w)) is
      ∙ sym (k.same name ∙ ap (wrong_in name message) f.are ∙ wrong_next name message f.hash f.more (ap is_right (sym is) ∙ bad));
  paid = omega (arith, paid, k.paid, ap (λ (l : List (NodeOf Spot)). length l) f.are);
}

pub rights_all : (t : Siblings) (set : AlgoSet) (file message : List ℕ) (hs : List (NodeOf Spot)) (asked new : ℕ) (next : Option ℕ) → next ≡ None → LeftRight t set message hs asked new next
    → FindsWrongBetween file message hs asked new (Ok None)
rights_all t set file message hs asked new next none k =
    let nothing_left : k.left ≡ [] = subst (λ (o : Option ℕ). HashesAt t o k.left) none k.at in
    record {
      told = λ name. sym (k.same name ∙ ap (wrong_in name message) nothing_left ∙ none_wrong name message);
      short = tt;
      paid = omega (arith, k.paid);
    }

-- what is read of a payload
pub read_is : (image : NodeOf Spot) (message : List ℕ) (set : AlgoSet) (size : ℕ) → set ≡ with_all naming.All no_algos (hashes image) → length message ≡ size
    → (if is_empty set then 0 else size) ≡ hashed_size naming.All image (Ok message)
read_is image message set size is long =
    ap (λ (s : AlgoSet). if is_empty s then 0 else size) is ∙ compared_size naming.All (hashes image) size
    ∙ ap (λ (n : ℕ). if are_compared naming.All (hashes image) then n else 0) (sym long)
    ∙ ap (λ (b : Bool). if b then length message else 0) (sym (compared_any naming.All message (hashes image)))

-- an image whose payload has more bytes than are left
over : (need : Option Algo) (left size : ℕ) (image : NodeOf Spot) (message : List ℕ) → size ≡ hashed_size naming.All image (Ok message) → left < size → found_of need left image message ≡ Some (fit_finding.Overlapping image.name)
over need left size image message is more = rw (lt-ltb left (hashed_size naming.All image (Ok message)) (omega (arith, is, more))) refl

-- one whose payload has not
within : (need : Option Algo) (left size : ℕ) (image : NodeOf Spot) (message : List ℕ) → size ≡ hashed_size naming.All image (Ok message) → size ≤ left
    → found_of need left image message ≡ or_weak (wrong_in image.name message (hashes image)) need image
within need left size image message is few = rw (le-ltb left (hashed_size naming.All image (Ok message)) (omega (arith, is, few))) refl

-- each hash node has its allowance
pub some_nodes : (hs : List (NodeOf Spot)) → 760 * length hs ≤ sum_by (node_allowance Profile) hs
some_nodes [] = omega arith
some_nodes (h ∷ hs) = omega (arith, sum_by-cons (node_allowance Profile) h hs, some_nodes hs)

nodes_paid : (image : NodeOf Spot) → 128 * length (hashes image) + 760 ≤ node_allowance Profile image
nodes_paid image = omega (arith, some_nodes (hashes image), hashes_allowed Profile image)

pub payload_over : (file : List ℕ) (need : Option Algo) (left size : ℕ) (image : NodeOf Spot) (message : List ℕ) (asked new : ℕ) (name : Span) → size ≡ hashed_size naming.All image (Ok message) → left < size
    → slice file name.place name.length ≡ image.name → new ≤ asked + 32 * length (hashes image) → ChecksPayloadBetween file need left image message asked new (Ok (Ended (fit_finding.Overlapping name)))
payload_over file need left size image message asked new name is more named paid = record {
  told = over need left size image message is more ∙ ap (λ (n : List ℕ). Some (fit_finding.Overlapping n)) (sym named);
  paid = omega (arith, paid, nodes_paid image);
}

nothing_left_of : {F : Type 0} (r : Result Checked F) → is_err r ≡ true → left_of r ≡ 0
nothing_left_of (Ok x) failed = absurd (true_false (sym failed))
nothing_left_of (Err e) failed = refl

-- a read failed
pub payload_cut : (file : List ℕ) (need : Option Algo) (left : ℕ) (image : NodeOf Spot) (message : List ℕ) (asked new : ℕ) (r : Result Checked SourceFault) → is_err r ≡ true
    → new ≤ asked + (left + 128 * length (hashes image)) → ChecksPayloadBetween file need left image message asked new r
payload_cut file need left image message asked new r failed paid = record {
  told = if_err r _ failed;
  paid = omega (arith, paid, nodes_paid image, nothing_left_of r failed);
}

-- a hash node is not right
pub payload_wrong : (file : List ℕ) (need : Option Algo) (left size : ℕ) (image : NodeOf Spot) (message : List ℕ) (asked middle new : ℕ) (name : Span) (found : WrongHash) → size ≡ hashed_size naming.All image (Ok message) → size ≤ left
    → middle ≤ asked + (size + 32 * length (hashes image)) → FindsWrongBetween file message (hashes image) middle new (Ok (Some found)) → slice file name.place name.length ≡ image.name
    → ChecksPayloadBetween file need left image message asked new (Ok (Ended (fit_finding.Wrong name found.hash found.word)))
payload_wrong file need left size image message asked middle new name found is few paid w named = record {
  told = within need left size image message is few ∙ ap (λ (o : Option NamedFinding). or_weak o need image) (sym (w.told image.name))
      ∙ ap (λ (n : List ℕ). Some (fit_finding.Wrong n (slice file found.hash.place found.hash.length) found.word)) (sym named);
  paid = omega (arith, paid, w.paid, few, nodes_paid image);
}

-- what was found of hash nodes, once more of the same bytes
pub finds_in : (file read message : List ℕ) (hs : List (NodeOf Spot)) (asked new : ℕ) (o p : Option WrongHash) → read ≡ file → o ≡ p
    → FindsWrongBetween read message hs asked new (Ok o) → FindsWrongBetween file message hs asked new (Ok p)
finds_in file read message hs asked new o p same is w =
    subst (λ (x : Option WrongHash). FindsWrongBetween file message hs asked new (Ok x)) is
    (subst (λ (xs : List ℕ). FindsWrongBetween xs message hs asked new (Ok o)) same w)

-- whether an image is weak, by its algorithms
pub weak_by : (need : Option Algo) (image : NodeOf Spot) (set : AlgoSet) → set ≡ with_all naming.All no_algos (hashes image) → is_weak need image ≡ option_map_or (λ algo. not (has_from set algo)) need false
weak_by None image set is = refl
weak_by (Some need) image set is = ap (λ (s : AlgoSet). not (has_from s need)) (sym is)

pub payload_weak : (file : List ℕ) (need : Option Algo) (left size : ℕ) (image : NodeOf Spot) (message : List ℕ) (asked middle new : ℕ) (set : AlgoSet) (name : Span) → size ≡ hashed_size naming.All image (Ok message) → size ≤ left
    → middle ≤ asked + (size + 32 * length (hashes image)) → FindsWrongBetween file message (hashes image) middle new (Ok None) → set ≡ with_all naming.All no_algos (hashes image)
    → option_map_or (λ algo. not (has_from set algo)) need false ≡ true → slice file name.place name.length ≡ image.name
    → ChecksPayloadBetween file need left image message asked new (Ok (Ended (fit_finding.Weak name)))
payload_weak file need left size image message asked middle new set name is few paid w algos lacks named = record {
  told = within need left size image message is few ∙ ap (λ (o : Option NamedFinding). or_weak o need image) (sym (w.told image.name))
      ∙ ap (λ (b : Bool). if b then Some (fit_finding.Weak image.name) else None) (weak_by need image set algos ∙ lacks) ∙ ap (λ (n : List ℕ). Some (fit_finding.Weak n)) (sym named);
  paid = omega (arith, paid, w.paid, few, nodes_paid image);
}

pub payload_on : (file : List ℕ) (need : Option Algo) (left size : ℕ) (image : NodeOf Spot) (message : List ℕ) (asked middle new : ℕ) (set : AlgoSet) (rest : ℕ) → size ≡ hashed_size naming.All image (Ok message) → size ≤ left
    → middle ≤ asked + (size + 32 * length (hashes image)) → FindsWrongBetween file message (hashes image) middle new (Ok None) → set ≡ with_all naming.All no_algos (hashes image)
    → option_map_or (λ algo. not (has_from set algo)) need false ≡ false → rest + size ≡ left → ChecksPayloadBetween file need left image message asked new (Ok (On rest))
payload_on file need left size image message asked middle new set rest is few paid w algos lacks sum = record {
  told = (
    within need left size image message is few ∙ ap (λ (o : Option NamedFinding). or_weak o need image) (sym (w.told image.name))
        ∙ ap (λ (b : Bool). if b then Some (fit_finding.Weak image.name) else None) (weak_by need image set algos ∙ lacks),
    omega (arith, is, sum),
  );
  paid = omega (arith, paid, w.paid, few, sum, nodes_paid image);
}

-- an image whose payload is there
checked_is : (file : List ℕ) (need : Option Algo) (left : ℕ) (image : NodeOf Spot) (message : List ℕ) (p : Result (List ℕ) FitFault) (step : Checked) → p ≡ Ok message
    → IsChecked file left (hashed_size naming.All image (Ok message)) (found_of need left image message) step → TellsChecked file left (hashed_size naming.All image p) (image_finding need left image p) (Ok step)
checked_is file need left image message p (On rest) is checked =
    (ap (image_finding need left image) is ∙ ap (λ (o : Option NamedFinding). Ok o) checked.0, omega (arith, checked.1, ap (hashed_size naming.All image) is))
checked_is file need left image message p (Ended found) is checked =
    ap (image_finding need left image) is ∙ ap (λ (o : Option NamedFinding). Ok o) checked

pub image_checked : (file : List ℕ) (need : Option Algo) (left : ℕ) (image : NodeOf Spot) (message : List ℕ) (asked middle new : ℕ) (step : Checked) → payload file image ≡ Ok message → middle ≤ asked + 12
    → ChecksPayloadBetween file need left image message middle new (Ok step) → ChecksImageBetween file need left image asked new (Ok step)
image_checked file need left image message asked middle new step is paid c = record {
  told = checked_is file need left image message (payload file image) step is c.told;
  paid = omega (arith, paid, c.paid);
}

-- a read of it failed
pub image_cut : (file : List ℕ) (need : Option Algo) (left : ℕ) (image : NodeOf Spot) (message : List ℕ) (asked middle new : ℕ) (fault : SourceFault) → middle ≤ asked + 12
    → ChecksPayloadBetween file need left image message middle new (Err fault) → ChecksImageBetween file need left image asked new (Err of.Read)
image_cut file need left image message asked middle new fault paid c = record {
  told = tt;
  paid = omega (arith, paid, c.paid);
}

-- one whose payload is not there
lacks_payload : (file : List ℕ) (need : Option Algo) (left size : ℕ) (image : NodeOf Spot) (fault : Fault) → TellsPlace file image (Err fault) → TellsChecked file left size (image_finding need left image (payload file image)) (Err fault)
lacks_payload file need left size image (of.Blob fault at) tells = absurd tells
lacks_payload file need left size image (of.Fit fault) tells = ap (image_finding need left image) tells
lacks_payload file need left size image of.Read tells = tt
lacks_payload file need left size image of.Put tells = tt

pub image_lacks : (file : List ℕ) (need : Option Algo) (left : ℕ) (image : NodeOf Spot) (asked new : ℕ) (fault : Fault) → TellsPlace file image (Err fault) → new ≤ asked + 12
    → ChecksImageBetween file need left image asked new (Err fault)
image_lacks file need left image asked new fault tells paid = record {
  told = lacks_payload file need left (hashed_size naming.All image (payload file image)) image fault tells;
  paid = omega (arith, paid);
}

-- What is told of the images that are left, with the bytes that are left, is told of all.
pub record LeftChecked (t : Siblings) (file : List ℕ) (need : Option Algo) (found : List (NodeOf Spot)) (asked new left : ℕ) (next : Option ℕ) : Type 0 where
  pub rest : List (NodeOf Spot)
  pub from : AreFrom t in_images next rest
  pub same : first_told need file (length file) found ≡ first_told need file left rest
  pub paid : new + left + sum_by (node_allowance Profile) rest ≤ asked + length file + sum_by (node_allowance Profile) found

-- an image, and those after it
told_more : (need : Option Algo) (file : List ℕ) (left : ℕ) (image : NodeOf Spot) (more : List (NodeOf Spot))
    → first_told need file left (image ∷ more) ≡ or_later (image_finding need left image (payload file image)) (first_told need file (left - hashed_size naming.All image (payload file image)) more)
unfolding first_told
told_more need file left image more = refl

none_told : (need : Option Algo) (file : List ℕ) (left : ℕ) → first_told need file left [] ≡ Ok None
unfolding first_told
none_told need file left = refl

pub images_more : (t : Siblings) (file : List ℕ) (need : Option Algo) (found : List (NodeOf Spot)) (asked new left : ℕ) (next : Option ℕ) (k : LeftChecked t file need found asked new left next)
    → (image : NodeOf Spot) (more : List (NodeOf Spot)) → k.rest ≡ image ∷ more → (later rest : ℕ) (following : Option ℕ) → ChecksImageBetween file need left image new later (Ok (On rest))
    → AreFrom t in_images following more → LeftChecked t file need found asked later rest following
images_more t file need found asked new left next k image more are later rest following c from =
    let fewer : left - hashed_size naming.All image (payload file image) ≡ rest = omega (arith, c.told.1) in
    record {
      rest = more;
      from = from;
      same = k.same ∙ ap (first_told need file left) are ∙ told_more need file left image more
          ∙ ap (λ (r : Result (Option NamedFinding) Fault). or_later r (first_told need file (left - hashed_size naming.All image (payload file image)) more)) c.told.0
          ∙ ap (λ (n : ℕ). first_told need file n more) fewer;
      paid = omega (arith, k.paid, c.paid, ap (sum_by (node_allowance Profile)) are, sum_by-cons (node_allowance Profile) image more);
    }

pub images_end : (t : Siblings) (file : List ℕ) (need : Option Algo) (found : List (NodeOf Spot)) (asked new left : ℕ) (next : Option ℕ) (k : LeftChecked t file need found asked new left next)
    → (image : NodeOf Spot) (more : List (NodeOf Spot)) → k.rest ≡ image ∷ more → (later : ℕ) (ended : Finding Span) → ChecksImageBetween file need left image new later (Ok (Ended ended))
    → ChecksImagesBetween file need found asked later (Ok (Some ended))
images_end t file need found asked new left next k image more are later ended c = record {
  told = k.same ∙ ap (first_told need file left) are ∙ told_more need file left image more
      ∙ ap (λ (r : Result (Option NamedFinding) Fault). or_later r (first_told need file (left - hashed_size naming.All image (payload file image)) more)) c.told;
  paid = omega (arith, k.paid, c.paid, ap (sum_by (node_allowance Profile)) are, sum_by-cons (node_allowance Profile) image more);
}

-- a fault of an image is that of all
fault_gives : (file : List ℕ) (left size : ℕ) (told all : Result (Option NamedFinding) Fault) (later : Result (Option NamedFinding) Fault) (fault : Fault) → all ≡ or_later told later → TellsChecked file left size told (Err fault)
    → Gives (option_map (named_finding file)) (let r : Result (Option (Finding Span)) Fault = Err fault in r) all
fault_gives file left size told all later (of.Blob fault at) is tells = absurd tells
fault_gives file left size told all later (of.Fit fault) is tells = is ∙ ap (λ (r : Result (Option NamedFinding) Fault). or_later r later) tells
fault_gives file left size told all later of.Read is tells = tt
fault_gives file left size told all later of.Put is tells = tt

pub images_cut : (t : Siblings) (file : List ℕ) (need : Option Algo) (found : List (NodeOf Spot)) (asked new left : ℕ) (next : Option ℕ) (k : LeftChecked t file need found asked new left next)
    → (image : NodeOf Spot) (more : List (NodeOf Spot)) → k.rest ≡ image ∷ more → (later : ℕ) (fault : Fault) → ChecksImageBetween file need left image new later (Err fault)
    → ChecksImagesBetween file need found asked later (Err fault)
images_cut t file need found asked new left next k image more are later fault c = record {
  told = fault_gives file left (hashed_size naming.All image (payload file image)) (image_finding need left image (payload file image)) _
      (first_told need file (left - hashed_size naming.All image (payload file image)) more) fault (k.same ∙ ap (first_told need file left) are ∙ told_more need file left image more) c.told;
  paid = omega (arith, k.paid, c.paid, ap (sum_by (node_allowance Profile)) are, sum_by-cons (node_allowance Profile) image more);
}

pub images_done : (t : Siblings) (file : List ℕ) (need : Option Algo) (found : List (NodeOf Spot)) (asked new left : ℕ) (next : Option ℕ) → next ≡ None → LeftChecked t file need found asked new left next
    → ChecksImagesBetween file need found asked new (Ok None)
images_done t file need found asked new left next none k =
    let nothing : k.rest ≡ [] = none_left t in_images k.rest (subst (λ (o : Option ℕ). AreFrom t in_images o k.rest) none k.from) in
    record {
      told = k.same ∙ ap (first_told need file left) nothing ∙ none_told need file left;
      paid = omega (arith, k.paid);
    }

-- what is asked for about the images is within the work
pub check_within : (file : List ℕ) (t : Siblings) (found : List (NodeOf Spot)) → tree file ≡ Ok t → images (spots t) ≡ Some found
    → index_cost file + length file + sum_by (node_allowance Profile) found ≤ check_work file
check_within file t found is has =
    let paid : allowance Profile (spots t) ≤ 760 * nodes_met file + 4 * texts_met is_text file =
    subst (λ (r : Result Siblings BlobFaultAt). IfOk r (λ (x : Siblings). allowance Profile (spots x) ≤ 760 * nodes_met file + 4 * texts_met is_text file)) is (tree-paid Profile file) in
    omega (arith, paid, images_allowed Profile (spots t) found has)

-- what is found of a file whose images are known
check_is : (file : List ℕ) (t : Siblings) (need : Option Algo) (found : List (NodeOf Spot)) → tree file ≡ Ok t → images (spots t) ≡ Some found → check_of need file ≡ some_told need file found
check_is file t need found is has =
    ap (λ (r : Result (List (NodeOf Spot)) Fault). r >>= some_told need file) (images_are file t (Some found) is has)

-- a needed strength, and no image
lacks_image : (file : List ℕ) (t : Siblings) (need : Option Algo) (found : List (NodeOf Spot)) (first : Option ℕ) → AreFrom t in_images first found → (is_some need && is_none first) ≡ true → some_told need file found ≡ Ok fit_finding.NoImage
lacks_image file t None found first from lacks = absurd (true_false (sym lacks))
lacks_image file t (Some need) found (Some i) from lacks = absurd (true_false (sym lacks))
lacks_image file t (Some need) found None from lacks = ap (some_told (Some need) file) (none_left t in_images found from)

pub check_lacks : (file : List ℕ) (t : Siblings) (need : Option Algo) (found : List (NodeOf Spot)) (first : Option ℕ) → tree file ≡ Ok t → images (spots t) ≡ Some found → AreFrom t in_images first found
    → (is_some need && is_none first) ≡ true → check_of need file ≡ Ok fit_finding.NoImage
check_lacks file t need found first is has from lacks = check_is file t need found is has ∙ lacks_image file t need found first from lacks

-- an image, or no needed strength
has_image : (file : List ℕ) (t : Siblings) (need : Option Algo) (found : List (NodeOf Spot)) (first : Option ℕ) → AreFrom t in_images first found → (is_some need && is_none first) ≡ false
    → some_told need file found ≡ images_finding need file found
has_image file t None found first from some = refl
has_image file t (Some need) found None from some = absurd (true_false some)
has_image file t (Some need) found (Some i) from some =
    let f = front t in_images i found from in
    ap (some_told (Some need) file) f.are ∙ sym (ap (images_finding (Some need) file) f.are)

-- What is found of the images is found of the file.
pub check_has : (file : List ℕ) (t : Siblings) (need : Option Algo) (found : List (NodeOf Spot)) (first : Option ℕ) → tree file ≡ Ok t → images (spots t) ≡ Some found → AreFrom t in_images first found
    → (is_some need && is_none first) ≡ false → check_of need file ≡ images_finding need file found
check_has file t need found first is has from some = check_is file t need found is has ∙ has_image file t need found first from some

pub check_cut : (file : List ℕ) (need : Option Algo) (found : List (NodeOf Spot)) (fault : Fault) → check_of need file ≡ images_finding need file found
    → Gives (option_map (named_finding file)) (let r : Result (Option (Finding Span)) Fault = Err fault in r) (first_told need file (length file) found)
    → Gives (named_finding file) (let r : Result (Finding Span) Fault = Err fault in r) (check_of need file)
check_cut file need found (of.Blob fault at) is gives = λ m. is ∙ ap (λ (r : Result (Option NamedFinding) Fault). r >>= (λ o. Ok (or_right need found o))) (gives m)
check_cut file need found (of.Fit fault) is gives = is ∙ ap (λ (r : Result (Option NamedFinding) Fault). r >>= (λ o. Ok (or_right need found o))) gives
check_cut file need found of.Read is gives = tt
check_cut file need found of.Put is gives = tt

pub check_ends : (file : List ℕ) (need : Option Algo) (found : List (NodeOf Spot)) (o : Option NamedFinding) → check_of need file ≡ images_finding need file found → first_told need file (length file) found ≡ Ok o
    → check_of need file ≡ Ok (or_right need found o)
check_ends file need found o is gives = is ∙ ap (λ (r : Result (Option NamedFinding) Fault). r >>= (λ o. Ok (or_right need found o))) gives
