-- What vouches for a payload, and why one is refused.
use Rattle.std.proofs.Common.{◌≡◌, ◌≤◌, ◌+◌, ◌*◌, ℕ, List, [], ◌∷◌, length, Option, Some, None, Bool, true, false, cond, not, refl, ap, sym, ◌∙◌, subst, arith}
use Rattle.std.specs.Prelude.{Result, Ok, is_err, if◌then◌else◌}
use Rattle.std.specs.List.{filter, last_or}
use Rattle.std.specs.Option.{option_map, option_map_or}
use Rattle.uimg_sums.specs.declared.algo.Algo.{Algo}
use Rattle.uimg_sums.specs.Algorithms.{all_algos, digest_by}
use Rattle.uimg_sums.specs.AnySum.{padded_digest}
use Rattle.uimg_texts.specs.declared.naming.Naming.TheVariants as naming
use Rattle.uimg_base.specs.declared.source.SourceFault.{SourceFault}
use Rattle.uimg_blob_reading.specs.LookUps.{NodeOf, hashes}
use Rattle.uimg_blob_reading.specs.Spots.{Spot}
use Rattle.uimg_blob_reading.proofs.PhaseLaws.{some_none, some_some}
use Rattle.uimg_fit_base.specs.declared.algo_sets.AlgoSet.{AlgoSet}
use Rattle.uimg_fit_base.specs.AlgoSets.{has, no_algos}
use Rattle.uimg_fit_checking.specs.declared.wrong_hashes.WrongHash.{WrongHash}
use Rattle.uimg_fit_checking.specs.declared.unpacking.taker.Refusal.{Refusal}
use Rattle.uimg_fit_checking.specs.declared.unpacking.taker.Refusal.TheVariants.{Weak}
use Rattle.uimg_fit_checking.specs.declared.unpacking.taker.Vouched.{Vouched}
use Rattle.uimg_fit_checking.specs.declared.checking.Finding.TheVariants as fit_finding
use Rattle.uimg_fit_checking.specs.Checks.{NamedFinding, wrong_in, or_weak}
use Rattle.uimg_fit_checking.specs.CheckParts.{FindsWrongBetween, wrong_told}
use Rattle.uimg_fit_reading.specs.Plans.{with_all}
use Rattle.uimg_fit_checking.specs.Unpacking.{strongest, vouched_by, told_of}
use Rattle.uimg_fit_checking.specs.UnpackingParts.{FindsRefusalBetween}
use Rattle.uimg_fit_checking.specs.Vouching.{has_from}
use Rattle.uimg_fit_checking.proofs.CheckLaws.{weak_by}
use Rattle.uimg_fit_reading.proofs.PlanLaws.{if_err}

-- the strongest of a set is in it
last-step : (f : Algo → Bool) (found : Option Algo) (x : Algo) (more : List Algo) (algo : Algo) (b : Bool) → f x ≡ b → ((o : Option Algo) → (o ≡ Some algo → f algo ≡ true) → last_or o more ≡ Some algo → f algo ≡ true)
    → (found ≡ Some algo → f algo ≡ true) → last_or found (cond b (x ∷ more) more) ≡ Some algo → f algo ≡ true
last-step f found x more algo true is rest passes same = rest (Some x) (λ one. subst (λ (a : Algo). f a ≡ true) (some_some x algo one) is) same
last-step f found x more algo false is rest passes same = rest found passes same

last-passes : (f : Algo → Bool) (found : Option Algo) (xs : List Algo) (algo : Algo) → (found ≡ Some algo → f algo ≡ true) → last_or found (filter f xs) ≡ Some algo → f algo ≡ true
last-passes f found [] algo passes same = passes same
last-passes f found (x ∷ xs) algo passes same = last-step f found x (filter f xs) algo (f x) refl (λ o. last-passes f o xs algo) passes same

pub has_strongest : (set : AlgoSet) (algo : Algo) → strongest set ≡ Some algo → has set algo ≡ true
unfolding strongest
has_strongest set algo same = last-passes (has set) None all_algos algo (λ none. absurd (some_none (sym none))) same

pub vouched_is : (set : AlgoSet) (algo : Algo) (message digest : List ℕ) → strongest set ≡ Some algo → digest ≡ (padded_digest (digest_by algo message)).0
    → ◌≡◌ {A = Option Vouched} (Some (record { algo = algo; digest = digest })) (vouched_by set message)
vouched_is set algo message digest is same =
    ap (λ (d : List ℕ). let v : Vouched = record { algo = algo; digest = d } in Some v) same
    ∙ sym (ap (λ (o : Option Algo). option_map (λ (a : Algo). let v : Vouched = record { algo = a; digest = (padded_digest (digest_by a message)).0 } in v) o) is)

-- where a hash node is not right, there is one
some_hash : (name message : List ℕ) (hs : List (NodeOf Spot)) (told : NamedFinding) → Some told ≡ wrong_in name message hs → 1 ≤ length hs
unfolding wrong_in
some_hash name message [] told is = absurd (some_none is)
some_hash name message (h ∷ hs) told is = omega arith

-- the first hash node was not found
pub refusal_cut : (need : Option Algo) (image : NodeOf Spot) (message : List ℕ) (asked new : ℕ) (r : Result (Option Refusal) SourceFault) → is_err r ≡ true → new ≤ asked + 351 * length (hashes image)
    → FindsRefusalBetween need image message asked new r
refusal_cut need image message asked new r failed paid = record { told = if_err r _ failed; paid = paid }

-- what its name may take
pub named_paid : (file : List ℕ) (image : NodeOf Spot) (message : List ℕ) (asked middle new : ℕ) (wrong : WrongHash) → FindsWrongBetween file message (hashes image) asked middle (Ok (Some wrong)) → new ≤ middle + 255
    → new ≤ asked + 351 * length (hashes image)
named_paid file image message asked middle new wrong w paid =
    omega (arith, paid, w.paid, some_hash image.name message (hashes image) (wrong_told file image.name wrong) (w.told image.name))

pub refusal_found : (file : List ℕ) (need : Option Algo) (image : NodeOf Spot) (message : List ℕ) (asked middle new : ℕ) (wrong : WrongHash) (refusal : Refusal) → FindsWrongBetween file message (hashes image) asked middle (Ok (Some wrong))
    → told_of image.name refusal ≡ wrong_told file image.name wrong → new ≤ middle + 255 → FindsRefusalBetween need image message asked new (Ok (Some refusal))
refusal_found file need image message asked middle new wrong refusal w is paid = record {
  told = ap (λ (x : NamedFinding). Some x) is ∙ ap (λ (o : Option NamedFinding). or_weak o need image) (w.told image.name);
  paid = named_paid file image message asked middle new wrong w paid;
}

-- all hash nodes are right, and none is strong enough
pub refusal_weak : (file : List ℕ) (need : Option Algo) (image : NodeOf Spot) (message : List ℕ) (asked new : ℕ) (set : AlgoSet) → FindsWrongBetween file message (hashes image) asked new (Ok None) → set ≡ with_all naming.All no_algos (hashes image)
    → option_map_or (λ algo. not (has_from set algo)) need false ≡ true → FindsRefusalBetween need image message asked new (Ok (Some Weak))
refusal_weak file need image message asked new set w algos lacks = record {
  told = sym (ap (λ (o : Option NamedFinding). or_weak o need image) (sym (w.told image.name)) ∙ ap (λ (b : Bool). if b then Some (fit_finding.Weak image.name) else None) (weak_by need image set algos ∙ lacks));
  paid = omega (arith, w.paid);
}

-- or one is
pub refusal_none : (file : List ℕ) (need : Option Algo) (image : NodeOf Spot) (message : List ℕ) (asked new : ℕ) (set : AlgoSet) → FindsWrongBetween file message (hashes image) asked new (Ok None) → set ≡ with_all naming.All no_algos (hashes image)
    → option_map_or (λ algo. not (has_from set algo)) need false ≡ false → FindsRefusalBetween need image message asked new (Ok None)
refusal_none file need image message asked new set w algos lacks = record {
  told = sym (ap (λ (o : Option NamedFinding). or_weak o need image) (sym (w.told image.name)) ∙ ap (λ (b : Bool). if b then Some (fit_finding.Weak image.name) else None) (weak_by need image set algos ∙ lacks));
  paid = omega (arith, w.paid);
}
