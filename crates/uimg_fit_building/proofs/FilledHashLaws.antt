-- The hash nodes of an image one by one.
use Rattle.std.proofs.Common.{◌≡◌, ◌<◌, ◌≤◌, ℕ, zero, suc, List, [], ◌∷◌, length, map, take, get_or, replicate, Option, Some, None, Bool, true, false, cond, refl, ap, sym, subst, ◌∙◌, codes, arith, Result, Ok, Err, OnOk}
use Rattle.std.specs.{List.{filter, AllByRecursion}, Option.{option_map_or, IfSome}}
use Rattle.std.proofs.lemmas.List.{take_at}
use Rattle.uimg_texts.specs.declared.naming.Naming.{Naming, TheVariants.{Profile, All}}
use Rattle.uimg_sums.{specs.declared.algo.Algo.Algo, proofs.DigestSizes.length-digest_by}
use Rattle.uimg_sums.specs.{Algorithms.{digest_by, digest_size}, AnySum.padded_digest}
use Rattle.uimg_texts.specs.Nul.{before_nul, text}
use Rattle.uimg_blob_reading.specs.{Roles.is_hash, LookUps.NodeOf}
use Rattle.uimg_blob_writing.specs.{declared.tree.Node.Node, Content.{Content, bytes}}
use Rattle.uimg_fit_base.specs.{declared.algo_sets.AlgoSet.AlgoSet, AlgoSets.has}
use Rattle.uimg_fit_base.specs.AlgoNames.{algo_by}
use Rattle.uimg_fit_building.specs.{Behind.entry, Filling.{with, hash_algo, with_digest_by}}
use Rattle.uimg_fit_building.specs.PayloadSums.{in_memory, CoversHash}

-- a value in a file names no algorithm
pub no_name : (naming : Naming) → algo_by naming (text []) ≡ None
unfolding text before_nul
no_name Profile = refl
no_name All = refl

-- a digest is the front of its padded form
pub front-digest : (algo : Algo) (message : List ℕ) → take (digest_size algo) (padded_digest (digest_by algo message)).0 ≡ digest_by algo message
front-digest algo message = take_at (digest_by algo message) (replicate _ 0) (digest_size algo) (length-digest_by algo message)

-- no digest is longer than that
pub digest-fits : (algo : Algo) → digest_size algo ≤ 64
digest-fits algo = grind arith

pub on-ok : {X F : Type 0} {P Q : Type 0} (r : Result X F) → (P → Q) → OnOk r P → OnOk r Q
on-ok (Ok x) f h = f h
on-ok (Err e) f h = tt

-- a hash node whose algorithm is in use, with the digest by it
pub hash-filled : (naming : Naming) (set : AlgoSet) (h : NodeOf Content) (algo : Algo) (c : Content) (message : List ℕ) → hash_algo naming in_memory h.own ≡ Some algo → CoversHash naming set h
    → (has set algo ≡ true → c ≡ bytes (digest_by algo message))
    → (let n : NodeOf Content = record h { own = with (codes "value") c h.own } in n) ≡ with_digest_by naming in_memory bytes message h
hash-filled naming set h algo c message known covered is =
    let valued : Content → NodeOf Content = λ v. record h { own = with (codes "value") v h.own } in
    ap valued (is (subst (λ (o : Option Algo). IfSome o (λ a. has set a ≡ true)) known covered))
    ∙ sym (ap (λ (o : Option Algo). option_map_or (λ a. valued (bytes (digest_by a message))) o h) known)

-- a hash node among those whose algorithms are in use
covered-step : (naming : Naming) (set : AlgoSet) (b : Bool) (h : NodeOf Content) (hs : List (NodeOf Content)) → b ≡ is_hash h.name → AllByRecursion (CoversHash naming set) (cond b (h ∷ hs) hs)
    → (is_hash h.name ≡ true → CoversHash naming set h) × AllByRecursion (CoversHash naming set) hs
covered-step naming set true h hs e all = (λ is. all.0, all.1)
covered-step naming set false h hs e all = ((λ is. absurd (let clash : false ≡ true = e ∙ is in cc)), all)

pub covered-at : (naming : Naming) {A : Type 0} (set : AlgoSet) (ns : List (Node A)) (i : ℕ) (d : Node A) → i < length ns → AllByRecursion (CoversHash naming set) (filter (λ h. is_hash h.name) (map entry ns))
    → is_hash (get_or ns i d).name ≡ true → CoversHash naming set (entry (get_or ns i d))
covered-at naming set [] i d within all is = absurd (omega (arith, within))
covered-at naming set (n ∷ ns) zero d within all is = (covered-step naming set (is_hash n.name) (entry n) (filter (λ h. is_hash h.name) (map entry ns)) refl all).0 is
covered-at naming set (n ∷ ns) (suc i) d within all is =
    covered-at naming set ns i d (omega (arith, within)) (covered-step naming set (is_hash n.name) (entry n) (filter (λ h. is_hash h.name) (map entry ns)) refl all).1 is
