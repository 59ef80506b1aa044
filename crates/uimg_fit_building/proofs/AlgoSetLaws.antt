-- The algorithms of hash nodes that are all known are in use.
use Rattle.std.proofs.Common.{◌≡◌, List, [], ◌∷◌, Option, Some, None, true, false, is_some, refl, ap, sym, subst}
use Rattle.std.specs.{List.{list_all, AllByRecursion}, Option.{option_and_then, IfSome}}
use Rattle.uimg_texts.specs.declared.naming.Naming.{Naming}
use Rattle.uimg_sums.specs.declared.algo.Algo.{Algo}
use Rattle.uimg_blob_reading.specs.LookUps.{NodeOf}
use Rattle.uimg_blob_writing.specs.Content.{Content}
use Rattle.uimg_fit_base.specs.{declared.algo_sets.AlgoSet.AlgoSet, AlgoSets.{has, marked}}
use Rattle.uimg_fit_base.proofs.AlgoSetLaws.{marked-has, marked-keeps}
use Rattle.uimg_fit_building.specs.Filling.{hash_algo}
use Rattle.uimg_fit_building.specs.PayloadSums.{in_memory, all_marked, CoversHash}

-- the algorithms of hash nodes that are all known are in use
abbrev Includes : AlgoSet → AlgoSet → Type 0
Includes old new = (a : Algo) → has old a ≡ true → has new a ≡ true

pub record Marks (naming : Naming) (old new : AlgoSet) (hs : List (NodeOf Content)) : Type 0 where
  pub includes : Includes old new
  pub covered : AllByRecursion (CoversHash naming new) hs
  pub known : list_all (λ h. is_some (hash_algo naming in_memory h.own)) hs ≡ true

marks-step : (naming : Naming) (old new : AlgoSet) (h : NodeOf Content) (hs : List (NodeOf Content)) (o : Option Algo) → o ≡ hash_algo naming in_memory h.own
    → option_and_then (λ algo. all_marked naming (marked old algo) hs) o ≡ Some new
    → ((a : Algo) → all_marked naming (marked old a) hs ≡ Some new → Marks naming (marked old a) new hs) → Marks naming old new (h ∷ hs)
marks-step naming old new h hs None e is rest = absurd (cc)
marks-step naming old new h hs (Some a) e is rest =
    let r = rest a is in
    let there : is_some (hash_algo naming in_memory h.own) ≡ true = ap is_some (sym e) in
    record {
      includes = λ b held. r.includes b (marked-keeps old a b held);
      covered = (subst (λ (o : Option Algo). IfSome o (λ algo. has new algo ≡ true)) e (r.includes a (marked-has old a)), r.covered);
      known = rw there r.known;
    }

pub marks-all : (naming : Naming) (old new : AlgoSet) (hs : List (NodeOf Content)) → all_marked naming old hs ≡ Some new → Marks naming old new hs
unfolding all_marked
marks-all naming old new [] is =
    let same : old ≡ new = cc in
    record { includes = λ a held. subst (λ (s : AlgoSet). has s a ≡ true) same held; covered = tt; known = refl }
marks-all naming old new (h ∷ hs) is = marks-step naming old new h hs (hash_algo naming in_memory h.own) refl is (λ a next. marks-all naming (marked old a) new hs next)

unknown-step : (naming : Naming) (old : AlgoSet) (h : NodeOf Content) (hs : List (NodeOf Content)) (o : Option Algo) → o ≡ hash_algo naming in_memory h.own
    → option_and_then (λ algo. all_marked naming (marked old algo) hs) o ≡ None
    → ((a : Algo) → all_marked naming (marked old a) hs ≡ None → list_all (λ g. is_some (hash_algo naming in_memory g.own)) hs ≡ false)
    → list_all (λ g. is_some (hash_algo naming in_memory g.own)) (h ∷ hs) ≡ false
unknown-step naming old h hs None e is rest =
    let gone : is_some (hash_algo naming in_memory h.own) ≡ false = ap is_some (sym e) in rw gone refl
unknown-step naming old h hs (Some a) e is rest =
    let there : is_some (hash_algo naming in_memory h.own) ≡ true = ap is_some (sym e) in rw there (rest a is)

pub marks-none : (naming : Naming) (old : AlgoSet) (hs : List (NodeOf Content)) → all_marked naming old hs ≡ None → list_all (λ h. is_some (hash_algo naming in_memory h.own)) hs ≡ false
unfolding all_marked
marks-none naming old [] is = absurd (cc)
marks-none naming old (h ∷ hs) is = unknown-step naming old h hs (hash_algo naming in_memory h.own) refl is (λ a next. marks-none naming (marked old a) hs next)
