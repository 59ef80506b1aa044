-- Which hash nodes are compared, and by which algorithms.
use Rattle.std.proofs.Common.{◌≡◌, ◌≤◌, ◌==◌, ◌||◌, ℕ, List, [], ◌∷◌, length, Option, Some, None, Bool, true, false, if◌then◌else◌, codes, IsTrue, refl, ap, sym, ◌∙◌, arith}
use Rattle.std.specs.{List.list_any, Option.option_map, Str.bytes_eq}
use Rattle.uimg_sums.specs.declared.algo.Algo.{Algo}
use Rattle.uimg_sums.specs.{Algorithms.{digest_size, digest_by}, Bundle.padded_digests}
use Rattle.uimg_texts.specs.declared.naming.Naming.{Naming}
use Rattle.uimg_fit_base.specs.AlgoNames.{algo_by}
use Rattle.uimg_blob_reading.specs.declared.keys.Key.TheVariants as key
use Rattle.uimg_blob_reading.specs.{Indexed.{keeps, value_span}, LookUps.{NodeOf, first}}
use Rattle.uimg_blob_reading.specs.{Roles.{in_image, is_hash, role_at}, Spots.Spot}
use Rattle.uimg_blob_reading.proofs.PhaseLaws.{by_bool, true_false}
use Rattle.uimg_fit_base.specs.declared.algo_sets.{AlgoSet.AlgoSet, Digests.Digests}
use Rattle.uimg_fit_base.specs.AlgoSets.{has, is_empty, no_algos, chosen, set_of, AreDigests}
use Rattle.uimg_fit_base.proofs.AlgoSetLaws.{marked-has, marked-keeps, has-none, empty-is}
use Rattle.uimg_fit_base.specs.Report.{compared, by_algo, by_name, algo_name_of, named_word, is_compared}
use Rattle.uimg_fit_reading.specs.{declared.report.plans.Plan.Plan, HashReports.AllCovered}
use Rattle.uimg_fit_reading.specs.declared.report.plans.Plan.TheVariants.{Malformed, Unsupported, Compared}
use Rattle.uimg_fit_reading.specs.Plans.{hash_plan, plan_for, plan_by_algo, plan_by_name, compares, are_compared, IsCovered, with_plan, with_all}

-- a hash node keeps the values of its algorithm and its digest
pub keeps_algo : (name : List ℕ) → is_hash name ≡ true → IsTrue (keeps (role_at in_image name) key.Algo)
keeps_algo name is = rw is refl

pub keeps_value : (name : List ℕ) → is_hash name ≡ true → IsTrue (keeps (role_at in_image name) key.Value)
keeps_value name is = rw is refl

-- a word tells a comparison exactly where a plan asks for one
told_by : (algo : Algo) (s : Spot) (message : List ℕ) → is_compared (compared algo s.bytes message) ≡ compares (plan_for algo (value_span s))
unfolding compared plan_for
told_by algo s message = by_bool (length s.bytes == digest_size algo)
    (λ fits. by_bool (bytes_eq s.bytes (digest_by algo message)) (λ same. simp (fits, same)) (λ differs. simp (fits, differs)))
    (λ other. simp other)

told_value : (algo : Option Algo) (value : Option Spot) (message : List ℕ)
    → is_compared (by_algo algo (option_map (λ s. s.bytes) value) message) ≡ compares (plan_by_algo algo (option_map value_span value))
told_value None value message = refl
told_value (Some algo) None message = refl
told_value (Some algo) (Some s) message = told_by algo s message

told_name : (naming : Naming) (name : Option (List ℕ)) (value : Option Spot) (message : List ℕ)
    → is_compared (by_name naming name (option_map (λ s. s.bytes) value) message) ≡ compares (plan_by_name naming name (option_map value_span value))
told_name naming None value message = refl
told_name naming (Some name) value message = told_value (algo_by naming name) value message

compared_one : (naming : Naming) (message : List ℕ) (hash : NodeOf Spot) → is_compared (named_word naming message hash) ≡ compares (hash_plan naming hash)
compared_one naming message hash = told_name naming (algo_name_of hash) (first hash.own (codes "value")) message

pub compared_any : (naming : Naming) (message : List ℕ) (hs : List (NodeOf Spot)) → list_any (λ h. is_compared (named_word naming message h)) hs ≡ are_compared naming hs
compared_any naming message [] = refl
compared_any naming message (h ∷ hs) =
    ap (λ (b : Bool). b || list_any (λ n. is_compared (named_word naming message n)) hs) (compared_one naming message h)
    ∙ ap (λ (b : Bool). compares (hash_plan naming h) || b) (compared_any naming message hs)

-- what is in use stays so
plan_keeps : (set : AlgoSet) (plan : Plan) (a : Algo) → has set a ≡ true → has (with_plan set plan) a ≡ true
plan_keeps set Malformed a h = h
plan_keeps set Unsupported a h = h
plan_keeps set (Compared algo span) a h = marked-keeps set algo a h

all_keep : (naming : Naming) (set : AlgoSet) (hs : List (NodeOf Spot)) (a : Algo) → has set a ≡ true → has (with_all naming set hs) a ≡ true
unfolding with_all
all_keep naming set [] a h = h
all_keep naming set (n ∷ ns) a h = all_keep naming (with_plan set (hash_plan naming n)) ns a (plan_keeps set (hash_plan naming n) a h)

plan_covers : (set more : AlgoSet) (plan : Plan) → ((a : Algo) → has (with_plan set plan) a ≡ true → has more a ≡ true) → IsCovered more plan
plan_covers set more Malformed keep = tt
plan_covers set more Unsupported keep = tt
plan_covers set more (Compared algo span) keep = keep algo (marked-has set algo)

-- the algorithms that hash nodes are compared by
pub all_covered : (naming : Naming) (set : AlgoSet) (hs : List (NodeOf Spot)) → AllCovered naming (with_all naming set hs) hs
unfolding with_all
all_covered naming set [] = tt
all_covered naming set (h ∷ hs) =
    let more = with_plan set (hash_plan naming h) in
    (plan_covers set (with_all naming more hs) (hash_plan naming h) (all_keep naming more hs), all_covered naming more hs)

-- where none is compared none is added
none_added : (naming : Naming) (set : AlgoSet) (plan : Plan) (hs : List (NodeOf Spot)) → (compares plan || are_compared naming hs) ≡ false → (are_compared naming hs ≡ false → with_all naming set hs ≡ set) → with_all naming (with_plan set plan) hs ≡ set
none_added naming set Malformed hs none rest = rest none
none_added naming set Unsupported hs none rest = rest none
none_added naming set (Compared algo span) hs none rest = absurd (true_false none)

none_compared : (naming : Naming) (set : AlgoSet) (hs : List (NodeOf Spot)) → are_compared naming hs ≡ false → with_all naming set hs ≡ set
unfolding with_all
none_compared naming set [] none = refl
none_compared naming set (h ∷ hs) none = none_added naming set (hash_plan naming h) hs none (none_compared naming set hs)

no_algo : is_empty no_algos ≡ true
unfolding is_empty
no_algo = refl

at_most : (b : Bool) (size : ℕ) → (if b then 0 else size) ≤ size
at_most true size = omega arith
at_most false size = omega arith

-- a payload is read where a value is compared
pub read_where_compared : (naming : Naming) (hs : List (NodeOf Spot)) (size : ℕ) → (if is_empty (with_all naming no_algos hs) then 0 else size) ≤ (if are_compared naming hs then size else 0)
read_where_compared naming hs size = by_bool (are_compared naming hs)
    (λ some. rw some (at_most (is_empty (with_all naming no_algos hs)) size))
    (λ none. let empty : is_empty (with_all naming no_algos hs) ≡ true = ap is_empty (none_compared naming no_algos hs none) ∙ no_algo in rw none (rw empty (omega arith)))

-- a set with an algorithm is not empty
has_some : (set : AlgoSet) (a : Algo) → has set a ≡ true → is_empty set ≡ false
has_some set a h = by_bool (is_empty set)
    (λ empty. absurd (true_false (sym h ∙ ap (λ (s : AlgoSet). has s a) (empty-is set empty) ∙ has-none a)))
    (λ some. some)

some_plan : (naming : Naming) (set : AlgoSet) (plan : Plan) (hs : List (NodeOf Spot)) → (compares plan || are_compared naming hs) ≡ true
    → ((more : AlgoSet) → are_compared naming hs ≡ true → is_empty (with_all naming more hs) ≡ false) → is_empty (with_all naming (with_plan set plan) hs) ≡ false
some_plan naming set Malformed hs some rest = rest set some
some_plan naming set Unsupported hs some rest = rest set some
some_plan naming set (Compared algo span) hs some rest = has_some _ algo (all_keep naming (with_plan set (Compared algo span)) hs algo (marked-has set algo))

some_compared : (naming : Naming) (set : AlgoSet) (hs : List (NodeOf Spot)) → are_compared naming hs ≡ true → is_empty (with_all naming set hs) ≡ false
unfolding with_all
some_compared naming set [] some = absurd (true_false (sym some))
some_compared naming set (h ∷ hs) some = some_plan naming set (hash_plan naming h) hs some (λ more. some_compared naming more hs)

-- a payload is read just where a value is compared
pub compared_size : (naming : Naming) (hs : List (NodeOf Spot)) (size : ℕ) → (if is_empty (with_all naming no_algos hs) then 0 else size) ≡ (if are_compared naming hs then size else 0)
compared_size naming hs size = by_bool (are_compared naming hs)
    (λ some. rw some (rw (some_compared naming no_algos hs some) refl))
    (λ none. let empty : is_empty (with_all naming no_algos hs) ≡ true = ap is_empty (none_compared naming no_algos hs none) ∙ no_algo in rw none (rw empty refl))

-- no sum has the same digests of every message
no_sums : (message : List ℕ) → padded_digests (chosen no_algos) message ≡ padded_digests (chosen no_algos) []
unfolding has
no_sums message = refl

pub empty_digests : (d : Digests) (message : List ℕ) → is_empty (set_of d) ≡ true → AreDigests d [] → AreDigests d message
empty_digests d message empty are =
    let none : set_of d ≡ no_algos = empty-is (set_of d) empty in
    record {
      are = are.are ∙ ap (λ (s : AlgoSet). padded_digests (chosen s) []) none ∙ sym (no_sums message) ∙ sym (ap (λ (s : AlgoSet). padded_digests (chosen s) message) none);
    }
