-- A sum is added to a bundle, and all of its sums are ended.
use Rattle.std.proofs.Common.{◌≡◌, ◌∙◌, ◌+◌, ◌-◌, ◌<◌, ℕ, suc, List, [], ◌∷◌, ◌++◌, map, length, set, get_or, replicate, Some, None, ap, sym, arith, append_assoc, length-append}
use Rattle.std.{specs.{Prelude.Option, Option.option_map}, proofs.lemmas.Simd.map-map}
use Rattle.std.proofs.lemmas.List.{map-set, map-append, length-map, set_at, get_or-map, same_lists}
use Rattle.std.proofs.lemmas.List.Elements.{All-set}
use Rattle.uimg_sums.specs.{AnySum.{algo_of, SumHolds, padded_digest}, declared.algo.Algo.Algo}
use Rattle.uimg_sums.specs.Bundle.{Holds, SlotHolds, digest_at, padded_digests, eight_slots}
use Rattle.uimg_sums.specs.declared.{any_sum.AnySum.AnySum, bundle.Bundle.Bundle}

-- the first free slot has the next algorithm
set-eight_slots : (algos : List Algo) (algo : Algo) → length algos < 8 → set (eight_slots algos) (length algos) (Some algo) ≡ eight_slots (algos ++ algo ∷ [])
set-eight_slots algos algo h =
    let free : ℕ = 7 - length algos in
    let left : 8 - length algos ≡ suc free = omega arith in
    let more : length (algos ++ algo ∷ []) ≡ length algos + 1 = length-append algos (algo ∷ []) in
    let after : 8 - length (algos ++ algo ∷ []) ≡ free = omega (arith, more) in
    let prefix : List (Option Algo) = map Some algos in
    ap (λ (n : ℕ). set (prefix ++ replicate n None) (length algos) (Some algo)) left
    ∙ set_at prefix None (replicate free None) (Some algo) (length algos) (length-map algos Some)
    ∙ sym (append_assoc prefix (Some algo ∷ []) (replicate free None))
    ∙ ap (λ (w : List (Option Algo)). w ++ replicate free None) (sym (map-append Some algos (algo ∷ [])))
    ∙ ap (λ (n : ℕ). map Some (algos ++ algo ∷ []) ++ replicate n None) (sym after)

-- a new sum in the first free slot
pub Holds-added : (bundle : Bundle) (algos : List Algo) (algo : Algo) (sum : AnySum) → Holds bundle algos [] → length algos < 8 → algo_of sum ≡ algo → SumHolds sum [] → Holds (record { sums = set bundle.sums bundle.count (Some sum); count = bundle.count + 1; has_fed = bundle.has_fed }) (algos ++ algo ∷ []) []
Holds-added bundle algos algo sum held h is_algo fresh = record {
  order = map-set (option_map algo_of) bundle.sums bundle.count (Some sum)
      ∙ ap (λ (w : List (Option Algo)). set w bundle.count (Some (algo_of sum))) held.order
      ∙ ap (λ (n : ℕ). set (eight_slots algos) n (Some (algo_of sum))) held.count
      ∙ ap (λ (a : Algo). set (eight_slots algos) (length algos) (Some a)) is_algo
      ∙ set-eight_slots algos algo h;
  count = omega (arith, held.count, length-append algos (algo ∷ []));
  has_fed = held.has_fed;
  each = All-set (SlotHolds []) bundle.sums bundle.count (Some sum) fresh held.each;
}

-- the entry of each slot, where the sums are by these algorithms
pub padded_digests-each : (sums : List (Option AnySum)) (algos : List Algo) (fed : List ℕ) (entries : List (List ℕ × ℕ)) → map (option_map algo_of) sums ≡ eight_slots algos → length entries ≡ length sums → ((i : ℕ) (d : Option AnySum) (e : List ℕ × ℕ) → i < length sums → get_or entries i e ≡ padded_digest (digest_at fed (option_map algo_of (get_or sums i d)))) → entries ≡ padded_digests algos fed
padded_digests-each sums algos fed entries order long at =
    let entry : Option AnySum → List ℕ × ℕ = λ slot. padded_digest (digest_at fed (option_map algo_of slot)) in
    let placed : Option Algo → List ℕ × ℕ = λ slot. padded_digest (digest_at fed slot) in
    same_lists entries (map entry sums) (long ∙ sym (length-map sums entry))
    (λ k e h. let within : k < length sums = omega (arith, long) in at k None e within ∙ sym (get_or-map entry sums k None e within))
    ∙ sym (map-map placed (option_map algo_of) sums)
    ∙ ap (map placed) order
