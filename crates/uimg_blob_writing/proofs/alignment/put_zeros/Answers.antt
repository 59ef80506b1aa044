use Rattle.std.proofs.Common.{rules, ◌≡◌, ◌≤◌, ◌-◌, ◌+◌, ◌++◌, ℕ, List, take, replicate, is_err, true, false, ap, subst, ◌∙◌, arith}
use Rattle.std.proofs.lemmas.List.{take-replicate, replicate-append-replicate}
use Rattle.uimg_base.{specs.Writing.Writes, proofs.WritingLaws.{◌▷◌, stops}}
use Rattle.uimg_blob_writing.proofs.alignment.put_zeros.Goals as goal

abbrev zeros : ℕ → List ℕ
zeros n = replicate n 0

-- zeros that were written, and as many as are put next
two : (done next all : ℕ) → done + next ≡ all → next ≤ 8192 → zeros done ++ take next (zeros 8192) ≡ zeros all
two done next all is few =
    ap (λ (w : List ℕ). zeros done ++ w) (take-replicate next 8192 0 few) ∙ replicate-append-replicate done next 0 ∙ ap zeros is

pub returns-in_err-put_all : goal.returns-in_err-put_all
returns-in_err-put_all g c =
    let count = c.args.count in
    let left = c.loop-left.left in
    let next = c.min-next.result in
    let few : next ≤ 8192 = omega (arith, c.min-next.ensures) in
    let all = two (count - left) next (count - left + next) (omega arith) few in
    let whole : zeros (count - left + next) ++ zeros (left - next) ≡ zeros count =
    replicate-append-replicate (count - left + next) (left - next) 0 ∙ ap zeros (omega (arith, c.min-next.ensures, c.loop-left.invariant.few)) in
    let put = subst (λ (w : List ℕ). Writes true c.args.out.now c.put_all.new.self w) all (c.loop-left.invariant.writes ▷ c.in_err-put_all.ensures.writes) in
    let failed : is_err c.from_residual.result ≡ true = search rules in
    rw failed (subst (λ (w : List ℕ). Writes true c.args.out.now c.put_all.new.self w) whole (stops _ _ _ (zeros (left - next)) put))

pub loop-left-preserved : goal.loop-left-preserved
loop-left-preserved g c =
    let count = c.args.count in
    let left = c.loop-left.left in
    let next = c.min-next.result in
    let few : next ≤ 8192 = omega (arith, c.min-next.ensures) in
    let all = two (count - left) next (count - (left - next)) (omega (arith, c.min-next.ensures, c.loop-left.invariant.few)) few in
    record {
      few = omega (arith, c.loop-left.invariant.few);
      writes = subst (λ (w : List ℕ). Writes false c.args.out.now c.put_all.new.self w) all (c.loop-left.invariant.writes ▷ c.in_ok-put_all.ensures.writes);
    }
