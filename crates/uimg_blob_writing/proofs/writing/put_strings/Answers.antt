use Rattle.std.proofs.Common.{rules, ◌≡◌, ◌+◌, ◌++◌, ◌∙◌, List, ℕ, [], suc, is_err, true, false, take, drop, get_or, ap, sym, subst, Bor, arith}
use Rattle.std.{proofs.lemmas.List.{take_all, Folds.flat_map-map}, specs.List.flat_map}
use Rattle.uimg_base.{specs.Writing.Writes, proofs.WritingLaws.{stops, ◌▷◌}}
use Rattle.uimg_blob_writing.specs.{Encoding.{with_nul, strings}, Names.name_texts}
use Rattle.uimg_blob_writing.proofs.WritesLaws.{flat_map-at, flat_map-suc}
use Rattle.uimg_blob_writing.proofs.writing.put_strings.Goals as goal

-- no name
none : Bor (List ℕ)
none = record { ref_ptr = (0, 0); now = [] }

one : Bor (List ℕ) → List ℕ
one name = with_nul name.now

pub returns-in_err-put_name : goal.returns-in_err-put_name
unfolding none one
returns-in_err-put_name g c =
    let names = c.args.names.now in
    let i = c.loop-name.name-index in
    let s = c.args.out.now in
    let t = c.put_name.new.out in
    let failed : is_err c.from_residual.result ≡ true = search rules in
    let whole : flat_map one (take i names) ++ one (get_or names i none) ++ flat_map one (drop (suc i) names) ≡ strings (name_texts names) =
    sym (flat_map-at one names i none c.loop-name-test.true) ∙ sym (flat_map-map with_nul (λ (n : Bor (List ℕ)). n.now) names) in
    let written : Writes true s t (flat_map one (take i names) ++ one (get_or names i none)) = c.loop-name.invariant ▷ c.in_err-put_name.ensures in
    rw failed (subst (λ (w : List ℕ). Writes true s t w) whole (stops s t _ (flat_map one (drop (suc i) names)) written))

pub loop-name-preserved : goal.loop-name-preserved
unfolding none one
loop-name-preserved g c =
    let names = c.args.names.now in
    let i = c.loop-name.name-index in
    let next : suc i ≡ i + 1 = omega arith in
    let written : Writes false c.args.out.now c.put_name.new.out (flat_map one (take i names) ++ one (get_or names i none)) = c.loop-name.invariant ▷ c.in_ok-put_name.ensures in
    subst (λ (w : List ℕ). Writes false c.args.out.now c.put_name.new.out w)
    (sym (flat_map-suc one names i none c.loop-name-test.true) ∙ ap (λ (j : ℕ). flat_map one (take j names)) next) written

pub returns : goal.returns
unfolding one
returns g c =
    let names = c.args.names.now in
    let i = c.loop-name.name-index in
    let every : take i names ≡ names = take_all i names c.loop-name-test.false in
    subst (λ (w : List ℕ). Writes false c.args.out.now c.loop-name.out w)
    (ap (λ (l : List (Bor (List ℕ))). flat_map one l) every ∙ sym (flat_map-map with_nul (λ (n : Bor (List ℕ)). n.now) names)) c.loop-name.invariant
