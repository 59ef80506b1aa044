use Rattle.std.proofs.Common.{◌≡◌, ◌<◌, length, map, drop, ℕ, ◌+◌, ◌∙◌, ap, sym, refl, true, false, List, [], ◌∷◌, slice_index_or, Bor, length-append, arith}
use Rattle.std.{proofs.{lemmas.List.drop_more, Math.ListN.drop_of_length-le}, specs.Str.bytes_eq}
use Rattle.uimg_blob_writing.specs.Encoding.{strings, with_nul, name_offset}
use Rattle.uimg_blob_writing.proofs.names.name_offset.Goals as goal

-- what is left is one name and what is left after it
left_more : (names : List (Bor (List ℕ))) (i : ℕ) (d : Bor (List ℕ)) → i < length names → map (λ n. n.now) (drop i names) ≡ (slice_index_or names i d).now ∷ map (λ n. n.now) (drop (i + 1) names)
left_more names i d h = ap (λ (l : List (Bor (List ℕ))). map (λ n. n.now) l) (drop_more names i d h)

offset-first : (first name : List ℕ) (names : List (List ℕ)) → true ≡ bytes_eq name first → name_offset (first ∷ names) name ≡ 0
unfolding name_offset
offset-first first name names same = rw (sym same) refl

offset-other : (first name : List ℕ) (names : List (List ℕ)) → false ≡ bytes_eq name first → name_offset (first ∷ names) name ≡ length first + 1 + name_offset names name
unfolding name_offset
offset-other first name names other = rw (sym other) (omega (arith, length-append first (0 ∷ [])))

strings-first : (first : List ℕ) (names : List (List ℕ)) → length (strings (first ∷ names)) ≡ length first + 1 + length (strings names)
strings-first first names = omega (arith, length-append (with_nul first) (strings names), length-append first (0 ∷ []))

pub returns-then-eq : goal.returns-then-eq
returns-then-eq c =
    let d : Bor (List ℕ) = record { ref_ptr = (0, 0); now = [] } in
    let more = left_more c.args.names.now c.loop-other.other-index d c.loop-other-test.true in
    let here = ap (λ (l : List (List ℕ)). name_offset l c.args.name.now) more ∙ offset-first _ _ _ (sym c.if-eq.true ∙ c.eq.ensures) in
    omega (arith, c.loop-other.invariant.place, here)

pub loop-other-preserved : goal.loop-other-preserved
loop-other-preserved c =
    let d : Bor (List ℕ) = record { ref_ptr = (0, 0); now = [] } in
    let more = left_more c.args.names.now c.loop-other.other-index d c.loop-other-test.true in
    let here = ap (λ (l : List (List ℕ)). name_offset l c.args.name.now) more ∙ offset-other _ _ _ (sym c.if-eq.false ∙ c.eq.ensures) in
    let rest = ap (λ (l : List (List ℕ)). length (strings l)) more ∙ strings-first _ _ in
    record { place = omega (arith, c.loop-other.invariant.place, here); rest = omega (arith, c.loop-other.invariant.rest, rest) }

pub returns : goal.returns
unfolding name_offset
returns c =
    let none = drop_of_length-le c.args.names.now {i = c.loop-other.other-index} c.loop-other-test.false in
    omega (arith, c.loop-other.invariant.place, ap (λ (l : List (Bor (List ℕ))). name_offset (map (λ n. n.now) l) c.args.name.now) none)
