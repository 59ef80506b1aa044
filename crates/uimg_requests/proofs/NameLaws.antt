-- The names of a making's files.
use Rattle.std.proofs.Common.{◌≡◌, ◌≢◌, ◌∙◌, ℕ, List, [], ◌∷◌, ◌++◌, Bool, true, false, map, length, if◌then◌else◌, ap, sym, refl, ◌==◌, arith}
use Rattle.std.proofs.lemmas.List.{map-append, Splits.length-slice_split}
use Rattle.uimg_legacy.specs.{Parts.has_parts, declared.options.Options.Options}
use Rattle.uimg_requests.specs.{Commands.FitNames, Names.{between_colons, part_names}}

-- one element more on both sides
pub map_one_more : {X Y Z : Type 0} (f : X → Z) (g : Y → Z) (xs now : List X) (ys : List Y) (x : X) (y : Y) → now ≡ xs ++ x ∷ [] → map f xs ≡ map g ys → f x ≡ g y → map f now ≡ map g (ys ++ y ∷ [])
map_one_more f g xs now ys x y is so_far this =
    ap (map f) is ∙ map-append f xs (x ∷ []) ∙ ap (λ front. front ++ f x ∷ []) so_far ∙ ap (λ last. map g ys ++ last ∷ []) this ∙ sym (map-append g ys (y ∷ []))

-- what stands between colons is one name at least
some_names : (several : Bool) (word : List ℕ) → length (if several then between_colons word else word ∷ []) ≢ 0
some_names true word none = let count = length-slice_split (λ byte. byte == 58) word in absurd (omega (arith, count, none))
some_names false word none = absurd (omega (arith, none))

one_name : (several : Bool) (word : List ℕ) → several ≡ false → length (if several then between_colons word else word ∷ []) ≡ 1
one_name true word is = absurd (cc)
one_name false word is = refl

-- The names of a word are such as its options want.
pub names_fit : (options : Options) (names : List (List ℕ)) (word : List ℕ) → names ≡ part_names options.kind word → FitNames options names
names_fit options names word are =
    record {
      some = λ none. some_names (has_parts options.kind) word (sym (ap length are) ∙ none);
      single = λ is. ap length are ∙ one_name (has_parts options.kind) word is;
    }
