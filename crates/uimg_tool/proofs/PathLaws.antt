-- The first piece of a file of paths.
use Rattle.std.proofs.Common.{◌≡◌, ◌<◌, ◌-◌, ℕ, List, [], ◌∷◌, ◌++◌, length, Bool, true, false, ◌==◌, if◌then◌else◌, take, slice_index, refl, ap, ap₂, sym, ◌&&◌, ◌∙◌, arith, filter, append-nil, append_assoc, Option, Some, None, IfSome, is_some, true≢false, unwrap_or, Result, Ok, Vec, Global, vec_items, subst}
use Rattle.std.proofs.lemmas.Bool.{lt-ltb}
use Rattle.std.specs.Io.{Buffered.{reader_buffer, reader_capacity, reader_inner, reader_remaining}, Iter.YieldsKnownPiece, KnownBytes.{IsAtEnd, prepend_known}}
use Rattle.std.specs.declared.io.buffered.BufReader.{BufReader}
use Rattle.std.specs.Io.BufRead.{DropsThrough, take_through, drop_through, strip_last, first_piece}
use Rattle.uimg_tool.specs.Paths.{is_name, onto, paths_in, pieces}

some_some : {X : Type 0} {a b : X} → Some a ≡ Some b → a ≡ b
some_some {a = a} is = ap (λ (o : Option _). unwrap_or o a) is

some_none : {X : Type 0} {a : X} → Some a ≡ None → ⊥
some_none is = true≢false (ap is_some is)

-- the bytes before the first end
abbrev before : ℕ → List ℕ → List ℕ
before end [] = []
before end (byte ∷ bytes) = if byte == end then [] else byte ∷ before end bytes

-- some bytes without the one at a position, if that is the end
abbrev strip_at : ℕ → List ℕ → ℕ → Bool → List ℕ
strip_at end bytes at some = if some && (slice_index bytes at == end) then take at bytes else bytes

is_stripped : (end x : ℕ) (xs : List ℕ) → strip_last end (x ∷ xs) ≡ strip_at end (x ∷ xs) (length xs) true
is_stripped end x xs =
    ap₂ (λ (at : ℕ) (some : Bool). strip_at end (x ∷ xs) at some) {x = length (x ∷ xs) - 1} {y = length xs} (omega arith) (lt-ltb 0 (length (x ∷ xs)) (omega arith))

strip_one : (end x : ℕ) (b : Bool) → (x == end) ≡ b → strip_last end (x ∷ []) ≡ (if b then [] else x ∷ [])
strip_one end x b is = is_stripped end x [] ∙ ap (λ (it : Bool). if it then [] else x ∷ []) is

chosen : (b : Bool) (x y : ℕ) (ys : List ℕ) → (if b then x ∷ take (length ys) (y ∷ ys) else x ∷ y ∷ ys) ≡ x ∷ (if b then take (length ys) (y ∷ ys) else y ∷ ys)
chosen true x y ys = refl
chosen false x y ys = refl

strip_on : (end x y : ℕ) (ys : List ℕ) → strip_last end (x ∷ y ∷ ys) ≡ x ∷ strip_last end (y ∷ ys)
strip_on end x y ys =
    is_stripped end x (y ∷ ys) ∙ chosen (slice_index (y ∷ ys) (length ys) == end) x y ys ∙ ap (λ (l : List ℕ). x ∷ l) (sym (is_stripped end y ys))

strip_through : (end x y : ℕ) (ys : List ℕ) (b : Bool) → strip_last end (x ∷ (if b then y ∷ [] else y ∷ ys)) ≡ x ∷ strip_last end (if b then y ∷ [] else y ∷ ys)
strip_through end x y ys true = strip_on end x y []
strip_through end x y ys false = strip_on end x y ys

-- a byte that is the end, or another
first_by : (end x : ℕ) (xs : List ℕ) (b : Bool) → (x == end) ≡ b → (b ≡ false → strip_last end (x ∷ take_through end xs) ≡ x ∷ before end xs)
    → first_piece end (x ∷ xs) ≡ before end (x ∷ xs)
first_by end x xs true is more =
    ap (λ (b : Bool). strip_last end (if b then x ∷ [] else x ∷ take_through end xs)) is ∙ strip_one end x true is ∙ sym (ap (λ (b : Bool). if b then [] else x ∷ before end xs) is)
first_by end x xs false is more =
    ap (λ (b : Bool). strip_last end (if b then x ∷ [] else x ∷ take_through end xs)) is ∙ more refl ∙ sym (ap (λ (b : Bool). if b then [] else x ∷ before end xs) is)

-- the first piece has the bytes before the first end
first_is : (end : ℕ) (bytes : List ℕ) → first_piece end bytes ≡ before end bytes
first_is end [] = refl
first_is end (x ∷ []) = first_by end x [] (x == end) refl (λ other. strip_one end x (x == end) refl ∙ ap (λ (b : Bool). if b then [] else x ∷ []) other)
first_is end (x ∷ y ∷ ys) =
    first_by end x (y ∷ ys) (x == end) refl (λ other. strip_through end x y (take_through end ys) (y == end) ∙ ap (λ (l : List ℕ). x ∷ l) (first_is end (y ∷ ys)))

pieces_by : (end x : ℕ) (xs : List ℕ) (b : Bool) → (x == end) ≡ b → (b ≡ false → onto x (pieces end xs) ≡ (x ∷ before end xs) ∷ pieces end (drop_through end xs))
    → pieces end (x ∷ xs) ≡ before end (x ∷ xs) ∷ pieces end (drop_through end (x ∷ xs))
unfolding pieces
pieces_by end x xs true is more =
    ap (λ (b : Bool). if b then [] ∷ pieces end xs else onto x (pieces end xs)) is
    ∙ sym (ap (λ (b : Bool). (if b then [] else x ∷ before end xs) ∷ pieces end (if b then xs else drop_through end xs)) is)
pieces_by end x xs false is more =
    ap (λ (b : Bool). if b then [] ∷ pieces end xs else onto x (pieces end xs)) is ∙ more refl
    ∙ sym (ap (λ (b : Bool). (if b then [] else x ∷ before end xs) ∷ pieces end (if b then xs else drop_through end xs)) is)

pieces_begin : (end x : ℕ) (xs : List ℕ) → pieces end (x ∷ xs) ≡ before end (x ∷ xs) ∷ pieces end (drop_through end (x ∷ xs))
unfolding pieces
pieces_begin end x [] = pieces_by end x [] (x == end) refl (λ other. refl)
pieces_begin end x (y ∷ ys) = pieces_by end x (y ∷ ys) (x == end) refl (λ other. ap (onto x) (pieces_begin end y ys))

named_on : (names : List (List ℕ)) (piece : List ℕ) (pieces : List (List ℕ)) → names ++ filter is_name (piece ∷ pieces) ≡ (names ++ filter is_name (piece ∷ [])) ++ filter is_name pieces
named_on names [] pieces = ap (λ (l : List (List ℕ)). l ++ filter is_name pieces) (sym (append-nil names))
named_on names (b ∷ bytes) pieces = sym (append_assoc names ((b ∷ bytes) ∷ []) (filter is_name pieces))

-- the names so far and those of the rest, when one more piece was read
pub one_more : (end : ℕ) (names : List (List ℕ)) (file rest piece : List ℕ) → 0 < length rest → piece ≡ first_piece end rest → names ++ paths_in end rest ≡ paths_in end file
    → (names ++ filter is_name (piece ∷ [])) ++ paths_in end (drop_through end rest) ≡ paths_in end file
one_more end names file [] piece some is so = absurd (omega (arith, some))
one_more end names file (x ∷ xs) piece some is so =
    sym (named_on names piece (pieces end (drop_through end (x ∷ xs))))
    ∙ ap (λ (l : List (List ℕ)). names ++ filter is_name l) (ap (λ (p : List ℕ). p ∷ pieces end (drop_through end (x ∷ xs))) (is ∙ first_is end (x ∷ xs)) ∙ sym (pieces_begin end x xs))
    ∙ so

-- what a reader has left whose buffer is empty
pub unbuffered_left : {T A : Type 0} (remaining : T → Option (List ℕ)) (reader : BufReader T A) (inner : T) → reader_capacity reader ≡ 8192 → reader_buffer reader ≡ [] → reader_inner reader ≡ inner
    → reader_remaining remaining reader ≡ remaining inner
unbuffered_left remaining reader inner capacity buffer is =
    ap₂ (λ (n : ℕ) (bytes : List ℕ). if n == 0 then None else prepend_known bytes (remaining reader.inner)) capacity buffer
    ∙ none_before (remaining reader.inner) ∙ ap remaining is where
      none_before : (known : Option (List ℕ)) → prepend_known [] known ≡ known
      none_before None = refl
      none_before (Some bytes) = refl

-- These are the paths of a file as far as it was read.
abbrev pub Left : ℕ → Option (List ℕ) → Option (List ℕ) → List (List ℕ) → Type 0
Left end whole known names = IfSome whole (λ file. (rest : List ℕ) × (known ≡ Some rest) × (names ++ paths_in end rest ≡ paths_in end file))

pub left_begins : (end : ℕ) (known : Option (List ℕ)) → Left end known known []
left_begins end None = tt
left_begins end (Some file) = (file, refl, refl)

left_piece : (end : ℕ) (file : List ℕ) (known new : Option (List ℕ)) (names : List (List ℕ)) (piece rest : List ℕ) → known ≡ Some rest → names ++ paths_in end rest ≡ paths_in end file
    → IfSome known (λ bytes. (0 < length bytes) × (piece ≡ first_piece end bytes)) → DropsThrough known new end
    → (more : List ℕ) × (new ≡ Some more) × ((names ++ filter is_name (piece ∷ [])) ++ paths_in end more ≡ paths_in end file)
left_piece end file None new names piece rest is so first drops = absurd (some_none (sym is))
left_piece end file (Some bytes) new names piece rest is so first drops =
    let same : bytes ≡ rest = some_some is in
    (drop_through end bytes, drops, one_more end names file bytes piece first.0 first.1 (ap (λ (l : List ℕ). names ++ paths_in end l) same ∙ so))

left_more : (end : ℕ) (whole known new : Option (List ℕ)) (names : List (List ℕ)) (piece : List ℕ) → Left end whole known names
    → IfSome known (λ bytes. (0 < length bytes) × (piece ≡ first_piece end bytes)) → DropsThrough known new end → Left end whole new (names ++ filter is_name (piece ∷ []))
left_more end None known new names piece left first drops = tt
left_more end (Some file) known new names piece left first drops = left_piece end file known new names piece left.0 left.1 left.2 first drops

-- one more path was read
pub left_next : {E : Type 0} (end byte : ℕ) (whole known new : Option (List ℕ)) (names : List (List ℕ)) (item : Result (Vec ℕ Global) E) (path : Vec ℕ Global) → byte ≡ end → item ≡ Ok path
    → YieldsKnownPiece vec_items (first_piece byte) byte known (Some item) new → Left end whole known names → Left end whole new (names ++ filter is_name (path.items ∷ []))
left_next {E = E} end byte whole known new names item path byte_is is yields left =
    let gives = subst (λ (it : Result (Vec ℕ Global) E). YieldsKnownPiece vec_items (first_piece end) end known (Some it) new) is
    (subst (λ (b : ℕ). YieldsKnownPiece vec_items (first_piece b) b known (Some item) new) byte_is yields) in
    left_more end whole known new names path.items left gives.0 gives.1

at_end : (known : Option (List ℕ)) (rest : List ℕ) → known ≡ Some rest → IsAtEnd known → rest ≡ []
at_end None rest is end = absurd (some_none (sym is))
at_end (Some bytes) rest is end = sym (some_some is) ∙ end

pub left_ends : (end : ℕ) (whole known : Option (List ℕ)) (names : List (List ℕ)) → Left end whole known names → IsAtEnd known → IfSome whole (λ file. names ≡ paths_in end file)
unfolding pieces
left_ends end None known names left ends = tt
left_ends end (Some file) known names left ends =
    sym (append-nil names) ∙ sym (ap (λ (l : List ℕ). names ++ paths_in end l) (at_end known left.0 left.1 ends)) ∙ left.2
