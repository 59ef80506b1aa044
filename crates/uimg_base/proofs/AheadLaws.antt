-- What is given of what was read ahead.
use Rattle.std.proofs.Common.{◌≡◌, ◌≤◌, ◌-◌, ◌+◌, ℕ, List, length, take, drop, Option, Some, None, ap, sym, ◌∙◌, arith}
use Rattle.std.proofs.lemmas.List.{drop-take, take-take, drop-drop, length-take-le}
use Rattle.uimg_texts.specs.Slices.{slice}
use Rattle.uimg_base.specs.declared.{piece.Piece.Piece, windows.Window.Window}
use Rattle.uimg_base.specs.{Streams.{Stream, HoldsFrom}, Ahead.{IsAhead, IsPieceAhead}}
use Rattle.uimg_base.proofs.Slices.{take-slice}

-- a part of the front of a list
of_front : (xs : List ℕ) (c start len : ℕ) → start + len ≤ c → slice xs start len ≡ slice (take c xs) start len
of_front xs c start len within =
    sym (take-take len (c - start) (drop start xs) (omega (arith, within)))
    ∙ ap (take len) (sym (drop-take start (c - start) xs))
    ∙ ap (λ k. take len (drop start (take k xs))) (omega (arith, within))

-- a part of a part of a file
of_part : (file : List ℕ) (base c start len : ℕ) → start + len ≤ c → slice (slice file base c) start len ≡ slice file (base + start) len
of_part file base c start len within =
    sym (of_front (drop base file) c start len within) ∙ ap (take len) (drop-drop start base file)

-- the bytes of a window from an offset on are the file's
pub gives_from : (w : Window) (s : Option Stream) (at start : ℕ) (to : List ℕ) → IsAhead w s → start + length to ≤ w.count → at ≡ w.at + start → to ≡ slice w.bytes start (length to) → HoldsFrom at s to
gives_from w None at start to ahead within there is = tt
gives_from w (Some stream) at start to ahead within there is =
    is ∙ of_front w.bytes w.count start (length to) within ∙ ap (λ xs. slice xs start (length to)) ahead
    ∙ of_part stream.bytes w.at w.count start (length to) within ∙ ap (λ k. slice stream.bytes k (length to)) (sym there)

-- those of a piece are, too
pub piece_gives_from : (p : Piece) (s : Option Stream) (at start : ℕ) (to : List ℕ) → IsPieceAhead p s → start + length to ≤ length p.bytes.items → at ≡ p.at + start → to ≡ slice p.bytes.items start (length to) → HoldsFrom at s to
piece_gives_from p None at start to ahead within there is = tt
piece_gives_from p (Some stream) at start to ahead within there is =
    is ∙ ap (λ xs. slice xs start (length to)) ahead
    ∙ of_part stream.bytes p.at (length p.bytes.items) start (length to) within ∙ ap (λ k. slice stream.bytes k (length to)) (sym there)

-- the first of bytes that are the file's are
pub first_from : (s : Option Stream) (at n : ℕ) (to : List ℕ) → n ≤ length to → HoldsFrom at s to → HoldsFrom at s (take n to)
first_from None at n to few held = tt
first_from (Some stream) at n to few held =
    ap (take n) held ∙ take-slice stream.bytes at (length to) n few ∙ ap (slice stream.bytes at) (sym (length-take-le n to few))
