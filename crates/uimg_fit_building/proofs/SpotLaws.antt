-- The values of nodes that were read stand at their places, and those of a written tree are its own.
use Rattle.std.proofs.Common.{◌≡◌, ◌≤◌, ℕ, ◌+◌, List, [], ◌∷◌, ◌++◌, length, take, drop, map, refl, ap, ◌∙◌, length-append, arith}
use Rattle.std.{specs.List.AllByRecursion, proofs.lemmas.List.length-drop}
use Rattle.std.proofs.Math.Seq.{take-append_seam}
use Rattle.uimg_texts.specs.Slices.{slice}
use Rattle.uimg_blob_reading.specs.{Tokens.Property, Grammar.{Siblings, none, node}}
use Rattle.uimg_blob_reading.specs.Spots.{Spot, spot_of, spots}
use Rattle.uimg_blob_reading.specs.Plain.{Named, Nodes, no_node, a_node, with_value, with_values, AllValues}
use Rattle.uimg_blob_writing.proofs.Spelling.{placed_properties, placed, past_name, past_property, past_properties, past}
use Rattle.uimg_fit_base.specs.Lying.{ValueLies, Lie}

-- A value stands at its place.
pub record Lies (file : List ℕ) (s : Spot) : Type 0 where
  pub within : s.place + length s.bytes ≤ length file
  pub here : slice file s.place (length s.bytes) ≡ s.bytes

lies-own : (file : List ℕ) (own : List Property) → AllByRecursion (ValueLies file) own → AllByRecursion (λ p. Lies file p.value) (map spot_of own)
lies-own file [] h = tt
lies-own file (p ∷ own) h = (record { within = h.0.within; here = h.0.here }, lies-own file own h.1)

-- the values of a tree that was read
pub lies-spots : (file : List ℕ) (t : Siblings) → Lie file t → AllValues (Lies file) (spots t)
unfolding spots
lies-spots file none h = tt
lies-spots file (node at name own below after) h = (lies-own file own h.1, lies-spots file below h.2, lies-spots file after h.3)

-- a piece that is found at a place ends in the file
pub piece-within : (file : List ℕ) (at : ℕ) (piece rest : List ℕ) → at ≤ length file → drop at file ≡ piece ++ rest → at + length piece ≤ length file
piece-within file at piece rest inside h =
    let all : length (drop at file) ≡ length piece + length rest = ap length h ∙ length-append piece rest in
    omega (arith, all, inside, length-drop at file)

pub piece-lies : (file : List ℕ) (at : ℕ) (piece rest : List ℕ) → drop at file ≡ piece ++ rest → slice file at (length piece) ≡ piece
piece-lies file at piece rest h = ap (λ (w : List ℕ). take (length piece) w) h ∙ take-append_seam piece rest

-- the values of a written tree are its own
bytes-properties : (at : ℕ) (own : List Named) → map (with_value (λ s. s.bytes)) (map spot_of (placed_properties at own)) ≡ own
unfolding placed_properties
bytes-properties at [] = refl
bytes-properties at (p ∷ own) = rw (bytes-properties (past_property at p) own) refl

pub bytes-placed : (at : ℕ) (t : Nodes) → with_values (λ s. s.bytes) (spots (placed at t)) ≡ t
unfolding spots placed with_values
bytes-placed at no_node = refl
bytes-placed at (a_node name own below after) =
    let at1 = past_name at name in
    let at2 = past_properties at1 own in
    let at3 = past at2 below in
    rw (bytes-properties at1 own, bytes-placed at2 below, bytes-placed (at3 + 4) after) refl
