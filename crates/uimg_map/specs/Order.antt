-- Things in the order of their offsets.
use Rattle.std.specs.{Prelude.{◌≡◌, ◌≤◌, ⊤, List, [], ◌∷◌}, List.AllByRecursion}
use Rattle.uimg_map.specs.declared.thing.Thing.{Thing}

-- lexicographic order, by offset, end and number
pub record IsBefore (s t : Thing) : Type 0 where
  pub place : s.place ≤ t.place
  pub end : s.place ≡ t.place → s.end ≤ t.end
  pub number : s.place ≡ t.place → s.end ≡ t.end → s.number ≤ t.number

abbrev pub InOrder : List Thing → Type 0
InOrder [] = ⊤
InOrder (t ∷ ts) = AllByRecursion (IsBefore t) ts × InOrder ts
