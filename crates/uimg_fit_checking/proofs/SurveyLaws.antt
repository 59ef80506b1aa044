-- What was gathered of nodes, and what is left of them.
use Rattle.std.proofs.Common.{◌≡◌, ℕ, List, [], ◌∷◌, ◌++◌, map, Option, refl, ap, sym, ◌∙◌, append_assoc, append-nil}
use Rattle.std.proofs.lemmas.List.{map-append}
use Rattle.uimg_blob_reading.specs.LookUps.{NodeOf}
use Rattle.uimg_blob_reading.specs.Spots.{Spot}

-- The facts of some nodes are gathered, and the others stand from a number on.
pub record Gathered (F R : Type 0) (At : Option ℕ → List (NodeOf Spot) → Type 0) (read : F → R) (said : NodeOf Spot → R) (facts : List F) (next : Option ℕ) (all : List (NodeOf Spot)) : Type 0 where
  pub left : List (NodeOf Spot)
  pub at : At next left
  pub is : map read facts ++ map said left ≡ map said all

module _ {F R : Type 0} (At : Option ℕ → List (NodeOf Spot) → Type 0) (read : F → R) (said : NodeOf Spot → R) (all : List (NodeOf Spot)) where
  pub none_gathered : (next : Option ℕ) → At next all → Gathered F R At read said [] next all
  none_gathered next at = record { left = all; at = at; is = refl }

  pub one_gathered : (facts grown : List F) (fact : F) (next later : Option ℕ) (k : Gathered F R At read said facts next all) (x : NodeOf Spot) (more : List (NodeOf Spot))
      → k.left ≡ x ∷ more → read fact ≡ said x → grown ≡ facts ++ fact ∷ [] → At later more → Gathered F R At read said grown later all
  one_gathered facts grown fact next later k x more are told grows at = record {
    left = more;
    at = at;
    is =
        ap (λ l. map read l ++ map said more) grows
        ∙ ap (λ l. l ++ map said more) (map-append read facts (fact ∷ []))
        ∙ append_assoc (map read facts) (read fact ∷ []) (map said more)
        ∙ ap (λ (r : R). map read facts ++ r ∷ map said more) told
        ∙ ap (λ l. map read facts ++ map said l) (sym are)
        ∙ k.is;
  }

  pub all_gathered : (facts : List F) (next : Option ℕ) (k : Gathered F R At read said facts next all) → k.left ≡ [] → map read facts ≡ map said all
  all_gathered facts next k none =
      sym (append-nil (map read facts)) ∙ ap (λ l. map read facts ++ map said l) (sym none) ∙ k.is
