-- The words of the data of a legacy image.
use Rattle.std.specs.Prelude.{ℕ, List, [], ◌∷◌}
use Rattle.uimg_texts.specs.Numbers.{be32}

-- the whole words of the bytes, in order
unfoldable pub whole_words : List ℕ → List ℕ
whole_words (a ∷ b ∷ c ∷ d ∷ rest) = be32 (a ∷ b ∷ c ∷ d ∷ []) 0 ∷ whole_words rest
whole_words _ = []
