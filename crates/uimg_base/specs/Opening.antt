-- Which files were opened, of names in order.
use Rattle.std.specs.Prelude.{◌≡◌, ℕ, List, ◌++◌, reverse}
use Rattle.uimg_base.specs.Named.{FileMap}

-- Files of exactly these names were requested, in order.
abbrev pub OpensJust : List (List ℕ) → FileMap → FileMap → Type 0
OpensJust names old new = new.opened ≡ reverse names ++ old.opened

-- Of these names, exactly those before the last ones that are left were requested, in order.
pub record OpensUpTo (names left : List (List ℕ)) (old new : FileMap) : Type 0 where
  pub first : List (List ℕ)
  pub whole : names ≡ first ++ left
  pub just : OpensJust first old new

-- Exactly the first ones of these names were requested, in order.
pub record OpensSome (names : List (List ℕ)) (old new : FileMap) : Type 0 where
  pub left : List (List ℕ)
  pub opens : OpensUpTo names left old new
