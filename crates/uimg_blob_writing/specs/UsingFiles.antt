-- What a call that opens files does to them.
use Rattle.std.specs.{Prelude.{ℕ, List, Bool}, Bool.OnFalse}
use Rattle.uimg_base.specs.{Device.RisesIf, Named.{FileMap, SameFiles}}
use Rattle.uimg_base.specs.Opening.{OpensJust, OpensSome}

-- The files are the same, and a refusal was counted if and only if an open was refused.
pub record UsesFiles (refused : Bool) (old new : FileMap) : Type 0 where
  pub same : SameFiles old new
  pub refusals : RisesIf refused old.refusals new.refusals

-- Of these names all were opened, in order, and no other; or the first ones if the call failed.
pub record OpensEach (failed : Bool) (names : List (List ℕ)) (old new : FileMap) : Type 0 where
  pub all : OnFalse failed (OpensJust names old new)
  pub some : OpensSome names old new
