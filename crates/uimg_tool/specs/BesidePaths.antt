-- Files that are written beside their names.
use Rattle.std.specs.Prelude.{◌≡◌, ℕ, List, ◌∷◌, ◌++◌, codes, Bool, true, false}
use Rattle.std.specs.{List.list_all, Option.option_map_or}
use Rattle.uimg_world.specs.Deeds.{Deed, Removes, Renames}
use Rattle.uimg_world.specs.declared.call.Answer.{Answer}
use Rattle.uimg_world.specs.declared.call.Answer.TheVariants.{Done}
use Rattle.uimg_unpacking.specs.Naming.{is_done}
use Rattle.uimg_unpacking.specs.Places.{behind, is_digit}

-- PATH.uimg-new, and any digits
unfoldable pub is_beside : List ℕ → List ℕ → Bool
is_beside path new = option_map_or (list_all is_digit) (behind (path ++ codes ".uimg-new") new) false

-- A file at NEW gets the path WHOLE if it is complete. If it is not, or cannot get that path, it is
-- removed.
pub data Finishes (new whole : List ℕ) (is_complete : Bool) (answer : Answer) (before after : List Deed) : Type 0 where
  named : is_complete ≡ true → answer ≡ Done → after ≡ Renames new whole Done ∷ before → Finishes new whole is_complete answer before after
  not_named : (removed : Answer) → is_complete ≡ true → is_done answer ≡ false → after ≡ Removes new removed ∷ Renames new whole answer ∷ before → Finishes new whole is_complete answer before after
  incomplete : is_complete ≡ false → after ≡ Removes new answer ∷ before → Finishes new whole is_complete answer before after
