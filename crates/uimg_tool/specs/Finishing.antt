-- How a file that was written beside its name ends, by its paths.
use Rattle.std.specs.Prelude.{◌≡◌, List, Bool, string_bytes}
use Rattle.uimg_world.specs.Deeds.{Deed, changes}
use Rattle.uimg_world.specs.declared.call.Answer.{Answer}
use Rattle.uimg_tool.specs.BesidePaths.{Finishes}
use Rattle.uimg_tool.specs.declared.safe_path.SafePath.{SafePath}

-- It gets its name if it is complete, and else is removed, whatever the calls answer. Nothing is changed
-- after that.
abbrev pub FinishesBy : SafePath → Bool → List Deed → List Deed → Type 0
FinishesBy path is_complete before after = (answer : Answer) × (ended : List Deed)
    × Finishes (string_bytes path.new) (string_bytes path.whole) is_complete answer before ended
    × (changes after ≡ changes ended)
