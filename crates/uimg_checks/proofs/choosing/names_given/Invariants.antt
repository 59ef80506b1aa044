use Rattle.std.proofs.Common.{◌≡◌, ◌||◌, ℕ, List, map, drop, IsTrue}
use Rattle.std.specs.List.{list_any}
use Rattle.std.specs.Str.{bytes_eq}
use Rattle.uimg_base.specs.Device.{SameDevice}
use Rattle.uimg_checks.specs.Choices.{names_among}
use Rattle.uimg_checks.specs.Given.{read_given}
use Rattle.uimg_checks.specs.ReferenceNames.{has_name}
use Rattle.uimg_checks.proofs.choosing.names_given.Given as goal

-- what is left is all that is not added yet
abbrev pub invariant-loop-value : goal.invariant-loop-value
invariant-loop-value g l =
    let device = g.S.Source.device in
    let file = (device l.fn.source).bytes in
    record {
      same : SameDevice (device l.fn.source) (device l.source);
      left : IsTrue (device l.fn.source).honest → (name : List ℕ)
          → (list_any (bytes_eq name) (names_among (map (read_given file) (drop l.value-index l.properties))) || has_name l.names name)
          ≡ list_any (bytes_eq name) (names_among (map (read_given file) l.properties));
    }
