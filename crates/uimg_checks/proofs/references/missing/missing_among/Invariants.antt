use Rattle.std.proofs.Common.{◌≡◌, ◌≤◌, ◌+◌, take, ℕ, List, map, drop, IsTrue}
use Rattle.std.specs.List.{sum_by}
use Rattle.uimg_base.specs.Device.{SameDevice}
use Rattle.uimg_fit_base.specs.Files.{bytes_in}
use Rattle.uimg_checks.specs.Given.{read_given}
use Rattle.uimg_checks.specs.ReferenceNames.{HasNames}
use Rattle.uimg_checks.specs.References.{missing_among}
use Rattle.uimg_checks.specs.ReferenceWork.{given_size}
use Rattle.uimg_checks.proofs.references.missing.missing_among.Given as goal

-- no value so far has a text that is missing
abbrev pub invariant-loop-reference : goal.invariant-loop-reference
invariant-loop-reference g l =
    let device = g.S.Source.device in
    let file = (device l.fn.source).bytes in
    record {
      same : SameDevice (device l.fn.source) (device l.source);
      asked : (device l.source).asked ≤ (device l.fn.source).asked + sum_by given_size (take l.reference-index l.properties);
      failures : (device l.source).failures ≡ (device l.fn.source).failures;
      left : IsTrue (device l.fn.source).honest → (list : List (List ℕ)) → HasNames l.names list
          → missing_among list (bytes_in file l.configuration) (map (read_given file) (drop l.reference-index l.properties))
          ≡ missing_among list (bytes_in file l.configuration) (map (read_given file) l.properties);
    }
