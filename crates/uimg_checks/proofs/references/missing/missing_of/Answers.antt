use Rattle.std.proofs.Common.{rules, ◌≡◌, List, Option, Some, map, IfOk, subst}
use Rattle.std.specs.Option.{option_map}
use Rattle.uimg_base.specs.declared.spans.Span.{Span}
use Rattle.uimg_fit_base.specs.Files.{bytes_in}
use Rattle.uimg_checks.specs.declared.references.reference.Reference.{Reference}
use Rattle.uimg_checks.specs.Given.{read_given}
use Rattle.uimg_checks.specs.References.{read_missing, missing_among}
use Rattle.uimg_checks.proofs.references.missing.missing_of.Goals as goal

pub returns : goal.returns
returns g c =
    record {
      uses = search rules;
      own = search rules;
      told = λ honest list names.
          let file = (g.S.Source.device c.args.source.now).bytes in
          let told : List (Reference × Option Span) → Type 0 =
          λ given. IfOk c.missing_among.result (λ found. option_map (read_missing file) found ≡ missing_among list (bytes_in file (Some c.args.configuration.now.name)) (map (read_given file) given)) in
          subst told c.given_by-given.ensures (c.missing_among.ensures.told honest list names);
    }
