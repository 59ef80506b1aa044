-- The most bytes requested: each name and each value once.
use Rattle.std.specs.Prelude.{ℕ, ◌+◌, Option}
use Rattle.std.specs.List.{sum_by}
use Rattle.uimg_base.specs.declared.spans.Span.{Span}
use Rattle.uimg_fit_checking.specs.declared.surveying.facts.ConfigurationFacts.{ConfigurationFacts}
use Rattle.uimg_fit_checking.specs.declared.surveying.facts.Survey.{Survey}
use Rattle.uimg_fit_reading.specs.Heads.{span_size}
use Rattle.uimg_checks.specs.declared.references.reference.Reference.{Reference}
use Rattle.uimg_checks.specs.Given.{given_facts}

-- of a value
abbrev pub given_size : Reference × Option Span → ℕ
given_size given = span_size given.1

-- of the values of a configuration
abbrev pub values_size : ConfigurationFacts → ℕ
values_size c = sum_by given_size (given_facts c)

-- of all names and values
abbrev pub missing_work : Survey → ℕ
missing_work survey =
    sum_by (λ c. c.name.length) survey.configurations.items + span_size survey.preferred
    + sum_by (λ i. i.name.length) survey.images.items
    + sum_by values_size survey.configurations.items
