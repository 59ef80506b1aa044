-- The names that a configuration gives: its properties with their values, in the order of the check
-- (Flattened Image Tree format, "'/configurations' node"; properties of U-Boot's include/image.h).
use Rattle.std.specs.Prelude.{ℕ, List, [], ◌∷◌, Option}
use Rattle.uimg_base.specs.declared.spans.Span.{Span}
use Rattle.uimg_fit_base.specs.Files.{bytes_in}
use Rattle.uimg_fit_checking.specs.declared.surveying.facts.ConfigurationFacts.{ConfigurationFacts}
use Rattle.uimg_fit_checking.specs.Survey.{ConfigurationSaid}
use Rattle.uimg_fit_reading.specs.PayloadPlaces.{Ends}
use Rattle.uimg_checks.specs.declared.references.reference.Reference.{Reference}
use Rattle.uimg_checks.specs.declared.references.reference.Reference.TheVariants.{Kernel, Ramdisk}
use Rattle.uimg_checks.specs.declared.references.reference.Reference.TheVariants.{Fdt, Loadables}
use Rattle.uimg_checks.specs.declared.references.reference.Reference.TheVariants.{Firmware, Fpga}
use Rattle.uimg_checks.specs.declared.references.reference.Reference.TheVariants.{Setup, Standalone}
use Rattle.uimg_checks.specs.declared.references.reference.Reference.TheVariants.{Script}

-- the values
abbrev pub given_by : ConfigurationSaid → List (Reference × Option (List ℕ))
given_by c =
    (Kernel, c.kernel) ∷ (Ramdisk, c.ramdisk) ∷ (Fdt, c.fdt) ∷ (Loadables, c.loadables)
    ∷ (Firmware, c.firmware)
    ∷ (Fpga, c.fpga) ∷ (Setup, c.setup) ∷ (Standalone, c.standalone) ∷ (Script, c.script) ∷ []

-- the spans of the values
abbrev pub given_facts : ConfigurationFacts → List (Reference × Option Span)
given_facts c =
    (Kernel, c.kernel) ∷ (Ramdisk, c.ramdisk) ∷ (Fdt, c.fdt) ∷ (Loadables, c.loadables)
    ∷ (Firmware, c.firmware)
    ∷ (Fpga, c.fpga) ∷ (Setup, c.setup) ∷ (Standalone, c.standalone) ∷ (Script, c.script) ∷ []

-- a property with its value in a file
abbrev pub read_given : List ℕ → Reference × Option Span → Reference × Option (List ℕ)
read_given file given = (given.0, bytes_in file given.1)

-- The value ends within `size` bytes.
abbrev pub GivenInside : ℕ → Reference × Option Span → Type 0
GivenInside size given = Ends size given.1
