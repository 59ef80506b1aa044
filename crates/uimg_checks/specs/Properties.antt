-- The properties whose values are names (Flattened Image Tree format, "'/configurations' node").
use Rattle.std.specs.Prelude.{ℕ, List, codes}
use Rattle.uimg_checks.specs.declared.references.reference.Reference.{Reference}
use Rattle.uimg_checks.specs.declared.references.reference.Reference.TheVariants.{Requested, Default, Kernel}
use Rattle.uimg_checks.specs.declared.references.reference.Reference.TheVariants.{Ramdisk, Fdt}
use Rattle.uimg_checks.specs.declared.references.reference.Reference.TheVariants.{Loadables}
use Rattle.uimg_checks.specs.declared.references.reference.Reference.TheVariants.{Firmware, Fpga}
use Rattle.uimg_checks.specs.declared.references.reference.Reference.TheVariants.{Setup, Standalone}
use Rattle.uimg_checks.specs.declared.references.reference.Reference.TheVariants.{Script}

abbrev pub property_name : Reference → List ℕ
property_name Requested = codes "configuration"
property_name Default = codes "default"
property_name Kernel = codes "kernel"
property_name Ramdisk = codes "ramdisk"
property_name Fdt = codes "fdt"
property_name Loadables = codes "loadables"
property_name Firmware = codes "firmware"
property_name Fpga = codes "fpga"
property_name Setup = codes "setup"
property_name Standalone = codes "standalone"
property_name Script = codes "script"
