-- The command of `uimg` is one of those whose matches and faults are known.
use Rattle.std.proofs.Common.{◌≡◌, true, refl}
use Rattle.clap.specs.Faults.{is_simple_and_free}
use Rattle.uimg_cli.specs.Check.{check}
use Rattle.uimg_cli.specs.CommandLines.{uimg}
use Rattle.uimg_cli.specs.Diff.{diff}
use Rattle.uimg_cli.specs.Dumpimage.{dumpimage}
use Rattle.uimg_cli.specs.Info.{info}
use Rattle.uimg_cli.specs.Map.{map_command}
use Rattle.uimg_cli.specs.Mkimage.{header_rules, mkimage, source_rules}
use Rattle.uimg_cli.specs.Unpack.{chosen_rules, unpack, written_rules}
use Rattle.uimg_cli.specs.Verify.{verify}

pub uimg_is_simple : is_simple_and_free uimg ≡ true
unfolding uimg check diff dumpimage info map_command mkimage header_rules source_rules unpack chosen_rules written_rules verify
uimg_is_simple = refl
