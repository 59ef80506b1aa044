-- Words of a tool that ask for nothing are refused.
use Rattle.std.proofs.Common.{◌≡◌, ℕ, List, Option, Result, Ok, Err, true, refl}
use Rattle.std.specs.Prelude.{is_err}
use Rattle.uimg_compat.specs.Asked.{Asked, asked_of}
use Rattle.uimg_compat.specs.Getopt.{Text}
use Rattle.uimg_compat.specs.Wrong.{Wrong, Tells}
use Rattle.uimg_compat.specs.declared.{fault.OldFault.OldFault, request.OldRequest.OldRequest}
use Rattle.uimg_tool.specs.Programs.{OldAsksNothing, ReadsOld}
use Rattle.uimg_tool.specs.declared.old_tools.Tool.{Tool}
use Rattle.uimg_tool.specs.declared.old_tools.Tool.TheVariants.{Mkimage, Dumpimage}

refused : (asked : Result Asked Wrong) (result : Result OldRequest OldFault) → is_err asked ≡ true → Tells asked_of asked result → is_err result ≡ true
refused asked (Err fault) nothing tells = refl
refused (Ok wanted) (Ok request) nothing tells = nothing
refused (Err wrong) (Ok request) nothing tells = cc

pub nothing_read : (tool : Tool) (epoch : Option Text) (moment : ℕ) (words : List Text) (result : Result OldRequest OldFault)
    → OldAsksNothing tool epoch moment words → ReadsOld tool epoch moment words result → is_err result ≡ true
unfolding OldAsksNothing ReadsOld
nothing_read Mkimage epoch moment words result nothing reads = refused _ result nothing reads
nothing_read Dumpimage epoch moment words result nothing reads = refused _ result nothing reads
