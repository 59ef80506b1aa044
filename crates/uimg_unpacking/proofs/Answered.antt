-- What calls answer.
use Rattle.std.proofs.Common.{◌≡◌, false, refl, Result, Ok, Err, is_ok, sym}
use Rattle.std.specs.declared.io.Error.{Error}
use Rattle.std.specs.IoError.{error_kind}
use Rattle.std.specs.declared.io.ErrorKind.{ErrorKind}
use Rattle.std.specs.declared.io.ErrorKind.TheVariants.{AlreadyExists}
use Rattle.uimg_world.specs.Deeds.{refusal, answer_of}
use Rattle.uimg_unpacking.specs.Naming.{is_done}

-- a refused call is not done
pub refusal-undone : (kind : ErrorKind) → is_done (refusal kind) ≡ false
refusal-undone AlreadyExists = refl
refusal-undone _ = refl

pub done-ok : {T : Type 0} (result : Result T Error) → is_ok result ≡ is_done (answer_of result)
done-ok (Ok _) = refl
done-ok (Err error) = sym (refusal-undone (error_kind error))
