-- What a writing call does to an output.
use Rattle.std.specs.{Prelude.{ℕ, List, Bool}, Bool.OnFalse}
use Rattle.uimg_base.specs.{Device.RisesIf, Sink.{Sink, AppendsAll, AppendsPrefix}}

-- All the bytes were written, or a prefix of them if a write failed.
pub record Writes (failed : Bool) (old new : Sink) (bytes : List ℕ) : Type 0 where
  -- all bytes were appended, unless the call failed
  pub all : OnFalse failed (AppendsAll old new bytes)
  -- a prefix of them was appended, at every exit
  pub prefix : AppendsPrefix old new bytes
  -- the faults rose if and only if the call failed
  pub faults : RisesIf failed old.faults new.faults

-- All the bytes were appended, or a prefix of them if the call failed, by a write or otherwise.
pub record Written (failed : Bool) (old new : Sink) (bytes : List ℕ) : Type 0 where
  pub all : OnFalse failed (AppendsAll old new bytes)
  pub prefix : AppendsPrefix old new bytes
