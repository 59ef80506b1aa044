-- The payloads of a taker in memory.
use Rattle.uimg_fit_checking.specs.declared.unpacking.mem_taker.MemTake.{MemTake}
use Rattle.uimg_fit_checking.specs.declared.unpacking.mem_taker.MemTake.TheVariants.{Kept, Refused}
use Rattle.uimg_fit_checking.specs.Unpacking.{Take, kept, refused, as_bytes, told_of}

-- a kept payload with its bytes, or a refused one
abbrev pub take_at : {A : Type 0} → MemTake A → Take
take_at (Kept name payload vouched) = kept (as_bytes name) payload.items vouched
take_at (Refused name refusal) = refused (as_bytes name) (told_of (as_bytes name) refusal)
