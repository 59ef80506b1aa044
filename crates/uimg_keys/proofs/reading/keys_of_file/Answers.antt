use Rattle.std.proofs.Common.{inl, inr}
use Rattle.uimg_keys.proofs.reading.keys_of_file.Goals as goal

pub returns-then-starts_with : goal.returns-then-starts_with
returns-then-starts_with c = inr c.in_ok-keys.ensures

pub returns : goal.returns
returns c = inl c.in_ok-keys-2.ensures
