-- A source that is honest: each read returns the bytes that it has there.
use Rattle.std.specs.Prelude.{ℕ, List, IsTrue}
use Rattle.uimg_base.specs.{Device.Device, Lent.Lent}

-- the source is honest
abbrev pub HonestSource : {S : Type 0} → (S → Device) → Lent S → Type 0
HonestSource device source = IsTrue (device source.entry.now).honest

-- a fact about the bytes of the source, if it is honest
abbrev pub IfHonest : {S : Type 0} → (S → Device) → Lent S → (List ℕ → Type 0) → Type 0
IfHonest device source Fact =
    IsTrue (device source.entry.now).honest → Fact (device source.entry.now).bytes
