-- Claims about files that were lent to a call, given the bytes at their names. `map` is what
-- contracts see of the files.
use Rattle.std.specs.Prelude.{ℕ, List, Bool, IsTrue, Option}
use Rattle.uimg_base.specs.{Lent.Lent, Named.FileMap}
use Rattle.uimg_blob_reading.specs.Plain.{Nodes}
use Rattle.uimg_blob_writing.specs.Content.{Unread, AreKept, in_full}

-- If the files were honest, the claim holds of their bytes.
abbrev pub OfHonest : {F : Type 0} → (F → FileMap) → Lent F → ((List ℕ → Option (List ℕ)) → Type 0)
    → Type 0
OfHonest map files Fact = IsTrue (map files.entry.now).honest → Fact (map files.entry.now).bytes

-- If they were also those of a tree, with the stored sizes, the claim holds of their bytes.
abbrev pub IfKept : {F : Type 0} → (F → FileMap) → Lent F → Unread
    → ((List ℕ → Option (List ℕ)) → Type 0) → Type 0
IfKept map files t Fact = OfHonest map files (λ bytes. AreKept bytes t → Fact bytes)

-- The same for the tree with the bytes of its files.
abbrev pub IfInFull : {F : Type 0} → (F → FileMap) → Lent F → Unread → (Nodes → Type 0) → Type 0
IfInFull map files t Fact = IfKept map files t (λ bytes. Fact (in_full bytes t))

-- If they were complete and those of a tree, with the stored sizes, the claim holds.
abbrev pub IfComplete : {F : Type 0} → (F → FileMap) → Lent F → Unread → Type 0 → Type 0
IfComplete map files t Fact =
    IsTrue (map files.entry.now).complete → AreKept (map files.entry.now).bytes t → Fact

-- If they open steady sources, were honest and those of a tree with stored sizes, the claim holds.
abbrev pub IfSteady : {F : Type 0} → Bool → (F → FileMap) → Lent F → Unread → Type 0 → Type 0
IfSteady steady map files t Fact = IsTrue steady → IfKept map files t (λ bytes. Fact)
