-- What a command leaves: its exit status, and how many faults it printed on standard error.
use Rattle.std.specs.Prelude.{◌≡◌, ℕ, ◌+◌, ◌≤◌, List, ◌++◌, codes, Option, Some, None, IfSome, Bool, true, false}
use Rattle.std.specs.{Bool.OnFalse, Io.KnownBytes.Appends}
use Rattle.uimg_base.specs.Lent.{Lent}
use Rattle.uimg_tool.specs.declared.complaints.Complaints.{Complaints}
use Rattle.std.specs.declared.io.ErrorKind.{ErrorKind}
use Rattle.std.specs.declared.io.ErrorKind.TheVariants.{BrokenPipe}

-- The status is one of the four. At most one fault was told, and none if the status is 0.
pub record Ends (status old new : ℕ) : Type 0 where
  pub most : status ≤ 3
  pub once : new ≤ old + 1
  pub silent : status ≡ 0 → new ≡ old

-- Nobody reads what was written.
abbrev pub is_closed_pipe : ErrorKind → Bool
is_closed_pipe BrokenPipe = true
is_closed_pipe kind = false

-- the line of a fault on standard error
abbrev pub fault_line : List ℕ → List ℕ → List ℕ
fault_line name text = name ++ codes ": " ++ text ++ codes "\n"

-- Nothing was told, or a fault, in a line that is exactly this one if its text is known and no write
-- failed.
abbrev pub AddsLine : Option (Option (List ℕ)) → (name : List ℕ) → (is_lost : Bool) → (old new : Option (List ℕ)) → Type 0
AddsLine None name is_lost old new = new ≡ old
AddsLine (Some text) name is_lost old new =
    OnFalse is_lost (IfSome text (λ known. Appends old new (fault_line name known)))

-- The same of standard error. A write that failed is not forgotten.
pub record ComplainsBetween {V : Type 0} (contents : V → Option (List ℕ)) (told : Option (Option (List ℕ)))
    (old new : Complaints V) : Type 0 where
  pub name : new.name ≡ old.name
  pub lost : old.is_lost ≡ true → new.is_lost ≡ true
  pub adds : AddsLine told old.name.now new.is_lost (contents old.err.now) (contents new.err.now)

abbrev pub Complains : {V : Type 0} → (V → Option (List ℕ)) → Option (Option (List ℕ)) → Lent (Complaints V) → Type 0
Complains contents told err = ComplainsBetween contents told err.entry.now err.exit.now

-- A text was written, all of it if no write failed.
abbrev pub AddsText : {V : Type 0} → (V → Option (List ℕ)) → List ℕ → (old new : Complaints V) → Type 0
AddsText contents text old new =
    OnFalse new.is_lost (Appends (contents old.err.now) (contents new.err.now) text)
