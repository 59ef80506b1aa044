-- What a command writes and how it ends. F is the type of its faults.
use Rattle.std.specs.Prelude.{◌≡◌, ℕ, List, ◌++◌, ◌∷◌, [], Option, Some, None, Result, Ok, Err}
use Rattle.uimg_base.specs.Sink.{Sink, AppendsAll, AppendsPrefix}

-- the end of a command: done, not right, or refused with one fault
pub data End (F : Type 0) : Type 0 where
  done : End F
  not_right : End F
  refused : F → End F

-- a text, and the end after it
pub record Outcome (F : Type 0) : Type 0 where
  pub text : List ℕ
  pub end : End F

-- the outcome with a text and an end
abbrev pub told : {F : Type 0} → List ℕ → End F → Outcome F
told text end = record { text = text; end = end }

-- an outcome with a text prepended
abbrev pub after : {F : Type 0} → List ℕ → Outcome F → Outcome F
after text o = record { text = text ++ o.text; end = o.end }

-- the outcome for a result, or the refusal without text
abbrev pub unless_refused : {X F : Type 0} → Result X F → (X → Outcome F) → Outcome F
unless_refused (Ok x) tell = tell x
unless_refused (Err fault) tell = told [] (refused fault)

-- a text and a newline
abbrev pub line : List ℕ → List ℕ
line text = text ++ 10 ∷ []

-- A call has the outcome: its end is the outcome's, and the outcome's text was appended. If a
-- device failed there is no end, and a prefix of the text was appended.
abbrev pub Tells : {F : Type 0} → Option (End F) → Outcome F → Sink → Sink → Type 0
Tells (Some e) o s t = (o.end ≡ e) × AppendsAll s t o.text
Tells None o s t = AppendsPrefix s t o.text
