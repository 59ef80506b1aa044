-- Reading of several things, one step each.
use Rattle.std.specs.Prelude.{ℕ, zero, suc, Bool, true, false, length, List, ◌++◌, Option, Some}
use Rattle.std.specs.Prelude.{None}
use Rattle.uimg_its.specs.{Options.◌>>=◌, Words.Word}

-- What is read at the start of a list of words, and the words after it.
abbrev pub Parses : Type 0 → Type 0
Parses A = List Word → Option (A × List Word)

-- what is read, appended to what was read before
abbrev pub with_front : {X : Type 0} → List X → Option (List X × List Word)
    → Option (List X × List Word)
with_front front read = read >>= λ x. Some (front ++ x.0, x.1)

-- the same without the words after it
abbrev pub without_rest : {X : Type 0} → List X → Option (List X) → Option (List X)
without_rest front read = read >>= λ x. Some (front ++ x)

-- A step of reading several things: whether it is the last, what it reads, and the words after it.
abbrev pub Step : Type 0 → Type 0
Step X = Option (Bool × List X × List Word)

abbrev pub Steps : Type 0 → Type 0
Steps X = List Word → Step X

-- a step and, unless it is the last, those after it
abbrev pub and_on : {X : Type 0} → Step X → Parses (List X) → Option (List X × List Word)
and_on None on = None
and_on (Some (true, xs, ws)) on = Some (xs, ws)
and_on (Some (false, xs, ws)) on = with_front xs (on ws)

-- what a step reads, appended to what was read before
abbrev pub step_front : {X : Type 0} → List X → Step X → Step X
step_front front step = step >>= λ x. Some (x.0, front ++ x.1, x.2)

-- at most n steps
abbrev pub at_most : {X : Type 0} → Steps X → ℕ → Parses (List X)
at_most step zero ws = None
at_most step (suc n) ws = and_on (step ws) (at_most step n)

-- All steps up to the last. Each but the last takes a word, so at most one more than words.
unfoldable pub all : {X : Type 0} → Steps X → Parses (List X)
all step ws = at_most step (suc (length ws)) ws
