-- What the calls that read words do.
use Rattle.std.specs.{Prelude.{◌<◌, ℕ, List, length, Option, Result, IfOk}, Borrow.Bor}
use Rattle.uimg_its.specs.{declared.{stop.Stop.Stop, tokens.Mark.Mark}, Reader.expect, Steps.Parses}
use Rattle.uimg_its.specs.{Answers.{Gives, NeverInFile}, Words.words}

-- The returned value, seen by `view`, is what reading gives; no refusal is for a reason in a file.
pub record ReadsText {X Y : Type 0} (view : X → Y) (result : Result X Stop) (read : Option Y)
    : Type 0 where
  pub gives : Gives view result read
  pub no_file : NeverInFile result

-- The same for a reader of the words at the start of a text; the remaining text is shorter.
pub record ReadsFront {X Y : Type 0} (view : X → Y) (rest : X → List ℕ) (result : Result X Stop)
    (reader : Parses Y) (text : List ℕ) : Type 0 where
  pub gives : Gives (λ x. (view x, words (rest x))) result (reader (words text))
  pub no_file : NeverInFile result
  pub shorter : IfOk result (λ x. length (rest x) < length text)

-- The same for a mark that must come next.
pub record PassesMark (mark : Mark) (result : Result (Bor (List ℕ)) Stop) (text : List ℕ)
    : Type 0 where
  pub gives : Gives (λ rest. words rest.now) result (expect mark (words text))
  pub no_file : NeverInFile result
  pub shorter : IfOk result (λ rest. length rest.now < length text)
