-- The text that a check writes for an image.
use Rattle.std.specs.Prelude.{ℕ, List, [], ◌∷◌, ◌++◌, Bool, if◌then◌else◌}
use Rattle.json.specs.Print.{print}
use Rattle.json.specs.Tree.{json_tokens}
use Rattle.uimg_checks.specs.{Lines.answer_line, Objects.check_json}
use Rattle.uimg_checks.specs.declared.answer.Answer.{Answer}
use Rattle.uimg_tool.specs.JsonLines.{shown_line}

-- a line of text, with its newline
abbrev pub text_line : List ℕ → Answer → List ℕ
text_line path answer = answer_line path answer ++ 10 ∷ []

-- a line of JSON
abbrev pub object_line : List ℕ → Answer → List ℕ
object_line path answer = shown_line (print (json_tokens (check_json path answer)))

abbrev pub answer_text : Bool → List ℕ → Answer → List ℕ
answer_text as_json path answer =
    if as_json then object_line path answer else text_line path answer
