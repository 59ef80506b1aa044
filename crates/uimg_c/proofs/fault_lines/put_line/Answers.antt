use Rattle.std.proofs.Common.{rules, ◌≡◌, ◌∙◌, ℕ, List, Some, ◌++◌, ap, subst, OnOk}
use Rattle.std.proofs.lemmas.{Fmt.contents_after_writes, Result.on_ok_weaker}
use Rattle.std.specs.Fmt.{WritesText}
use Rattle.arrayvec.specs.ArrayString.{ArrayString}
use Rattle.uimg_c.proofs.fault_lines.put_line.Goals as goal

-- a write appends its text
abbrev Adds : ArrayString → List ℕ → ArrayString → Type 0
Adds before text after = after.bytes ≡ before.bytes ++ text

pub returns-clause-front : goal.returns-clause-front
returns-clause-front g c line is some =
    let written : OnOk c.write.result (WritesText Adds c.new-line.result (Some line) c.write.new.self) = subst (λ text. OnOk c.write.result (WritesText Adds c.new-line.result text c.write.new.self)) is c.write.ensures.writes in
    let all : OnOk c.write.result (c.write.new.self.bytes ≡ line) = on_ok_weaker _ (λ calls. contents_after_writes _ (λ (it : ArrayString). it.bytes) (λ _ _ _ it. it) _ line _ calls ∙ ap (λ text. text ++ line) c.new-line.ensures) written in
    let said : c.write.new.self.bytes ≡ line = search rules in
    record {
      whole = search rules;
      text = search rules;
    }
