use Rattle.std.proofs.Common.{◌≡◌, ◌+◌, Bool, true, false, length, length-append, ◌++◌, ◌∷◌, [], ◌∙◌, ap, is_ok, ℕ, List, if◌then◌else◌}
use Rattle.uimg_blob_reading.specs.Kept.{span_word, number_word}
use Rattle.uimg_blob_reading.proofs.entries.enter.Goals as goal

-- the words of a node that begins
abbrev words : ℕ → ℕ → ℕ → List ℕ
words name parent role = name ∷ parent ∷ 0 ∷ role ∷ 0 ∷ 0 ∷ 0 ∷ 0 ∷ 0 ∷ 0 ∷ 0 ∷ 0 ∷ 0 ∷ 0 ∷ 0 ∷ 0 ∷ []

counted : (added : Bool) (old new : List (List ℕ)) (e : List ℕ) → new ≡ (if added then old ++ e ∷ [] else old) → length new ≡ (if added then length old + 1 else length old)
counted true old new e h = ap length h ∙ length-append old (e ∷ [])
counted false old new e h = ap length h

pub returns : goal.returns
returns g c =
    let name = span_word (c.args.at + 4) c.args.name_length in
    record {
      entries = c.add.ensures.entries
          ∙ ap (λ (e : List ℕ). if is_ok c.add.result then c.args.room.now.entries ++ e ∷ [] else c.args.room.now.entries)
          (ap (λ (w : ℕ). words w c.number_word.result c.role_word.result) c.span_word.ensures
          ∙ ap (λ (w : ℕ). words name w c.role_word.result) c.number_word.ensures
          ∙ ap (λ (w : ℕ). words name (number_word c.args.parent) w) c.role_word.ensures);
      size = record { count = counted (is_ok c.add.result) _ _ _ c.add.ensures.entries; peak = c.add.ensures.peak; refused = c.add.ensures.refused };
    }
