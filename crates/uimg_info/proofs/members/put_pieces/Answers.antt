use Rattle.std.proofs.Common.{◌++◌, ap, sym, ◌∙◌, rules, length, ◌≤◌, List, ℕ, map}
use Rattle.json.specs.Tree.{items_tokens}
use Rattle.uimg_printing.specs.Members.{text_json, items_of}
use Rattle.uimg_info.proofs.PieceLaws.{no_pieces}
use Rattle.uimg_info.proofs.members.put_pieces.Goals as goal

pub returns : goal.returns
returns c =
    let l = c.loop-rest in
    let none : length l.rest.now ≤ 0 = search rules in
    record {
      tokens_now = c.in_ok-end_array.ensures.ok
          ∙ ap (λ (ps : List (List ℕ)). l.writer.tokens ++ items_tokens (items_of (map (text_json c.args.as_bytes) ps))) (sym (no_pieces l.rest.now none))
          ∙ l.invariant.all;
      before = c.end_array.ensures.room.0 ∙ l.invariant.before;
    }
