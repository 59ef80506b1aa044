use Rattle.std.proofs.Common.{rules, ◌≡◌, ◌≤◌, ◌+◌, ◌-◌, length, take, drop, List, ℕ}
use Rattle.uimg_texts.specs.Slices.{slice}
use Rattle.uimg_base.proofs.AheadLaws.{piece_gives_from}
use Rattle.uimg_base.proofs.piece.Piece.part.Goals as goal

pub returns-clause-part : goal.returns-clause-part
returns-clause-part c = λ s ahead.
    let held = c.args.self.now.bytes.items in
    let start = c.args.at - c.args.self.now.at in
    let part : List ℕ = take (start + c.args.len - start) (drop start c.deref.result.now) in
    let size : length part ≡ c.args.len = search rules in
    let within : start + length part ≤ length held = search rules in
    let there : c.args.at ≡ c.args.self.now.at + start = search rules in
    let is : part ≡ slice held start (length part) = search rules in
    piece_gives_from c.args.self.now s c.args.at start part ahead within there is
