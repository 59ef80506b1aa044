use Rattle.std.proofs.Common.{rules, ◌≡◌, ◌≤◌, ◌+◌, ◌-◌, length}
use Rattle.uimg_texts.specs.Slices.{slice}
use Rattle.uimg_base.proofs.AheadLaws.{gives_from}
use Rattle.uimg_base.proofs.windows.Window.give.Goals as goal

pub returns : goal.returns
returns c = λ given s ahead.
    let start = c.args.at - c.args.self.now.at in
    let within : start + length c.copy_from_slice.new.self ≤ c.args.self.now.count = search rules in
    let there : c.args.at ≡ c.args.self.now.at + start = search rules in
    let is : c.copy_from_slice.new.self ≡ slice c.args.self.now.bytes start (length c.copy_from_slice.new.self) = search rules in
    gives_from c.args.self.now s c.args.at start c.copy_from_slice.new.self ahead within there is
