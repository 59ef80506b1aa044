use Rattle.std.proofs.Common.{◌≡◌, ◌<◌, ℕ, true, false, nat_lt, Bool, Ok, sym, subst}
use Rattle.std.proofs.lemmas.Bool.{lt-ltb}
use Rattle.uimg_texts.specs.Numbers.{up4}
use Rattle.uimg_map.specs.{Contents.{GrowsBy, AddsFound}, Found.{the_padding, thing}}
use Rattle.uimg_map.specs.LegacyContents.{padding_told}
use Rattle.uimg_map.proofs.legacy_contents.add_padding.Goals as goal

pub returns : goal.returns
returns c =
    let stop = c.args.stop in
    let before = c.args.contents.now in
    let after = c.add.new.self in
    let more : stop < up4 stop = subst (λ (n : ℕ). stop < n) c.up4-next.ensures c.if-next-stop.false in
    let some : nat_lt stop (up4 stop) ≡ true = lt-ltb stop (up4 stop) more in
    let there : AddsFound {X = Unit {0}} (λ _. padding_told stop false) (Ok tt) before after = record {
      size = c.in_ok-add.ensures.size;
      grows = λ file. rw some (subst (λ (n : ℕ). GrowsBy file (thing the_padding stop n) before after) c.up4-next.ensures (c.in_ok-add.ensures.grows file));
      memory = tt;
    } in
    subst (λ (last : Bool). AddsFound {X = Unit {0}} (λ _. padding_told stop last) (Ok tt) before after) (sym c.if-is_last.false) there
