use Rattle.std.proofs.Common.{◌≡◌, ◌<◌, ◌≤◌, ℕ, ◌+◌, true, false, nat_lt, ◌∙◌, subst, arith}
use Rattle.std.proofs.lemmas.Bool.{lt-ltb, le-ltb}
use Rattle.uimg_legacy.specs.declared.fault.LegacyFault.TheVariants.{NoTableEnd}
use Rattle.uimg_map.specs.{Contents.GrowsBy, Found.{Told, the_table, thing, refused_at}}
use Rattle.uimg_map.specs.LegacyContents.{legacy_fault}
use Rattle.uimg_map.proofs.ContentsLaws.{grows_none, grows_then}
use Rattle.uimg_map.proofs.legacy_contents.add_endless.Goals as goal

pub returns-then-end-contents : goal.returns-then-end-contents
returns-then-end-contents c =
    let end = c.end_of-end.result in
    let size = c.args.contents.now.size in
    let same = c.in_ok-add.ensures.size in
    let cut : size < 64 + c.args.size = omega (arith, same, c.end_of-end.ensures, c.if-end-contents.true) in
    let behind : nat_lt size (64 + c.args.size) ≡ true = lt-ltb size (64 + c.args.size) cut in
    record {
      size = same;
      grows = λ file.
          let table = subst (λ (n : ℕ). GrowsBy file (thing the_table 64 n) c.args.contents.now c.add.new.self) c.end_of-end.ensures (c.in_ok-add.ensures.grows file) in
          rw behind (grows_then table (grows_none file c.add.new.self));
      memory = tt;
    }

pub returns : goal.returns
returns c =
    let end = c.end_of-end.result in
    let size = c.args.contents.now.size in
    let same = c.in_ok-add.ensures.size in
    let whole : 64 + c.args.size ≤ size = omega (arith, same, c.end_of-end.ensures, c.if-end-contents.false) in
    let inside : nat_lt size (64 + c.args.size) ≡ false = le-ltb size (64 + c.args.size) whole in
    let told : refused_at end c.legacy_fault.result ≡ refused_at (64 + c.args.size) (legacy_fault NoTableEnd) = cc (c.end_of-end.ensures, c.legacy_fault.ensures) in
    record {
      size = c.in_ok-refuse_at.ensures.size ∙ same;
      grows = λ file.
          let table = subst (λ (n : ℕ). GrowsBy file (thing the_table 64 n) c.args.contents.now c.add.new.self) c.end_of-end.ensures (c.in_ok-add.ensures.grows file) in
          let refused = subst (λ (t : Told). GrowsBy file t c.add.new.self c.refuse_at.new.self) told (c.in_ok-refuse_at.ensures.grows file) in
          rw inside (grows_then table refused);
      memory = tt;
    }
