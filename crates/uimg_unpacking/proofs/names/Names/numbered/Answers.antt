use Rattle.std.proofs.Common.{rules, refl, ◌≡◌, ◌∙◌, ◌+◌, length, ap, sym, string_bytes, true, false, arith}
use Rattle.uimg_unpacking.specs.FileNames.{first_free, image_name, is_among, is_file_name}
use Rattle.uimg_unpacking.proofs.NameLaws.{found_free, tried_more}
use Rattle.uimg_unpacking.proofs.Placing.{image_name as is_name}
use Rattle.uimg_unpacking.proofs.names.Names.numbered.Goals as goal

pub loop-further-init : goal.loop-further-init
loop-further-init c =
    let names = c.args.self.now.named.names in
    let here : length names + 0 ≡ length names = omega arith in
    record {
      same = refl;
      number = c.len-number.ensures.len ∙ c.args.self.now.count;
      free = ap (λ n. first_free names n 100) here;
    }

pub loop-further-preserved : goal.loop-further-preserved
loop-further-preserved c =
    let names = c.args.self.now.named.names in
    let k = c.loop-further.further in
    let inv = c.loop-further.invariant in
    let text : string_bytes c.in_ok-text.text ≡ image_name (c.len-number.result + k) = search rules in
    let its : string_bytes c.in_ok-text.text ≡ image_name (length names + k) = text ∙ ap (λ n. image_name (n + k)) inv.number in
    let used : is_among c.loop-further.self.named.names (string_bytes c.in_ok-text.text) ≡ true = search rules in
    record {
      same = search rules;
      number = inv.number;
      free = tried_more names (length names) k 100 (search rules) (ap (is_among names) (sym its) ∙ ap (λ ns. is_among ns (string_bytes c.in_ok-text.text)) (sym inv.same) ∙ used) ∙ inv.free;
    }

pub returns-then-branch : goal.returns-then-branch
returns-then-branch c =
    let names = c.args.self.now.named.names in
    let k = c.loop-further.further in
    let inv = c.loop-further.invariant in
    let text : string_bytes c.in_ok-text.text ≡ image_name (c.len-number.result + k) = search rules in
    let its : string_bytes c.in_ok-text.text ≡ image_name (length names + k) = text ∙ ap (λ n. image_name (n + k)) inv.number in
    let free : is_among c.loop-further.self.named.names (string_bytes c.in_ok-text.text) ≡ false = search rules in
    let is_free : is_among names (string_bytes c.in_ok-text.text) ≡ false = ap (λ ns. is_among ns (string_bytes c.in_ok-text.text)) (sym inv.same) ∙ free in
    record {
      wanted_is = its ∙ found_free names (length names) k 100 (search rules) (ap (is_among names) (sym its) ∙ is_free) ∙ inv.free;
      is_name = ap is_file_name its ∙ is_name (length names + k);
      is_free = is_free;
      given = search rules;
    }
