use Rattle.std.proofs.Common.{rules, ◌≡◌, ◌∙◌, ◌++◌, ◌-◌, List, ℕ, ap, drop, take, flat_map, length, slice_get, Some, arith}
use Rattle.std.proofs.lemmas.List.{length-drop, take_all}
use Rattle.uimg_keys.specs.declared.key.PublicKey.{PublicKey}
use Rattle.uimg_keys.proofs.TreeLaws.{names_joined, next_name}
use Rattle.uimg_keys.proofs.keys.joined.Goals as goal

pub returns : goal.returns
returns c =
    let keys = c.args.keys.now in
    let first = c.in-Some.first.now in
    let at : slice_get keys 0 ≡ Some first = search rules in
    let start : c.extend_from_slice.new.self.items ≡ first.name.items = search rules in
    let others : take (length keys - 1) (drop 1 keys) ≡ drop 1 keys = take_all (length keys - 1) (drop 1 keys) (omega (arith, length-drop 1 keys)) in
    names_joined c.args.is_any keys first c.add_names.new.text.items at
    (c.in_ok-add_names.ensures ∙ ap (λ (l : List PublicKey). c.extend_from_slice.new.self.items ++ flat_map (next_name c.args.is_any) l) others
    ∙ ap (λ (l : List ℕ). l ++ flat_map (next_name c.args.is_any) (drop 1 keys)) start)
