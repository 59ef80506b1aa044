use Rattle.std.proofs.Common.{rules, ◌≡◌, ◌∙◌, ◌++◌, ◌+◌, suc, ℕ, drop, flat_map, length, map, ap, subst, arith}
use Rattle.std.specs.{List.All, Option.option_map}
use Rattle.uimg_base.specs.Held.{Held}
use Rattle.uimg_keys.specs.Trees.{IsTaken, found_in, keys_in, listed, rows_of, said}
use Rattle.uimg_keys.proofs.TreeLaws.{all_done, all_from, all_gathered, drop_end, gathered, row_of, rows_count}
use Rattle.uimg_keys.proofs.trees.keys_in.Goals as goal

pub loop-node-preserved : goal.loop-node-preserved
loop-node-preserved c =
    let file = c.args.file.now in
    let now = c.loop-node in
    let i = now.node in
    let f = found_in file c.args.signature in
    let r = row_of file c.args.blob.now c.args.room.now.entries i c.requires (omega (arith, ap (λ (h : Held). length h.entries) now.invariant.room)) in
    let next : suc i ≡ i + 1 = omega arith in
    record {
      room = search rules;
      left = subst (λ (n : ℕ). map said c.add.new.keys.items ++ flat_map f (drop n (rows_of file)) ≡ keys_in file c.args.signature) next
          (gathered f r.0 (drop (suc i) (rows_of file)) (drop i (rows_of file)) (map said now.keys.items) (map said c.add.new.keys.items) (listed (option_map said c.in_ok-found.found)) (keys_in file c.args.signature)
          r.2 (c.in_ok-found.ensures.told r.0 r.1) c.in_ok-add.ensures now.invariant.left);
      taken = subst (λ (n : ℕ). All (IsTaken file c.args.signature) (drop n (rows_of file)) → All (IsTaken file c.args.signature) (rows_of file)) next
          (all_from (IsTaken file c.args.signature) r.0 (drop (suc i) (rows_of file)) (drop i (rows_of file)) (rows_of file) r.2 (c.in_ok-found.ensures.taken r.0 r.1) now.invariant.taken);
    }

pub returns-clause-told : goal.returns-clause-told
returns-clause-told c =
    let file = c.args.file.now in
    let now = c.loop-node in
    all_gathered (found_in file c.args.signature) (drop now.node (rows_of file)) (map said now.keys.items) (keys_in file c.args.signature)
    (drop_end (rows_of file) now.node (omega (arith, rows_count file c.args.blob.now c.args.room.now.entries c.requires, ap (λ (h : Held). length h.entries) now.invariant.room))) now.invariant.left

pub returns-clause-taken : goal.returns-clause-taken
returns-clause-taken c =
    let file = c.args.file.now in
    let now = c.loop-node in
    all_done (IsTaken file c.args.signature) (drop now.node (rows_of file)) (rows_of file)
    (drop_end (rows_of file) now.node (omega (arith, rows_count file c.args.blob.now c.args.room.now.entries c.requires, ap (λ (h : Held). length h.entries) now.invariant.room))) now.invariant.taken
