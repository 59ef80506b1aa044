use Rattle.std.proofs.Common.{rules, arith, ◌≡◌, ◌+◌, ◌∷◌, ℕ, Bool, List, [], suc, refl, sym, ap, subst, true, false, is_ok, drop}
use Rattle.std.proofs.lemmas.List.{drop_all}
use Rattle.uimg_unpacking.specs.Naming.{NamesIt, NamesFiles}
use Rattle.uimg_unpacking.specs.declared.staged_file.StagedFile.{StagedFile}
use Rattle.uimg_unpacking.proofs.NamingLaws.{first_of, one_named, not_named_next}
use Rattle.uimg_unpacking.proofs.Placing.{◌◁◌}
use Rattle.uimg_unpacking.proofs.naming.name_files.Goals as goal

pub returns-in-Err-clause-told : goal.returns-in-Err-clause-told
returns-in-Err-clause-told g c =
    let files = c.args.files.now in
    let i = c.loop-its.its-index in
    let its = c.its-item.result in
    let first : drop i files ≡ its ∷ drop (i + 1) files = search (rules, first_of files) in
    let named : NamesIt its false (g.W.World.trace c.loop-its.world) (g.W.World.trace c.name.new.world) =
    subst (λ (b : Bool). NamesIt its b (g.W.World.trace c.loop-its.world) (g.W.World.trace c.name.new.world)) (ap is_ok c.in-Err.is) c.name.ensures.told in
    let e : 0 + c.loop-its.named ≡ c.loop-its.named = omega arith in
    subst (λ (n : ℕ). NamesFiles files n false (g.W.World.trace c.args.world.now) (g.W.World.trace c.name.new.world)) e
    (c.loop-its.invariant.left 0 false (g.W.World.trace c.name.new.world)
    (not_named_next files i its (g.W.World.trace c.loop-its.world) (g.W.World.trace c.name.new.world) first named))

pub returns-in-Err-clause-within : goal.returns-in-Err-clause-within
returns-in-Err-clause-within g c =
    let folder = c.args.folder.now in
    let its = c.its-item.result in
    c.name.ensures.within ◁ c.loop-its.invariant.within

pub loop-its-preserved : goal.loop-its-preserved
loop-its-preserved g c =
    let folder = c.args.folder.now in
    let files = c.args.files.now in
    let i = c.loop-its.its-index in
    let its = c.its-item.result in
    let first : drop i files ≡ its ∷ drop (i + 1) files = search (rules, first_of files) in
    let named : NamesIt its true (g.W.World.trace c.loop-its.world) (g.W.World.trace c.name.new.world) =
    subst (λ (b : Bool). NamesIt its b (g.W.World.trace c.loop-its.world) (g.W.World.trace c.name.new.world)) (ap is_ok c.in_default.is) c.name.ensures.told in
    record {
      named = ap (λ n. n + 1) c.loop-its.invariant.named;
      within = c.name.ensures.within ◁ c.loop-its.invariant.within;
      left = λ more are_all t rest.
          let e : suc more + c.loop-its.named ≡ more + (c.loop-its.named + 1) = omega arith in
          subst (λ (n : ℕ). NamesFiles files n are_all (g.W.World.trace c.args.world.now) t) e
          (c.loop-its.invariant.left (suc more) are_all t
          (one_named files i its more are_all (g.W.World.trace c.loop-its.world) (g.W.World.trace c.name.new.world) t first named rest));
    }

pub returns-clause-told : goal.returns-clause-told
returns-clause-told g c =
    let folder = c.args.folder.now in
    let files = c.args.files.now in
    let t = g.W.World.trace c.loop-its.world in
    let left : drop c.loop-its.its-index files ≡ [] = search (rules, drop_all c.loop-its.its-index files) in
    let e : 0 + c.loop-its.named ≡ c.loop-its.named = omega arith in
    subst (λ (n : ℕ). NamesFiles files n true (g.W.World.trace c.args.world.now) t) e
    (c.loop-its.invariant.left 0 true t (subst (λ (fs : List StagedFile). NamesFiles fs 0 true t t) (sym left) (refl, (refl, refl))))
