use Rattle.std.proofs.Common.{rules, ◌≡◌, ◌∙◌, ◌+◌, ◌∷◌, Bool, List, [], sym, ap, subst, true, drop, ◌&&◌}
use Rattle.std.proofs.lemmas.List.{drop_all}
use Rattle.uimg_unpacking.specs.Naming.{PutsBackFiles}
use Rattle.uimg_unpacking.specs.Places.{is_begun_in, terms_of}
use Rattle.uimg_unpacking.specs.declared.staged_file.StagedFile.{StagedFile}
use Rattle.uimg_unpacking.proofs.NamingLaws.{first_of, back_of, and_assoc, and_true, none_left, LeftBack}
use Rattle.uimg_unpacking.proofs.Placing.{each_of, ◌◁◌}
use Rattle.uimg_unpacking.proofs.naming.put_back_all.Goals as goal

pub loop-before-preserved : goal.loop-before-preserved
loop-before-preserved g c =
    let folder = c.args.folder.now.path.now in
    let files = c.args.files.now in
    let i = c.loop-before.before in
    let its = c.index-files-before.result in
    let was = c.loop-before.is_back in
    let one = c.put_back_before-back.result in
    let inside : is_begun_in folder its ≡ true = search (rules, each_of (is_begun_in folder)) in
    let first : drop i files ≡ its ∷ drop (i + 1) files = search (rules, first_of files) in
    let both : c.if-is_back.is_back ≡ (was && one) = search rules in
    record {
      within = c.put_back_before-back.ensures.within (terms_of c.args.folder.now) inside ◁ c.loop-before.invariant.within;
      left = λ back t rest.
          subst (λ (b : Bool). PutsBackFiles files c.args.number b (g.W.World.trace c.args.world.now) t) (sym (and_assoc was one back) ∙ ap (λ (b : Bool). b && back) (sym both))
          (c.loop-before.invariant.left (one && back) t
          (back_of files i c.args.number its one back (g.W.World.trace c.loop-before.world) (g.W.World.trace c.put_back_before-back.new.world) t first (c.put_back_before-back.ensures.told (terms_of c.args.folder.now) inside) rest));
    }

pub returns-clause-told : goal.returns-clause-told
returns-clause-told g c =
    let files = c.args.files.now in
    let i = c.loop-before.before in
    let t = g.W.World.trace c.loop-before.world in
    let left : drop i files ≡ [] = search (rules, drop_all i files) in
    subst (λ (b : Bool). PutsBackFiles files c.args.number b (g.W.World.trace c.args.world.now) t) (and_true c.loop-before.is_back)
    (c.loop-before.invariant.left true t (subst (λ (fs : List StagedFile). LeftBack fs i c.args.number true t t) (sym left) (none_left i c.args.number t)))
