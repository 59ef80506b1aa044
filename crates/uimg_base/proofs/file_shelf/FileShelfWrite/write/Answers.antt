use Rattle.std.proofs.Common.{◌≡◌, ℕ, List, Option, Some, None, Result, Ok, Err, sym, subst, ◌∙◌}
use Rattle.std.specs.Io.Buffered.{writer_contents}
use Rattle.std.specs.Io.KnownBytes.{WriteAppends}
use Rattle.uimg_base.specs.Shelves.{BeginsFirst}
use Rattle.uimg_base.proofs.file_shelf.FileShelfWrite.write.Goals as goal
use Rattle.uimg_base.proofs.file_shelf.FileShelfWrite.write.Goals.{in-Some, in-None+in_ok-create-in-None+in_ok-file-in-None}

module _ {F E : Type 0} (contents : F → Option (List ℕ)) (old : Option F) (new : Option (List ℕ)) (bytes : List ℕ) where
  later : (r : Result ℕ E) (file : F) → old ≡ Some file → BeginsFirst contents old r new bytes
  later r file is = subst (λ (o : Option F). BeginsFirst contents o r new bytes) (sym is) tt

  at-first : (r : Result ℕ E) (made : F) → old ≡ None → WriteAppends (contents made) new r bytes → BeginsFirst contents old r new bytes
  at-first (Ok n) made is appends = subst (λ (o : Option F). let r : Result ℕ E = Ok n in BeginsFirst contents o r new bytes) (sym is) (record { made = made; appended = appends })
  at-first (Err e) made is appends = subst (λ (o : Option F). let r : Result ℕ E = Err e in BeginsFirst contents o r new bytes) (sym is) tt

pub returns-clause-first : goal.returns-clause-first
returns-clause-first g c =
    let contents = writer_contents g.R.File.Write.contents in
    let new = contents c.write-count.new.self in
    elim c.match-take.branch [
      | in-Some w ↦ later contents c.args.self.now.file new c.args.buf.now c.write-count.result w.in-Some.file (sym c.take.ensures.value ∙ w.in-Some.is)
      | in-None+in_ok-create-in-None+in_ok-file-in-None w ↦
          at-first contents c.args.self.now.file new c.args.buf.now c.write-count.result c.match-take.file (sym c.take.ensures.value ∙ w.in-None.is) c.write-count.ensures.bytes
    ]
