-- What calls leave as it was, and what names that are taken back restore.
use Rattle.std.proofs.Common.{◌≡◌, ℕ, List, [], ◌∷◌, ◌++◌, length, append_assoc, codes, decimal, string_bytes, bytes_eq, is_some, Bool, true, false, ◌||◌, if◌then◌else◌, Option, Some, None, refl, ap, sym, subst, ◌∙◌, true≢false, arith, length-append}
use Rattle.std.proofs.lemmas.Bool.{and_parts}
use Rattle.std.specs.Option.{option_map_or}
use Rattle.std.proofs.lemmas.Slice.Eq.{bytes_eq-Decides}
use Rattle.uimg_unpacking.specs.Allowing.{Allows, is_the_image, is_looked_at, Refused}
use Rattle.uimg_unpacking.specs.Contents.{Files, IsTrueTo, at, files_after, is_in, differ}
use Rattle.uimg_world.specs.Deeds.{Deed, Creates, Closes, Links, Looks, Renames, Removes, MakesFolder, RemovesFolder, RemovesAll, Overwrites, LendsShelf}
use Rattle.uimg_world.specs.declared.call.Answer.{Answer}
use Rattle.uimg_world.specs.declared.call.Answer.TheVariants.{Done, Exists, Failed}
use Rattle.uimg_world.specs.Kinds.{is_something}
use Rattle.uimg_unpacking.specs.Leaving.{Leaves, KeepsNone, NamesAll, is_undone}
use Rattle.uimg_unpacking.specs.Naming.{is_done, GivesName, over, linked, exists, taken, moved, Moves, recovered, NamesIt, PutsItBack}
use Rattle.uimg_unpacking.specs.Places.{Obeys, Terms, is_begun_in, is_file_of, may_call, obeys, since}
use Rattle.uimg_unpacking.specs.Staged.{LeavesOthers}
use Rattle.uimg_unpacking.specs.declared.staged_file.StagedFile.{StagedFile}
use Rattle.uimg_world.specs.declared.file_id.FileId.{FileId}
use Rattle.uimg_world.specs.declared.kind.Kind.{Kind}
use Rattle.uimg_unpacking.specs.declared.trouble.Trouble.{Trouble}
use Rattle.uimg_world.specs.declared.kind.Kind.TheVariants.{Nothing, File, Folder, Link}
use Rattle.uimg_unpacking.proofs.ContentLaws.{HasPaths, at_it, closes_other, creates_other, early_other, flipped, links_other, makes_other, own_name, removes_other, renames_other, temporary_other, unmakes_other}
use Rattle.uimg_unpacking.proofs.Placing.{begun_apart, begun_new, begun_old, begun_whole, differs, old_new_path, own_in}

-- what is true of some calls is true of those before
before_call : (start : Files) (deed : Deed) (before : List Deed) → IsTrueTo start (deed ∷ before) → IsTrueTo start before
before_call start (Looks path kind) before told = told.1
before_call start (MakesFolder path Done) before told = told.1
before_call start (MakesFolder path Exists) before told = told
before_call start (MakesFolder path Failed) before told = told
before_call start _ before told = told

before_calls : (start : Files) (made before : List Deed) → IsTrueTo start (made ++ before) → IsTrueTo start before
before_calls start [] before told = told
before_calls start (deed ∷ made) before told = before_calls start made before (before_call start deed (made ++ before) told)

pub earlier : (t : Terms) (is_naming : Bool) (before after : List Deed) → Obeys t is_naming before after → (start : Files) → IsTrueTo start after → IsTrueTo start before
earlier t n before after does start told = before_calls start (since before after) before (subst (IsTrueTo start) does.is told)

-- Before files get their names, those of the folder are left as they are.
quiet_call : (t : Terms) (deed : Deed) (made before : List Deed) (start : Files) (p : List ℕ) → may_call t false deed made ≡ true → is_file_of t.0 p ≡ true → files_after start (deed ∷ before) p ≡ files_after start before p
quiet_call t (Creates q a) made before start p ok own = creates_other start q p a before (early_other t.0 q p ok own)
quiet_call t (Links from to a) made before start p ok own = links_other start from to p a before (early_other t.0 to p (and_parts _ _ ok).1 own)
quiet_call t (Renames from to a) made before start p ok own =
    let h = and_parts _ _ (and_parts _ _ ok).0 in
    renames_other start from to p a before (early_other t.0 from p h.0 own) (early_other t.0 to p h.1 own)
quiet_call t (Removes q a) made before start p ok own = removes_other start q p a before (early_other t.0 q p ok own)
quiet_call t (MakesFolder q a) made before start p ok own = makes_other start q p a before (early_other t.0 q p ok own)
quiet_call t (RemovesFolder q a) made before start p ok own = unmakes_other start q p a before (early_other t.0 q p ok own)
quiet_call t (Closes q s c a) made before start p ok own = closes_other start q p s c a before (early_other t.0 q p (and_parts _ _ ok).0 own)
quiet_call t (RemovesAll q a) made before start p ok own = absurd (true≢false (sym ok))
quiet_call t (Overwrites q a) made before start p ok own = absurd (true≢false (sym ok))
quiet_call t (LendsShelf q) made before start p ok own = absurd (true≢false (sym ok))
quiet_call t _ made before start p ok own = refl

quiet_calls : (t : Terms) (made before : List Deed) (start : Files) (p : List ℕ) → obeys t false made ≡ true → is_file_of t.0 p ≡ true → files_after start (made ++ before) p ≡ files_after start before p
quiet_calls t [] before start p ok own = refl
quiet_calls t (deed ∷ made) before start p ok own =
    let h = and_parts _ _ ok in
    quiet_call t deed made (made ++ before) start p h.0 own ∙ quiet_calls t made before start p h.1 own

pub quiet : (t : Terms) (before after : List Deed) → Obeys t false before after → (start : Files) (p : List ℕ) → is_file_of t.0 p ≡ true → files_after start after p ≡ files_after start before p
quiet t before after does start p own = ap (λ (l : List Deed). files_after start l p) does.is ∙ quiet_calls t (since before after) before start p does.rules own

pub after_quiet : (t : Terms) (before middle after : List Deed) → Obeys t false before middle → Leaves t.0 middle after → Leaves t.0 before after
after_quiet t before middle after does leaves start told p own = leaves start told p own ∙ quiet t before middle does start p own

pub before_quiet : (t : Terms) (before middle after : List Deed) → Leaves t.0 before middle → Obeys t false middle after → Leaves t.0 before after
before_quiet t before middle after leaves does start told p own = quiet t middle after does start p own ∙ leaves start (earlier t false middle after does start told) p own

pub leaves_through : (t : Terms) (before first last after : List Deed) → Obeys t false before first → Leaves t.0 first last → Obeys t false last after → Leaves t.0 before after
leaves_through t before first last after early leaves late = after_quiet t before first after early (before_quiet t first last after leaves late)

pub leaves_same : (folder : List ℕ) (before after : List Deed) → after ≡ before → Leaves folder before after
leaves_same folder before after is start told p own = ap (λ (t : List Deed). files_after start t p) is

-- all files of the folder are left if those are that have not one of no names
pub others_none : (folder : List ℕ) (names : List (List ℕ)) (before after : List Deed) → names ≡ [] → LeavesOthers folder names before after → Leaves folder before after
others_none folder names before after empty leaves start told p own =
    let n = own_name folder p own in
    ap (files_after start after) n.1.0 ∙ leaves start n.0 n.1.1 (ap (is_in n.0) empty) ∙ ap (files_after start before) (sym n.1.0)

pub leaves_quiet : (t : Terms) (before after : List Deed) → Obeys t false before after → Leaves t.0 before after
leaves_quiet t before after does start told p own = quiet t before after does start p own

pub others_later : (t : Terms) (names : List (List ℕ)) (before middle after : List Deed) → Obeys t false before middle → LeavesOthers t.0 names middle after → LeavesOthers t.0 names before after
others_later t names before middle after does leaves start name is other = leaves start name is other ∙ quiet t before middle does start (t.0 ++ codes "/" ++ name) (own_in t.0 name is)

-- no file gets its name
pub none_named : (folder : List ℕ) (names : List (List ℕ)) (contents : List (Option (List ℕ))) (trouble : Trouble) (before after : List Deed) → (is_undone trouble ≡ true → differ names ≡ true → Leaves folder before after) → NamesAll folder names contents (Some trouble) before after
none_named folder names contents trouble before after back = record {
  holds = λ other. absurd (true≢false (ap is_some other));
  others = λ other. absurd (true≢false (ap is_some other));
  back = back;
}

-- files get their names after no file of the folder was changed
pub named_later : (t : Terms) (some names : List (List ℕ)) (were contents : List (Option (List ℕ))) (trouble : Option Trouble) (before middle after : List Deed) → some ≡ names → were ≡ contents → Obeys t false before middle
    → NamesAll t.0 some were trouble middle after → NamesAll t.0 names contents trouble before after
named_later t some names were contents trouble before middle after are held does named =
    subst (λ (ns : List (List ℕ)). NamesAll t.0 ns contents trouble before after) are (record {
      holds = λ done unlike. named.holds done unlike ∙ held;
      others = λ done. others_later t some before middle after does (named.others done);
      back = λ undone unlike. after_quiet t before middle after does (named.back undone unlike);
    })

-- a look changes nothing
pub allows_same : (image : Option FileId) (is_forced : Bool) (path : List ℕ) (why : Option Refused) (before after : List Deed) → Allows image is_forced path why before after → (start : Files) → files_after start after ≡ files_after start before
allows_same image forced path why before after (is_the_image found e g is) start = ap (λ (t : List Deed). files_after start t) is
allows_same image forced path why before after (is_looked_at found kind e g is) start = ap (λ (t : List Deed). files_after start t) is

-- files of other names are left while nothing more is changed
pub others_quiet : (t : Terms) (names : List (List ℕ)) (before seen synced after : List Deed) → LeavesOthers t.0 names before seen → ((start : Files) → files_after start synced ≡ files_after start seen) → Obeys t false synced after → LeavesOthers t.0 names before after
others_quiet t names before seen synced after leaves same does start name is other =
    let p = t.0 ++ codes "/" ++ name in
    quiet t synced after does start p (own_in t.0 name is) ∙ ap (λ (x : Files). x p) (same start) ∙ leaves start name is other

-- calls that are not done
not_done : (b : Bool) {X : Type 0} → b ≡ true → b ≡ false → X
not_done b is other = absurd (true≢false (sym is ∙ other))

pub linked_not : (start : Files) (from to p : List ℕ) (a : Answer) (before : List Deed) → is_done a ≡ false → files_after start (Links from to a ∷ before) p ≡ files_after start before p
linked_not start from to p Done before other = absurd (true≢false other)
linked_not start from to p Exists before other = refl
linked_not start from to p Failed before other = refl

pub renamed_not : (start : Files) (from to p : List ℕ) (a : Answer) (before : List Deed) → is_done a ≡ false → files_after start (Renames from to a ∷ before) p ≡ files_after start before p
renamed_not start from to p Done before other = absurd (true≢false other)
renamed_not start from to p Exists before other = refl
renamed_not start from to p Failed before other = refl

renamed_there : (start : Files) (from to : List ℕ) (a : Answer) (before : List Deed) → is_done a ≡ true → files_after start (Renames from to a ∷ before) to ≡ files_after start before from
renamed_there start from to Done before is = at_it to (files_after start before from) (at from None (files_after start before))
renamed_there start from to Exists before is = absurd (true≢false (sym is))
renamed_there start from to Failed before is = absurd (true≢false (sym is))

-- what is moved, after calls that change nothing
pub renamed : (from to : List ℕ) (a : Answer) (before middle after : List Deed) → after ≡ Renames from to a ∷ middle → ((start : Files) → IsTrueTo start middle → IsTrueTo start before)
    → ((start : Files) (p : List ℕ) → files_after start middle p ≡ files_after start before p) → Moves from to (is_done a) before after
renamed from to a before middle after is told same = record {
  earlier = λ start true_to. told start (subst (IsTrueTo start) is true_to);
  there = λ done start. ap (λ (t : List Deed). files_after start t to) is ∙ renamed_there start from to a middle done ∙ same start from;
  rest = λ start p x y. ap (λ (t : List Deed). files_after start t p) is ∙ renames_other start from to p a middle x y ∙ same start p;
  failed = λ other start p. ap (λ (t : List Deed). files_after start t p) is ∙ renamed_not start from to p a middle other ∙ same start p;
}

pub linked_to : (from to : List ℕ) (before after : List Deed) → after ≡ Links from to Done ∷ before → Moves from to true before after
linked_to from to before after is = record {
  earlier = λ start told. subst (IsTrueTo start) is told;
  there = λ done start. ap (λ (t : List Deed). files_after start t to) is ∙ at_it to (files_after start before from) (files_after start before);
  rest = λ start p x y. ap (λ (t : List Deed). files_after start t p) is ∙ links_other start from to p Done before y;
  failed = λ other start p. absurd (true≢false other);
}

unmoved : (from to : List ℕ) (is_moved : Bool) (before after : List Deed) → is_moved ≡ false → ((start : Files) → IsTrueTo start after → IsTrueTo start before) → ((start : Files) (p : List ℕ) → files_after start after p ≡ files_after start before p)
    → Moves from to is_moved before after
unmoved from to m before after other told same = record {
  earlier = told;
  there = λ done. not_done m done other;
  rest = λ start p x y. same start p;
  failed = λ is start p. same start p;
}

pub gives_moves : (new whole : List ℕ) (replaces : Bool) (answer : Answer) (before after : List Deed) → GivesName new whole replaces answer before after → bytes_eq new whole ≡ false → Moves new whole (is_done answer) before after
gives_moves new whole r a before after (over e is) apart = renamed new whole a before before after is (λ start told. told) (λ start p. refl)
gives_moves new whole r a before after (linked x e g is) apart =
    subst (λ (b : Bool). Moves new whole b before after) (sym (ap is_done g)) (record {
      earlier = λ start told. subst (IsTrueTo start) is told;
      there = λ done start. ap (λ (t : List Deed). files_after start t whole) is ∙ removes_other start new whole x (Links new whole Done ∷ before) apart ∙ at_it whole (files_after start before new) (files_after start before);
      rest = λ start p y z. ap (λ (t : List Deed). files_after start t p) is ∙ removes_other start new p x (Links new whole Done ∷ before) y ∙ links_other start new whole p Done before z;
      failed = λ other start p. absurd (true≢false other);
    })
gives_moves new whole r a before after (exists e g is) apart =
    unmoved new whole (is_done a) before after (ap is_done g) (λ start told. subst (IsTrueTo start) is told) (λ start p. ap (λ (t : List Deed). files_after start t p) is)
gives_moves new whole r a before after (taken kind e h g is) apart =
    unmoved new whole (is_done a) before after (ap is_done g) (λ start told. (subst (IsTrueTo start) is told).1) (λ start p. ap (λ (t : List Deed). files_after start t p) is)
gives_moves new whole r a before after (moved e is) apart =
    renamed new whole a before (Looks whole Nothing ∷ Links new whole Failed ∷ before) after is (λ start told. told.1) (λ start p. refl)

-- what is there, and what is not
pub nothing_at : (x : Option (Option (List ℕ))) → is_some x ≡ false → x ≡ None
nothing_at None is = refl
nothing_at (Some y) is = absurd (true≢false is)

recover_other : (files : Files) (old whole : List ℕ) → files old ≡ None → recovered false files old whole ≡ files whole
recover_other files old whole is = ap (λ (o : Option (Option (List ℕ))). if is_some o then o else files whole) is

either_kept : (h : Bool) (x y : Option (Option (List ℕ))) → is_some x ≡ true → (if h || is_some x then x else y) ≡ x
either_kept true x y is = refl
either_kept false x y is = ap (λ (b : Bool). if b then x else y) is

-- a file that gets no name, where nothing is changed
pub names_none : (its : StagedFile) (before after : List Deed) → ((start : Files) → IsTrueTo start after → IsTrueTo start before) → ((start : Files) (p : List ℕ) → files_after start after p ≡ files_after start before p) → NamesIt its false before after
names_none its before after told same = record {
  earlier = told;
  there = λ done. absurd (true≢false (sym done));
  kept = λ start true_to none.
      recover_other (files_after start after) (string_bytes its.old) (string_bytes its.whole) (same start (string_bytes its.old) ∙ none) ∙ same start (string_bytes its.whole);
  rest = λ start p x y z. same start p;
}

-- the paths of a file that was begun differ
pub record Apart (its : StagedFile) : Type 0 where
  pub new_whole : bytes_eq (string_bytes its.new) (string_bytes its.whole) ≡ false
  pub old_whole : bytes_eq (string_bytes its.old) (string_bytes its.whole) ≡ false
  pub old_new : bytes_eq (string_bytes its.old) (string_bytes its.new) ≡ false

pub apart : (folder : List ℕ) (its : StagedFile) → is_begun_in folder its ≡ true → Apart its
apart folder its begun = record {
  new_whole = temporary_other folder (string_bytes its.new) (string_bytes its.whole) (begun_new folder its begun) (begun_whole folder its begun);
  old_whole = temporary_other folder (string_bytes its.old) (string_bytes its.whole) (begun_old folder its begun) (begun_whole folder its begun);
  old_new = begun_apart folder its begun;
}

-- calls that changed nothing, by which it is known whether anything is at the name
pub record Saw (path : List ℕ) (is_there : Bool) (before seen : List Deed) : Type 0 where
  pub earlier : (start : Files) → IsTrueTo start seen → IsTrueTo start before
  pub same : (start : Files) (p : List ℕ) → files_after start seen p ≡ files_after start before p
  pub is : (start : Files) → IsTrueTo start seen → is_some (files_after start before path) ≡ is_there

pub saw : (path : List ℕ) (kind : Kind) (before seen : List Deed) → seen ≡ Looks path kind ∷ before → Saw path (is_something kind) before seen
saw path kind before seen is = record {
  earlier = λ start told. (subst (IsTrueTo start) is told).1;
  same = λ start p. ap (λ (t : List Deed). files_after start t p) is;
  is = λ start told. (subst (IsTrueTo start) is told).0;
}

-- a file that gets its name where nothing is
pub names_fresh : (its : StagedFile) (is_named : Bool) (before seen after : List Deed) → Apart its → Saw (string_bytes its.whole) false before seen → Moves (string_bytes its.new) (string_bytes its.whole) is_named seen after → NamesIt its is_named before after
names_fresh its true before seen after ap-its looked m =
    let new = string_bytes its.new in
    let old = string_bytes its.old in
    let whole = string_bytes its.whole in
    record {
      earlier = λ start told. looked.earlier start (m.earlier start told);
      there = λ done start. m.there done start ∙ looked.same start new;
      kept = λ start told none.
          m.rest start old (flipped old new ap-its.old_new) (flipped old whole ap-its.old_whole) ∙ looked.same start old ∙ none
          ∙ sym (nothing_at (files_after start before whole) (looked.is start (m.earlier start told)));
      rest = λ start p x y z. m.rest start p x z ∙ looked.same start p;
    }
names_fresh its false before seen after ap-its looked m =
    names_none its before after (λ start told. looked.earlier start (m.earlier start told)) (λ start p. m.failed refl start p ∙ looked.same start p)

-- a file that gets its name where something is, which is kept, or is not
pub names_over : (its : StagedFile) (is_named : Bool) (before seen middle after : List Deed) → Apart its → Saw (string_bytes its.whole) true before seen → Moves (string_bytes its.whole) (string_bytes its.old) true seen middle
    → Moves (string_bytes its.new) (string_bytes its.whole) is_named middle after → NamesIt its is_named before after
names_over its is_named before seen middle after ap-its looked k m =
    let new = string_bytes its.new in
    let old = string_bytes its.old in
    let whole = string_bytes its.whole in
    record {
      earlier = λ start told. looked.earlier start (k.earlier start (m.earlier start told));
      there = λ done start. m.there done start ∙ k.rest start new (flipped new whole ap-its.new_whole) ap-its.old_new ∙ looked.same start new;
      kept = λ start told none.
          let was : files_after start after old ≡ files_after start before whole =
          m.rest start old (flipped old new ap-its.old_new) (flipped old whole ap-its.old_whole) ∙ k.there refl start ∙ looked.same start whole in
          let there : is_some (files_after start after old) ≡ true = ap is_some was ∙ looked.is start (k.earlier start (m.earlier start told)) in
          either_kept is_named (files_after start after old) (files_after start after whole) there ∙ was;
      rest = λ start p x y z. m.rest start p x z ∙ k.rest start p z y ∙ looked.same start p;
    }

pub names_unkept : (its : StagedFile) (before seen after : List Deed) (whole old : List ℕ) {is_there : Bool} → Saw whole is_there before seen → Moves whole old false seen after → NamesIt its false before after
names_unkept its before seen after whole old looked k =
    names_none its before after (λ start told. looked.earlier start (k.earlier start told)) (λ start p. k.failed refl start p ∙ looked.same start p)

pub names_refused : (its : StagedFile) (t : Terms) (before after : List Deed) → Obeys t true before after → ((start : Files) → files_after start after ≡ files_after start before) → NamesIt its false before after
names_refused its t before after does same = names_none its before after (earlier t true before after does) (λ start p. ap (λ (x : Files). x p) (same start))

pub allowed : (image : Option FileId) (path : List ℕ) (before after : List Deed) → Allows image false path None before after → Saw path false before after
allowed image path before after (is_the_image found e g is) = absurd (true≢false (ap is_some (sym g)))
allowed image path before after (is_looked_at found Nothing e g is) = record {
  earlier = λ start told. (subst (IsTrueTo start) is told).1;
  same = λ start p. ap (λ (t : List Deed). files_after start t p) is;
  is = λ start told. (subst (IsTrueTo start) is told).0;
}
allowed image path before after (is_looked_at found File e g is) = absurd (true≢false (ap is_some (sym g)))
allowed image path before after (is_looked_at found Folder e g is) = absurd (true≢false (ap is_some (sym g)))
allowed image path before after (is_looked_at found Link e g is) = absurd (true≢false (ap is_some (sym g)))

-- after looks that changed nothing
pub names_later : (its : StagedFile) (is_named : Bool) (t : Terms) (before seen after : List Deed) → Obeys t true before seen → ((start : Files) → files_after start seen ≡ files_after start before) → NamesIt its is_named seen after → NamesIt its is_named before after
names_later its b t before seen after does same one = record {
  earlier = λ start told. earlier t true before seen does start (one.earlier start told);
  there = λ done start. one.there done start ∙ ap (λ (x : Files). x (string_bytes its.new)) (same start);
  kept = λ start told none.
      one.kept start told (ap (λ (x : Files). x (string_bytes its.old)) (same start) ∙ none) ∙ ap (λ (x : Files). x (string_bytes its.whole)) (same start);
  rest = λ start p x y z. one.rest start p x y z ∙ ap (λ (f : Files). f p) (same start);
}

-- what had the name is put back
pub puts_nothing : (its : StagedFile) (kind : Kind) (before after : List Deed) → is_something kind ≡ false → after ≡ Looks (string_bytes its.old) kind ∷ before → PutsItBack its false true before after
puts_nothing its kind before after free is = record {
  earlier = λ start told. (subst (IsTrueTo start) is told).1;
  back = λ done start told.
      ap (λ (t : List Deed). files_after start t (string_bytes its.whole)) is
      ∙ sym (recover_other (files_after start before) (string_bytes its.old) (string_bytes its.whole) (nothing_at (files_after start before (string_bytes its.old)) ((subst (IsTrueTo start) is told).0 ∙ free)));
  rest = λ start p x y. ap (λ (t : List Deed). files_after start t p) is;
}

removed_it : (start : Files) (q : List ℕ) (a : Answer) (before : List Deed) → is_done a ≡ true → files_after start (Removes q a ∷ before) q ≡ None
removed_it start q Done before is = at_it q None (files_after start before)
removed_it start q Exists before is = absurd (true≢false (sym is))
removed_it start q Failed before is = absurd (true≢false (sym is))

pub puts_removed : (its : StagedFile) (kind : Kind) (a : Answer) (before after : List Deed) → is_something kind ≡ false → after ≡ Removes (string_bytes its.whole) a ∷ Looks (string_bytes its.old) kind ∷ before → PutsItBack its true (is_done a) before after
puts_removed its kind a before after free is = record {
  earlier = λ start told. (subst (IsTrueTo start) is told).1;
  back = λ done start told.
      ap (λ (t : List Deed). files_after start t (string_bytes its.whole)) is ∙ removed_it start (string_bytes its.whole) a (Looks (string_bytes its.old) kind ∷ before) done
      ∙ sym (nothing_at (files_after start before (string_bytes its.old)) ((subst (IsTrueTo start) is told).0 ∙ free));
  rest = λ start p x y. ap (λ (t : List Deed). files_after start t p) is ∙ removes_other start (string_bytes its.whole) p a (Looks (string_bytes its.old) kind ∷ before) y;
}

pub puts_lost : (its : StagedFile) (has_name : Bool) (kind : Kind) (a : Answer) (before after : List Deed) → after ≡ Renames (string_bytes its.old) (string_bytes its.whole) a ∷ Looks (string_bytes its.old) kind ∷ before → PutsItBack its has_name false before after
puts_lost its h kind a before after is = record {
  earlier = λ start told. (subst (IsTrueTo start) is told).1;
  back = λ done. absurd (true≢false (sym done));
  rest = λ start p x y. ap (λ (t : List Deed). files_after start t p) is ∙ renames_other start (string_bytes its.old) (string_bytes its.whole) p a (Looks (string_bytes its.old) kind ∷ before) x y;
}

pub puts_back : (its : StagedFile) (has_name : Bool) (kind : Kind) (a : Answer) (before after : List Deed) → Apart its → is_something kind ≡ true
    → after ≡ Removes (string_bytes its.old) a ∷ Renames (string_bytes its.old) (string_bytes its.whole) Done ∷ Looks (string_bytes its.old) kind ∷ before → PutsItBack its has_name true before after
puts_back its h kind a before after ap-its there is =
    let old = string_bytes its.old in
    let whole = string_bytes its.whole in
    let seen : List Deed = Looks old kind ∷ before in
    record {
      earlier = λ start told. (subst (IsTrueTo start) is told).1;
      back = λ done start told.
          ap (λ (t : List Deed). files_after start t whole) is ∙ removes_other start old whole a (Renames old whole Done ∷ seen) ap-its.old_whole
          ∙ renamed_there start old whole Done seen refl
          ∙ sym (either_kept h (files_after start before old) (files_after start before whole) ((subst (IsTrueTo start) is told).0 ∙ there));
      rest = λ start p x y. ap (λ (t : List Deed). files_after start t p) is ∙ removes_other start old p a (Renames old whole Done ∷ seen) x ∙ renames_other start old whole p Done seen x y;
    }

-- where old files are kept, there is nothing yet
not_itself : (made rest : List ℕ) (byte : ℕ) → bytes_eq made (made ++ (byte ∷ rest)) ≡ false
not_itself made rest byte = differs made (made ++ (byte ∷ rest)) (λ e. omega (arith, ap (λ (l : List ℕ). length l) e, length-append made (byte ∷ rest)))

some_path : (made : List ℕ) (calls : List Deed) → ((start : Files) → IsTrueTo start calls → (number : ℕ) → files_after start calls (made ++ codes "/old-" ++ decimal number) ≡ None) → KeepsNone (Some made) calls
some_path made calls none start told path is number =
    subst (λ (p : List ℕ). files_after start calls (p ++ codes "/old-" ++ decimal number) ≡ None) (ap (λ (o : Option (List ℕ)). option_map_or (λ p. p) o []) is) (none start told number)

pub fresh : (made : List ℕ) (before after : List Deed) → after ≡ MakesFolder made Done ∷ before → KeepsNone (Some made) after
fresh made before after is = some_path made after (λ start told number.
    let p = made ++ codes "/old-" ++ decimal number in
    let e : p ≡ made ++ (codes "/old-" ++ decimal number) = append_assoc made (codes "/old-") (decimal number) in
    let f : p ≡ made ++ codes "/" ++ (codes "old-" ++ decimal number) = e ∙ sym (append_assoc made (codes "/") (codes "old-" ++ decimal number)) in
    ap (λ (t : List Deed). files_after start t p) is
    ∙ makes_other start made p Done before (ap (bytes_eq made) e ∙ not_itself made (codes "old-" ++ decimal number) 47)
    ∙ ap (files_after start before) f ∙ (subst (IsTrueTo start) is told).0 (codes "old-" ++ decimal number))

pub still_none : (made : Option (List ℕ)) (before after : List Deed) → ((start : Files) → IsTrueTo start after → IsTrueTo start before) → ((start : Files) (p : List ℕ) → files_after start before p ≡ None → files_after start after p ≡ None) → KeepsNone made before → KeepsNone made after
still_none made before after told leaves none start true_to path is number = leaves start (path ++ codes "/old-" ++ decimal number) (none start (told start true_to) path is number)

pub by_path : (p q : List ℕ) (x y z : Option (Option (List ℕ))) → (p ≡ q → x ≡ z) → (bytes_eq p q ≡ false → y ≡ z) → (if bytes_eq p q then x else y) ≡ z
by_path p q x y z f g = by_case (bytes_eq p q) refl
  where
    by_case : (b : Bool) → bytes_eq p q ≡ b → (if b then x else y) ≡ z
    by_case true is = f ((bytes_eq-Decides p q).0 is)
    by_case false is = g is

removed_none : (start : Files) (q p : List ℕ) (a : Answer) (before : List Deed) → files_after start before p ≡ None → files_after start (Removes q a ∷ before) p ≡ None
removed_none start q p Done before none = by_path q p None (files_after start before p) None (λ same. refl) (λ other. none)
removed_none start q p Exists before none = none
removed_none start q p Failed before none = none

pub none_removed : (made : Option (List ℕ)) (q : List ℕ) (a : Answer) (before after : List Deed) → after ≡ Removes q a ∷ before → KeepsNone made before → KeepsNone made after
none_removed made q a before after is none =
    still_none made before after (λ start told. subst (IsTrueTo start) is told) (λ start p gone. ap (λ (t : List Deed). files_after start t p) is ∙ removed_none start q p a before gone) none

pub none_same : (made : Option (List ℕ)) (before after : List Deed) → ((start : Files) → IsTrueTo start after → IsTrueTo start before) → ((start : Files) → files_after start after ≡ files_after start before) → KeepsNone made before → KeepsNone made after
none_same made before after told same none = still_none made before after told (λ start p gone. ap (λ (x : Files). x p) (same start) ∙ gone) none

-- a file is created or closed there under another path
new_other : (made : List ℕ) (n number : ℕ) (its : StagedFile) → HasPaths made n its → bytes_eq (string_bytes its.new) (made ++ codes "/old-" ++ decimal number) ≡ false
new_other made n number its paths =
    differs (string_bytes its.new) (made ++ codes "/old-" ++ decimal number) (λ e. old_new_path made (decimal number) (decimal n) (sym e ∙ paths.new))

pub none_created : (made : List ℕ) (n : ℕ) (its : StagedFile) (a : Answer) (before after : List Deed) → HasPaths made n its → after ≡ Creates (string_bytes its.new) a ∷ before → KeepsNone (Some made) before → KeepsNone (Some made) after
none_created made n its a before after paths is none = some_path made after (λ start told number.
    let p = made ++ codes "/old-" ++ decimal number in
    ap (λ (t : List Deed). files_after start t p) is ∙ creates_other start (string_bytes its.new) p a before (new_other made n number its paths) ∙ none start (subst (IsTrueTo start) is told) made refl number)

pub none_closed : (made : List ℕ) (n : ℕ) (its : StagedFile) (s : Bool) (c : Option (List ℕ)) (a : Answer) (before after : List Deed) → HasPaths made n its → after ≡ Closes (string_bytes its.new) s c a ∷ before → KeepsNone (Some made) before → KeepsNone (Some made) after
none_closed made n its s c a before after paths is none = some_path made after (λ start told number.
    let p = made ++ codes "/old-" ++ decimal number in
    ap (λ (t : List Deed). files_after start t p) is ∙ closes_other start (string_bytes its.new) p s c a before (new_other made n number its paths) ∙ none start (subst (IsTrueTo start) is told) made refl number)
