-- What a folder was given, and the names of its files.
use Rattle.std.proofs.Common.{◌≡◌, ◌∙◌, inr, ℕ, suc, List, [], ◌∷◌, ◌++◌, map, flat_map, length, codes, Bool, true, false, Option, Some, None, is_some, is_none, bytes_eq, ◌||◌, Result, Ok, Err, is_ok, refl, ap, ap₂, sym, subst, true≢false, if◌then◌else◌, arith}
use Rattle.std.specs.Bool.{⊤}
use Rattle.std.specs.Char.{to_ascii_lowercase}
use Rattle.std.specs.Prelude.{OnOk}
use Rattle.std.proofs.lemmas.Slice.Eq.{bytes_eq-Decides}
use Rattle.std.proofs.lemmas.List.{length-append, length-map}
use Rattle.uimg_base.specs.declared.output.PutFault.{PutFault}
use Rattle.uimg_fit_checking.specs.Unpacking.{Take, kept, refused, AddsIf}
use Rattle.uimg_fit_checking.specs.Checks.{NamedFinding}
use Rattle.uimg_fit_checking.specs.declared.checking.Finding.TheVariants as finding
use Rattle.uimg_fit_checking.specs.declared.unpacking.taker.Vouched.{Vouched}
use Rattle.uimg_world.specs.Deeds.{Deed}
use Rattle.uimg_unpacking.specs.FileNames.{file_name, is_among}
use Rattle.uimg_unpacking.specs.Filling.{names_of_kept, kept_bytes}
use Rattle.uimg_unpacking.specs.Given.{shown, seen_of, noted_takes, as_take, with_contents, MayGive, image_of, names_after, AreNamed, AreWhole}
use Rattle.uimg_unpacking.specs.Refusals.{last_name}
use Rattle.uimg_unpacking.specs.Staged.{complete, complete_names, staged}
use Rattle.uimg_unpacking.specs.Troubles.{done_in, noted}
use Rattle.uimg_unpacking.specs.declared.staged_file.StagedFile.{StagedFile}
use Rattle.uimg_unpacking.specs.declared.trouble.Trouble.{Trouble}

-- the names with one payload more
kept_more : (names : List (List ℕ)) (takes : List Take) (image bytes : List ℕ) (vouched : Option Vouched) → names_of_kept names (takes ++ kept image bytes vouched ∷ []) ≡ names_of_kept names takes ++ file_name (names_after names takes) image ∷ []
kept_more names [] image bytes vouched = refl
kept_more names (kept other some by ∷ takes) image bytes vouched = ap (λ (l : List (List ℕ)). file_name names other ∷ l) (kept_more (file_name names other ∷ names) takes image bytes vouched)
kept_more names (refused other why ∷ takes) image bytes vouched = kept_more (file_name names other ∷ names) takes image bytes vouched

refused_more : (names : List (List ℕ)) (takes : List Take) (image : List ℕ) (told : NamedFinding) → names_of_kept names (takes ++ refused image told ∷ []) ≡ names_of_kept names takes
refused_more names [] image told = refl
refused_more names (kept other some by ∷ takes) image told = ap (λ (l : List (List ℕ)). file_name names other ∷ l) (refused_more (file_name names other ∷ names) takes image told)
refused_more names (refused other why ∷ takes) image told = refused_more (file_name names other ∷ names) takes image told

after_more : (names : List (List ℕ)) (takes : List Take) (one : Take) → names_after names (takes ++ one ∷ []) ≡ file_name (names_after names takes) (image_of one) ∷ names_after names takes
after_more names [] one = refl
after_more names (other ∷ takes) one = after_more (file_name names (image_of other) ∷ names) takes one

-- how many are kept
count_more : (takes : List Take) (image bytes : List ℕ) (vouched : Option Vouched) → length (kept_bytes (takes ++ kept image bytes vouched ∷ [])) ≡ suc (length (kept_bytes takes))
count_more [] image bytes vouched = refl
count_more (kept other some by ∷ takes) image bytes vouched = ap suc (count_more takes image bytes vouched)
count_more (refused other why ∷ takes) image bytes vouched = count_more takes image bytes vouched

count_same : (takes : List Take) (image : List ℕ) (told : NamedFinding) → length (kept_bytes (takes ++ refused image told ∷ [])) ≡ length (kept_bytes takes)
count_same [] image told = refl
count_same (kept other some by ∷ takes) image told = ap suc (count_same takes image told)
count_same (refused other why ∷ takes) image told = count_same takes image told

-- no file is begun
pub none_named : (files : List StagedFile) (is_writing : Bool) (names : List (List ℕ)) (image : List ℕ) → files ≡ [] → is_writing ≡ false → names ≡ [] → AreNamed files is_writing [] names image
none_named files is_writing names image none complete empty =
    subst (λ (fs : List StagedFile). AreNamed fs is_writing [] names image) (sym none)
    (subst (λ (b : Bool). AreNamed [] b [] names image) (sym complete) (record { whole = refl; given = empty; next = λ is. absurd (true≢false (sym is)) }))

pub none_whole : (files : List StagedFile) (is_writing : Bool) → files ≡ [] → is_writing ≡ false → AreWhole files is_writing []
none_whole files is_writing none complete = ap₂ (λ (fs : List StagedFile) (b : Bool). length (complete_names fs b)) none complete

-- a file is begun
pub begun_named : (files now : List StagedFile) (was is_writing : Bool) (takes : List Take) (names new : List (List ℕ)) (other image name : List ℕ) → was ≡ false → is_writing ≡ true → complete_names now is_writing ≡ complete_names files was → last_name now ≡ name
    → name ≡ file_name names image → new ≡ name ∷ names → AreNamed files was takes names other → AreNamed now is_writing takes new image
begun_named files now was is_writing takes names new other image name complete writing same last is more named =
    let before : names ≡ names_after [] takes = (subst (λ (b : Bool). AreNamed files b takes names other) complete named).given in
    let its : name ≡ file_name (names_after [] takes) image = is ∙ ap (λ (ns : List (List ℕ)). file_name ns image) before in
    let all : new ≡ file_name (names_after [] takes) image ∷ names_after [] takes = more ∙ ap₂ (λ (n : List ℕ) (ns : List (List ℕ)). n ∷ ns) its before in
    record {
      whole = same ∙ named.whole;
      given = subst (λ (b : Bool). new ≡ (if b then file_name (names_after [] takes) image ∷ names_after [] takes else names_after [] takes)) (sym writing) all;
      next = λ still. last ∙ its;
    }

-- it is complete, and kept
pub kept_named : (files now : List StagedFile) (was is_writing : Bool) (takes : List Take) (names : List (List ℕ)) (image its : List ℕ) → was ≡ true → is_writing ≡ false → image ≡ its → complete_names now is_writing ≡ complete_names files was ++ last_name files ∷ [] → AreNamed files was takes names image
    → AreNamed now is_writing (takes ++ kept its [] None ∷ []) names image
kept_named files now was is_writing takes names image its writing complete same more named =
    let before : names ≡ file_name (names_after [] takes) image ∷ names_after [] takes = (subst (λ (b : Bool). AreNamed files b takes names image) writing named).given in
    subst (λ (i : List ℕ). AreNamed now is_writing (takes ++ kept i [] None ∷ []) names image) same (record {
      whole = more ∙ ap₂ (λ (ns : List (List ℕ)) (n : List ℕ). ns ++ n ∷ []) named.whole (named.next writing) ∙ sym (kept_more [] takes image [] None);
      given = before ∙ sym (after_more [] takes (kept image [] None)) ∙ sym (ap (λ (b : Bool). if b then file_name (names_after [] (takes ++ kept image [] None ∷ [])) image ∷ names_after [] (takes ++ kept image [] None ∷ []) else names_after [] (takes ++ kept image [] None ∷ [])) complete);
      next = λ still. absurd (true≢false (sym still ∙ complete));
    })

-- it is refused
pub refused_named : (files now : List StagedFile) (was is_writing : Bool) (takes : List Take) (names : List (List ℕ)) (image its : List ℕ) (told : NamedFinding) → was ≡ true → is_writing ≡ false → image ≡ its → complete_names now is_writing ≡ complete_names files was → AreNamed files was takes names image
    → AreNamed now is_writing (takes ++ refused its told ∷ []) names image
refused_named files now was is_writing takes names image its told writing complete same none named =
    let before : names ≡ file_name (names_after [] takes) image ∷ names_after [] takes = (subst (λ (b : Bool). AreNamed files b takes names image) writing named).given in
    subst (λ (i : List ℕ). AreNamed now is_writing (takes ++ refused i told ∷ []) names image) same (record {
      whole = none ∙ named.whole ∙ sym (refused_more [] takes image told);
      given = before ∙ sym (after_more [] takes (refused image told)) ∙ sym (ap (λ (b : Bool). if b then file_name (names_after [] (takes ++ refused image told ∷ [])) image ∷ names_after [] (takes ++ refused image told ∷ []) else names_after [] (takes ++ refused image told ∷ [])) complete);
      next = λ still. absurd (true≢false (sym still ∙ complete));
    })

pub kept_whole : (files now : List StagedFile) (was is_writing : Bool) (takes : List Take) (image : List ℕ) → complete_names now is_writing ≡ complete_names files was ++ last_name files ∷ [] → AreWhole files was takes → AreWhole now is_writing (takes ++ kept image [] None ∷ [])
kept_whole files now was is_writing takes image more whole =
    ap (λ (l : List (List ℕ)). length l) more ∙ length-append (complete_names files was) (last_name files ∷ []) ∙ omega (arith, whole) ∙ sym (count_more takes image [] None)

pub refused_whole : (files now : List StagedFile) (was is_writing : Bool) (takes : List Take) (image : List ℕ) (told : NamedFinding) → complete_names now is_writing ≡ complete_names files was → AreWhole files was takes → AreWhole now is_writing (takes ++ refused image told ∷ [])
refused_whole files now was is_writing takes image told same whole = ap (λ (l : List (List ℕ)). length l) same ∙ whole ∙ sym (count_same takes image told)

-- a payload is noted: the name of its image, and then a mark
pub noted_kept : (noted middle new : List (List ℕ)) (image its : List ℕ) → its ≡ image → middle ≡ its ∷ noted → new ≡ codes "kept" ∷ middle → noted_takes new ≡ noted_takes noted ++ kept image [] None ∷ []
noted_kept noted middle new image its same first last = ap noted_takes (last ∙ ap (λ (ns : List (List ℕ)). codes "kept" ∷ ns) (first ∙ ap (λ (n : List ℕ). n ∷ noted) same))

pub noted_refused : (noted middle new : List (List ℕ)) (image its : List ℕ) → its ≡ image → middle ≡ its ∷ noted → new ≡ [] ∷ middle → noted_takes new ≡ noted_takes noted ++ refused image (finding.Weak []) ∷ []
noted_refused noted middle new image its same first last = ap noted_takes (last ∙ ap (λ (ns : List (List ℕ)). [] ∷ ns) (first ∙ ap (λ (n : List ℕ). n ∷ noted) same))

-- as many contents as complete files
pub as_many : (calls : List Deed) (files : List StagedFile) (is_writing : Bool) (takes : List Take) → AreWhole files is_writing takes → length (staged calls files is_writing) ≡ length (kept_bytes takes)
as_many calls files is_writing takes whole = length-map (complete files is_writing) _ ∙ sym (length-map (complete files is_writing) _) ∙ whole

-- what is shown, with one payload more
with_more : (takes : List Take) (contents : List (Option (List ℕ))) (image bytes : List ℕ) → length contents ≡ length (kept_bytes takes) → with_contents (takes ++ kept image [] None ∷ []) (contents ++ Some bytes ∷ []) ≡ with_contents takes contents ++ kept image bytes None ∷ []
with_more [] [] image bytes same = refl
with_more [] (one ∷ contents) image bytes same = absurd (omega (arith, same))
with_more (kept other some by ∷ takes) [] image bytes same = absurd (omega (arith, same))
with_more (kept other some by ∷ takes) (one ∷ contents) image bytes same = ap (λ (l : List Take). as_take other one ∷ l) (with_more takes contents image bytes (omega (arith, same)))
with_more (refused other why ∷ takes) contents image bytes same = ap (λ (l : List Take). refused other why ∷ l) (with_more takes contents image bytes same)

with_refused : (takes : List Take) (contents : List (Option (List ℕ))) (image : List ℕ) (told : NamedFinding) → with_contents (takes ++ refused image told ∷ []) contents ≡ with_contents takes contents ++ refused image told ∷ []
with_refused [] contents image told = refl
with_refused (kept other some by ∷ takes) [] image told = with_refused takes [] image told
with_refused (kept other some by ∷ takes) (one ∷ contents) image told = ap (λ (l : List Take). as_take other one ∷ l) (with_refused takes contents image told)
with_refused (refused other why ∷ takes) contents image told = ap (λ (l : List Take). refused other why ∷ l) (with_refused takes contents image told)

-- a payload is kept: what its file holds is added, and it is noted
pub given_kept : (again : Bool) (takes noted : List Take) (old new : List (Option (List ℕ))) (image bytes : List ℕ) → length old ≡ length (kept_bytes takes) → new ≡ old ++ Some bytes ∷ [] → noted ≡ takes ++ kept image [] None ∷ []
    → MayGive again (kept image bytes None) (with_contents takes old) (with_contents noted new)
given_kept again takes noted old new image bytes same more is = by_case again
  where
    all : with_contents noted new ≡ with_contents takes old ++ kept image bytes None ∷ []
    all = ap₂ with_contents is more ∙ with_more takes old image bytes same

    by_case : (b : Bool) → MayGive b (kept image bytes None) (with_contents takes old) (with_contents noted new)
    by_case true = all
    by_case false = inr all

pub given_refused : (again : Bool) (takes noted : List Take) (old new : List (Option (List ℕ))) (image : List ℕ) (told : NamedFinding) → new ≡ old → noted ≡ takes ++ refused image told ∷ [] → MayGive again (refused image told) (with_contents takes old) (with_contents noted new)
given_refused again takes noted old new image told same is = by_case again
  where
    all : with_contents noted new ≡ with_contents takes old ++ refused image told ∷ []
    all = ap₂ with_contents is same ∙ with_refused takes old image told

    by_case : (b : Bool) → MayGive b (refused image told) (with_contents takes old) (with_contents noted new)
    by_case true = all
    by_case false = inr all

pub gives_if : (r : Result ⊤ PutFault) (s : Result ⊤ Trouble) (one : Take) (old new : List Take) → done_in r ≡ done_in s → MayGive (is_ok s) (shown one) old new → AddsIf seen_of r old new one
gives_if (Ok done) (Ok also) one old new same told = told
gives_if (Err fault) (Err other) one old new same told = told
gives_if (Ok done) (Err other) one old new same told = cc
gives_if (Err fault) (Ok also) one old new same told = cc

-- what is shown says which payloads were given
abbrev contents_in : Take → Option (List ℕ)
contents_in (kept image bytes vouched) = Some bytes
contents_in (refused image told) = None

abbrev is_unknown_in : List ℕ → Bool
is_unknown_in [] = false
is_unknown_in (byte ∷ name) = true

abbrev is_unknown_by : NamedFinding → Bool
is_unknown_by (finding.Weak name) = is_unknown_in name
is_unknown_by _ = false

abbrev is_unknown : Take → Bool
is_unknown (kept image bytes vouched) = false
is_unknown (refused image told) = is_unknown_by told

contents_of : (image : List ℕ) (one : Option (List ℕ)) → contents_in (as_take image one) ≡ one
contents_of image (Some bytes) = refl
contents_of image None = refl

its_image : (image : List ℕ) (one : Option (List ℕ)) → image_of (as_take image one) ≡ image
its_image image (Some bytes) = refl
its_image image None = refl

abbrev firsts : Take → List Take → Take
firsts other [] = other
firsts other (one ∷ more) = one

abbrev rests : List Take → List Take
rests [] = []
rests (one ∷ more) = more

abbrev is_none_of : List Take → Bool
is_none_of [] = true
is_none_of (one ∷ more) = false

not_none : {P : Type 0} (one : Take) (takes : List Take) → one ∷ takes ≡ [] → P
not_none one takes is = absurd (true≢false (sym (ap is_none_of is)))

head_is : (one other : Take) (takes others : List Take) → one ∷ takes ≡ other ∷ others → one ≡ other
head_is one other takes others is = ap (firsts one) is

not_refused : {P : Type 0} (image other : List ℕ) (one : Option (List ℕ)) → as_take image one ≡ refused other (finding.Weak []) → P
not_refused image other (Some bytes) is = absurd (true≢false (ap (λ (t : Take). is_some (contents_in t)) is))
not_refused image other None is = absurd (true≢false (ap is_unknown is))

not_kept : {P : Type 0} (image other bytes : List ℕ) (told : NamedFinding) (vouched : Option Vouched) → refused image told ≡ kept other bytes vouched → P
not_kept image other bytes told vouched is = absurd (true≢false (sym (ap (λ (t : Take). is_some (contents_in t)) is)))

-- Payloads that are shown with these contents are those that were given: the files have their names and hold them.
pub given_by : (names : List (List ℕ)) (noted : List Take) (contents : List (Option (List ℕ))) (takes : List Take) → length contents ≡ length (kept_bytes noted) → with_contents noted contents ≡ flat_map seen_of takes
    → (names_of_kept names noted ≡ names_of_kept names takes) × (contents ≡ map Some (kept_bytes takes))
given_by names [] [] [] same is = (refl, refl)
given_by names [] [] (one ∷ takes) same is = not_none (shown one) (flat_map seen_of takes) (sym is)
given_by names [] (one ∷ contents) takes same is = absurd (omega (arith, same))
given_by names (kept image bytes vouched ∷ noted) [] takes same is = absurd (omega (arith, same))
given_by names (kept image bytes vouched ∷ noted) (one ∷ contents) [] same is = not_none (as_take image one) (with_contents noted contents) is
given_by names (kept image bytes vouched ∷ noted) (one ∷ contents) (kept other its by ∷ takes) same is =
    let first : as_take image one ≡ kept other its None = head_is (as_take image one) (kept other its None) (with_contents noted contents) (flat_map seen_of takes) is in
    let image-is : image ≡ other = sym (its_image image one) ∙ ap image_of first in
    let one-is : one ≡ Some its = sym (contents_of image one) ∙ ap contents_in first in
    let more = given_by (file_name names image ∷ names) noted contents takes (omega (arith, same)) (ap rests is) in (
      ap (λ (l : List (List ℕ)). file_name names image ∷ l) more.0 ∙ ap (λ (i : List ℕ). file_name names i ∷ names_of_kept (file_name names i ∷ names) takes) image-is,
      ap₂ (λ (x : Option (List ℕ)) (xs : List (Option (List ℕ))). x ∷ xs) one-is more.1,
    )
given_by names (kept image bytes vouched ∷ noted) (one ∷ contents) (refused other told ∷ takes) same is =
    not_refused image other one (head_is (as_take image one) (refused other (finding.Weak [])) (with_contents noted contents) (flat_map seen_of takes) is)
given_by names (refused image why ∷ noted) contents [] same is = not_none (refused image why) (with_contents noted contents) is
given_by names (refused image why ∷ noted) contents (kept other its by ∷ takes) same is =
    not_kept image other its why None (head_is (refused image why) (kept other its None) (with_contents noted contents) (flat_map seen_of takes) is)
given_by names (refused image why ∷ noted) contents (refused other told ∷ takes) same is =
    let first : refused image why ≡ refused other (finding.Weak []) = head_is (refused image why) (refused other (finding.Weak [])) (with_contents noted contents) (flat_map seen_of takes) is in
    let more = given_by (file_name names image ∷ names) noted contents takes same (ap rests is) in
    (more.0 ∙ ap (λ (i : List ℕ). names_of_kept (file_name names i ∷ names) takes) (ap image_of first), more.1)

-- a file is begun without a trouble
pub none_kept : {X : Type 0} (r : Result X Trouble) (old new : Option Trouble) → new ≡ noted r old → is_none new ≡ true → (is_ok r ≡ true) × (is_none old ≡ true)
none_kept (Ok done) old new is none = (refl, sym (ap is_none is) ∙ none)
none_kept (Err trouble) old new is none = absurd (true≢false (sym none ∙ ap is_none is))

pub on_ok : {X E : Type 0} (P : Type 0) (r : Result X E) → is_ok r ≡ true → OnOk r P → P
on_ok P (Ok done) ok is = is
on_ok P (Err fault) ok is = absurd (true≢false (sym ok))

or_later : (a b : Bool) → b ≡ true → (a || b) ≡ true
or_later true b is = refl
or_later false b is = is

pub among_more : (names new : List (List ℕ)) (name : List ℕ) → new ≡ name ∷ names → (asked : List ℕ) → is_among names asked ≡ true → is_among new asked ≡ true
among_more names new name is asked among = ap (λ (ns : List (List ℕ)). is_among ns asked) is ∙ or_later (bytes_eq (map to_ascii_lowercase asked) (map to_ascii_lowercase name)) (is_among names asked) among

pub among_it : (names new : List (List ℕ)) (name : List ℕ) → new ≡ name ∷ names → is_among new name ≡ true
among_it names new name is =
    ap (λ (ns : List (List ℕ)). is_among ns name) is ∙ ap (λ (b : Bool). b || is_among names name) ((bytes_eq-Decides (map to_ascii_lowercase name) (map to_ascii_lowercase name)).1 refl)
