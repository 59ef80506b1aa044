-- Which paths are those that an unpacking may change.
use Rattle.std.proofs.Common.{◌≡◌, ℕ, zero, suc, ◌/◌, ◌%◌, ◌<◌, ◌==◌, length, slice_index_or, Bool, true, false, ◌&&◌, ◌||◌, if◌then◌else◌, List, [], ◌∷◌, ◌++◌, Option, Some, None, inl, inr, refl, ap, ap₂, sym, ◌∙◌, arith, rules, codes, decimal, string_bytes, true≢false, not, ◌-◌, take_at, length-append, bytes_eq, drop, get_or}
use Rattle.std.specs.Option.{option_to_list}
use Rattle.std.specs.{Fmt.{digit_glyph, digits, digits_onto}, List.list_all, Option.option_map_or}
use Rattle.std.proofs.lemmas.Bool.{and_parts, cases_eq}
use Rattle.std.proofs.lemmas.Slice.Eq.{bytes_eq-Decides}
use Rattle.std.proofs.lemmas.List.Folds.{list_all-append, list_all_at}
use mathlib.Core.List.{append_assoc}
use Rattle.uimg_world.specs.Deeds.{Deed, Creates, Links, Renames, Removes, MakesFolder, RemovesFolder, RemovesAll, Looks, Identifies, Overwrites, LendsShelf, Closes, changes_only}
use Rattle.uimg_world.specs.declared.call.Answer.{Answer}
use Rattle.uimg_world.specs.declared.call.Answer.TheVariants.{Done, Exists, Failed}
use Rattle.uimg_unpacking.specs.FileNames.{is_file_name, is_allowed}
use Rattle.uimg_unpacking.specs.Naming.{GivesName, over, linked, exists, taken, moved}
use Rattle.uimg_unpacking.specs.Allowing.{Allows, is_the_image, is_looked_at, Refused}
use Rattle.uimg_world.specs.declared.file_id.FileId.{FileId}
use Rattle.uimg_world.specs.declared.kind.Kind.{Kind}
use Rattle.uimg_unpacking.specs.Places.{behind, is_digit, past_digits, is_file_of, is_temporary_folder, is_inner, is_temporary_file, is_kept_file, may_change, stays_within, is_begun_in, Terms, saw_nothing, may_call, obeys, since, Obeys}
use Rattle.uimg_world.specs.declared.kind.Kind.TheVariants.{Nothing}
use Rattle.uimg_unpacking.specs.declared.staged_file.StagedFile.{StagedFile}

-- what holds of each number below n
abbrev all_below : (ℕ → Bool) → ℕ → Bool
all_below p zero = true
all_below p (suc n) = p n && all_below p n

below : (p : ℕ → Bool) (n : ℕ) → all_below p n ≡ true → (x : ℕ) → x < n → p x ≡ true
below p zero e x h = absurd (omega arith)
below p (suc n) e x h =
    let q = and_parts _ _ e in
    elim (cases_eq x n) [ inl same ↦ rw same q.0 | inr other ↦ below p n q.1 x (omega arith) ]

-- what holds of each digit holds of those of a number
digits_before : (p : ℕ → Bool) (last : Bool) (k n : ℕ) (rest : List ℕ) → list_all p rest ≡ true → list_all p (digits_onto k 10 false n rest) ≡ true → list_all p (if last then rest else digits_onto k 10 false n rest) ≡ true
digits_before p true k n rest a b = a
digits_before p false k n rest a b = b

some_digits : (p : ℕ → Bool) → all_below (λ d. p (digit_glyph false d)) 10 ≡ true → (k n : ℕ) (rest : List ℕ) → list_all p rest ≡ true → list_all p (digits_onto k 10 false n rest) ≡ true
some_digits p each zero n rest h = h
some_digits p each (suc k) n rest h =
    let one : p (digit_glyph false (n % 10)) ≡ true = below (λ d. p (digit_glyph false d)) 10 each (n % 10) (omega arith) in
    let more : list_all p (digit_glyph false (n % 10) ∷ rest) ≡ true = ap₂ (λ (a b : Bool). a && b) one h in
    digits_before p (n / 10 == 0) k (n / 10) (digit_glyph false (n % 10) ∷ rest) more (some_digits p each k (n / 10) (digit_glyph false (n % 10) ∷ rest) more)

pub all_digits : (p : ℕ → Bool) → all_below (λ d. p (digit_glyph false d)) 10 ≡ true → (n : ℕ) → list_all p (decimal n) ≡ true
unfolding digits
all_digits p each n = some_digits p each 64 n [] refl

pub are_digits : (n : ℕ) → list_all is_digit (decimal n) ≡ true
are_digits n = all_digits is_digit refl n

-- what is behind a text
same_byte : (byte : ℕ) → (byte == byte) ≡ true
same_byte byte = search (rules)

pub behind-self : (text more : List ℕ) → behind text (text ++ more) ≡ Some more
behind-self [] more = refl
behind-self (byte ∷ text) more =
    ap (λ (b : Bool). if b then behind text (text ++ more) else None) (same_byte byte) ∙ behind-self text more

some_more : (b : Bool) (o p : Option (List ℕ)) (rest more : List ℕ) → (o ≡ Some rest → p ≡ Some (rest ++ more)) → (if b then o else None) ≡ Some rest → (if b then p else None) ≡ Some (rest ++ more)
some_more true o p rest more h is = h is
some_more false o p rest more h is = cc

behind-append : (text path rest more : List ℕ) → behind text path ≡ Some rest → behind text (path ++ more) ≡ Some (rest ++ more)
behind-append [] path rest more is = cc
behind-append (byte ∷ text) [] rest more is = cc
behind-append (byte ∷ text) (first ∷ path) rest more is =
    some_more (byte == first) (behind text path) (behind text (path ++ more)) rest more (behind-append text path rest more) is

past_all : (ds more : List ℕ) → list_all is_digit ds ≡ true → past_digits (ds ++ more) ≡ past_digits more
past_all [] more h = refl
past_all (d ∷ ds) more h =
    let q = and_parts _ _ h in
    ap (λ (b : Bool). if b then past_digits (ds ++ more) else d ∷ (ds ++ more)) q.0 ∙ past_all ds more q.1

file_by : (q : List ℕ → Bool) (o p : Option (List ℕ)) (more : List ℕ) → option_map_or (list_all is_digit) o false ≡ true → ((rest : List ℕ) → o ≡ Some rest → p ≡ Some (rest ++ more)) → q (past_digits more) ≡ true → option_map_or (λ rest. q (past_digits rest)) p false ≡ true
file_by q None p more h k inner = cc
file_by q (Some rest) p more h k inner =
    ap (λ o. option_map_or (λ rest. q (past_digits rest)) o false) (k rest refl) ∙ ap q (past_all rest more h) ∙ inner

file_in : (folder made more : List ℕ) → is_temporary_folder folder made ≡ true → is_inner (past_digits more) ≡ true → is_temporary_file folder (made ++ more) ≡ true
unfolding is_temporary_folder is_temporary_file
file_in folder made more is inner =
    let text = folder ++ codes "/.uimg-new" in
    file_by is_inner (behind text made) (behind text (made ++ more)) more is (λ rest e. behind-append text made rest more e) inner

pub new_in : (folder made : List ℕ) (k : ℕ) → is_temporary_folder folder made ≡ true → is_temporary_file folder (made ++ codes "/new-" ++ decimal k) ≡ true
new_in folder made k is =
    ap (is_temporary_file folder) (append_assoc made (codes "/new-") (decimal k))
    ∙ file_in folder made (codes "/new-" ++ decimal k) is (ap (λ (b : Bool). b || false) (are_digits k))

abbrev is_old : List ℕ → Bool
is_old rest = option_map_or (list_all is_digit) (behind (codes "/old-") rest) false

pub old_in : (folder made : List ℕ) (k : ℕ) → is_temporary_folder folder made ≡ true → is_kept_file folder (made ++ codes "/old-" ++ decimal k) ≡ true
unfolding is_temporary_folder is_kept_file
old_in folder made k is =
    let text = folder ++ codes "/.uimg-new" in
    let more = codes "/old-" ++ decimal k in
    ap (λ path. option_map_or (λ rest. is_old (past_digits rest)) (behind text path) false) (append_assoc made (codes "/old-") (decimal k))
    ∙ file_by is_old (behind text made) (behind text (made ++ more)) more is (λ rest e. behind-append text made rest more e) (are_digits k)

-- such a file is a temporary one
or_more : (a b : Bool) → b ≡ true → (a || b) ≡ true
or_more true b h = refl
or_more false b h = h

kept_by : (o : Option (List ℕ)) → option_map_or (λ rest. is_old (past_digits rest)) o false ≡ true → option_map_or (λ rest. is_inner (past_digits rest)) o false ≡ true
kept_by None is = is
kept_by (Some rest) is = or_more (option_map_or (list_all is_digit) (behind (codes "/new-") (past_digits rest)) false) (is_old (past_digits rest)) is

pub kept_is : (folder path : List ℕ) → is_kept_file folder path ≡ true → is_temporary_file folder path ≡ true
unfolding is_kept_file is_temporary_file
kept_is folder path is = kept_by (behind (folder ++ codes "/.uimg-new") path) is

pub own_in : (folder name : List ℕ) → is_file_name name ≡ true → is_file_of folder (folder ++ codes "/" ++ name) ≡ true
unfolding is_file_of
own_in folder name is = ap (λ o. option_map_or is_file_name o false) (behind-self (folder ++ codes "/") name) ∙ is

pub made_in : (folder : List ℕ) (n : ℕ) → is_temporary_folder folder (folder ++ codes "/.uimg-new" ++ decimal n) ≡ true
unfolding is_temporary_folder
made_in folder n = ap (λ o. option_map_or (list_all is_digit) o false) (behind-self (folder ++ codes "/.uimg-new") (decimal n)) ∙ are_digits n

-- the file of a part, or of an image whose name is none of a file
pub image_name : (n : ℕ) → is_file_name (codes "image-" ++ decimal n) ≡ true
image_name n = all_digits is_allowed refl n

-- what may be changed
or_left : (a b : Bool) → a ≡ true → (a || b) ≡ true
or_left true b h = refl
or_left false b h = cc

or_right : (a b : Bool) → b ≡ true → (a || b) ≡ true
or_right true b h = refl
or_right false b h = h

pub folder_changes : (folder path : List ℕ) (is_naming : Bool) → is_temporary_folder folder path ≡ true → may_change folder is_naming path ≡ true
unfolding may_change
folder_changes folder path is_naming is = or_left _ _ (or_left _ _ is)

pub file_changes : (folder path : List ℕ) (is_naming : Bool) → is_temporary_file folder path ≡ true → may_change folder is_naming path ≡ true
unfolding may_change
file_changes folder path is_naming is = or_left _ _ (or_right (is_temporary_folder folder path) _ is)

pub own_changes : (folder path : List ℕ) → is_file_of folder path ≡ true → may_change folder true path ≡ true
unfolding may_change
own_changes folder path is = or_right _ _ is

pub both : (a b : Bool) → a ≡ true → b ≡ true → (a && b) ≡ true
both a b p q = ap₂ (λ (x y : Bool). x && y) p q

-- other paths
pub differs : (p q : List ℕ) → (p ≡ q → ⊥) → bytes_eq p q ≡ false
differs p q other = by_case (bytes_eq p q) refl
  where
    by_case : (b : Bool) → bytes_eq p q ≡ b → bytes_eq p q ≡ false
    by_case true is = absurd (other ((bytes_eq-Decides p q).0 is))
    by_case false is = is

pub cancel : (xs ys zs : List ℕ) → xs ++ ys ≡ xs ++ zs → ys ≡ zs
cancel [] ys zs is = is
cancel (x ∷ xs) ys zs is = cancel xs ys zs (ap (drop 1) is)

pub old_new_path : (made x y : List ℕ) → made ++ codes "/old-" ++ x ≡ made ++ codes "/new-" ++ y → ⊥
old_new_path made x y is =
    let e : codes "/old-" ++ x ≡ codes "/new-" ++ y = cancel made (codes "/old-" ++ x) (codes "/new-" ++ y) (sym (append_assoc made (codes "/old-") x) ∙ is ∙ append_assoc made (codes "/new-") y) in
    let n : 111 ≡ 110 = ap (λ (l : List ℕ). get_or l 1 0) e in
    omega (arith, n)

-- the paths of a file that was begun
begun_parts : (folder : List ℕ) (begun : StagedFile) → is_begun_in folder begun ≡ true
    → (is_temporary_file folder (string_bytes begun.new) ≡ true) × ((is_kept_file folder (string_bytes begun.old) ≡ true) × ((is_file_name (string_bytes begun.name) ≡ true)
    × ((bytes_eq (string_bytes begun.whole) (folder ++ codes "/" ++ string_bytes begun.name) ≡ true) × (not (bytes_eq (string_bytes begun.old) (string_bytes begun.new)) ≡ true))))
unfolding is_begun_in
begun_parts folder begun is =
    let a = and_parts _ _ is in
    let b = and_parts _ _ a.0 in
    let c = and_parts _ _ b.0 in
    let d = and_parts _ _ c.0 in
    (d.0, (d.1, (c.1, (b.1, a.1))))

pub begun_new : (folder : List ℕ) (begun : StagedFile) → is_begun_in folder begun ≡ true → is_temporary_file folder (string_bytes begun.new) ≡ true
begun_new folder begun is = (begun_parts folder begun is).0

pub begun_kept : (folder : List ℕ) (begun : StagedFile) → is_begun_in folder begun ≡ true → is_kept_file folder (string_bytes begun.old) ≡ true
begun_kept folder begun is = (begun_parts folder begun is).1.0

pub begun_old : (folder : List ℕ) (begun : StagedFile) → is_begun_in folder begun ≡ true → is_temporary_file folder (string_bytes begun.old) ≡ true
begun_old folder begun is = kept_is folder (string_bytes begun.old) (begun_kept folder begun is)

pub begun_named : (folder : List ℕ) (begun : StagedFile) → is_begun_in folder begun ≡ true → is_file_name (string_bytes begun.name) ≡ true
begun_named folder begun is = (begun_parts folder begun is).1.1.0

pub begun_path : (folder : List ℕ) (begun : StagedFile) → is_begun_in folder begun ≡ true → string_bytes begun.whole ≡ folder ++ codes "/" ++ string_bytes begun.name
begun_path folder begun is = (bytes_eq-Decides _ _).0 (begun_parts folder begun is).1.1.1.0

pub begun_whole : (folder : List ℕ) (begun : StagedFile) → is_begun_in folder begun ≡ true → is_file_of folder (string_bytes begun.whole) ≡ true
begun_whole folder begun is = ap (is_file_of folder) (begun_path folder begun is) ∙ own_in folder (string_bytes begun.name) (begun_named folder begun is)

pub not_eq : (b : Bool) → not b ≡ true → b ≡ false
not_eq true is = cc
not_eq false is = refl

pub begun_apart : (folder : List ℕ) (begun : StagedFile) → is_begun_in folder begun ≡ true → bytes_eq (string_bytes begun.old) (string_bytes begun.new) ≡ false
begun_apart folder begun is = not_eq _ (begun_parts folder begun is).1.1.1.1

begun_of : (folder : List ℕ) (begun : StagedFile) → is_temporary_file folder (string_bytes begun.new) ≡ true → is_kept_file folder (string_bytes begun.old) ≡ true → is_file_name (string_bytes begun.name) ≡ true → string_bytes begun.whole ≡ folder ++ codes "/" ++ string_bytes begun.name
    → bytes_eq (string_bytes begun.old) (string_bytes begun.new) ≡ false → is_begun_in folder begun ≡ true
unfolding is_begun_in
begun_of folder begun a b c d e = both _ _ (both _ _ (both _ _ (both _ _ a b) c) ((bytes_eq-Decides _ _).1 d)) (ap not e)

widened : (a b : Bool) → (a || false) ≡ true → (a || b) ≡ true
widened true b is = refl
widened false b is = cc

-- what may be changed before files get their names may be changed then
first_two : (folder path : List ℕ) → may_change folder false path ≡ true → may_change folder true path ≡ true
unfolding may_change
first_two folder path is = widened (is_temporary_folder folder path || is_temporary_file folder path) (is_file_of folder path) is

wider : (folder path : List ℕ) (is_naming : Bool) → may_change folder is_naming path ≡ true → may_change folder true path ≡ true
wider folder path true is = is
wider folder path false is = first_two folder path is

wider_deed : (folder : List ℕ) (is_naming : Bool) (deed : Deed) → changes_only (may_change folder is_naming) deed ≡ true → changes_only (may_change folder true) deed ≡ true
wider_deed f n (Creates p _) is = wider f p n is
wider_deed f n (Links p q _) is = let h = and_parts _ _ is in both _ _ (wider f p n h.0) (wider f q n h.1)
wider_deed f n (Renames p q _) is = let h = and_parts _ _ is in both _ _ (wider f p n h.0) (wider f q n h.1)
wider_deed f n (Removes p _) is = wider f p n is
wider_deed f n (MakesFolder p _) is = wider f p n is
wider_deed f n (RemovesFolder p _) is = wider f p n is
wider_deed f n (RemovesAll p _) is = wider f p n is
wider_deed f n (Overwrites p _) is = wider f p n is
wider_deed f n (LendsShelf p) is = wider f p n is
wider_deed f n (Closes p _ _ _) is = wider f p n is
wider_deed f n _ is = refl

pub stays_naming : (folder : List ℕ) (is_naming : Bool) (trace : List Deed) → stays_within folder is_naming trace ≡ true → stays_within folder true trace ≡ true
stays_naming folder is_naming [] is = refl
stays_naming folder is_naming (deed ∷ trace) is =
    let h = and_parts _ _ is in
    both _ _ (wider_deed folder is_naming deed h.0) (stays_naming folder is_naming trace h.1)

wider_call : (t : Terms) (is_naming : Bool) (deed : Deed) (before : List Deed) → may_call t is_naming deed before ≡ true → may_call t true deed before ≡ true
wider_call t n (Closes p s c a) before is = let h = and_parts _ _ is in both _ _ (wider t.0 p n h.0) h.1
wider_call t n (Renames p q a) before is =
    let h = and_parts _ _ is in
    let k = and_parts _ _ h.0 in
    both _ _ (both _ _ (wider t.0 p n k.0) (wider t.0 q n k.1)) h.1
wider_call t n (Creates p a) before is = wider_deed t.0 n (Creates p a) is
wider_call t n (Links p q a) before is = wider_deed t.0 n (Links p q a) is
wider_call t n (Removes p a) before is = wider_deed t.0 n (Removes p a) is
wider_call t n (MakesFolder p a) before is = wider_deed t.0 n (MakesFolder p a) is
wider_call t n (RemovesFolder p a) before is = wider_deed t.0 n (RemovesFolder p a) is
wider_call t n (RemovesAll p a) before is = is
wider_call t n (Overwrites p a) before is = is
wider_call t n (LendsShelf p) before is = is
wider_call t n _ before is = refl

wider_obeys : (t : Terms) (is_naming : Bool) (calls : List Deed) → obeys t is_naming calls ≡ true → obeys t true calls ≡ true
wider_obeys t n [] is = refl
wider_obeys t n (deed ∷ before) is =
    let h = and_parts _ _ is in
    both _ _ (wider_call t n deed before h.0) (wider_obeys t n before h.1)

pub obeys_naming : (t : Terms) (is_naming : Bool) (old new : List Deed) → Obeys t is_naming old new → Obeys t true old new
obeys_naming t n old new does = record { is = does.is; rules = wider_obeys t n (since old new) does.rules }

-- calls that are made change only what may be changed
within_call : (t : Terms) (is_naming : Bool) (deed : Deed) (before : List Deed) → may_call t is_naming deed before ≡ true → changes_only (may_change t.0 is_naming) deed ≡ true
within_call t n (Closes p s c a) before is = (and_parts _ _ is).0
within_call t n (Renames p q a) before is = (and_parts _ _ is).0
within_call t n (RemovesAll p a) before is = absurd (true≢false (sym is))
within_call t n (Overwrites p a) before is = absurd (true≢false (sym is))
within_call t n (LendsShelf p) before is = absurd (true≢false (sym is))
within_call t n _ before is = is

pub obeys_within : (t : Terms) (is_naming : Bool) (calls : List Deed) → obeys t is_naming calls ≡ true → stays_within t.0 is_naming calls ≡ true
obeys_within t n [] is = refl
obeys_within t n (deed ∷ before) is =
    let h = and_parts _ _ is in
    both _ _ (within_call t n deed before h.0) (obeys_within t n before h.1)

-- what was called since
since_made : (made old new : List Deed) → new ≡ made ++ old → since old new ≡ made
since_made made old new is =
    let n : length (made ++ old) - length old ≡ length made = omega (arith, length-append made old) in
    ap (since old) is ∙ take_at made old (length (made ++ old) - length old) (sym n)

pub obeys_by : (t : Terms) (is_naming : Bool) (made old new : List Deed) → new ≡ made ++ old → obeys t is_naming made ≡ true → Obeys t is_naming old new
obeys_by t n made old new is ok =
    let e = since_made made old new is in
    record { is = is ∙ ap (λ (m : List Deed). m ++ old) (sym e); rules = ap (obeys t n) e ∙ ok }

pub one_more : (t : Terms) (is_naming : Bool) (deed : Deed) (before after : List Deed) → after ≡ deed ∷ before → may_call t is_naming deed [] ≡ true → Obeys t is_naming before after
one_more t n deed before after is ok = obeys_by t n (deed ∷ []) before after is (both _ _ ok refl)

pub no_more : (t : Terms) (is_naming : Bool) (before after : List Deed) → after ≡ before → Obeys t is_naming before after
no_more t n before after is = obeys_by t n [] before after is refl

-- a call that is made after some is made after more of them
or_later : (a b c : Bool) → (b ≡ true → c ≡ true) → (a || b) ≡ true → (a || c) ≡ true
or_later true b c h is = refl
or_later false b c h is = h is

saw_more : (path : List ℕ) (before more : List Deed) → saw_nothing path before ≡ true → saw_nothing path (before ++ more) ≡ true
saw_more path [] more is = absurd (true≢false (sym is))
saw_more path (last ∷ before) more is = is

call_after : (t : Terms) (is_naming : Bool) (deed : Deed) (before more : List Deed) → may_call t is_naming deed before ≡ true → may_call t is_naming deed (before ++ more) ≡ true
call_after t n (Renames p q a) before more is =
    let h = and_parts _ _ is in
    both _ _ h.0 (or_later (t.1 || is_kept_file t.0 p) (saw_nothing q before) (saw_nothing q (before ++ more)) (saw_more q before more) h.1)
call_after t n (Closes p s c a) before more is = is
call_after t n _ before more is = is

obeys-append : (t : Terms) (is_naming : Bool) (made more : List Deed) → obeys t is_naming made ≡ true → obeys t is_naming more ≡ true → obeys t is_naming (made ++ more) ≡ true
obeys-append t n [] more is also = also
obeys-append t n (deed ∷ made) more is also =
    let h = and_parts _ _ is in
    both _ _ (call_after t n deed made more h.0) (obeys-append t n made more h.1 also)

infixl 5 ◌◁◌
-- some calls after others
pub ◌◁◌ : {t : Terms} {is_naming : Bool} {a b c : List Deed} → Obeys t is_naming b c → Obeys t is_naming a b → Obeys t is_naming a c
◌◁◌ {t = t} {is_naming = n} {a = a} {b = b} {c = c} late early =
    obeys_by t n (since b c ++ since a b) a c
    (late.is ∙ ap (λ (l : List Deed). since b c ++ l) early.is ∙ sym (append_assoc (since b c) (since a b) a))
    (obeys-append t n (since b c) (since a b) late.rules early.rules)

-- what is called while files get their names
pub naming_more : (t : Terms) (is_naming : Bool) (a b c : List Deed) → is_naming ≡ true → Obeys t true b c → Obeys t is_naming a b → Obeys t is_naming a c
naming_more t true a b c is late early = late ◁ early
naming_more t false a b c is late early = absurd (true≢false (sym is))

-- each of some files
pub each_of : {X : Type 0} (p : X → Bool) (xs : List X) (i : ℕ) (d : X) → list_all p xs ≡ true → i < length xs → p (slice_index_or xs i d) ≡ true
each_of p xs i d all inside = by_cases (p (slice_index_or xs i d)) (λ bad. list_all_at p xs i d inside bad) all
  where
    by_cases : (b : Bool) → (b ≡ false → list_all p xs ≡ false) → list_all p xs ≡ true → b ≡ true
    by_cases true f all = refl
    by_cases false f all = sym (f refl) ∙ all

pub one_file_more : {X : Type 0} (p : X → Bool) (xs : List X) (x : X) → list_all p xs ≡ true → p x ≡ true → list_all p (xs ++ x ∷ []) ≡ true
one_file_more p xs x all is = list_all-append p xs (x ∷ []) ∙ both _ _ all (both _ _ is refl)

-- how a name is given and taken back
linked_in : (t : Terms) (from to : List ℕ) (answer : Answer) → may_change t.0 true from ≡ true → may_change t.0 true to ≡ true → may_call t true (Links from to answer) [] ≡ true
linked_in t from to a p q = both _ _ p q

renamed_in : (t : Terms) (from to : List ℕ) (answer : Answer) (before : List Deed) → may_change t.0 true from ≡ true → may_change t.0 true to ≡ true → (t.1 || is_kept_file t.0 from || saw_nothing to before) ≡ true → may_call t true (Renames from to answer) before ≡ true
renamed_in t from to a before p q ok = both _ _ (both _ _ p q) ok

by_force : (t : Terms) (from to : List ℕ) (before : List Deed) → t.1 ≡ true → (t.1 || is_kept_file t.0 from || saw_nothing to before) ≡ true
by_force t from to before is = or_left _ _ (or_left _ _ is)

pub gives_within : (t : Terms) (new whole : List ℕ) (replaces : Bool) (answer : Answer) (before after : List Deed) → GivesName new whole replaces answer before after → is_temporary_file t.0 new ≡ true → is_file_of t.0 whole ≡ true → (replaces ≡ true → t.1 ≡ true) → Obeys t true before after
gives_within t new whole r a before after (over e is) p q f =
    one_more t true (Renames new whole a) before after is (renamed_in t new whole a [] (file_changes t.0 new true p) (own_changes t.0 whole q) (by_force t new whole [] (f e)))
gives_within t new whole r a before after (linked x e g is) p q f =
    obeys_by t true (Removes new x ∷ Links new whole Done ∷ []) before after is
    (both _ _ (file_changes t.0 new true p) (both _ _ (linked_in t new whole Done (file_changes t.0 new true p) (own_changes t.0 whole q)) refl))
gives_within t new whole r a before after (exists e g is) p q f =
    one_more t true (Links new whole Exists) before after is (linked_in t new whole Exists (file_changes t.0 new true p) (own_changes t.0 whole q))
gives_within t new whole r a before after (taken kind e g h is) p q f =
    obeys_by t true (Looks whole kind ∷ Links new whole Failed ∷ []) before after is
    (both _ _ refl (both _ _ (linked_in t new whole Failed (file_changes t.0 new true p) (own_changes t.0 whole q)) refl))
gives_within t new whole r a before after (moved e is) p q f =
    let seen : List Deed = Looks whole Nothing ∷ Links new whole Failed ∷ [] in
    obeys_by t true (Renames new whole a ∷ seen) before after is
    (both _ _ (renamed_in t new whole a seen (file_changes t.0 new true p) (own_changes t.0 whole q) (or_right _ _ ((bytes_eq-Decides whole whole).1 refl)))
    (both _ _ refl (both _ _ (linked_in t new whole Failed (file_changes t.0 new true p) (own_changes t.0 whole q)) refl)))

pub links_within : (t : Terms) (whole old : List ℕ) (answer : Answer) (before after : List Deed) → after ≡ Links whole old answer ∷ before → is_file_of t.0 whole ≡ true → is_temporary_file t.0 old ≡ true → Obeys t true before after
links_within t whole old a before after is p q = one_more t true (Links whole old a) before after is (linked_in t whole old a (own_changes t.0 whole p) (file_changes t.0 old true q))

pub moves_within : (t : Terms) (whole old : List ℕ) (answer : Answer) (before after : List Deed) → after ≡ Renames whole old answer ∷ before → t.1 ≡ true → is_file_of t.0 whole ≡ true → is_temporary_file t.0 old ≡ true → Obeys t true before after
moves_within t whole old a before after is f p q = one_more t true (Renames whole old a) before after is (renamed_in t whole old a [] (own_changes t.0 whole p) (file_changes t.0 old true q) (by_force t whole old [] f))

pub looks_within : (t : Terms) (is_naming : Bool) (path : List ℕ) (kind : Kind) (before after : List Deed) → after ≡ Looks path kind ∷ before → Obeys t is_naming before after
looks_within t n path kind before after is = one_more t n (Looks path kind) before after is refl

pub unnames_within : (t : Terms) (whole : List ℕ) (answer : Answer) (before after : List Deed) → after ≡ Removes whole answer ∷ before → is_file_of t.0 whole ≡ true → Obeys t true before after
unnames_within t whole a before after is p = one_more t true (Removes whole a) before after is (own_changes t.0 whole p)

put_in : (t : Terms) (old whole : List ℕ) (answer : Answer) (before : List Deed) → is_file_of t.0 whole ≡ true → is_kept_file t.0 old ≡ true → may_call t true (Renames old whole answer) before ≡ true
put_in t old whole a before p q = renamed_in t old whole a before (file_changes t.0 old true (kept_is t.0 old q)) (own_changes t.0 whole p) (or_left _ _ (or_right t.1 _ q))

pub puts_within : (t : Terms) (old whole : List ℕ) (answer : Answer) (before after : List Deed) → after ≡ Renames old whole answer ∷ before → is_file_of t.0 whole ≡ true → is_kept_file t.0 old ≡ true → Obeys t true before after
puts_within t old whole a before after is p q = one_more t true (Renames old whole a) before after is (put_in t old whole a [] p q)

-- a temporary folder is made
pub made_within : (t : Terms) (path : List ℕ) (n : ℕ) (answer : Answer) (before after : List Deed) → path ≡ t.0 ++ codes "/.uimg-new" ++ decimal n → after ≡ MakesFolder path answer ∷ before → (is_naming : Bool) → Obeys t is_naming before after
made_within t path n answer before after text is is_naming =
    one_more t is_naming (MakesFolder path answer) before after is (folder_changes t.0 path is_naming (ap (is_temporary_folder t.0) text ∙ made_in t.0 n))

-- a file in it is created or removed
pub created_within : (t : Terms) (is_naming : Bool) (path : List ℕ) (answer : Answer) (before after : List Deed) → is_temporary_file t.0 path ≡ true → after ≡ Creates path answer ∷ before → Obeys t is_naming before after
created_within t is_naming path answer before after ok is = one_more t is_naming (Creates path answer) before after is (file_changes t.0 path is_naming ok)

pub removed_within : (t : Terms) (is_naming : Bool) (path : List ℕ) (answer : Answer) (before after : List Deed) → is_temporary_file t.0 path ≡ true → after ≡ Removes path answer ∷ before → Obeys t is_naming before after
removed_within t is_naming path answer before after ok is = one_more t is_naming (Removes path answer) before after is (file_changes t.0 path is_naming ok)

pub begun_paths : (folder made : List ℕ) (k : ℕ) (begun : StagedFile) → is_temporary_folder folder made ≡ true → is_file_name (string_bytes begun.name) ≡ true → string_bytes begun.new ≡ made ++ codes "/new-" ++ decimal k → string_bytes begun.old ≡ made ++ codes "/old-" ++ decimal k → string_bytes begun.whole ≡ folder ++ codes "/" ++ string_bytes begun.name → is_begun_in folder begun ≡ true
begun_paths folder made k begun is named new old whole =
    begun_of folder begun
    (ap (is_temporary_file folder) new ∙ new_in folder made k is)
    (ap (is_kept_file folder) old ∙ old_in folder made k is)
    named whole
    (differs (string_bytes begun.old) (string_bytes begun.new) (λ e. old_new_path made (decimal k) (decimal k) (sym old ∙ e ∙ new)))

pub allows_within : (t : Terms) (is_naming : Bool) (image : Option FileId) (is_forced : Bool) (path : List ℕ) (why : Option Refused) (before after : List Deed) → Allows image is_forced path why before after → Obeys t is_naming before after
allows_within t n image forced path why before after (is_the_image found e g is) = one_more t n (Identifies path found) before after is refl
allows_within t n image forced path why before after (is_looked_at found kind e g is) =
    obeys_by t n (Looks path kind ∷ Identifies path found ∷ []) before after is refl

-- the files without the last, and the last
pub without_last : {X : Type 0} (p : X → Bool) (xs ys : List X) (last : Option X) → xs ≡ ys ++ option_to_list last → list_all p xs ≡ true → list_all p ys ≡ true
without_last p xs ys last is all =
    (and_parts (list_all p ys) (list_all p (option_to_list last)) (sym (list_all-append p ys (option_to_list last)) ∙ ap (list_all p) (sym is) ∙ all)).0

pub the_last : {X : Type 0} (p : X → Bool) (xs ys : List X) (x : X) → xs ≡ ys ++ x ∷ [] → list_all p xs ≡ true → p x ≡ true
the_last p xs ys x is all =
    (and_parts (p x) true (and_parts (list_all p ys) (list_all p (x ∷ [])) (sym (list_all-append p ys (x ∷ [])) ∙ ap (list_all p) (sym is) ∙ all)).1).0

pub pushed : {X : Type 0} (p : X → Bool) (xs ys : List X) (x : X) (is_pushed : Bool) → ys ≡ (if is_pushed then xs ++ x ∷ [] else xs) → list_all p xs ≡ true → p x ≡ true → list_all p ys ≡ true
pushed p xs ys x true e all is = ap (list_all p) e ∙ one_file_more p xs x all is
pushed p xs ys x false e all is = ap (list_all p) e ∙ all

-- a file is closed
synced_as : (is_synced : Bool) → (if is_synced then is_synced else not is_synced) ≡ true
synced_as true = refl
synced_as false = refl

pub closed_within : (t : Terms) (is_naming : Bool) (path : List ℕ) (contents : Option (List ℕ)) (answer : Answer) (before after : List Deed) → is_temporary_file t.0 path ≡ true → after ≡ Closes path t.2 contents answer ∷ before → Obeys t is_naming before after
closed_within t is_naming path contents answer before after ok is = one_more t is_naming (Closes path t.2 contents answer) before after is (both _ _ (file_changes t.0 path is_naming ok) (synced_as t.2))

-- a temporary folder is removed
pub unmade_within : (t : Terms) (is_naming : Bool) (path : List ℕ) (answer : Answer) (before after : List Deed) → is_temporary_folder t.0 path ≡ true → after ≡ RemovesFolder path answer ∷ before → Obeys t is_naming before after
unmade_within t is_naming path answer before after ok is = one_more t is_naming (RemovesFolder path answer) before after is (folder_changes t.0 path is_naming ok)
