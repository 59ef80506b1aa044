-- Values that nest little, and whose text is one line.
use Rattle.std.proofs.Common.{◌≡◌, ℕ, zero, suc, ◌≤◌, Bool, true, false, List, [], ◌∷◌, ◌++◌, map, Some, None, Option, option_and_then, refl, ap, sym, ◌∙◌, append_assoc, append-nil, arith}
use Rattle.std.specs.{Prelude.⊤, Str.is_utf8}
use Rattle.json.specs.Json.{Json, null, boolean, number, string, array, object, Items, no_items, item, Members, no_members, member, document, max_depth, value, if_last}
use Rattle.json.specs.{Lex.tokens, Print.{print, print_from, quoted}, Token.Token}
use Rattle.json.proofs.Printed.Trees.{value-json_tokens}
use Rattle.json.specs.Tree.{json_tokens, items_tokens, members_tokens, depth, items_depth, members_depth}
use Rattle.uimg_printing.specs.Objects.{is_one_line}
use Rattle.uimg_printing.specs.Members.{Member, members_of, items_of, number_member, number_if, string_member, text_json, beside, text_members}
use Rattle.uimg_printing.proofs.LineLaws as line

-- arrays and objects nest so deep at most, and each number is on one line
abbrev mutual
  pub Sound : ℕ → Json → Type 0
  Sound d null = ⊤
  Sound d (boolean b) = ⊤
  Sound d (number s) = is_one_line s ≡ true
  Sound d (string s) = ⊤
  Sound zero (array js) = ⊥
  Sound (suc d) (array js) = SoundItems d js
  Sound zero (object ms) = ⊥
  Sound (suc d) (object ms) = SoundMembers d ms

  pub SoundItems : ℕ → Items → Type 0
  SoundItems d no_items = ⊤
  SoundItems d (item j js) = Sound d j × SoundItems d js

  pub SoundMembers : ℕ → Members → Type 0
  SoundMembers d no_members = ⊤
  SoundMembers d (member k j ms) = Sound d j × SoundMembers d ms

mutual
  sound_depth : (d : ℕ) (j : Json) → Sound d j → depth j ≤ d
  sound_depth d null h = omega arith
  sound_depth d (boolean b) h = omega arith
  sound_depth d (number s) h = omega arith
  sound_depth d (string s) h = omega arith
  sound_depth zero (array js) h = absurd h
  sound_depth (suc d) (array js) h = omega (arith, items_sound_depth d js h)
  sound_depth zero (object ms) h = absurd h
  sound_depth (suc d) (object ms) h = omega (arith, members_sound_depth d ms h)

  items_sound_depth : (d : ℕ) (js : Items) → SoundItems d js → items_depth js ≤ d
  items_sound_depth d no_items h = omega arith
  items_sound_depth d (item j js) h = omega (arith, sound_depth d j h.0, items_sound_depth d js h.1)

  members_sound_depth : (d : ℕ) (ms : Members) → SoundMembers d ms → members_depth ms ≤ d
  members_sound_depth d no_members h = omega arith
  members_sound_depth d (member k j ms) h = omega (arith, sound_depth d j h.0, members_sound_depth d ms h.1)

-- whatever was before, these tokens are on one line
abbrev AreLined : List Token → Type 0
AreLined ts = (after : Bool) → is_one_line (print_from after ts) ≡ true

lined_as : (a b : List Token) → a ≡ b → AreLined b → AreLined a
lined_as a b e h after = ap (λ (ts : List Token). is_one_line (print_from after ts)) e ∙ h after

mutual
  lined : (d : ℕ) (j : Json) (rest : List Token) → Sound d j → AreLined rest → AreLined (json_tokens j ++ rest)
  lined d null rest h r after = line.token_then after Token.null rest refl (r true)
  lined d (boolean true) rest h r after = line.token_then after (Token.boolean true) rest refl (r true)
  lined d (boolean false) rest h r after = line.token_then after (Token.boolean false) rest refl (r true)
  lined d (number s) rest h r after = line.token_then after (Token.number s) rest h (r true)
  lined d (string s) rest h r after = line.token_then after (Token.string s) rest (line.in_quotes s) (r true)
  lined zero (array js) rest h r after = absurd h
  lined (suc d) (array js) rest h r after = line.token_then after Token.begin_array (items_tokens js ++ rest) refl (items_lined d js rest h r false)
  lined zero (object ms) rest h r after = absurd h
  lined (suc d) (object ms) rest h r after = line.token_then after Token.begin_object (members_tokens ms ++ rest) refl (members_lined d ms rest h r false)

  items_lined : (d : ℕ) (js : Items) (rest : List Token) → SoundItems d js → AreLined rest → AreLined (items_tokens js ++ rest)
  items_lined d no_items rest h r after = line.token_then after Token.end_array rest refl (r true)
  items_lined d (item j js) rest h r after =
      lined_as _ _ (append_assoc (json_tokens j) (items_tokens js) rest)
      (lined d j (items_tokens js ++ rest) h.0 (items_lined d js rest h.1 r)) after

  members_lined : (d : ℕ) (ms : Members) (rest : List Token) → SoundMembers d ms → AreLined rest → AreLined (members_tokens ms ++ rest)
  members_lined d no_members rest h r after = line.token_then after Token.end_object rest refl (r true)
  members_lined d (member k j ms) rest h r after =
      line.token_then after (Token.key k) ((json_tokens j ++ members_tokens ms) ++ rest) (line.joined (quoted k) (58 ∷ []) (line.in_quotes k) refl)
      (lined_as _ _ (append_assoc (json_tokens j) (members_tokens ms) rest)
      (lined d j (members_tokens ms ++ rest) h.0 (members_lined d ms rest h.1 r)) false)

none_lined : AreLined []
unfolding print_from
none_lined after = refl

-- a sound value is read back, and its text is one line
pub one_line : (d : ℕ) (j : Json) → Sound d j → is_one_line (print (json_tokens j)) ≡ true
one_line d j h = lined_as (json_tokens j) (json_tokens j ++ []) (sym (append-nil (json_tokens j))) (lined d j [] h none_lined) false

pub reads_back : (d : ℕ) (j : Json) (text : List ℕ) → Sound d j → d ≤ max_depth → tokens text ≡ json_tokens j → document text ≡ Some j
reads_back d j text h small e =
    let whole : value max_depth (json_tokens j) ≡ Some (j, []) = ap (value max_depth) (sym (append-nil (json_tokens j))) ∙ value-json_tokens j max_depth [] (omega (arith, small, sound_depth d j h)) in
    ap (λ ts. option_and_then (λ p. if_last p.0 p.1) (value max_depth ts)) e ∙ ap (option_and_then (λ p. if_last p.0 p.1)) whole

-- members that are sound at a depth
abbrev pub AreSound : ℕ → List Member → Type 0
AreSound d ms = SoundMembers d (members_of ms)

pub append_sound : (d : ℕ) (a b : List Member) → AreSound d a → AreSound d b → AreSound d (a ++ b)
append_sound d [] b p q = q
append_sound d (m ∷ a) b p q = (p.0, append_sound d a b p.1 q)

pub number_sound : (d : ℕ) (name : List ℕ) (n : ℕ) → AreSound d (number_member name n)
number_sound d name n = (line.number n, tt)

pub number_if_sound : (d : ℕ) (name : List ℕ) (n : Option ℕ) → AreSound d (number_if name n)
number_if_sound d name None = tt
number_if_sound d name (Some n) = number_sound d name n

pub spelled_sound : (d : ℕ) (b : Bool) (t : List ℕ) → Sound d (text_json b t)
spelled_sound d true t = tt
spelled_sound d false t = tt

pub items_sound : {X : Type 0} (d : ℕ) (f : X → Json) → ((x : X) → Sound d (f x)) → (xs : List X) → SoundItems d (items_of (map f xs))
items_sound d f h [] = tt
items_sound d f h (x ∷ xs) = (h x, items_sound d f h xs)

pub beside_sound : (d : ℕ) (b : Bool) (name : List ℕ) (j : Json) → Sound d j → AreSound d (beside b name j)
beside_sound d true name j h = tt
beside_sound d false name j h = (h, tt)

pub text_sound : (d : ℕ) (name t : List ℕ) → AreSound d (text_members name t)
text_sound d name t = (tt, beside_sound d (is_utf8 t) name (text_json true t) tt)

pub string_sound : (d : ℕ) (name s : List ℕ) → AreSound d (string_member name s)
string_sound d name s = (tt, tt)
