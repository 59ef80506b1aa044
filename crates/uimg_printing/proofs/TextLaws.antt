-- Texts, with their bytes beside them where they are not UTF-8.
use Rattle.std.proofs.Common.{◌≡◌, List, [], ◌∷◌, ℕ, Bool, true, false, Option, Some, None, refl, ap, sym, subst, ◌∙◌}
use Rattle.std.specs.{Prelude.{option_map, ⊤}, Str.{IsUtf8, is_utf8, Lossy.utf8_lossy}}
use Rattle.std.proofs.lemmas.Str.{IsUtf8-from_is_utf8, is_utf8-from_IsUtf8}
use Rattle.base64.specs.{Engines.standard, GeneralPurpose.encode_of}
use Rattle.json.specs.{Token.Token, Written.Written}
use Rattle.uimg_printing.specs.Members.{text_json, beside, of_bytes, string_member, text_members, tokens_of}
use Rattle.uimg_printing.specs.Steps.{Appended}
use Rattle.uimg_printing.proofs.StepLaws.{then_appended, appended_as}

by_bool : {P : Type 0} (b : Bool) → (b ≡ true → P) → (b ≡ false → P) → P
by_bool true p q = p refl
by_bool false p q = q refl

abbrev is_true : Bool → Type 0
is_true true = ⊤
is_true false = ⊥

true_false : true ≡ false → ⊥
true_false e = subst is_true e tt

abbrev is_there : {X : Type 0} → Option X → Type 0
is_there None = ⊥
is_there (Some x) = ⊤

some_none : {X : Type 0} {x : X} → Some x ≡ None → ⊥
some_none e = subst is_there e tt

pub utf8_not : (t : List ℕ) → ¬ (IsUtf8 t) → is_utf8 t ≡ false
utf8_not t bad = by_bool (is_utf8 t) (λ e. absurd (bad (IsUtf8-from_is_utf8 t e))) (λ e. e)

none_beside : {X : Type 0} (f : X → List ℕ) (bytes : List ℕ) (b : Option X) → b ≡ None → option_map f b ≡ Some bytes → ⊥
none_beside f bytes b none e = some_none (sym e ∙ ap (option_map f) none)

-- which texts have nothing beside them
pub utf8_of_none : {X : Type 0} (f : X → List ℕ) (t bytes : List ℕ) (b : Option X) → b ≡ None → (¬ (IsUtf8 t) → option_map f b ≡ Some bytes) → is_utf8 t ≡ true
utf8_of_none f t bytes b none h = by_bool (is_utf8 t) (λ e. e) (λ e. absurd (none_beside f bytes b none (h (λ u. true_false (sym (is_utf8-from_IsUtf8 t u) ∙ e)))))

pub utf8_of_some : {X P : Type 0} (t : List ℕ) (b : Option X) (x : X) → b ≡ Some x → (IsUtf8 t → P × (b ≡ None)) → is_utf8 t ≡ false
utf8_of_some t b x some h = by_bool (is_utf8 t) (λ e. absurd (some_none (sym some ∙ (h (IsUtf8-from_is_utf8 t e)).1))) (λ e. e)

pub text_whole : (s t : Written) (name text told : List ℕ) → told ≡ utf8_lossy text → is_utf8 text ≡ true → Appended s t (tokens_of (string_member name told)) → Appended s t (tokens_of (text_members name text))
text_whole s t name text told is whole p =
    appended_as s t _ _
    (ap (λ (l : List ℕ). Token.key name ∷ Token.string l ∷ []) is
    ∙ ap (λ (b : Bool). Token.key name ∷ Token.string (utf8_lossy text) ∷ tokens_of (beside b name (text_json true text))) (sym whole)) p

pub text_beside : (s t u : Written) (name text told bytes : List ℕ) → told ≡ utf8_lossy text → is_utf8 text ≡ false → bytes ≡ encode_of standard text → Appended s t (tokens_of (string_member name told)) → Appended t u (tokens_of (string_member (of_bytes name) bytes)) → Appended s u (tokens_of (text_members name text))
text_beside s t u name text told bytes is part are p q =
    appended_as s u _ _
    (ap (λ (l : List ℕ). Token.key name ∷ Token.string l ∷ Token.key (of_bytes name) ∷ Token.string bytes ∷ []) is
    ∙ ap (λ (l : List ℕ). Token.key name ∷ Token.string (utf8_lossy text) ∷ Token.key (of_bytes name) ∷ Token.string l ∷ []) are
    ∙ ap (λ (b : Bool). Token.key name ∷ Token.string (utf8_lossy text) ∷ tokens_of (beside b name (text_json true text))) (sym part)) (then_appended s t u _ _ p q)
