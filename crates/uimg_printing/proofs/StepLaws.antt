-- Steps of writing, one after another.
use Rattle.std.proofs.Common.{◌≡◌, ℕ, List, [], ◌∷◌, ◌++◌, ap, sym, ◌∙◌, refl, append_assoc, append-nil}
use Rattle.std.proofs.lemmas.Grind.{flat_map-append}
use Rattle.json.specs.{Json.Json, Token.Token, Tree.{json_tokens, members_tokens}, Written.Written}
use Rattle.uimg_printing.specs.Members.{Member, members_of, object_of, member_tokens, tokens_of}
use Rattle.uimg_printing.specs.Steps.{Appended}

pub then_appended : (s t u : Written) (a b : List Token) → Appended s t a → Appended t u b → Appended s u (a ++ b)
then_appended s t u a b p q = record {
  tokens_now = q.tokens_now ∙ ap (λ (l : List Token). l ++ b) p.tokens_now ∙ append_assoc s.tokens a b;
  before = q.before ∙ p.before;
}

pub appended_as : (s t : Written) (a b : List Token) → a ≡ b → Appended s t a → Appended s t b
appended_as s t a b e p = record { tokens_now = p.tokens_now ∙ ap (λ (l : List Token). s.tokens ++ l) e; before = p.before }

-- the tokens of an object and of an array
pub members_tokens_of : (ms : List Member) → members_tokens (members_of ms) ≡ tokens_of ms ++ Token.end_object ∷ []
members_tokens_of [] = refl
members_tokens_of (m ∷ ms) =
    ap (λ (l : List Token). Token.key m.0 ∷ (json_tokens m.1 ++ l)) (members_tokens_of ms)
    ∙ sym (append_assoc (member_tokens m) (tokens_of ms) (Token.end_object ∷ []))

pub tokens_append : (a b : List Member) → tokens_of (a ++ b) ≡ tokens_of a ++ tokens_of b
tokens_append a b = flat_map-append member_tokens a b

-- an object whose members were written between its braces
pub object_appended : (s t u v : Written) (ms : List Member) → Appended s t (Token.begin_object ∷ []) → Appended t u (tokens_of ms) → Appended u v (Token.end_object ∷ []) → Appended s v (json_tokens (object_of ms))
object_appended s t u v ms p q r =
    appended_as s v _ _ (ap (λ (l : List Token). Token.begin_object ∷ l) (sym (members_tokens_of ms)))
    (then_appended s t v _ _ p (then_appended t u v _ _ q r))

-- one token
pub one : {s t : Written} {k : Token} → t.tokens ≡ s.tokens ++ k ∷ [] → t.before ≡ s.before → Appended s t (k ∷ [])
one e b = record { tokens_now = e; before = b }

pub after : {s t u : Written} {a b : List Token} → Appended s t a → Appended t u b → Appended s u (a ++ b)
after {s} {t} {u} {a} {b} p q = then_appended s t u a b p q

-- the tokens of members that end with one or two of given values
pub tokens_one : (a b : List Member) (name : List ℕ) (j : Json) → tokens_of (a ++ (b ++ (name, j) ∷ [])) ≡ tokens_of a ++ (tokens_of b ++ Token.key name ∷ json_tokens j)
tokens_one a b name j =
    tokens_append a (b ++ (name, j) ∷ [])
    ∙ ap (λ (l : List Token). tokens_of a ++ l) (tokens_append b ((name, j) ∷ []) ∙ ap (λ (l : List Token). tokens_of b ++ Token.key name ∷ l) (append-nil (json_tokens j)))

pub tokens_two : (a b : List Member) (n m : List ℕ) (j k : Json)
    → tokens_of (a ++ (b ++ (n, j) ∷ (m, k) ∷ [])) ≡ tokens_of a ++ (tokens_of b ++ ((Token.key n ∷ json_tokens j) ++ (Token.key m ∷ json_tokens k)))
tokens_two a b n m j k =
    tokens_append a (b ++ (n, j) ∷ (m, k) ∷ [])
    ∙ ap (λ (l : List Token). tokens_of a ++ l) (tokens_append b ((n, j) ∷ (m, k) ∷ [])
    ∙ ap (λ (l : List Token). tokens_of b ++ ((Token.key n ∷ json_tokens j) ++ (Token.key m ∷ l))) (append-nil (json_tokens k)))
