-- What signature nodes say.
use Rattle.std.proofs.Common.{◌≡◌, ◌+◌, ◌<◌, ◌≤◌, ℕ, List, [], ◌∷◌, ◌++◌, length, take, map, Option, Some, get_or, refl, ap, sym, ◌∙◌, arith}
use Rattle.std.specs.Option.{option_map}
use Rattle.std.proofs.lemmas.List.{map_more, map_push, take_all}
use Rattle.uimg_base.specs.declared.spans.Span.{Span}
use Rattle.uimg_blob_reading.specs.{Indexed.{name_span, value_of, value_span}, Rows.Row}
use Rattle.uimg_blob_reading.specs.declared.keys.Key.TheVariants.{Algo, KeyName, Padding}
use Rattle.uimg_fit_base.specs.Files.{bytes_in}
use Rattle.json.specs.{Json.Json, Token.Token, Tree.json_tokens}
use Rattle.uimg_printing.{specs.Members.{Member, tokens_of}, proofs.StepLaws.tokens_append}
use Rattle.uimg_info.specs.{Members.Fact, Signatures.{facts_by, signature_facts}}

-- the tokens of members that end with two of given values and others
pub tokens_then : (a b more : List Member) (n m : List ℕ) (j k : Json)
    → tokens_of (a ++ (b ++ (n, j) ∷ (m, k) ∷ more)) ≡ tokens_of a ++ (tokens_of b ++ ((Token.key n ∷ json_tokens j) ++ ((Token.key m ∷ json_tokens k) ++ tokens_of more)))
tokens_then a b more n m j k =
    tokens_append a (b ++ (n, j) ∷ (m, k) ∷ more) ∙ ap (λ (l : List Token). tokens_of a ++ l) (tokens_append b ((n, j) ∷ (m, k) ∷ more))

-- by the rows of the configuration and of the node
pub said_by : (file : List ℕ) (configuration node : Option Row) (its row : Row) (name_its name_node : Span) (algo padding key : Option Span)
    → configuration ≡ Some its → node ≡ Some row → name_its ≡ name_span its → name_node ≡ name_span row → algo ≡ option_map value_span (value_of row Algo)
    → padding ≡ option_map value_span (value_of row Padding) → key ≡ option_map value_span (value_of row KeyName)
    → signature_facts (bytes_in file (Some name_its)) (bytes_in file (Some name_node)) (bytes_in file algo) (bytes_in file padding) (bytes_in file key) ≡ facts_by file configuration node
said_by file configuration node its row name_its name_node algo padding key c n a b d e f = rw (c, n, a, b, d, e, f) refl

module _ {X Y Z : Type 0} (read : X → Z) (said : Y → Z) (xs : List X) (ys : List Y) (i : ℕ) where
  -- one more
  pub read_more : (x : X) (y : Y) (new : List X) → new ≡ xs ++ x ∷ [] → i < length ys → map read xs ≡ map said (take i ys) → read x ≡ said (get_or ys i y) → map read new ≡ map said (take (i + 1) ys)
  read_more x y new is within before one =
      ap (map read) is ∙ map_push read xs x ∙ ap (λ (l : List Z). l ++ read x ∷ []) before ∙ ap (λ (z : Z). map said (take i ys) ++ z ∷ []) one ∙ sym (map_more said ys i y within)

  pub read_all : length ys ≤ i → map read xs ≡ map said (take i ys) → map read xs ≡ map said ys
  read_all past before = before ∙ ap (map said) (take_all i ys past)
