-- An encoding of trees by which proofs distinguish them.
use Rattle.std.specs.Prelude.{◌≡◌, ℕ, List, [], ◌∷◌, ◌++◌, Option, Some, None, refl}
use Rattle.std.specs.Coded.{Coded, code_by, coded_list, coded_option, coded×, coded_ℕ}
use Rattle.std.proofs.Common.{ap, sym, ◌∙◌, append_assoc, append-nil}
use Rattle.uimg_blob_reading.specs.Plain.{NamedOf, no_node, a_node}
use Rattle.uimg_blob_writing.specs.Content.{Content, Unread, bytes, file}

-- a value as bytes and, of a file, its size
abbrev content_pair : Content → List ℕ × Option ℕ
content_pair (bytes b) = (b, None)
content_pair (file name size) = (name, Some size)

abbrev pair_content : List ℕ → Option ℕ → Content
pair_content b None = bytes b
pair_content name (Some size) = file name size

abbrev content_back : (c : Content) → pair_content ((content_pair c).0) ((content_pair c).1) ≡ c
content_back (bytes b) = refl
content_back (file name size) = refl

abbrev content_code : Coded Content
content_code =
    code_by (List ℕ × Option ℕ) (coded× (coded_list coded_ℕ) (coded_option coded_ℕ)) content_pair
    (λ p. pair_content p.0 p.1) content_back

abbrev named_code : Coded (NamedOf Content)
named_code =
    code_by (List ℕ × Content) (coded× (coded_list coded_ℕ) content_code) (λ p. (p.name, p.value))
    (λ q. record { name = q.0; value = q.1 }) (λ _. refl)

-- A step that builds nodes: none, or a node over the last two.
abbrev BuildStep : Type 0
BuildStep = Option (List ℕ × List (NamedOf Content))

-- the steps that build nodes
abbrev steps : Unread → List BuildStep
steps no_node = None ∷ []
steps (a_node name own below after) = steps below ++ (steps after ++ Some (name, own) ∷ [])

-- what the steps build on a stack of trees
abbrev built_by : List BuildStep → List Unread → List Unread
built_by [] ts = ts
built_by (None ∷ ss) ts = built_by ss (no_node ∷ ts)
built_by (Some s ∷ ss) (after ∷ below ∷ ts) = built_by ss (a_node s.0 s.1 below after ∷ ts)
built_by (Some s ∷ ss) (after ∷ []) = built_by ss []
built_by (Some s ∷ ss) [] = built_by ss []

abbrev first_tree : List Unread → Unread
first_tree [] = no_node
first_tree (t ∷ ts) = t

pub built-steps : (t : Unread) (ss : List BuildStep) (ts : List Unread)
    → built_by (steps t ++ ss) ts ≡ built_by ss (t ∷ ts)
built-steps no_node ss ts = refl
built-steps (a_node name own below after) ss ts =
    ap (λ (l : List BuildStep). built_by l ts)
    (append_assoc (steps below) (steps after ++ Some (name, own) ∷ []) ss)
    ∙ built-steps below ((steps after ++ Some (name, own) ∷ []) ++ ss) ts
    ∙ ap (λ (l : List BuildStep). built_by l (below ∷ ts))
    (append_assoc (steps after) (Some (name, own) ∷ []) ss)
    ∙ built-steps after (Some (name, own) ∷ ss) (below ∷ ts)

pub back : (t : Unread) → first_tree (built_by (steps t) []) ≡ t
back t =
    ap (λ (l : List BuildStep). first_tree (built_by l []))
    (sym (append-nil (steps t))) ∙ ap first_tree
    (built-steps t [] [])

abbrev pub unread_code : Coded Unread
unread_code =
    code_by (List BuildStep)
    (coded_list (coded_option (coded× (coded_list coded_ℕ) (coded_list named_code)))) steps
    (λ ss. first_tree (built_by ss [])) back
