-- The phases of a pass over the tokens, and what a token does.
use Rattle.std.specs.Prelude.{map, ◌≡◌, ◌+◌, ℕ, ◌*◌, ◌-◌, ◌≤◌, ◌<◌, List, [], ◌∷◌, ◌++◌, length, ⊤}
use Rattle.std.specs.Prelude.{Option, Some, None, Result, Ok, Err, Bool, true, false, IsTrue, OnOk}
use Rattle.std.specs.{List.{AllByRecursion, sum_by}, Option.is_some}
use Rattle.uimg_blob_reading.specs.declared.fault.BlobFault.{BlobFault, TheVariants.BadNesting}
use Rattle.uimg_blob_reading.specs.declared.fault.IndexFault.{IndexFault, TheVariants.{Blob, Read}}
use Rattle.uimg_blob_reading.specs.{declared.states.State.State, Reading.Fault, Blob.met_in}
use Rattle.uimg_blob_reading.specs.Tokens.{Property, Token, Blocks, token_at, tokens_from, tokens}
use Rattle.uimg_blob_reading.specs.Tokens.{next, begin_node, end_node, prop, nop, last, stray}
use Rattle.uimg_blob_reading.specs.{Grammar.{Siblings, none, node}, Counts.{weight, begun_by}}
use Rattle.uimg_blob_reading.specs.{Faults.refuses_memory, Rows.child_number, SoFar.entries_so_far}
use Rattle.uimg_blob_reading.specs.Roles.{Level, in_root, in_images, in_image, in_configurations}
use Rattle.uimg_blob_reading.specs.Roles.{elsewhere, level_after, is_images, is_configurations}
use Rattle.uimg_blob_reading.specs.Roles.{is_images_role, is_configurations_role}
use Rattle.uimg_blob_reading.specs.declared.roles.Role.{Role, TheVariants.{Signature, Other}}
use Rattle.uimg_blob_reading.specs.declared.roles.Role.TheVariants.{Root, Images, Image, Hash}
use Rattle.uimg_blob_reading.specs.declared.roles.Role.TheVariants.{Configurations, Configuration}
use Rattle.uimg_blob_reading.specs.Walk.{Open, opened, close, as_node, walk, begun, finished}
use Rattle.uimg_blob_reading.specs.Kept.{Kept, kept_of, entry_of, entries, LiesIn, number_of_role}
use Rattle.uimg_blob_reading.specs.SoFar.{so_far, next_number, innermost, next_level}

-- inside open nodes, at first none, or after the root
pub data Phase : Type 0 where
  inside : List Open → Phase
  after : Open → Phase

-- the result of the remaining tokens
abbrev pub left_after : Phase → List Token → Result Siblings Fault
left_after (inside []) ts = begun ts
left_after (inside (o ∷ ls)) ts = walk o ls ts
left_after (after o) ts = finished (as_node o) ts

-- the entries so far
abbrev pub entries_at : Phase → List (List ℕ)
entries_at (inside ls) = entries_so_far ls
entries_at (after o) = entries (as_node o)

-- the nodes so far
abbrev pub nodes_at : Phase → List Kept
nodes_at (inside ls) = so_far ls
nodes_at (after o) = kept_of (as_node o)

-- the offset of the node that a token begins
abbrev pub begin_place : Token → List ℕ
begin_place (begin_node at name) = at ∷ []
begin_place (end_node at) = []
begin_place (prop at p) = []
begin_place (nop at) = []
begin_place (last at) = []
begin_place (stray at fault) = []

-- the offsets of the nodes that the tokens begin
abbrev pub begin_places : List Token → List ℕ
begin_places [] = []
begin_places (t ∷ ts) = begin_place t ++ begin_places ts

-- the open nodes
abbrev pub stack : Phase → List Open
stack (inside ls) = ls
stack (after o) = []

-- the pass goes on, or ends with a result
pub data PassStep : Type 0 where
  on : Phase → PassStep
  stop : Result Siblings Fault → PassStep

abbrev pub begins_in : Phase → ℕ → Result (List ℕ) BlobFault → PassStep
begins_in (inside ls) at (Ok name) = on (inside (opened at name [] none ∷ ls))
begins_in (inside ls) at (Err fault) = stop (Err (fault, at))
begins_in (after o) at name = stop (Err (BadNesting, at))

abbrev pub ends_in : Phase → ℕ → PassStep
ends_in (inside []) at = stop (Err (BadNesting, at))
ends_in (inside (o ∷ [])) at = on (after o)
ends_in (inside (o ∷ parent ∷ ls)) at = on (inside (close o parent ∷ ls))
ends_in (after o) at = stop (Err (BadNesting, at))

abbrev pub prop_in : Phase → ℕ → Result Property BlobFault → PassStep
prop_in (inside []) at p = stop (Err (BadNesting, at))
prop_in (inside (opened place name own none ∷ ls)) at (Ok p) =
    on (inside (opened place name (own ++ p ∷ []) none ∷ ls))
prop_in (inside (opened place name own none ∷ ls)) at (Err fault) = stop (Err (fault, at))
prop_in (inside (opened place name own (node a b c d e) ∷ ls)) at p = stop (Err (BadNesting, at))
prop_in (after o) at p = stop (Err (BadNesting, at))

abbrev pub last_in : Phase → ℕ → PassStep
last_in (inside ls) at = stop (Err (BadNesting, at))
last_in (after o) at = stop (Ok (as_node o))

-- what a token does
abbrev pub step : Phase → Token → PassStep
step p (begin_node at name) = begins_in p at name
step p (end_node at) = ends_in p at
step p (prop at x) = prop_in p at x
step p (nop at) = on p
step p (last at) = last_in p at
step p (stray at fault) = stop (Err (fault, at))

-- a step followed by the next token's, if the pass goes on
abbrev pub then_step : PassStep → Token → PassStep
then_step (on p) t = step p t
then_step (stop r) t = stop r

-- a step followed by those of the tokens in turn
abbrev pub in_turn : PassStep → List Token → PassStep
in_turn x [] = x
in_turn x (t ∷ ts) = in_turn (then_step x t) ts

-- the result of a step and the tokens after it
abbrev pub then_left : PassStep → List Token → Result Siblings Fault
then_left (on p) ts = left_after p ts
then_left (stop r) ts = r

-- the root has ended
abbrev pub is_after : Phase → Bool
is_after (inside ls) = false
is_after (after o) = true

-- the token ends the tree
abbrev pub is_done : Phase → Token → Bool
is_done (inside ls) t = false
is_done (after o) (begin_node at name) = false
is_done (after o) (end_node at) = false
is_done (after o) (prop at p) = false
is_done (after o) (nop at) = false
is_done (after o) (last at) = true
is_done (after o) (stray at fault) = false

-- the number of the innermost node, if a property is allowed in it
abbrev pub bare : Phase → Option ℕ
bare (inside []) = None
bare (inside (opened at name own none ∷ ls)) = Some (next_number ls)
bare (inside (opened at name own (node a b c d e) ∷ ls)) = None
bare (after o) = None

-- the level of further children of the root, once the open one is closed
abbrev pub root_level : List Open → Level
root_level [] = in_root false false
root_level (o ∷ []) = next_level (o ∷ [])
root_level (opened at name own below ∷ p ∷ []) = level_after (next_level (p ∷ [])) name
root_level (o ∷ p ∷ q ∷ ls) = root_level (p ∷ q ∷ ls)

-- the level of a node's children, from its role and the children that the root had already
abbrev pub child_level : Role → Bool → Bool → Level
child_level Root had_images had_configurations = in_root had_images had_configurations
child_level Images had_images had_configurations = in_images
child_level Image had_images had_configurations = in_image
child_level Hash had_images had_configurations = elsewhere
child_level Signature had_images had_configurations = elsewhere
child_level Configurations had_images had_configurations = in_configurations
child_level Configuration had_images had_configurations = in_image
child_level Other had_images had_configurations = elsewhere

-- the number of `images` after one more node
abbrev pub noted_images : Role → ℕ → Option ℕ → Option ℕ
noted_images Root n found = found
noted_images Images n found = Some n
noted_images Image n found = found
noted_images Hash n found = found
noted_images Signature n found = found
noted_images Configurations n found = found
noted_images Configuration n found = found
noted_images Other n found = found

-- the number of `configurations` after one more node
abbrev pub noted_configurations : Role → ℕ → Option ℕ → Option ℕ
noted_configurations Root n found = found
noted_configurations Images n found = found
noted_configurations Image n found = found
noted_configurations Hash n found = found
noted_configurations Signature n found = found
noted_configurations Configurations n found = Some n
noted_configurations Configuration n found = found
noted_configurations Other n found = found

-- all kept values have offsets above 0
abbrev pub IsPlaced : Open → Type 0
IsPlaced (opened at name own below) = AllByRecursion (λ q. 0 < q.place) own

abbrev pub IsMarked : Phase → State → Type 0
IsMarked (inside ls) s = root_level ls ≡ in_root (is_some s.images) (is_some s.configurations)
IsMarked (after o) s = ⊤

-- The state and the entries are those of a phase.
pub record InPhase (p : Phase) (s : State) (es : List (List ℕ)) : Type 0 where
  pub entries : es ≡ entries_at p
  pub current : s.current ≡ innermost (stack p)
  pub marks : IsMarked p s
  pub placed : AllByRecursion IsPlaced (stack p)
  pub few : 8 * length es ≤ s.at
  pub images : s.images ≡ number_of_role is_images_role 0 (nodes_at p)
  pub configurations : s.configurations ≡ number_of_role is_configurations_role 0 (nodes_at p)

-- The result is that of the step, unless memory was refused: then the entries are unchanged.
abbrev pub Goes : PassStep → Option ℕ → Result State IndexFault → List (List ℕ) → List (List ℕ)
    → Type 0
Goes x following (Ok s) old new =
    (q : Phase) × (x ≡ on q) × (following ≡ Some s.at) × InPhase q s new
Goes x following (Err (Blob fault at)) old new =
    (new ≡ old) × (refuses_memory fault ≡ false → x ≡ stop (Err (fault, at)))
Goes x following (Err Read) old new = new ≡ old

-- As Goes, or the last token ends the pass.
abbrev pub Acts : PassStep → Option ℕ → Result (Option State) IndexFault → List (List ℕ)
    → List (List ℕ)
    → Type 0
Acts x following (Ok (Some s)) old new = Goes x following (Ok s) old new
Acts x following (Ok None) old new =
    (o : Open) × (x ≡ stop (Ok (as_node o))) × (new ≡ entries (as_node o)) × (new ≡ old)
Acts x following (Err e) old new = Goes x following (Err e) old new

-- Memory is refused only for a node that begins, at its offset.
abbrev pub RefusesMemory : {X : Type 0} → Token → Result X IndexFault → Type 0
RefusesMemory t (Ok x) = ⊤
RefusesMemory t (Err (Blob fault at)) = refuses_memory fault ≡ true → begin_place t ≡ at ∷ []
RefusesMemory t (Err Read) = ⊤

-- What a token names ends at `limit` or before; no value is at offset 0.
abbrev pub TokenLies : ℕ → Token → Type 0
TokenLies limit (begin_node at (Ok name)) = at + 4 + length name ≤ limit
TokenLies limit (begin_node at (Err fault)) = ⊤
TokenLies limit (end_node at) = ⊤
TokenLies limit (prop at (Ok p)) = (0 < p.place) × (p.place + length p.value ≤ limit)
TokenLies limit (prop at (Err fault)) = ⊤
TokenLies limit (nop at) = ⊤
TokenLies limit (last at) = ⊤
TokenLies limit (stray at fault) = ⊤

-- What a token did; of a source that is not honest, some token.
pub record PassesToken (honest : Bool) (b : Blocks) (p : Phase) (at : ℕ)
    (result : Result (Option State) IndexFault) (old new : List (List ℕ)) : Type 0 where
  pub token : Token
  pub is : IsTrue honest → token ≡ token_at b at
  pub acts : Acts (step p token) (next token) result old new
  pub refuses : RefusesMemory token result
  pub lies : OnOk result (TokenLies b.structure_end token)

-- The result is a tree with these entries, or its first fault, unless a read or a growth failed.
abbrev pub Indexes : {X : Type 0} → Result Siblings Fault → Result X IndexFault → List (List ℕ)
    → Type 0
Indexes whole (Ok x) es = (t : Siblings) × (whole ≡ Ok t) × (es ≡ entries t)
Indexes whole (Err (Blob fault at)) es = refuses_memory fault ≡ false → whole ≡ Err (fault, at)
Indexes whole (Err Read) es = ⊤

-- a sum over the given tokens that are met
abbrev pub sum_from : (Token → ℕ) → Result Siblings Fault → List Token → ℕ
sum_from f whole ts = sum_by f (met_in whole ts)

-- The tokens before an offset were taken in turn. The remaining tokens give the result of all, and
-- the costs so far and to come are within those of all tokens.
pub record Rest (b : Blocks) (whole : Result Siblings Fault) (p : Phase) (at base asked nodes : ℕ)
    : Type 0 where
  pub fuel : ℕ
  pub enough : b.structure_end - at < fuel
  pub taken : List Token
  pub all : tokens b ≡ taken ++ tokens_from fuel b (Some at)
  pub reached : in_turn (on (inside [])) taken ≡ on p
  pub is : whole ≡ left_after p (tokens_from fuel b (Some at))
  pub costs : asked + 4 * length (stack p) + sum_from weight whole
      (tokens_from fuel b (Some at)) ≤ base + sum_from weight whole (tokens b)
  pub places : begin_places (tokens b) ≡ map (λ k. k.at) (nodes_at p) ++ begin_places
      (tokens_from fuel b (Some at))
  pub begun : nodes + sum_from begun_by whole
      (tokens_from fuel b (Some at)) ≤ sum_from begun_by whole (tokens b)

-- The state of a pass: some phase holds, and over an honest source `Rest` does.
pub record Pass (honest : Bool) (b : Blocks) (whole : Result Siblings Fault) (s : State)
    (es : List (List ℕ)) (base asked : ℕ) : Type 0 where
  pub phase : Phase
  pub holds : InPhase phase s es
  pub lies : AllByRecursion (LiesIn b.structure_end) (nodes_at phase)
  pub rest : IsTrue honest → Rest b whole phase s.at base asked (length es)

-- What a pass requested and kept is within the counts of the tokens.
pub record Within (b : Blocks) (whole : Result Siblings Fault) (base asked : ℕ) (es : List (List ℕ))
    : Type 0 where
  pub costs : asked ≤ base + 4 + sum_from weight whole (tokens b)
  pub nodes : length es ≤ sum_from begun_by whole (tokens b)

-- the tokens of a file; none if the header is refused
abbrev pub tokens_in : Result Blocks Fault → List Token
tokens_in (Ok b) = tokens b
tokens_in (Err e) = []

-- If memory was refused, the entries are those of the first nodes; the fault is at the next node.
abbrev pub IsPrefix : {X : Type 0} → List Token → Result X IndexFault → List (List ℕ) → Type 0
IsPrefix ts (Ok x) es = ⊤
IsPrefix ts (Err (Blob fault at)) es = refuses_memory fault ≡ true
    → (ks : List Kept) × (es ≡ map entry_of ks) × (more : List ℕ)
    × (begin_places ts ≡ map (λ k. k.at) ks ++ at ∷ more)
IsPrefix ts (Err Read) es = ⊤

-- A token is refused in a phase: the pass stops with the fault, or memory was refused for the node
-- that it begins at the fault's offset. A read may fail at any token.
abbrev pub IsRefused : Phase → Token → IndexFault → Type 0
IsRefused p t (Blob fault at) = (refuses_memory fault ≡ false → step p t ≡ stop (Err (fault, at)))
    × (refuses_memory fault ≡ true → begin_place t ≡ at ∷ [])
IsRefused p t Read = ⊤

-- All tokens before one were taken in turn, and the entries are those so far; that one was refused.
pub record StopsAt (ts : List Token) (fault : IndexFault) (es : List (List ℕ)) : Type 0 where
  pub taken : List Token
  pub token : Token
  pub more : List Token
  pub all : ts ≡ taken ++ token ∷ more
  pub phase : Phase
  pub reached : in_turn (on (inside [])) taken ≡ on phase
  pub entries : es ≡ entries_at phase
  pub refused : IsRefused phase token fault

-- After a fault the entries are those so far; none if the header is refused.
abbrev pub IsSoFar : Result Blocks Fault → IndexFault → List (List ℕ) → Type 0
IsSoFar (Ok b) fault es = StopsAt (tokens b) fault es
IsSoFar (Err e) fault es = es ≡ []

-- Entries and numbers of a tree inside the blocks; over an honest source it is that of the tokens.
pub record Passed (honest : Bool) (b : Blocks) (s : State) (es : List (List ℕ)) : Type 0 where
  pub nodes : Siblings
  pub is : IsTrue honest → begun (tokens b) ≡ Ok nodes
  pub kept : es ≡ entries nodes
  pub images : s.images ≡ child_number is_images nodes
  pub configurations : s.configurations ≡ child_number is_configurations nodes
  pub lies : AllByRecursion (LiesIn b.structure_end) (kept_of nodes)
