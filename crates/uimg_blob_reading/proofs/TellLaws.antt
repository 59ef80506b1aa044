-- What is told of a node's properties, token by token.
use Rattle.std.proofs.Common.{◌≡◌, ◌≤◌, ◌+◌, ◌*◌, ℕ, List, [], ◌∷◌, ◌++◌, length, map, Option, Some, Result, Ok, Err, true, refl, ap, sym, ◌∙◌, subst, cond, append_assoc, append-nil, IsTrue, arith}
use Rattle.std.specs.{Prelude.{IsErrAnd, Vec}, List.{count_by, slice_get}, Option.option_map}
use Rattle.std.proofs.lemmas.{Result.err_from_is_err_and, List.{map-append, Sums.sum_by-cons}}
use Rattle.uimg_texts.specs.Numbers.{up4}
use Rattle.uimg_base.specs.{declared.spans.Span.Span, Device.{Device, SameDevice}, Results.◌>>=◌}
use Rattle.uimg_blob_reading.specs.{Blob.tree, declared.properties.PropertiesFault.PropertiesFault}
use Rattle.uimg_blob_reading.specs.{Spots.spot_of, Rows.{Row, table}, Owns.{own_of, LeftFrom}}
use Rattle.uimg_blob_reading.specs.{declared.fault.BlobFault.BlobFault, Plain.{NamedOf, with_value}}
use Rattle.uimg_blob_reading.specs.declared.fault.IndexFault.{IndexFault, TheVariants.Blob}
use Rattle.uimg_blob_reading.specs.{declared.extent.Extent.Extent, Extents.{blocks_of, GivesBlocks}}
use Rattle.uimg_blob_reading.specs.{declared.places.PropertyPlace.PropertyPlace, Grammar.Siblings}
use Rattle.uimg_blob_reading.specs.{Counts.{is_nop, nops_met}, Indexed.{name_span, value_span}}
use Rattle.uimg_blob_reading.specs.declared.places.Met.TheVariants as met
use Rattle.uimg_blob_reading.specs.declared.properties.PropertiesFault.TheVariants.{Read, OutOfMemory, Changed}
use Rattle.uimg_blob_reading.specs.Tokens.{Property, Token, Blocks, prop, nop, token_at, next, tokens_from}
use Rattle.uimg_blob_reading.specs.Places.{read_place, placed, is_edge, is_strange, IsMet, meeting_cost}
use Rattle.uimg_blob_reading.specs.Properties.{places_of, telling_cost, TellsPlaces, TookFrom, TookAll, TakesOne, FindsBlocks}
use Rattle.uimg_blob_reading.proofs.PhaseLaws.{some_none, some_some, true_false}
use Rattle.uimg_blob_reading.proofs.{OwnLaws.own_stands, PropertyLaws.over}

-- The first token, and what stands from the next place on.
record First (b : Blocks) (at : ℕ) (t : Token) (own : List Property) (nops : ℕ) : Type 0 where
  fuel : ℕ
  is : own_of (t ∷ tokens_from fuel b (next t)) ≡ Some own
  few : count_by is_nop (t ∷ tokens_from fuel b (next t)) ≤ nops

first_by : (b : Blocks) (at : ℕ) (own : List Property) (nops fuel : ℕ) → own_of (tokens_from fuel b (Some at)) ≡ Some own → count_by is_nop (tokens_from fuel b (Some at)) ≤ nops
    → First b at (token_at b at) own nops
unfolding tokens_from own_of
first_by b at own nops fuel is few = grind (arith, some_none)

first_of : (b : Blocks) (at : ℕ) (t : Token) (own : List Property) (nops : ℕ) → token_at b at ≡ t → LeftFrom b at own nops → First b at t own nops
first_of b at t own nops same left = subst (λ (k : Token). First b at k own nops) same (first_by b at own nops left.fuel left.is left.few)

mapped : {A B : Type 0} (f : A → B) (o : Option A) (y : B) → option_map f o ≡ Some y → (x : A) × (o ≡ Some x) × (f x ≡ y)
mapped f o y h = grind (arith, some_none, some_some)

-- a property, and the others
left_property : (b : Blocks) (at : ℕ) (p : Property) (own : List Property) (nops : ℕ) → First b at (prop at (Ok p)) own nops
    → (rest : List Property) × (p ∷ rest ≡ own) × LeftFrom b (at + 12 + up4 (length p.value)) rest nops
unfolding own_of
left_property b at p own nops first = grind (arith, mapped, sum_by-cons)

-- an FDT_NOP
left_nop : (b : Blocks) (at : ℕ) (own : List Property) (nops : ℕ) → First b at (nop at) own nops → (fewer : ℕ) × (fewer + 1 ≤ nops) × LeftFrom b (at + 4) own fewer
unfolding own_of
left_nop b at own nops first =
    let us : List Token = tokens_from first.fuel b (Some (at + 4)) in
    (count_by is_nop us, omega (arith, first.few, sum_by-cons (λ k. cond (is_nop k) 1 0) (nop at) us), record { fuel = first.fuel; is = first.is; few = omega arith })

-- a token that begins or ends a node
left_edge : (t : Token) (us : List Token) (own : List Property) → is_edge t ≡ true → own_of (t ∷ us) ≡ Some own → [] ≡ own
unfolding own_of
left_edge t us own edge is = grind (arith, some_some, true_false)

left_strange : (t : Token) (us : List Token) (own : List Property) → is_strange t ≡ true → own_of (t ∷ us) ≡ Some own → ⊥
unfolding own_of
left_strange t us own strange is = grind (arith, some_none, true_false)

cost_by : (t : Token) (us : List Token) (own : List Property) (nops : ℕ) → own_of (t ∷ us) ≡ Some own → meeting_cost t ≤ telling_cost own nops
unfolding own_of
cost_by t us own nops is = grind (arith, mapped, some_none)

-- a token is paid for by what is left
pub paid_left : (b : Blocks) (at : ℕ) (own : List Property) (nops base asked : ℕ) → asked ≤ base + meeting_cost (token_at b at) → LeftFrom b at own nops → asked ≤ base + telling_cost own nops
paid_left b at own nops base asked paid left =
    let first = first_of b at (token_at b at) own nops refl left in
    omega (arith, paid, cost_by (token_at b at) (tokens_from first.fuel b (next (token_at b at))) own nops first.is)

one_more : (file : List ℕ) (old : List PropertyPlace) (x : PropertyPlace) (p : Property) (rest : List Property) → read_place file x ≡ placed p
    → map (read_place file) (old ++ x ∷ []) ++ map placed rest ≡ map (read_place file) old ++ map placed (p ∷ rest)
one_more file old x p rest same =
    ap (λ (l : List (NamedOf Span)). l ++ map placed rest) (map-append (read_place file) old (x ∷ []))
    ∙ append_assoc (map (read_place file) old) (read_place file x ∷ []) (map placed rest)
    ∙ ap (λ (n : NamedOf Span). map (read_place file) old ++ n ∷ map placed rest) same

-- a property is told
pub takes_place : (b : Blocks) (at size : ℕ) (own : List Property) (nops : ℕ) (x : PropertyPlace) (old new : List PropertyPlace) (base asked : ℕ) → IsMet b.bytes at (token_at b at) (met.Place x)
    → size ≡ up4 x.value.length → new ≡ old ++ x ∷ [] → asked ≤ base + meeting_cost (token_at b at) → LeftFrom b at own nops → TookFrom b (at + 12 + size) own nops old new base asked
takes_place b at size own nops x old new base asked m sized grows paid left =
    let p : Property = m.0 in
    let l = left_property b at p own nops (first_of b at (prop at (Ok p)) own nops m.1 left) in
    let behind : at + 12 + up4 (length p.value) ≡ at + 12 + size = ap (λ (s : NamedOf Span). at + 12 + up4 s.value.length) (sym m.2) ∙ ap (λ (k : ℕ). at + 12 + k) (sym sized) in
    record {
      rest = l.0;
      rest_nops = nops;
      left = subst (λ (k : ℕ). LeftFrom b k l.0 nops) behind l.2;
      are = ap (λ (ps : List PropertyPlace). map (read_place b.bytes) ps ++ map placed l.0) grows ∙ one_more b.bytes old x p l.0 m.2
          ∙ ap (λ (ps : List Property). map (read_place b.bytes) old ++ map placed ps) l.1;
      paid = omega (arith, paid, ap meeting_cost m.1, ap length l.1);
    }

-- an FDT_NOP is passed over
pub takes_nop : (b : Blocks) (at : ℕ) (own : List Property) (nops : ℕ) (old : List PropertyPlace) (base asked : ℕ) → token_at b at ≡ nop at
    → asked ≤ base + meeting_cost (token_at b at) → LeftFrom b at own nops → TookFrom b (at + 4) own nops old old base asked
takes_nop b at own nops old base asked is paid left =
    let l = left_nop b at own nops (first_of b at (nop at) own nops is left) in
    record { rest = own; rest_nops = l.0; left = l.2; are = refl; paid = omega (arith, paid, ap meeting_cost is, l.1) }

-- nothing is left
pub takes_edge : (b : Blocks) (at : ℕ) (own : List Property) (nops : ℕ) (old : List PropertyPlace) (base asked : ℕ) → is_edge (token_at b at) ≡ true
    → asked ≤ base + meeting_cost (token_at b at) → LeftFrom b at own nops → TookAll b.bytes own nops old old base asked
takes_edge b at own nops old base asked edge paid left =
    let first = first_of b at (token_at b at) own nops refl left in
    let none = left_edge (token_at b at) (tokens_from first.fuel b (next (token_at b at))) own edge first.is in
    record {
      are = sym (append-nil (map (read_place b.bytes) old)) ∙ ap (λ (ps : List Property). map (read_place b.bytes) old ++ map placed ps) none;
      paid = paid_left b at own nops base asked paid left;
    }

pub takes_strange : (b : Blocks) (at : ℕ) (own : List Property) (nops : ℕ) → is_strange (token_at b at) ≡ true → LeftFrom b at own nops → ⊥
takes_strange b at own nops strange left =
    let first = first_of b at (token_at b at) own nops refl left in
    left_strange (token_at b at) (tokens_from first.fuel b (next (token_at b at))) own strange first.is

-- a token more
pub took_more : (b : Blocks) (at later : ℕ) (own : List Property) (nops : ℕ) (old new grown : List PropertyPlace) (base asked now : ℕ) (t : TookFrom b at own nops old new base asked)
    → TookFrom b later t.rest t.rest_nops new grown asked now → TookFrom b later own nops old grown base now
took_more b at later own nops old new grown base asked now t k =
    record { rest = k.rest; rest_nops = k.rest_nops; left = k.left; are = k.are ∙ t.are; paid = omega (arith, k.paid, t.paid) }

-- the end
pub took_all : (b : Blocks) (at : ℕ) (own : List Property) (nops : ℕ) (new grown : List PropertyPlace) (base asked now : ℕ) (t : TookFrom b at own nops [] new base asked)
    → TookAll b.bytes t.rest t.rest_nops new grown asked now → (map (read_place b.bytes) grown ≡ map placed own) × (now ≤ base + telling_cost own nops)
took_all b at own nops new grown base asked now t k = (k.are ∙ t.are, omega (arith, k.paid, t.paid))

-- a refusal
pub took_err : {Z : Type 0} (b : Blocks) (at : ℕ) (own : List Property) (nops : ℕ) (new grown : List PropertyPlace) (base asked now : ℕ) (t : TookFrom b at own nops [] new base asked)
    (e : PropertiesFault) (r : Result (Vec PropertyPlace Z) PropertiesFault) → r ≡ Err e → TakesOne b t.rest t.rest_nops (Err e) new grown asked now
    → TellsPlaces b.bytes (map placed own) r × (now ≤ base + telling_cost own nops)
took_err {Z = Z} b at own nops new grown base asked now t Read r is k =
    (subst (λ (q : Result (Vec PropertyPlace Z) PropertiesFault). TellsPlaces b.bytes (map placed own) q) (sym is) tt, omega (arith, k, t.paid))
took_err {Z = Z} b at own nops new grown base asked now t OutOfMemory r is k =
    (subst (λ (q : Result (Vec PropertyPlace Z) PropertiesFault). TellsPlaces b.bytes (map placed own) q) (sym is) tt, omega (arith, k, t.paid))
took_err {Z = Z} b at own nops new grown base asked now t Changed r is k = absurd k

pub passed : {X E : Type 0} (r : Result X E) (e : E) → IsErrAnd r (λ f. f ≡ e) → r ≡ Err e
passed {E = E} r e h = let x = err_from_is_err_and r h in x.1 ∙ ap (λ (f : E). Err f) x.2

-- a step over a source that is what it was
pub step_over : (d e : Device) (x : Extent) (at : ℕ) (r : Result (Option ℕ) PropertiesFault) (old new : List PropertyPlace) (now : ℕ) → SameDevice d e
    → (IsTrue e.honest → (own : List Property) (nops : ℕ) → LeftFrom (blocks_of e.bytes x) at own nops → TakesOne (blocks_of e.bytes x) own nops r old new e.asked now)
    → IsTrue d.honest → (own : List Property) (nops : ℕ) → LeftFrom (blocks_of d.bytes x) at own nops → TakesOne (blocks_of d.bytes x) own nops r old new e.asked now
step_over d e x at r old new now same told =
    over d e (λ bytes. (own : List Property) (nops : ℕ) → LeftFrom (blocks_of bytes x) at own nops → TakesOne (blocks_of bytes x) own nops r old new e.asked now) same told

-- what a row says of its properties
pub places_are : (own : List Property) → map placed own ≡ map (with_value value_span) (map spot_of own)
places_are [] = refl
places_are (p ∷ own) = ap (λ (l : List (NamedOf Span)). placed p ∷ l) (places_are own)

-- a file that has a tree has blocks
pub no_fault : (file : List ℕ) (t : Siblings) (e : IndexFault) (fault : BlobFault) (at : ℕ) → tree file ≡ Ok t → e ≡ Blob fault at → GivesBlocks file (Err e) → ⊥
unfolding tree
no_fault file t e fault at is named gives = grind arith

-- what is told of a row
pub told_row : {Z : Type 0} (d e : Device) (x : Extent) (t : Siblings) (node : ℕ) (row : Row) (name : Span) (size : ℕ) (r q : Result (Vec PropertyPlace Z) PropertiesFault) (now : ℕ) → q ≡ r → SameDevice d e
    → tree d.bytes ≡ Ok t → FindsBlocks d.bytes (Ok x) → slice_get (table t) node ≡ Some row → name ≡ name_span row → size ≡ up4 (name.length + 1) → e.asked ≤ d.asked + 40
    → (IsTrue e.honest → (own : List Property) (nops : ℕ) → LeftFrom (blocks_of e.bytes x) (name.place + size) own nops → TellsPlaces e.bytes (map placed own) r × (now ≤ e.asked + telling_cost own nops))
    → IsTrue d.honest → TellsPlaces d.bytes (places_of row) q × (now ≤ d.asked + (44 + 268 * length row.own + 4 * nops_met d.bytes))
told_row {Z = Z} d e x t node row name size r q now answer same is header at named sized paid told honest =
    let there : row.at + 4 + up4 (length row.name + 1) ≡ name.place + size = ap (λ (s : Span). s.place + up4 (s.length + 1)) (sym named) ∙ ap (λ (k : ℕ). name.place + k) (sym sized) in
    let left = subst (λ (k : ℕ). LeftFrom (blocks_of d.bytes x) k row.own (nops_met d.bytes)) there (own_stands d.bytes (blocks_of d.bytes x) t node row is header at) in
    let all = over d e (λ bytes. (own : List Property) (nops : ℕ) → LeftFrom (blocks_of bytes x) (name.place + size) own nops → TellsPlaces bytes (map placed own) r × (now ≤ e.asked + telling_cost own nops))
    same told honest row.own (nops_met d.bytes) left in
    let rows = subst (λ (said : List (NamedOf Span)). TellsPlaces d.bytes said r) (places_are row.own) all.0 in
    (subst (λ (k : Result (Vec PropertyPlace Z) PropertiesFault). TellsPlaces d.bytes (places_of row) k) (sym answer) rows, omega (arith, all.1, paid))
