-- A step over a token, and the walk over all of them.
use Rattle.std.proofs.Common.{◌≡◌, ℕ, zero, suc, ◌+◌, ◌-◌, ◌*◌, ◌≤◌, List, [], ◌++◌, Option, Some, None, Result, Ok, Err, Bool, true, false, IsTrue, if◌then◌else◌, refl, ap, sym, subst, ◌∙◌, ◌&&◌, not, ◌==◌, ◌<◌, inl, inr, append_assoc, append-nil, arith}
use Rattle.std.specs.Prelude.{IsErrAnd}
use Rattle.uimg_signing.specs.declared.faults.SigningFault.{SigningFault}
use Rattle.uimg_texts.specs.Slices.{slice}
use Rattle.uimg_base.specs.Device.{Device, SameDevice}
use Rattle.uimg_blob_reading.specs.declared.{extent.Extent.Extent, tokens.ReadToken.ReadToken}
use Rattle.uimg_blob_reading.specs.Tokens.{Token, begin_node, end_node, prop, nop, last, stray, Blocks, token_at, next, offset, tokens, tokens_from}
use Rattle.uimg_blob_reading.specs.{Extents.blocks_of, ReadTokens.IsReadAs}
use Rattle.uimg_signing.specs.declared.turns.{Walk.Walk, Turn.Turn}
use Rattle.uimg_signing.specs.Covering.{around, after, covers, size_of, signed_of, in_nodes, is_marked, placed_in, begins_deep}
use Rattle.uimg_signing.specs.Turning.{coded, is_last, is_property, ends_early, TurnsAt, Turns, IsShallow}
use Rattle.uimg_blob_reading.specs.Grammar.{Siblings, root, without_nops}
use Rattle.uimg_signing.specs.{Going.{GoesWell, IsBad, RefusesTurn}, Refusing.{is_named, is_unsigned, token_refusal, or_else, first_refusal, walk_refusal, RefusesToken}}
use Rattle.uimg_signing.specs.Faults.{is_unread, fault_of, Refuses}
use Rattle.uimg_signing.specs.declared.faults.SigningFault.TheVariants.{Read, OutOfMemory, Changed, TooLong, TooManyNodes, Unhashed, TooDeep, EarlyEnd, NameUnsigned, BadStrings, StringsOffset, StringsOutside}
use Rattle.uimg_signing.proofs.GoingLaws.{begins_well, last_size, well_after, bad}
use Rattle.uimg_signing.specs.Walking.{Feeds, lacks_name, signed_at, GoesOn, Passes, SoFar}

pub now_honest : {d e : Device} → SameDevice d e → IsTrue d.honest → IsTrue e.honest
now_honest same honest = subst (λ (b : Bool). IsTrue b) (sym same.honest) honest

same_piece : (p : List ℕ) (c k : Bool) (xs ys : List ℕ) (a b n m : ℕ) → p ≡ (if c then slice xs a n else []) → c ≡ k → xs ≡ ys → b ≡ a → n ≡ m → p ≡ (if k then slice ys b m else [])
same_piece p c k xs ys a b n m is covered bytes place size = cc

goes : (listed : ℕ → Bool) (nodes : List ℕ) (t : Token) (at size bits names : ℕ) (is_last : Bool) → next t ≡ (if is_last then None else Some (at + size)) → bits ≡ coded listed (after nodes t)
    → GoesOn listed nodes t (if is_last then None else Some (record { at = at + size; bits = bits; names = names }))
goes listed nodes t at size bits names true now is = now
goes listed nodes t at size bits names false now is = (now, is)

false_true : {A : Type 0} → true ≡ false → A
false_true h = absurd (grind (arith, h))

none_of : (b : Bool) → (b && false) ≡ false
none_of true = refl
none_of false = refl

equal : (a b : ℕ) → a ≡ b → (a == b) ≡ true
equal a b h = grind (arith, h)

below : (a b : ℕ) → a < b → (a == b) ≡ false
below a b h = grind (arith, h)

-- what a property's name offset costs
pub few : (property : Bool) → (if property then 4 else 0) ≤ 4
few true = omega arith
few false = omega arith

pub cost : (property : Bool) (size : ℕ) → 4 ≤ size → (property ≡ true → 12 ≤ size) → 268 + (if property then 4 else 0) + size ≤ 68 * size
cost true size some head = omega (arith, head refl)
cost false size some head = omega (arith, some)

-- a token that is not the last, or with which the block ends
not_early : (t : Token) (at size block_end : ℕ) (ends : Bool) → offset t ≡ at → size ≡ size_of t → ends ≡ is_last t → (ends ≡ true → at + size ≡ block_end) → ends_early block_end t ≡ false
not_early t at size block_end false place is last_is whole = ap (λ (b : Bool). b && not (offset t + 4 == block_end)) (sym last_is)
not_early t at size block_end true place is last_is whole =
    ap (λ (b : Bool). is_last t && not b) (equal (offset t + 4) block_end (omega (arith, place, is, last_size t (sym last_is), whole refl))) ∙ none_of (is_last t)

-- the block goes on behind the last token
pub early : (t : Token) (at size block_end : ℕ) → offset t ≡ at → size ≡ size_of t → is_last t ≡ true → at + size < block_end → ends_early block_end t ≡ true
early t at size block_end place is last_is on =
    ap (λ (b : Bool). b && not (offset t + 4 == block_end)) last_is ∙ ap (λ (b : Bool). not b) (below (offset t + 4) block_end (omega (arith, place, is, last_size t last_is, on)))

last_shallow : (nodes : List ℕ) (t : Token) → is_last t ≡ true → begins_deep (placed_in nodes t) ≡ false
last_shallow nodes (begin_node at name) h = false_true (sym h)
last_shallow nodes (end_node at) h = refl
last_shallow nodes (prop at p) h = refl
last_shallow nodes (nop at) h = refl
last_shallow nodes (last at) h = refl
last_shallow nodes (stray at fault) h = refl

property_shallow : (nodes : List ℕ) (t : Token) → is_property t ≡ true → begins_deep (placed_in nodes t) ≡ false
property_shallow nodes (begin_node at name) h = false_true (sym h)
property_shallow nodes (end_node at) h = refl
property_shallow nodes (prop at p) h = refl
property_shallow nodes (nop at) h = refl
property_shallow nodes (last at) h = refl
property_shallow nodes (stray at fault) h = refl

property_goes_on : (block_end : ℕ) (t : Token) → is_property t ≡ true → ends_early block_end t ≡ false
property_goes_on block_end (begin_node at name) h = false_true (sym h)
property_goes_on block_end (end_node at) h = refl
property_goes_on block_end (prop at p) h = refl
property_goes_on block_end (nop at) h = refl
property_goes_on block_end (last at) h = false_true (sym h)
property_goes_on block_end (stray at fault) h = refl

-- a token is refused by its first fault
abbrev refusal_by : Bool → Bool → Bool → Option SigningFault
refusal_by deep early unsigned = if deep then Some TooDeep else if early then Some EarlyEnd else if unsigned then Some NameUnsigned else None

pub refuses_deep : (listed : ℕ → Bool) (b : Blocks) (names : ℕ) (nodes : List ℕ) (t : Token) → begins_deep (placed_in nodes t) ≡ true → token_refusal listed b names (placed_in nodes t) ≡ Some TooDeep
refuses_deep listed b names nodes t deep = ap (λ (x : Bool). refusal_by x (ends_early b.structure_end t) (is_unsigned listed b.bytes names (placed_in nodes t))) deep

pub refuses_early : (listed : ℕ → Bool) (b : Blocks) (names : ℕ) (nodes : List ℕ) (t : Token) → is_last t ≡ true → ends_early b.structure_end t ≡ true → token_refusal listed b names (placed_in nodes t) ≡ Some EarlyEnd
refuses_early listed b names nodes t last_is on =
    ap (λ (x : Bool). refusal_by x (ends_early b.structure_end t) (is_unsigned listed b.bytes names (placed_in nodes t))) (last_shallow nodes t last_is)
    ∙ ap (λ (x : Bool). refusal_by false x (is_unsigned listed b.bytes names (placed_in nodes t))) on

named_is : (c : Bool) (property : Bool) (file : List ℕ) (at names : ℕ) → (c && not (is_named property file at names)) ≡ true → property ≡ true
named_is true true file at names h = refl
named_is true false file at names h = h
named_is false true file at names h = refl
named_is false false file at names h = h

refuses_unsigned : (listed : ℕ → Bool) (b : Blocks) (names : ℕ) (nodes : List ℕ) (t : Token) → is_unsigned listed b.bytes names (placed_in nodes t) ≡ true → token_refusal listed b names (placed_in nodes t) ≡ Some NameUnsigned
refuses_unsigned listed b names nodes t is =
    let property = named_is (covers listed (around nodes t) t) (is_property t) b.bytes (offset t) names is in
    ap (λ (x : Bool). refusal_by x (ends_early b.structure_end t) (is_unsigned listed b.bytes names (placed_in nodes t))) (property_shallow nodes t property)
    ∙ ap (λ (x : Bool). refusal_by false x (is_unsigned listed b.bytes names (placed_in nodes t))) (property_goes_on b.structure_end t property)
    ∙ ap (refusal_by false false) is

unrefused : (listed : ℕ → Bool) (b : Blocks) (names : ℕ) (nodes : List ℕ) (t : Token) → begins_deep (placed_in nodes t) ≡ false → ends_early b.structure_end t ≡ false
    → is_unsigned listed b.bytes names (placed_in nodes t) ≡ false → token_refusal listed b names (placed_in nodes t) ≡ None
unrefused listed b names nodes t shallow whole named =
    ap (λ (x : Bool). refusal_by x (ends_early b.structure_end t) (is_unsigned listed b.bytes names (placed_in nodes t))) shallow
    ∙ ap (λ (x : Bool). refusal_by false x (is_unsigned listed b.bytes names (placed_in nodes t))) whole ∙ ap (refusal_by false false) named

-- what is done at a token tells whether its name is signed
lacks_as : (listed : ℕ → Bool) (nodes : List ℕ) (t : Token) (file : List ℕ) (walk : Walk) (turn : Turn) → TurnsAt listed walk.at nodes t turn → lacks_name file walk turn ≡ is_unsigned listed file walk.names (placed_in nodes t)
lacks_as listed nodes t file walk turn does =
    ap (λ (c : Bool). c && not (is_named turn.is_property file walk.at walk.names)) does.covered
    ∙ ap (λ (c : Bool). covers listed (around nodes t) t && not (is_named c file walk.at walk.names)) does.property
    ∙ ap (λ (n : ℕ). covers listed (around nodes t) t && not (is_named (is_property t) file n walk.names)) (sym does.place)

-- a name that is not signed, over a device with the same bytes
pub unsigned : (marks : List ℕ) (d e : Device) (x : Extent) (walk : Walk) (found : ReadToken) (turn : Turn) → SameDevice d e → (IsTrue d.honest → IsReadAs walk.at (token_at (blocks_of d.bytes x) walk.at) found) → Turns marks walk found turn
    → (IsTrue e.honest → lacks_name e.bytes walk turn ≡ true) → IsTrue d.honest → (nodes : List ℕ) → walk.bits ≡ coded (is_marked marks) nodes
    → token_refusal (is_marked marks) (blocks_of d.bytes x) walk.names (placed_in nodes (token_at (blocks_of d.bytes x) walk.at)) ≡ Some NameUnsigned
unsigned marks d e x walk found turn same read turns lacks honest nodes bits =
    let b = blocks_of d.bytes x in
    let t = token_at b walk.at in
    refuses_unsigned (is_marked marks) b walk.names nodes t
    (sym (lacks_as (is_marked marks) nodes t d.bytes walk turn (turns nodes t bits (read honest)))
    ∙ ap (λ (xs : List ℕ). lacks_name xs walk turn) (sym same.bytes) ∙ lacks (now_honest same honest))

pub last_next : (t : Token) → is_last t ≡ true → next t ≡ None
last_next (begin_node at name) h = false_true (sym h)
last_next (end_node at) h = false_true (sym h)
last_next (prop at p) h = false_true (sym h)
last_next (nop at) h = false_true (sym h)
last_next (last at) h = refl
last_next (stray at fault) h = refl

-- a token's bytes were fed as they are signed
pub passes : {T : Type 0} (fed : T → T → List ℕ → Type 0) (marks : List ℕ) (d e : Device) (x : Extent) (walk : Walk) (found : ReadToken) (turn : Turn) (o : Option Walk) (old new : T)
    → SameDevice d e → (IsTrue d.honest → IsReadAs walk.at (token_at (blocks_of d.bytes x) walk.at) found) → Turns marks walk found turn → IsShallow walk.at walk.bits found
    → (IsTrue e.honest → lacks_name e.bytes walk turn ≡ false) → Feeds fed e.honest (if turn.is_covered then slice e.bytes walk.at turn.size else []) old new
    → (turn.is_last ≡ true → walk.at + turn.size ≡ x.structure_end)
    → o ≡ (if turn.is_last then None else Some (record { at = walk.at + turn.size; bits = turn.bits; names = walk.names }))
    → Passes fed (is_marked marks) d.honest (blocks_of d.bytes x) walk o old new
passes fed marks d e x walk found turn o old new same read turns flat named feeds whole is = record {
  piece = feeds.piece;
  summed = feeds.summed;
  right = λ honest nodes bits.
      let t = token_at (blocks_of d.bytes x) walk.at in
      let does = turns nodes t bits (read honest) in (
        same_piece feeds.piece turn.is_covered (covers (is_marked marks) (around nodes t) t) e.bytes d.bytes walk.at (offset t) turn.size (size_of t) (feeds.right (now_honest same honest)) does.covered same.bytes does.place does.size,
        subst (GoesOn (is_marked marks) nodes t) (sym is) (goes (is_marked marks) nodes t walk.at turn.size turn.bits walk.names turn.is_last does.next does.bits),
      );
  taken = λ honest nodes bits.
      let t = token_at (blocks_of d.bytes x) walk.at in
      let does = turns nodes t bits (read honest) in
      unrefused (is_marked marks) (blocks_of d.bytes x) walk.names nodes t (flat (is_marked marks) nodes t bits (read honest))
      (not_early t walk.at turn.size x.structure_end turn.is_last does.place does.size does.last whole)
      (sym (lacks_as (is_marked marks) nodes t d.bytes walk turn does) ∙ ap (λ (xs : List ℕ). lacks_name xs walk turn) (sym same.bytes) ∙ named (now_honest same honest));
}

-- where the walk is after a token
pub stays : (turn : Turn) (at names : ℕ) → turn.is_last ≡ true → (let o : Option Walk = None in o) ≡ (if turn.is_last then None else Some (record { at = at + turn.size; bits = turn.bits; names = names }))
stays turn at names is = sym (ap (λ (b : Bool). (let o : Option Walk = if b then None else Some (record { at = at + turn.size; bits = turn.bits; names = names }) in o)) is)

pub moves : (turn : Turn) (at names : ℕ) → turn.is_last ≡ false → (let o : Option Walk = Some (record { at = at + turn.size; bits = turn.bits; names = names }) in o) ≡ (if turn.is_last then None else Some (record { at = at + turn.size; bits = turn.bits; names = names }))
moves turn at names is = sym (ap (λ (b : Bool). (let o : Option Walk = if b then None else Some (record { at = at + turn.size; bits = turn.bits; names = names }) in o)) is)

-- what passes over a device passes over one with the same bytes
pub over : {T : Type 0} (fed : T → T → List ℕ → Type 0) (listed : ℕ → Bool) (d e : Device) (x : Extent) (walk : Walk) (o : Option Walk) (old new : T)
    → SameDevice d e → Passes fed listed e.honest (blocks_of e.bytes x) walk o old new → Passes fed listed d.honest (blocks_of d.bytes x) walk o old new
over fed listed d e x walk o old new same passed =
    subst (λ (b : Bool). Passes fed listed b (blocks_of d.bytes x) walk o old new) same.honest
    (subst (λ (xs : List ℕ). Passes fed listed e.honest (blocks_of xs x) walk o old new) same.bytes passed)

-- before the first token nothing was fed
pub begins : {T : Type 0} (fed : T → T → List ℕ → Type 0) → ((s : T) → fed s s []) → (listed : ℕ → Bool) (honest : Bool) (b : Blocks) (walk : Walk) (old : T)
    → walk.at ≡ b.structure → walk.bits ≡ 4 → SoFar fed listed honest b walk old old
begins fed nothing listed honest b walk old at bits = record {
  piece = [];
  summed = nothing old;
  nodes = [];
  fuel = suc (b.structure_end - b.structure);
  bits = λ now. bits;
  well = λ now t is. subst (λ (n : ℕ). GoesWell t [] (tokens_from (suc (b.structure_end - b.structure)) b (Some n))) (sym at) (begins_well (tokens b) t is);
  taken = λ now. ap (λ (n : ℕ). walk_refusal listed b walk.names [] (tokens_from (suc (b.structure_end - b.structure)) b (Some n))) at;
  enough = omega (arith, at);
  right = λ now. ap (λ (n : ℕ). signed_of listed b.bytes [] (tokens_from (suc (b.structure_end - b.structure)) b (Some n))) at;
}

open_one : (listed : ℕ → Bool) (file nodes : List ℕ) (b : Blocks) (n at : ℕ)
    → signed_of listed file nodes (tokens_from (suc n) b (Some at)) ≡ signed_at listed file nodes (token_at b at) ++ signed_of listed file (after nodes (token_at b at)) (tokens_from n b (next (token_at b at)))
unfolding tokens_from in_nodes
open_one listed file nodes b n at = refl

none_left : (listed : ℕ → Bool) (file nodes : List ℕ) (b : Blocks) (n : ℕ) (o : Option ℕ) → o ≡ None → signed_of listed file nodes (tokens_from n b o) ≡ []
unfolding tokens_from in_nodes
none_left listed file nodes b zero (Some at) is = grind (arith, is)
none_left listed file nodes b (suc n) (Some at) is = grind (arith, is)
none_left listed file nodes b zero None is = refl
none_left listed file nodes b (suc n) None is = refl

refusal_first : (listed : ℕ → Bool) (b : Blocks) (names : ℕ) (nodes : List ℕ) (n at : ℕ) (first : Option SigningFault) → token_refusal listed b names (placed_in nodes (token_at b at)) ≡ first
    → walk_refusal listed b names nodes (tokens_from (suc n) b (Some at)) ≡ or_else first (walk_refusal listed b names (after nodes (token_at b at)) (tokens_from n b (next (token_at b at))))
unfolding tokens_from in_nodes first_refusal
refusal_first listed b names nodes n at first is = ap (λ (x : Option SigningFault). or_else x (walk_refusal listed b names (after nodes (token_at b at)) (tokens_from n b (next (token_at b at))))) is

none_refused : (listed : ℕ → Bool) (b : Blocks) (names : ℕ) (nodes : List ℕ) (n : ℕ) (o : Option ℕ) → o ≡ None → walk_refusal listed b names nodes (tokens_from n b o) ≡ None
unfolding tokens_from in_nodes first_refusal
none_refused listed b names nodes zero (Some at) is = grind (arith, is)
none_refused listed b names nodes (suc n) (Some at) is = grind (arith, is)
none_refused listed b names nodes zero None is = refl
none_refused listed b names nodes (suc n) None is = refl

-- the token after those so far
pub more_so_far : {T : Type 0} (fed : T → T → List ℕ → Type 0) → ((first between last : T) (xs ys : List ℕ) → fed first between xs → fed between last ys → fed first last (xs ++ ys))
    → (listed : ℕ → Bool) (honest : Bool) (b : Blocks) (walk then_at : Walk) (old between new : T) (fuel : ℕ) → (s : SoFar fed listed honest b walk old between) → s.fuel ≡ fuel
    → Passes fed listed honest b walk (Some then_at) between new → then_at.names ≡ walk.names → walk.at + 4 ≤ then_at.at → walk.at ≤ b.structure_end → SoFar fed listed honest b then_at old new
more_so_far fed more listed honest b walk then_at old between new zero s is passed same ahead within = absurd (omega (arith, s.enough, is, within))
more_so_far fed more listed honest b walk then_at old between new (suc n) s is passed same ahead within =
    let t = token_at b walk.at in
    record {
      piece = s.piece ++ passed.piece;
      summed = more old between new s.piece passed.piece s.summed passed.summed;
      nodes = after s.nodes t;
      fuel = n;
      bits = λ now. (passed.right now s.nodes (s.bits now)).1.1;
      well = λ now tree is_tree.
          well_after tree b s.nodes n walk.at then_at.at (passed.right now s.nodes (s.bits now)).1.0
          (subst (λ (m : ℕ). GoesWell tree s.nodes (tokens_from m b (Some walk.at))) is (s.well now tree is_tree));
      taken = λ now.
          ap (λ (m : ℕ). walk_refusal listed b m (after s.nodes t) (tokens_from n b (Some then_at.at))) same
          ∙ ap (λ (o : Option ℕ). walk_refusal listed b walk.names (after s.nodes t) (tokens_from n b o)) (sym (passed.right now s.nodes (s.bits now)).1.0)
          ∙ sym (refusal_first listed b walk.names s.nodes n walk.at None (passed.taken now s.nodes (s.bits now)))
          ∙ ap (λ (m : ℕ). walk_refusal listed b walk.names s.nodes (tokens_from m b (Some walk.at))) (sym is) ∙ s.taken now
          ∙ ap (λ (m : ℕ). walk_refusal listed b m [] (tokens b)) (sym same);
      enough = omega (arith, s.enough, is, ahead);
      right = λ now.
          let goes_on = passed.right now s.nodes (s.bits now) in
          append_assoc s.piece passed.piece (signed_of listed b.bytes (after s.nodes t) (tokens_from n b (Some then_at.at)))
          ∙ ap (λ (p : List ℕ). s.piece ++ (p ++ signed_of listed b.bytes (after s.nodes t) (tokens_from n b (Some then_at.at)))) goes_on.0
          ∙ ap (λ (o : Option ℕ). s.piece ++ (signed_at listed b.bytes s.nodes t ++ signed_of listed b.bytes (after s.nodes t) (tokens_from n b o))) (sym goes_on.1.0)
          ∙ ap (λ (l : List ℕ). s.piece ++ l) (sym (open_one listed b.bytes s.nodes b n walk.at))
          ∙ ap (λ (m : ℕ). s.piece ++ signed_of listed b.bytes s.nodes (tokens_from m b (Some walk.at))) (sym is)
          ∙ s.right now;
    }

-- the last token
pub ends : {T : Type 0} (fed : T → T → List ℕ → Type 0) → ((first between last : T) (xs ys : List ℕ) → fed first between xs → fed between last ys → fed first last (xs ++ ys))
    → (listed : ℕ → Bool) (honest : Bool) (b : Blocks) (walk : Walk) (old between new : T) (fuel : ℕ) → (s : SoFar fed listed honest b walk old between) → s.fuel ≡ fuel
    → Passes fed listed honest b walk None between new → walk.at ≤ b.structure_end → Feeds fed honest (signed_of listed b.bytes [] (tokens b)) old new
ends fed more listed honest b walk old between new zero s is passed within = absurd (omega (arith, s.enough, is, within))
ends fed more listed honest b walk old between new (suc n) s is passed within =
    let t = token_at b walk.at in
    record {
      piece = s.piece ++ passed.piece;
      summed = more old between new s.piece passed.piece s.summed passed.summed;
      right = λ now.
          let goes_on = passed.right now s.nodes (s.bits now) in
          let rest : signed_of listed b.bytes (after s.nodes t) (tokens_from n b (next t)) ≡ [] = none_left listed b.bytes (after s.nodes t) b n (next t) goes_on.1 in
          ap (λ (p : List ℕ). s.piece ++ p) (goes_on.0 ∙ sym (append-nil (signed_at listed b.bytes s.nodes t)) ∙ ap (λ (l : List ℕ). signed_at listed b.bytes s.nodes t ++ l) (sym rest))
          ∙ ap (λ (l : List ℕ). s.piece ++ l) (sym (open_one listed b.bytes s.nodes b n walk.at))
          ∙ ap (λ (m : ℕ). s.piece ++ signed_of listed b.bytes s.nodes (tokens_from m b (Some walk.at))) (sym is)
          ∙ s.right now;
    }

-- behind the last token nothing is refused
pub ends_right : {T : Type 0} (fed : T → T → List ℕ → Type 0) (listed : ℕ → Bool) (honest : Bool) (b : Blocks) (walk : Walk) (old between new : T) (fuel : ℕ) (s : SoFar fed listed honest b walk old between) → s.fuel ≡ fuel
    → Passes fed listed honest b walk None between new → walk.at ≤ b.structure_end → IsTrue honest → walk_refusal listed b walk.names [] (tokens b) ≡ None
ends_right fed listed honest b walk old between new zero s is passed within now = absurd (omega (arith, s.enough, is, within))
ends_right fed listed honest b walk old between new (suc n) s is passed within now =
    let t = token_at b walk.at in
    sym (s.taken now) ∙ ap (λ (m : ℕ). walk_refusal listed b walk.names s.nodes (tokens_from m b (Some walk.at))) is
    ∙ refusal_first listed b walk.names s.nodes n walk.at None (passed.taken now s.nodes (s.bits now))
    ∙ none_refused listed b walk.names (after s.nodes t) n (next t) (passed.right now s.nodes (s.bits now)).1

-- a token that is refused, and none before it
refused_here : {T : Type 0} (fed : T → T → List ℕ → Type 0) (listed : ℕ → Bool) (honest : Bool) (b : Blocks) (walk : Walk) (old between : T) (fuel : ℕ) (s : SoFar fed listed honest b walk old between) → s.fuel ≡ fuel
    → walk.at ≤ b.structure_end → IsTrue honest → (fault : SigningFault) → token_refusal listed b walk.names (placed_in s.nodes (token_at b walk.at)) ≡ Some fault → walk_refusal listed b walk.names [] (tokens b) ≡ Some fault
refused_here fed listed honest b walk old between zero s is within now fault why = absurd (omega (arith, s.enough, is, within))
refused_here fed listed honest b walk old between (suc n) s is within now fault why =
    sym (s.taken now) ∙ ap (λ (m : ℕ). walk_refusal listed b walk.names s.nodes (tokens_from m b (Some walk.at))) is ∙ refusal_first listed b walk.names s.nodes n walk.at (Some fault) why

-- a token that is none of a tree
none_bad : {T : Type 0} (fed : T → T → List ℕ → Type 0) (listed : ℕ → Bool) (honest : Bool) (b : Blocks) (walk : Walk) (old between : T) (fuel : ℕ) (s : SoFar fed listed honest b walk old between) → s.fuel ≡ fuel
    → walk.at ≤ b.structure_end → IsTrue honest → IsBad b s.nodes walk.at (token_at b walk.at) → (t : Siblings) → root (without_nops (tokens b)) ≡ Ok t → ⊥
none_bad fed listed honest b walk old between zero s is within now wrong t tree = absurd (omega (arith, s.enough, is, within))
none_bad fed listed honest b walk old between (suc n) s is within now wrong t tree =
    bad t b s.nodes n walk.at wrong (subst (λ (m : ℕ). GoesWell t s.nodes (tokens_from m b (Some walk.at))) is (s.well now t tree))

-- why a token of a tree is refused
pub refused_so_far : {T : Type 0} (fed : T → T → List ℕ → Type 0) (listed : ℕ → Bool) (honest : Bool) (b : Blocks) (walk : Walk) (old between : T) (s : SoFar fed listed honest b walk old between)
    → walk.at ≤ b.structure_end → IsTrue honest → (t : Siblings) → root (without_nops (tokens b)) ≡ Ok t → (fault : SigningFault) → RefusesToken listed b walk.names s.nodes walk.at fault
    → (result : Result Unit SigningFault) → result ≡ Err fault → Refuses (walk_refusal listed b walk.names [] (tokens b)) result
refused_so_far fed listed honest b walk old between s within now t tree fault (inl why) result is = λ read memory. false_true (sym (ap (λ (r : Result Unit SigningFault). is_unread r) (is ∙ ap (λ (f : SigningFault). (let r : Result Unit SigningFault = Err f in r)) why)) ∙ read)
refused_so_far fed listed honest b walk old between s within now t tree fault (inr (inl why)) result is = absurd (none_bad fed listed honest b walk old between s.fuel s refl within now why.1 t tree)
refused_so_far fed listed honest b walk old between s within now t tree fault (inr (inr why)) result is = λ read memory.
    ap (λ (r : Result Unit SigningFault). fault_of r) is ∙ sym (refused_here fed listed honest b walk old between s.fuel s refl within now fault why)

-- a turn is refused as its token is
pub turn_token : (fault : SigningFault) (listed : ℕ → Bool) (b : Blocks) (names : ℕ) (nodes : List ℕ) (at : ℕ) → RefusesTurn fault nodes (token_at b at) → RefusesToken listed b names nodes at fault
turn_token Changed listed b names nodes at why = inr (inl (refl, inl why))
turn_token TooDeep listed b names nodes at why = inr (inr (refuses_deep listed b names nodes (token_at b at) why))
turn_token Read listed b names nodes at why = absurd why
turn_token EarlyEnd listed b names nodes at why = absurd why
turn_token NameUnsigned listed b names nodes at why = absurd why
turn_token OutOfMemory listed b names nodes at why = absurd why
turn_token TooLong listed b names nodes at why = absurd why
turn_token TooManyNodes listed b names nodes at why = absurd why
turn_token Unhashed listed b names nodes at why = absurd why
turn_token BadStrings listed b names nodes at why = absurd why
turn_token StringsOffset listed b names nodes at why = absurd why
turn_token StringsOutside listed b names nodes at why = absurd why

-- a fault passed on
pub passed_on : (r : Result Unit SigningFault) (fault : SigningFault) → IsErrAnd r (λ f. f ≡ fault) → r ≡ Err fault
passed_on (Err f) fault h = ap (λ (x : SigningFault). (let r : Result Unit SigningFault = Err x in r)) h
passed_on (Ok x) fault h = absurd h
