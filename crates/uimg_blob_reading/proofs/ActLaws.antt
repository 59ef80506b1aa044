-- What a token does to a room, by what it does to a phase.
use Rattle.std.proofs.Common.{◌≡◌, ◌+◌, ℕ, List, length, Option, Some, None, Result, Ok, Err, Bool, true, false, IsTrue, OnOk, is_ok, is_err, ◌++◌, ◌∷◌, [], arith}
use Rattle.uimg_texts.specs.Numbers.{up4}
use Rattle.uimg_base.specs.Held.{Held, SameSize, AddsOne, Grows}
use Rattle.uimg_blob_reading.specs.declared.{fault.IndexFault.IndexFault, labels.Label.Label}
use Rattle.uimg_blob_reading.specs.{declared.keys.Key.Key, ReadTokens.{IsReadAs, IsSound, Stands}}
use Rattle.uimg_blob_reading.specs.declared.{states.State.State, tokens.ReadToken.ReadToken}
use Rattle.uimg_blob_reading.specs.{Labels.label_of, Entering.{Enters, IsKeyOf}, Acting.Does}
use Rattle.uimg_blob_reading.specs.declared.tokens.ReadToken.TheVariants.{BeginNode, EndNode, Prop}
use Rattle.uimg_blob_reading.specs.Tokens.{Property, Token, Blocks, token_at}
use Rattle.uimg_blob_reading.specs.Passes.{Phase, InPhase, PassStep, PassesToken, Acts, RefusesMemory, TokenLies, on, begins_in, ends_in, prop_in, is_done, Goes}
use Rattle.uimg_blob_reading.proofs.{PhaseLaws.{true_false, done_goes}, KeyLaws.a_token}
use Rattle.uimg_blob_reading.proofs.LieLaws.{token_lies}

-- a node begins
pub begin_does : (s more : State) (size : ℕ) (label : Label) (old new : Held) → more.at ≡ s.at + 4 + up4 (size + 1) → AddsOne true false old new
    → ((p : Phase) (name : List ℕ) → InPhase p s old.entries → size ≡ length name → label ≡ label_of name → (q : Phase) × (begins_in p s.at (Ok name) ≡ on q) × InPhase q more new.entries)
    → Does (BeginNode size label) s (Ok more) old new
begin_does s more size label old new at added goes = grind arith

-- a node ends
pub end_does : (s more : State) (old new : Held) → more.at ≡ s.at + 4 → AddsOne false false old new
    → ((p : Phase) → InPhase p s old.entries → (q : Phase) × (ends_in p s.at ≡ on q) × InPhase q more new.entries)
    → Does EndNode s (Ok more) old new
end_does s more old new at same goes = grind arith

-- the innermost node has a property
pub property_does : (s more : State) (size : ℕ) (key : Option Key) (old new : Held) → more.at ≡ s.at + 12 + up4 size → AddsOne false false old new
    → ((p : Phase) (x : Property) → InPhase p s old.entries → x.place ≡ s.at + 12 → size ≡ length x.value → IsKeyOf key x.name → (q : Phase) × (prop_in p s.at (Ok x) ≡ on q) × InPhase q more new.entries)
    → Does (Prop size key) s (Ok more) old new
property_does s more size key old new at same goes = grind arith

pub was_entered : {X E : Type 0} (r : Result X E) (entry : List ℕ) (old new : Held) → is_ok r ≡ true → Enters (is_ok r) (is_err r) entry old new
    → (new.entries ≡ old.entries ++ entry ∷ []) × AddsOne true false old new
was_entered r entry old new is h = grind (arith, true_false)

-- a room whose entries are as many as before
pub same_adds : (old new : Held) → SameSize old new → AddsOne false false old new
same_adds old new same = record { count = same.count; peak = same.peak; refused = same.refused }

-- one entry more or none
pub adds_grows : (added no_memory : Bool) (old mid new : Held) → mid ≡ old → AddsOne added no_memory mid new → Grows no_memory old new
adds_grows added no_memory old mid new same adds = grind arith

-- the same answer of a step that does not end the tree
abbrev pub going : Result State IndexFault → Result (Option State) IndexFault
going (Ok s) = Ok (Some s)
going (Err e) = Err e

acts : (x : PassStep) (following : Option ℕ) (r : Result State IndexFault) (old new : List (List ℕ)) → Goes x following r old new → Acts x following (going r) old new
acts x following r old new h = grind arith

going_refuses : (t : Token) (r : Result State IndexFault) → RefusesMemory t r → RefusesMemory t (going r)
going_refuses t r h = grind arith

going_lies : (r : Result State IndexFault) (P : Type 0) → P → OnOk (going r) P
going_lies r P h = grind arith

-- A token that was read, and whichever it is: over an honest source, that of the blocks.
pub record Found (honest : Bool) (b : Blocks) (at : ℕ) (token : ReadToken) : Type 0 where
  pub token_is : Token
  pub is : IsTrue honest → token_is ≡ token_at b at
  pub read : IsReadAs at token_is token
  pub lies : TokenLies b.structure_end token_is

pub found : (honest : Bool) (b : Blocks) (at : ℕ) (token : ReadToken) → (IsTrue honest → IsReadAs at (token_at b at) token) → IsSound token → Stands b.structure_end at token → Found honest b at token
found honest b at token read sound stands =
    let t = a_token honest b at token read sound in
    record { token_is = t.0; is = t.1; read = t.2; lies = token_lies at b.structure_end t.0 token t.2 stands }

-- a step of a token that does not end the tree
pub step_goes : (honest : Bool) (b : Blocks) (p : Phase) (s : State) (token : ReadToken) (r : Result State IndexFault) (old mid new : Held) (f : Found honest b s.at token) → mid ≡ old
    → (InPhase p s mid.entries → is_done p f.token_is ≡ false) → Does token s r mid new → InPhase p s old.entries → PassesToken honest b p s.at (going r) old.entries new.entries
step_goes honest b p s token r old mid new f same open_yet does h =
    grind (arith, acts, going_lies, going_refuses)

-- the last step, whose token ends the tree
pub step_ends : (honest : Bool) (b : Blocks) (p : Phase) (s : State) (token : ReadToken) (old mid : Held) (f : Found honest b s.at token) → mid ≡ old
    → (InPhase p s mid.entries → is_done p f.token_is ≡ true) → InPhase p s old.entries → PassesToken honest b p s.at (Ok None) old.entries mid.entries
step_ends honest b p s token old mid f same ended h = grind (arith, acts, done_goes)
