-- One step of a pass, and its end.
use Rattle.std.proofs.Common.{append_assoc, append-nil, map, ◌++◌, ◌∷◌, ◌≡◌, ◌<◌, ◌≤◌, ◌+◌, ◌-◌, ℕ, suc, List, [], Option, Some, None, Result, Ok, Err, Bool, false, IsTrue, IfErr, refl, ap, sym, ◌∙◌, subst, length, arith}
use Rattle.uimg_blob_reading.specs.declared.fault.IndexFault.{IndexFault, TheVariants.{Blob, Read}}
use Rattle.uimg_blob_reading.specs.declared.{states.State.State, extent.Extent.Extent}
use Rattle.uimg_blob_reading.specs.{Extents.{blocks_of, GivesBlocks, IsInside}, SoFar.so_far}
use Rattle.uimg_blob_reading.specs.{Blob.{tree, blocks}, Reading.Fault, Walk.{as_node, begun, Open}}
use Rattle.uimg_blob_reading.specs.{Counts.{weight, begun_by, index_cost, nodes_met}, Indexed.Finds}
use Rattle.uimg_blob_reading.specs.Tokens.{Token, Blocks, token_at, tokens_from, tokens, next}
use Rattle.uimg_blob_reading.specs.Kept.{entry_of, kept_of, LiesIn, number_of_role}
use Rattle.uimg_blob_reading.specs.{Grammar.{Siblings, root, without_nops}, Faults.is_out_of_memory}
use Rattle.uimg_blob_reading.specs.{ReadTokens.cost, Roles.{is_images_role, is_configurations_role}}
use Rattle.uimg_blob_reading.specs.Passes.{sum_from, Within, entries_at, Passed, tokens_in}
use Rattle.uimg_blob_reading.specs.Passes.{nodes_at, begin_place, begin_places, IsPrefix}
use Rattle.uimg_base.specs.{Device.{Device, SameDevice}, Results.◌>>=◌}
use Rattle.uimg_blob_reading.proofs.{WalkLaws.begun_is, PhaseLaws.{left_is, true_false}}
use Rattle.uimg_blob_reading.proofs.LieLaws.{lies_more, last_nodes, lies_within}
use Rattle.uimg_blob_reading.proofs.NumberedLaws.{images_number, configurations_number}
use Rattle.uimg_blob_reading.proofs.PlaceLaws.{places_more}
use Rattle.uimg_blob_reading.specs.Passes.{Phase, inside, left_after, PassStep, on, stop, step, then_left, then_step, in_turn, PassesToken, Indexes, Pass, IsRefused, StopsAt, IsSoFar}
use Rattle.std.specs.List.{AllByRecursion}
use Rattle.uimg_blob_reading.proofs.CostLaws.{Moves, moves, sum_more, fault_past, offset_at, cost_weight, weight_counts}

by_fuel : (b : Blocks) (whole : Result Siblings Fault) (p : Phase) (at : ℕ) (t : Token) → t ≡ token_at b at → (fuel : ℕ) → b.structure_end - at < fuel
    → whole ≡ left_after p (tokens_from fuel b (Some at))
    → (n : ℕ) × (b.structure_end - at < suc n) × (whole ≡ then_left (step p t) (tokens_from n b (next t))) × (tokens_from fuel b (Some at) ≡ t ∷ tokens_from n b (next t))
unfolding tokens_from
by_fuel b whole p at t is fuel enough all = grind (arith, left_is)

-- the sum over the tokens from a place on
sum_at : (f : Token → ℕ) (b : Blocks) (whole : Result Siblings Fault) (p : Phase) (at fuel n : ℕ) (t : Token) → t ≡ token_at b at → b.structure_end - at < fuel
    → whole ≡ left_after p (tokens_from fuel b (Some at)) → tokens_from fuel b (Some at) ≡ t ∷ tokens_from n b (next t)
    → sum_from f whole (tokens_from fuel b (Some at)) ≡ f t + sum_from f whole (tokens_from n b (next t))
sum_at f b whole p at fuel n t is enough all split = grind (arith, fault_past, offset_at, sum_more)

-- the places of a token's node and of those after it
before_more : (xs : List ℕ) (t : Token) (ts : List Token) → xs ++ begin_places (t ∷ ts) ≡ (xs ++ begin_places (t ∷ [])) ++ begin_places ts
before_more xs t ts = ap (λ (ys : List ℕ). xs ++ (ys ++ begin_places ts)) (sym (append-nil (begin_place t))) ∙ sym (append_assoc xs (begin_places (t ∷ [])) (begin_places ts))

entries_nodes : (p : Phase) → entries_at p ≡ map entry_of (nodes_at p)
entries_nodes p = grind arith

-- memory was refused at the next node
pub prefix_err : {X : Type 0} (honest : Bool) (b : Blocks) (whole : Result Siblings Fault) (s : State) (es new : List (List ℕ)) (e : IndexFault) (k : Result X IndexFault) (base asked : ℕ) (pass : Pass honest b whole s es base asked)
    → k ≡ Err e → PassesToken honest b pass.phase s.at (Err e) es new → IsTrue honest → IsPrefix (tokens b) k new
prefix_err {X = X} honest b whole s es new (Blob fault at) k base asked pass is steps sure =
    subst (λ (q : Result X IndexFault). IsPrefix (tokens b) q new) (sym is) (λ refused.
    let r = pass.rest sure in
    let f = by_fuel b whole pass.phase s.at steps.token (steps.is sure) r.fuel r.enough r.is in (
      nodes_at pass.phase,
      steps.acts.0 ∙ pass.holds.entries ∙ entries_nodes pass.phase,
      begin_places (tokens_from f.0 b (next steps.token)),
      r.places ∙ ap (λ (ts : List Token). map (λ k. k.at) (nodes_at pass.phase) ++ begin_places ts) f.3
          ∙ ap (λ (xs : List ℕ). map (λ k. k.at) (nodes_at pass.phase) ++ (xs ++ begin_places (tokens_from f.0 b (next steps.token)))) (steps.refuses refused),
    ))
prefix_err {X = X} honest b whole s es new Read k base asked pass is steps sure = subst (λ (q : Result X IndexFault). IsPrefix (tokens b) q new) (sym is) tt

-- a token more, in turn
turn_more : (x : PassStep) (ts : List Token) (t : Token) → in_turn x (ts ++ t ∷ []) ≡ then_step (in_turn x ts) t
turn_more x [] t = refl
turn_more x (k ∷ ts) t = turn_more (then_step x k) ts t

-- a step goes on
pub goes_on : (honest : Bool) (b : Blocks) (whole : Result Siblings Fault) (s more : State) (es new : List (List ℕ)) (base asked now : ℕ) (pass : Pass honest b whole s es base asked)
    → PassesToken honest b pass.phase s.at (Ok (Some more)) es new → s.at + 4 ≤ more.at → more.at < b.structure_end + 4
    → (IsTrue honest → now ≤ asked + cost (token_at b s.at)) → Pass honest b whole more new base now
goes_on honest b whole s more es new base asked now pass steps ahead near paid = record {
  phase = steps.acts.0;
  holds = steps.acts.3;
  lies = lies_more b.structure_end pass.phase steps.token steps.acts.0 steps.acts.1 steps.lies pass.lies;
  rest = λ sure.
      let t : Token = steps.token in
      let r = pass.rest sure in
      let f = by_fuel b whole pass.phase s.at t (steps.is sure) r.fuel r.enough r.is in
      let m : Moves pass.phase t steps.acts.0 = moves pass.phase t steps.acts.0 steps.acts.1 in
      let there = ap (λ (o : Option ℕ). tokens_from f.0 b o) steps.acts.2 in
      record {
        fuel = f.0;
        enough = omega (arith, f.1, ahead, near);
        taken = r.taken ++ t ∷ [];
        all = r.all ∙ ap (λ (ts : List Token). r.taken ++ ts) (f.3 ∙ ap (λ (ts : List Token). t ∷ ts) there)
            ∙ sym (append_assoc r.taken (t ∷ []) (tokens_from f.0 b (Some more.at)));
        reached = turn_more (on (inside [])) r.taken t ∙ ap (λ (x : PassStep). then_step x t) r.reached ∙ steps.acts.1;
        is = f.2 ∙ ap (λ (x : PassStep). then_left x (tokens_from f.0 b (next t))) steps.acts.1 ∙ ap (left_after steps.acts.0) there;
        costs = omega (
          arith,
          r.costs,
          paid sure,
          ap cost (steps.is sure),
          m.paid,
          sum_at weight b whole pass.phase s.at r.fuel f.0 t (steps.is sure) r.enough r.is f.3,
          ap (λ (ts : List Token). sum_from weight whole ts) there,
        );
        places = r.places ∙ ap (λ (ts : List Token). map (λ k. k.at) (nodes_at pass.phase) ++ begin_places ts) f.3
            ∙ before_more (map (λ k. k.at) (nodes_at pass.phase)) t (tokens_from f.0 b (next t))
            ∙ ap (λ (xs : List ℕ). xs ++ begin_places (tokens_from f.0 b (next t))) (sym (places_more pass.phase t steps.acts.0 steps.acts.1))
            ∙ ap (λ (ts : List Token). map (λ k. k.at) (nodes_at steps.acts.0) ++ begin_places ts) there;
        begun = omega (
          arith,
          r.begun,
          m.grows,
          ap length pass.holds.entries,
          ap length steps.acts.3.entries,
          sum_at begun_by b whole pass.phase s.at r.fuel f.0 t (steps.is sure) r.enough r.is f.3,
          ap (λ (ts : List Token). sum_from begun_by whole ts) there,
        );
      };
}

-- a step is the last
pub stops : (honest : Bool) (b : Blocks) (whole : Result Siblings Fault) (s : State) (es : List (List ℕ)) (base asked : ℕ) (pass : Pass honest b whole s es base asked) (t : Token) (result : Result Siblings Fault)
    → (IsTrue honest → t ≡ token_at b s.at) → step pass.phase t ≡ stop result → IsTrue honest → whole ≡ result
stops honest b whole s es base asked pass t result is ended sure =
    let r = pass.rest sure in
    let f = by_fuel b whole pass.phase s.at t (is sure) r.fuel r.enough r.is in
    f.2 ∙ ap (λ (x : PassStep). then_left x (tokens_from f.0 b (next t))) ended

-- the last step is paid for
pub last_paid : (honest : Bool) (b : Blocks) (whole : Result Siblings Fault) (s : State) (es new : List (List ℕ)) (base asked now : ℕ) (pass : Pass honest b whole s es base asked)
    → (IsTrue honest → now ≤ asked + cost (token_at b s.at)) → new ≡ es → IsTrue honest → Within b whole base now new
last_paid honest b whole s es new base asked now pass paid same sure =
    let r = pass.rest sure in
    let f = by_fuel b whole pass.phase s.at (token_at b s.at) refl r.fuel r.enough r.is in
    record {
      costs = omega (
        arith,
        r.costs,
        paid sure,
        cost_weight (token_at b s.at),
        sum_at weight b whole pass.phase s.at r.fuel f.0 (token_at b s.at) refl r.enough r.is f.3,
      );
      nodes = omega (arith, r.begun, ap length same);
    }

-- a fault leaves the entries
pub stay_err : (honest : Bool) (b : Blocks) (p : Phase) (at : ℕ) (e : IndexFault) (old new : List (List ℕ)) → PassesToken honest b p at (Err e) old new → new ≡ old
stay_err honest b p at e old new steps = grind arith

refused_err : (honest : Bool) (b : Blocks) (p : Phase) (at : ℕ) (e : IndexFault) (old new : List (List ℕ)) (steps : PassesToken honest b p at (Err e) old new) → IsRefused p steps.token e
refused_err honest b p at e old new steps = grind arith

-- a fault leaves the entries so far
pub stops_at : (honest : Bool) (b : Blocks) (whole : Result Siblings Fault) (s : State) (es new : List (List ℕ)) (e : IndexFault) (base asked : ℕ) (pass : Pass honest b whole s es base asked)
    → PassesToken honest b pass.phase s.at (Err e) es new → IsTrue honest → StopsAt (tokens b) e new
stops_at honest b whole s es new e base asked pass steps sure =
    let r = pass.rest sure in
    let f = by_fuel b whole pass.phase s.at steps.token (steps.is sure) r.fuel r.enough r.is in
    record {
      taken = r.taken;
      token = steps.token;
      more = tokens_from f.0 b (next steps.token);
      all = r.all ∙ ap (λ (ts : List Token). r.taken ++ ts) f.3;
      phase = pass.phase;
      reached = r.reached;
      entries = stay_err honest b pass.phase s.at e es new steps ∙ pass.holds.entries;
      refused = refused_err honest b pass.phase s.at e es new steps;
    }

-- the tree ends
pub ends_ok : {X : Type 0} (honest : Bool) (b : Blocks) (whole : Result Siblings Fault) (s : State) (es new : List (List ℕ)) (x : X) (base asked : ℕ) (pass : Pass honest b whole s es base asked)
    → PassesToken honest b pass.phase s.at (Ok None) es new → IsTrue honest → Indexes whole (let y : Result X IndexFault = Ok x in y) new
ends_ok honest b whole s es new x base asked pass steps sure =
    (as_node steps.acts.0, stops honest b whole s es base asked pass steps.token (Ok (as_node steps.acts.0)) steps.is steps.acts.1 sure, steps.acts.2)

-- what is known when the tree ends, whichever the source
pub ends_passed : (honest : Bool) (b : Blocks) (s : State) (es new : List (List ℕ)) (base asked : ℕ) (pass : Pass honest b (begun (tokens b)) s es base asked)
    → PassesToken honest b pass.phase s.at (Ok None) es new → Passed honest b s new
ends_passed honest b s es new base asked pass steps =
    let o : Open = steps.acts.0 in
    let nodes : nodes_at pass.phase ≡ kept_of (as_node o) = last_nodes pass.phase steps.token (as_node o) steps.acts.1 in
    record {
      nodes = as_node o;
      is = λ sure. stops honest b (begun (tokens b)) s es base asked pass steps.token (Ok (as_node o)) steps.is steps.acts.1 sure;
      kept = steps.acts.2;
      images = pass.holds.images ∙ ap (number_of_role is_images_role 0) nodes ∙ images_number o;
      configurations = pass.holds.configurations ∙ ap (number_of_role is_configurations_role 0) nodes ∙ configurations_number o;
      lies = subst (AllByRecursion (LiesIn b.structure_end)) nodes pass.lies;
    }

-- a fault
pub ends_err : {X : Type 0} (honest : Bool) (b : Blocks) (whole : Result Siblings Fault) (s : State) (es new : List (List ℕ)) (e : IndexFault) (r : Result X IndexFault) (base asked : ℕ) (pass : Pass honest b whole s es base asked)
    → r ≡ Err e → PassesToken honest b pass.phase s.at (Err e) es new → IsTrue honest → Indexes whole r new
ends_err {X = X} honest b whole s es new (Blob fault at) r base asked pass is steps sure =
    subst (λ (k : Result X IndexFault). Indexes whole k new) (sym is) (λ known. stops honest b whole s es base asked pass steps.token (Err (fault, at)) steps.is (steps.acts.1 known) sure)
ends_err {X = X} honest b whole s es new Read r base asked pass is steps sure = subst (λ (k : Result X IndexFault). Indexes whole k new) (sym is) tt

-- a pass begins
pub begins : (honest : Bool) (b : Blocks) (at base : ℕ) (es : List (List ℕ)) → es ≡ [] → at ≡ b.structure
    → Pass honest b (begun (tokens b)) (record { at = at; current = None; images = None; configurations = None }) es base base
unfolding so_far
begins honest b at base es empty start = record {
  phase = inside [];
  holds = record { entries = empty; current = refl; marks = refl; placed = tt; few = omega (arith, ap length empty); images = refl; configurations = refl };
  lies = tt;
  rest = λ sure. record {
    fuel = suc (b.structure_end - b.structure);
    enough = omega (arith, start);
    taken = [];
    all = ap (λ (k : ℕ). tokens_from (suc (b.structure_end - b.structure)) b (Some k)) (sym start);
    reached = refl;
    is = ap (λ (k : ℕ). begun (tokens_from (suc (b.structure_end - b.structure)) b (Some k))) (sym start);
    costs = omega (arith, ap (λ (k : ℕ). sum_from weight (begun (tokens b)) (tokens_from (suc (b.structure_end - b.structure)) b (Some k))) start);
    places = ap (λ (k : ℕ). begin_places (tokens_from (suc (b.structure_end - b.structure)) b (Some k))) (sym start);
    begun = omega (arith, ap length empty, ap (λ (k : ℕ). sum_from begun_by (begun (tokens b)) (tokens_from (suc (b.structure_end - b.structure)) b (Some k))) start);
  };
}

-- a step over a source that is what it was
pub steps_same : (d e : Device) (x : Extent) (p : Phase) (at : ℕ) (r : Result (Option State) IndexFault) (old new : List (List ℕ)) → SameDevice d e
    → PassesToken e.honest (blocks_of e.bytes x) p at r old new → PassesToken d.honest (blocks_of d.bytes x) p at r old new
steps_same d e x p at r old new same steps = grind arith

pub paid_same : (d e : Device) (x : Extent) (at now : ℕ) → SameDevice d e → (IsTrue e.honest → now ≤ e.asked + cost (token_at (blocks_of e.bytes x) at))
    → IsTrue d.honest → now ≤ e.asked + cost (token_at (blocks_of d.bytes x) at)
paid_same d e x at now same paid sure =
    subst (λ (bytes : List ℕ). now ≤ e.asked + cost (token_at (blocks_of bytes x) at)) same.bytes (paid (subst (λ (h : Bool). IsTrue h) (sym same.honest) sure))

-- a refused header
pub header_err : {X : Type 0} (file : List ℕ) (e : IndexFault) (r : Result X IndexFault) (es : List (List ℕ)) → r ≡ Err e → GivesBlocks file (Err e) → Indexes (tree file) r es
unfolding tree
header_err {X = X} file (Blob fault at) r es is gives =
    subst (λ (k : Result X IndexFault). Indexes (tree file) k es) (sym is)
    (λ known. ap (λ (b : Result Blocks Fault). b >>= (λ found. root (without_nops (tokens found)))) gives)
header_err {X = X} file Read r es is gives = subst (λ (k : Result X IndexFault). Indexes (tree file) k es) (sym is) tt

-- what the tokens give is the tree
pub tree_is : (file bytes : List ℕ) (x : Extent) → blocks file ≡ Ok (blocks_of file x) → bytes ≡ file → begun (tokens (blocks_of bytes x)) ≡ tree file
unfolding tree
tree_is file bytes x header same = grind (arith, begun_is)

err_same : {X Y : Type 0} (whole : Result Siblings Fault) (e : IndexFault) (k : Result Y IndexFault) (r : Result X IndexFault) (es : List (List ℕ)) → k ≡ Err e → r ≡ Err e
    → Indexes whole k es → Indexes whole r es
err_same {X = X} {Y = Y} whole (Blob fault at) k r es was is h =
    subst (λ (q : Result X IndexFault). Indexes whole q es) (sym is) (subst (λ (q : Result Y IndexFault). Indexes whole q es) was h)
err_same {X = X} {Y = Y} whole Read k r es was is h = subst (λ (q : Result X IndexFault). Indexes whole q es) (sym is) tt

pub indexed_err : {X Y : Type 0} (d e : Device) (x : Extent) (f : IndexFault) (k : Result Y IndexFault) (r : Result X IndexFault) (es : List (List ℕ)) → SameDevice d e
    → (IsTrue d.honest → GivesBlocks d.bytes (Ok x)) → k ≡ Err f → r ≡ Err f → (IsTrue e.honest → Indexes (begun (tokens (blocks_of e.bytes x))) k es) → IsTrue d.honest → Indexes (tree d.bytes) r es
indexed_err {X = X} d e x f k r es same header was is given sure =
    subst (λ (w : Result Siblings Fault). Indexes w r es) (tree_is d.bytes e.bytes x (header sure).0 same.bytes)
    (err_same (begun (tokens (blocks_of e.bytes x))) f k r es was is (given (subst (λ (b : Bool). IsTrue b) (sym same.honest) sure)))

-- what a pass asked for and kept, by what the file's tokens are counted for
pub within_cost : (d e : Device) (x : Extent) (asked : ℕ) (es : List (List ℕ)) → SameDevice d e → (IsTrue d.honest → GivesBlocks d.bytes (Ok x))
    → (IsTrue e.honest → Within (blocks_of e.bytes x) (begun (tokens (blocks_of e.bytes x))) e.asked asked es)
    → IsTrue d.honest → (asked + 40 ≤ e.asked + index_cost d.bytes) × (length es ≤ nodes_met d.bytes)
within_cost d e x asked es same header within sure = grind (arith, begun_is, weight_counts)

-- what a pass found is what the file has
pub finds : (d e : Device) (x : Extent) (s : State) (es : List (List ℕ)) (size : ℕ) → SameDevice d e → (IsTrue d.honest → GivesBlocks d.bytes (Ok x)) → IsInside x (length d.bytes)
    → size ≡ x.totalsize → Passed e.honest (blocks_of e.bytes x) s es
    → Finds d (record { totalsize = size; images = s.images; configurations = s.configurations }) es
finds d e x s es size same header inside_it sized passed = grind (arith, lies_within, tree_is)

prefix_same : {X Y : Type 0} (ts : List Token) (e : IndexFault) (k : Result Y IndexFault) (r : Result X IndexFault) (es : List (List ℕ)) → k ≡ Err e → r ≡ Err e → IsPrefix ts k es → IsPrefix ts r es
prefix_same {X = X} {Y = Y} ts (Blob fault at) k r es was is h =
    subst (λ (q : Result X IndexFault). IsPrefix ts q es) (sym is) (subst (λ (q : Result Y IndexFault). IsPrefix ts q es) was h)
prefix_same {X = X} {Y = Y} ts Read k r es was is h = subst (λ (q : Result X IndexFault). IsPrefix ts q es) (sym is) tt

pub prefix_file : {X Y : Type 0} (d e : Device) (x : Extent) (f : IndexFault) (k : Result Y IndexFault) (r : Result X IndexFault) (es : List (List ℕ)) → SameDevice d e
    → (IsTrue d.honest → GivesBlocks d.bytes (Ok x)) → k ≡ Err f → r ≡ Err f → (IsTrue e.honest → IsPrefix (tokens (blocks_of e.bytes x)) k es) → IsTrue d.honest → IsPrefix (tokens_in (blocks d.bytes)) r es
prefix_file {X = X} d e x f k r es same header was is given sure =
    let all : tokens (blocks_of e.bytes x) ≡ tokens_in (blocks d.bytes) = ap (λ (f : List ℕ). tokens (blocks_of f x)) same.bytes ∙ sym (ap tokens_in (header sure).0) in
    subst (λ (ts : List Token). IsPrefix ts r es) all (prefix_same (tokens (blocks_of e.bytes x)) f k r es was is (given (subst (λ (b : Bool). IsTrue b) (sym same.honest) sure)))

-- a refused header refuses no memory
pub prefix_header : {X Y : Type 0} (ts : List Token) (e : IndexFault) (r : Result X IndexFault) (k : Result Y IndexFault) (es : List (List ℕ)) → r ≡ Err e → k ≡ Err e → is_out_of_memory k ≡ false → IsPrefix ts r es
prefix_header {X = X} ts (Blob fault at) r k es is was none_refused =
    subst (λ (q : Result X IndexFault). IsPrefix ts q es) (sym is)
    (λ refused. absurd (true_false (sym refused ∙ sym (ap is_out_of_memory was) ∙ none_refused)))
prefix_header {X = X} ts Read r k es is was none_refused = subst (λ (q : Result X IndexFault). IsPrefix ts q es) (sym is) tt

-- no token was taken where a read of the header failed
none_taken : (h : Result Blocks Fault) (es : List (List ℕ)) → es ≡ [] → IsSoFar h Read es
unfolding so_far tokens_from
none_taken (Err e) es empty = empty
none_taken (Ok b) es empty = record {
  taken = [];
  token = token_at b b.structure;
  more = tokens_from (b.structure_end - b.structure) b (next (token_at b b.structure));
  all = refl;
  phase = inside [];
  reached = refl;
  entries = empty;
  refused = tt;
}

-- a header that is not read leaves no entries
pub so_far_header : {X : Type 0} (file : List ℕ) (e : IndexFault) (r : Result X IndexFault) (es : List (List ℕ)) → r ≡ Err e → GivesBlocks file (Err e) → es ≡ []
    → IfErr r (λ f. IsSoFar (blocks file) f es)
so_far_header {X = X} file (Blob fault at) r es is gives empty =
    subst (λ (q : Result X IndexFault). IfErr q (λ f. IsSoFar (blocks file) f es)) (sym is) (subst (λ (h : Result Blocks Fault). IsSoFar h (Blob fault at) es) (sym gives) empty)
so_far_header {X = X} file Read r es is gives empty =
    subst (λ (q : Result X IndexFault). IfErr q (λ f. IsSoFar (blocks file) f es)) (sym is) (none_taken (blocks file) es empty)

-- a pass that stops leaves the entries so far
pub so_far_file : {X : Type 0} (d e : Device) (x : Extent) (f : IndexFault) (r : Result X IndexFault) (es : List (List ℕ)) → SameDevice d e
    → (IsTrue d.honest → GivesBlocks d.bytes (Ok x)) → r ≡ Err f → (IsTrue e.honest → StopsAt (tokens (blocks_of e.bytes x)) f es) → IsTrue d.honest → IfErr r (λ g. IsSoFar (blocks d.bytes) g es)
so_far_file {X = X} d e x f r es same header is given sure =
    subst (λ (q : Result X IndexFault). IfErr q (λ g. IsSoFar (blocks d.bytes) g es)) (sym is)
    (subst (λ (h : Result Blocks Fault). IsSoFar h f es) (sym (header sure).0)
    (subst (λ (bytes : List ℕ). StopsAt (tokens (blocks_of bytes x)) f es) same.bytes (given (subst (λ (b : Bool). IsTrue b) (sym same.honest) sure))))
