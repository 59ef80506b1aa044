-- Reporting on hash nodes, one more at a time.
use Rattle.std.proofs.Common.{◌≡◌, ◌≤◌, ◌+◌, ◌*◌, ◌&&◌, ℕ, List, [], ◌∷◌, length, Option, None, Bool, true, false, refl, ap, sym, ◌∙◌, subst, arith}
use Rattle.std.specs.{Prelude.{Result, Ok, is_err}, List.{flat_map, sum_by}}
use Rattle.std.proofs.lemmas.List.Sums.{sum_by-cons}
use Rattle.uimg_base.specs.{Sink.Sink, Writing.Written, declared.ranges.MoveFault.MoveFault}
use Rattle.uimg_base.specs.declared.source.SourceFault.{SourceFault}
use Rattle.uimg_texts.specs.declared.naming.Naming.{Naming}
use Rattle.uimg_texts.specs.declared.naming.Naming.TheVariants.{Profile}
use Rattle.uimg_blob_reading.specs.{Grammar.Siblings, LookUps.NodeOf, Spots.Spot}
use Rattle.uimg_fit_base.specs.declared.{algo_sets.AlgoSet.AlgoSet, verdicts.Verdict.Verdict}
use Rattle.uimg_fit_base.specs.{AlgoSets.no_algos, Report.{word_of, is_right, hash_line, are_right}}
use Rattle.uimg_fit_reading.specs.HashReports.{line_cost, hash_cost, AllCovered, FindsAlgosBetween, PutsHashesBetween}
use Rattle.uimg_fit_reading.specs.Nodes.{HashesAt, FirstHash}
use Rattle.uimg_fit_reading.specs.Plans.{hash_plan, with_plan, with_all}
use Rattle.uimg_fit_reading.proofs.{PlanLaws.if_err, PutLaws.{◌▶◌, cut, nothing}}

-- The algorithms of the hash nodes that are left, with those in a set, are the algorithms of all.
pub record AlgosLeft (naming : Naming) (t : Siblings) (hs : List (NodeOf Spot)) (asked new : ℕ) (set : AlgoSet) (next : Option ℕ) : Type 0 where
  pub left : List (NodeOf Spot)
  pub at : HashesAt t next left
  pub gives : with_all naming set left ≡ with_all naming no_algos hs
  pub paid : new + 32 * length left ≤ asked + 32 * length hs

pub algos_first : (naming : Naming) (t : Siblings) (hs : List (NodeOf Spot)) (asked : ℕ) (set : AlgoSet) (next : Option ℕ) → set ≡ no_algos → HashesAt t next hs → AlgosLeft naming t hs asked asked set next
algos_first naming t hs asked set next none at = record { left = hs; at = at; gives = ap (λ (s : AlgoSet). with_all naming s hs) none; paid = omega arith }

one_more : (naming : Naming) (set : AlgoSet) (h : NodeOf Spot) (hs : List (NodeOf Spot)) → with_all naming set (h ∷ hs) ≡ with_all naming (with_plan set (hash_plan naming h)) hs
unfolding with_all
one_more naming set h hs = refl

none_more : (naming : Naming) (set : AlgoSet) → with_all naming set [] ≡ set
unfolding with_all
none_more naming set = refl

pub algos_more : (naming : Naming) (t : Siblings) (hs : List (NodeOf Spot)) (asked new number : ℕ) (set : AlgoSet) (next : Option ℕ) (k : AlgosLeft naming t hs asked new set next) (f : FirstHash t number k.left)
    (more : AlgoSet) (following : Option ℕ) (later : ℕ) → more ≡ with_plan set (hash_plan naming f.hash) → later ≤ new + 32 → HashesAt t following f.more → AlgosLeft naming t hs asked later more following
algos_more naming t hs asked new number set next k f more following later is paid at = record {
  left = f.more;
  at = at;
  gives = ap (λ (s : AlgoSet). with_all naming s f.more) is ∙ sym (one_more naming set f.hash f.more) ∙ ap (with_all naming set) (sym f.are) ∙ k.gives;
  paid = omega (arith, paid, k.paid, ap (λ (l : List (NodeOf Spot)). length l) f.are);
}

pub algos_cut : (naming : Naming) (t : Siblings) (hs : List (NodeOf Spot)) (asked new number : ℕ) (set : AlgoSet) (next : Option ℕ) (k : AlgosLeft naming t hs asked new set next) → FirstHash t number k.left
    → (later : ℕ) (r : Result AlgoSet SourceFault) → later ≤ new + 32 → is_err r ≡ true → FindsAlgosBetween naming hs asked later r
algos_cut naming t hs asked new number set next k f later r paid failed = record {
  algos = if_err r _ failed;
  paid = omega (arith, paid, k.paid, ap (λ (l : List (NodeOf Spot)). length l) f.are);
}

pub algos_all : (naming : Naming) (t : Siblings) (hs : List (NodeOf Spot)) (asked new : ℕ) (set : AlgoSet) (next : Option ℕ) → next ≡ None → AlgosLeft naming t hs asked new set next → FindsAlgosBetween naming hs asked new (Ok set)
algos_all naming t hs asked new set next none k =
    let nothing_left : k.left ≡ [] = subst (λ (o : Option ℕ). HashesAt t o k.left) none k.at in
    record {
      algos = sym (none_more naming set) ∙ ap (with_all naming set) (sym nothing_left) ∙ k.gives;
      paid = omega (arith, k.paid);
    }

-- what is asked for about each hash node, beside the payload
pub costs : (n : ℕ) (hs : List (NodeOf Spot)) → sum_by (hash_cost n) hs ≡ sum_by (line_cost n) hs + 32 * length hs
costs n [] = refl
costs n (h ∷ hs) = omega (arith, sum_by-cons (hash_cost n) h hs, sum_by-cons (line_cost n) h hs, costs n hs)

-- What is written of the hash nodes that are left, behind what was written, is written of all.
pub record LinesLeft (t : Siblings) (set : AlgoSet) (name message : List ℕ) (n : ℕ) (hs : List (NodeOf Spot)) (asked new : ℕ) (old now : Sink) (right : Bool) (next : Option ℕ) : Type 0 where
  pub left : List (NodeOf Spot)
  pub at : HashesAt t next left
  pub covered : AllCovered Profile set left
  pub all_right : (right && are_right message left) ≡ are_right message hs
  pub written : (failed : Bool) (s : Sink) → Written failed now s (flat_map (hash_line name message) left) → Written failed old s (flat_map (hash_line name message) hs)
  pub paid : new + sum_by (line_cost n) left ≤ asked + sum_by (line_cost n) hs

pub lines_first : (t : Siblings) (set : AlgoSet) (name message : List ℕ) (n : ℕ) (hs : List (NodeOf Spot)) (asked : ℕ) (s : Sink) (next : Option ℕ) → HashesAt t next hs → AllCovered Profile set hs
    → LinesLeft t set name message n hs asked asked s s true next
lines_first t set name message n hs asked s next at covered = record { left = hs; at = at; covered = covered; all_right = refl; written = λ failed u w. w; paid = omega arith }

three : (a b c : Bool) → ((a && b) && c) ≡ (a && (b && c))
three true b c = refl
three false b c = refl

and_true : (b : Bool) → (b && true) ≡ b
and_true true = refl
and_true false = refl

pub covered_first : (naming : Naming) (set : AlgoSet) (hs : List (NodeOf Spot)) (t : Siblings) (number : ℕ) (f : FirstHash t number hs) → AllCovered naming set hs → AllCovered naming set (f.hash ∷ f.more)
covered_first naming set hs t number f covered = subst (λ (l : List (NodeOf Spot)). AllCovered naming set l) f.are covered

pub lines_more : (t : Siblings) (set : AlgoSet) (name message : List ℕ) (n : ℕ) (hs : List (NodeOf Spot)) (asked new : ℕ) (old now : Sink) (right : Bool) (next : Option ℕ) (number : ℕ)
    (k : LinesLeft t set name message n hs asked new old now right next) (f : FirstHash t number k.left) (word : Verdict) (further : Sink) (following : Option ℕ) (later : ℕ)
    → word ≡ word_of message f.hash → Written false now further (hash_line name message f.hash) → later ≤ new + line_cost n f.hash → HashesAt t following f.more
    → LinesLeft t set name message n hs asked later old further (right && is_right word) following
lines_more t set name message n hs asked new old now right next number k f word further following later is put paid at = record {
  left = f.more;
  at = at;
  covered = (covered_first Profile set k.left t number f k.covered).1;
  all_right = three right (is_right word) (are_right message f.more) ∙ ap (λ (w : Verdict). right && (is_right w && are_right message f.more)) is
      ∙ ap (λ (l : List (NodeOf Spot)). right && are_right message l) (sym f.are) ∙ k.all_right;
  written = λ failed s w. k.written failed s (subst (λ (l : List (NodeOf Spot)). Written failed now s (flat_map (hash_line name message) l)) (sym f.are) (put.all ▶ w));
  paid = omega (arith, paid, k.paid, ap (sum_by (line_cost n)) f.are, sum_by-cons (line_cost n) f.hash f.more);
}

pub lines_cut : (t : Siblings) (set : AlgoSet) (name message : List ℕ) (n : ℕ) (hs : List (NodeOf Spot)) (asked new : ℕ) (old now : Sink) (right : Bool) (next : Option ℕ) (number : ℕ)
    (k : LinesLeft t set name message n hs asked new old now right next) (f : FirstHash t number k.left) (further : Sink) (later : ℕ) (r : Result Bool MoveFault) → is_err r ≡ true
    → Written true now further (hash_line name message f.hash) → later ≤ new + line_cost n f.hash → PutsHashesBetween name message n hs asked later r old further
lines_cut t set name message n hs asked new old now right next number k f further later r failed put paid = record {
  right = if_err r _ failed;
  written = subst (λ (b : Bool). Written b old further (flat_map (hash_line name message) hs)) (sym failed)
      (k.written true further (subst (λ (l : List (NodeOf Spot)). Written true now further (flat_map (hash_line name message) l)) (sym f.are) (cut now further _ _ put)));
  paid = omega (arith, paid, k.paid, ap (sum_by (line_cost n)) f.are, sum_by-cons (line_cost n) f.hash f.more);
}

pub lines_all : (t : Siblings) (set : AlgoSet) (name message : List ℕ) (n : ℕ) (hs : List (NodeOf Spot)) (asked new : ℕ) (old now : Sink) (right : Bool) (next : Option ℕ) → next ≡ None
    → LinesLeft t set name message n hs asked new old now right next → PutsHashesBetween name message n hs asked new (Ok right) old now
lines_all t set name message n hs asked new old now right next none k =
    let nothing_left : k.left ≡ [] = subst (λ (o : Option ℕ). HashesAt t o k.left) none k.at in
    record {
      right = sym (and_true right) ∙ ap (λ (l : List (NodeOf Spot)). right && are_right message l) (sym nothing_left) ∙ k.all_right;
      written = k.written false now (subst (λ (l : List (NodeOf Spot)). Written false now now (flat_map (hash_line name message) l)) (sym nothing_left) (nothing now));
      paid = omega (arith, k.paid);
    }
