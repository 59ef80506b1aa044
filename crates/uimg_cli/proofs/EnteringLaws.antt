-- The words after a command's name are that command's, all of them.
use Rattle.std.proofs.Common.{◌≡◌, ◌∙◌, ◌++◌, ℕ, List, [], ◌∷◌, Option, Some, Result, codes, false, refl, ap, ap₂, append-nil, append_assoc, find, fold, is_some, unwrap_or, bytes_eq}
use Rattle.clap.proofs.OnLiterals.{clap_on_literals}
use Rattle.clap.proofs.FaultLemmas.{stopped_fault}
use Rattle.clap.specs.Faults.{check_fault, defaults_fault, entered_fault, settle_fault, turn_fault, walk_fault}
use Rattle.clap.specs.Kinds.{Kinds, or_else}
use Rattle.clap.specs.Simple.{Shape, built, entered, names_of}
use Rattle.clap.specs.Walk.{Names, Rule, Text, Walk, finished, nothing_held, settled, walk, walk_from, walked}
use Rattle.uimg_cli.specs.CommandLines.{answers, asked_by, request_asked, uimg, words_asked}
use Rattle.uimg_cli.specs.Wanted.{Wanted}
use Rattle.uimg_cli.specs.Wrong.{Wrong}
use Rattle.uimg_cli.proofs.Examples.{uimg_on_literals}

-- a walk that met a command hands it each further word
handed : (c : List Rule) (names : Names) (w : Walk) (name : Text) (so_far words : List Text) → w.stopped ≡ Some (name, so_far)
    → fold (walked c names) w words ≡ record w { stopped = Some (name, so_far ++ words) }
unfolding walked
handed c names w name so_far [] met = rw (append-nil so_far, ← met) refl
handed c names w name so_far (word ∷ rest) met =
    let one : walked c names w word ≡ record w { stopped = Some (name, so_far ++ word ∷ []) } = rw met refl in
    ap (λ v. fold (walked c names) v rest) one
    ∙ handed c names (record w { stopped = Some (name, so_far ++ word ∷ []) }) name (so_far ++ word ∷ []) rest refl
    ∙ ap (λ all. record w { stopped = Some (name, all) }) (append_assoc so_far (word ∷ []) rest)

-- what the words of `uimg` come to, by the walk over them and by what is wrong in it
abbrev pub by_walk : Option Text → ℕ → Walk → Kinds → List (Result Wanted Wrong)
by_walk epoch moment w wrong =
    let a = built uimg in
    answers (request_asked epoch moment (entered a w.stopped))
    (or_else wrong (or_else (entered_fault a w.stopped) (or_else (settle_fault a.top.rules a.top.args_override_self w.held)
    (or_else (defaults_fault (settled a.top.rules w.held).rows a.top.rules)
    (check_fault a.top (finished a.top.rules w.held) (is_some (entered a w.stopped)))))))

-- the walk over the name of a command alone
abbrev pub first_walk : Text → Walk
first_walk name = walked (built uimg).top.rules (names_of (built uimg)) (walk_from nothing_held) name

abbrev pub first_fault : Text → Kinds
first_fault name = turn_fault (built uimg).top (names_of (built uimg)) (walk_from nothing_held) name

abbrev pub entered_walk : Text → List Text → Walk
entered_walk name rest = record (first_walk name) { stopped = Some (name, rest) }

pub entering : (epoch : Option Text) (moment : ℕ) (name : Text) (rest : List Text) → (first_walk name).stopped ≡ Some (name, []) → first_fault name ≡ []
    → words_asked epoch moment (codes "uimg" ∷ name ∷ rest) ≡ by_walk epoch moment (entered_walk name rest) []
unfolding clap_on_literals uimg_on_literals
entering epoch moment name rest met right =
    let top = (built uimg).top in
    let names = names_of (built uimg) in
    let walks : walk top.rules names nothing_held (name ∷ rest) ≡ entered_walk name rest = handed top.rules names (first_walk name) name [] rest met in
    let later : walk_fault top names (first_walk name) rest ≡ [] =
    ap (λ stopped. walk_fault top names (record (first_walk name) { stopped = stopped }) rest) met ∙ stopped_fault top names (first_walk name) (name, []) rest in
    let faults : walk_fault top names (walk_from nothing_held) (name ∷ rest) ≡ [] = ap₂ or_else right later in
    ap₂ (by_walk epoch moment) walks faults

-- the command of a name, as it is built
abbrev pub shape_named : Text → Shape
shape_named name = unwrap_or (find (λ s. bytes_eq s.name name) (built uimg).subs) (built uimg).top

-- what the words of a command come to, by the walk over them and by what is wrong in it
abbrev pub by_level : Option Text → ℕ → Text → Walk → Kinds → List (Result Wanted Wrong)
by_level epoch moment name w wrong =
    let s = shape_named name in
    answers (asked_by epoch moment name (finished s.rules w.held))
    (or_else (or_else wrong (or_else [] (or_else (settle_fault s.rules s.args_override_self w.held)
    (or_else (defaults_fault (settled s.rules w.held).rows s.rules)
    (check_fault s (finished s.rules w.held) false))))) [])
