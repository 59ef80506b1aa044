-- What an option or an operand does.
use Rattle.std.specs.Prelude.{◌≡◌, ℕ, List, Option, Some, None, Result, Ok, Err, ⊤}
use Rattle.uimg_compat.specs.Asked.{Asked, Shown, shown_of, shows}
use Rattle.uimg_compat.specs.Getopt.{Reading, Told, all_read, mistaken, told}
use Rattle.uimg_compat.specs.Wrong.{Wrong, misused, out_of_memory, wrong_of}
use Rattle.uimg_compat.specs.declared.{fault.OldFault.OldFault, request.Show.Show}

-- It sets something, or asks for a text, or is refused.
pub data Step (S : Type 0) : Type 0 where
  sets : S → Step S
  asks : Shown → Step S
  refuses : Wrong → Step S

abbrev pub IsRefused : {S : Type 0} → Step S → Wrong → Type 0
IsRefused asked out_of_memory = ⊤
IsRefused asked wrong = asked ≡ refuses wrong

-- The step is the one asked for, unless memory ran out.
abbrev pub Steps : {S : Type 0} → Step S → S → Result (Option Show) OldFault → Type 0
Steps asked after (Ok None) = asked ≡ sets after
Steps asked after (Ok (Some show)) = asked ≡ asks (shown_of show)
Steps asked after (Err fault) = IsRefused asked (wrong_of fault)

-- What words request behind what is set so far, by what an option or an operand does and what is
-- requested at the end. A text is asked for there and then.
abbrev pub asked_after : {S : Type 0} → (Told → S → Step S) → (S → Result Asked Wrong) → Reading → S
    → Result Asked Wrong
asked_after step request all_read settings = request settings
asked_after step request (mistaken mistake) settings = Err (misused mistake)
asked_after step request (told given rest) settings = elim (step given settings) [
  | sets next ↦ asked_after step request rest next
  | asks shown ↦ Ok (shows shown)
  | refuses wrong ↦ Err wrong
]

-- The first operand counts.
abbrev pub first_of : Option (List ℕ) → List ℕ → List ℕ
first_of None word = word
first_of (Some first) word = first

-- the value that a word writes, which is set
abbrev pub sets_by : {X S : Type 0} → Result X Wrong → (X → S) → Step S
sets_by (Err wrong) set = refuses wrong
sets_by (Ok value) set = sets (set value)

-- the answer of what asks for no text
abbrev pub done : {U : Type 0} → Result U OldFault → Result (Option Show) OldFault
done (Ok _) = Ok None
done (Err fault) = Err fault
