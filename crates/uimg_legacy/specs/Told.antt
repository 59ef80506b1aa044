-- The calls that the taker of a legacy image's parts gets, in order, whatever it does with them.
use Rattle.std.specs.Prelude.{◌≡◌, ⊤, ℕ, zero, suc, List, [], ◌∷◌, ◌++◌, Option, Some, None}
use Rattle.std.specs.Prelude.{Bool, true, false, Result, Ok, Err, IsTrue, is_err}
use Rattle.uimg_base.specs.Lent.{Lent}
use Rattle.uimg_legacy.specs.Unpacking.{is_part_asked}
use Rattle.uimg_legacy.specs.declared.fault.LegacyFault.{LegacyFault}
use Rattle.uimg_legacy.specs.declared.fault.LegacyFault.TheVariants.{PartOutside, BadDataCrc}
use Rattle.uimg_legacy.specs.declared.fault.Fault.{Fault, TheVariants.{Legacy, Read, Put}}

-- that the part of a number will be unpacked; that a shelf is requested for it; that its shelf is given
-- back; that the parts are to be kept, of data with this CRC; that they are refused
pub data Deed : Type 0 where
  Claimed : ℕ → Deed
  Shelved : ℕ → Deed
  Given : ℕ → Deed
  Kept : ℕ → Deed
  Refused : Deed

-- all of so many parts are claimed
unfoldable pub claims_to : ℕ → List Deed
claims_to zero = []
claims_to (suc number) = claims_to number ++ Claimed number ∷ []

-- the requested parts are claimed: all, or the one of a number
abbrev pub claims : Option ℕ → ℕ → List Deed
claims None count = claims_to count
claims (Some number) count = Claimed number ∷ []

-- a part is written to its shelf if it is requested
abbrev pub takes_if : Bool → ℕ → List Deed
takes_if true number = Shelved number ∷ Given number ∷ []
takes_if false number = []

-- of so many parts the requested ones are, in order
unfoldable pub takes_to : Option ℕ → ℕ → List Deed
takes_to only zero = []
takes_to only (suc number) = takes_to only number ++ takes_if (is_part_asked only number) number

-- all that comes before the parts are kept or refused
abbrev pub taking : Option ℕ → ℕ → List Deed
taking only count = claims only count ++ takes_to only count

-- what is said at the end of the data, by whether their CRC is right
abbrev pub settling : Bool → ℕ → List Deed
settling true dcrc = Kept dcrc ∷ []
settling false dcrc = Refused ∷ []

-- These deeds were told, or the first of them if something failed.
pub record ToldBetween (failed : Bool) (deeds old new : List Deed) : Type 0 where
  pub some : List Deed
  pub rest : List Deed
  pub told : new ≡ old ++ some
  pub part : deeds ≡ some ++ rest
  pub whole : failed ≡ false → rest ≡ []

-- What the taker was told of the data, by the result. Before a part is reached nothing is told of an
-- image that is refused.
abbrev pub TellsDeeds : Option ℕ → ℕ → Result Bool Fault → List Deed → List Deed → Type 0
TellsDeeds only count (Ok right) old new = new ≡ old ++ taking only count
TellsDeeds only count (Err (Legacy PartOutside)) old new = ToldBetween true (taking only count) old new
TellsDeeds only count (Err (Legacy BadDataCrc)) old new = ToldBetween true (taking only count) old new
TellsDeeds only count (Err (Legacy fault)) old new = new ≡ old
TellsDeeds only count (Err Read) old new = ToldBetween true (taking only count) old new
TellsDeeds only count (Err Put) old new = ToldBetween true (taking only count) old new

-- the same of some number of parts
pub record TellsDataBetween (only : Option ℕ) (result : Result Bool Fault) (old new : List Deed)
    : Type 0 where
  pub count : ℕ
  pub told : TellsDeeds only count result old new

-- the same for a borrowed taker that notes what it is told
abbrev pub TellsData : {T : Type 0} → Option ℕ → Result Bool Fault → Bool → (T → List Deed) → Lent T
    → Type 0
TellsData only result notes told taker = IsTrue notes
    → TellsDataBetween only result (told taker.entry.now) (told taker.exit.now)

-- These deeds were told, or the first of them at an error.
abbrev pub Tells : {X E T : Type 0} → List Deed → Result X E → Bool → (T → List Deed) → Lent T
    → Type 0
Tells deeds result notes told taker = IsTrue notes
    → ToldBetween (is_err result) deeds (told taker.entry.now) (told taker.exit.now)

-- A refusal is one that is found at a part.
abbrev pub RefusesPart : {X : Type 0} → Result X Fault → Type 0
RefusesPart (Err (Legacy PartOutside)) = ⊤
RefusesPart (Err (Legacy BadDataCrc)) = ⊤
RefusesPart (Err (Legacy fault)) = ⊥
RefusesPart result = ⊤

-- What the taker was told of the whole, by the result: at the end once, to keep or to refuse.
abbrev pub TellsEnd : Option ℕ → ℕ → ℕ → Bool → Result Bool Fault → List Deed → List Deed → Type 0
TellsEnd only count dcrc right (Ok kept) old new =
    (kept ≡ right) × (new ≡ old ++ (taking only count ++ settling right dcrc))
TellsEnd only count dcrc right (Err Put) old new =
    ToldBetween true (taking only count ++ settling right dcrc) old new
TellsEnd only count dcrc right result old new = TellsDeeds only count result old new

-- the same of some number of parts and some CRC
pub record TellsAllBetween (only : Option ℕ) (result : Result Bool Fault) (old new : List Deed)
    : Type 0 where
  pub count : ℕ
  pub dcrc : ℕ
  pub right : Bool
  pub told : TellsEnd only count dcrc right result old new

-- the same for a borrowed taker that notes what it is told
abbrev pub TellsAll : {T : Type 0} → Option ℕ → Result Bool Fault → Bool → (T → List Deed) → Lent T
    → Type 0
TellsAll only result notes told taker = IsTrue notes
    → TellsAllBetween only result (told taker.entry.now) (told taker.exit.now)
