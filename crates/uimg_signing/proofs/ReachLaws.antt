-- Whether the walk takes each node of a tree, a node at a time.
use Rattle.std.proofs.Common.{◌≡◌, ℕ, ◌+◌, ◌-◌, ◌<◌, ◌≤◌, ◌==◌, List, [], ◌∷◌, Bool, true, false, if◌then◌else◌, ap, sym, ◌∙◌, arith}
use Rattle.uimg_texts.specs.{Numbers.be32, Slices.slice}
use Rattle.uimg_signing.proofs.TurnLaws.{less_true, less_false}
use Rattle.uimg_blob_reading.specs.Rows.{Row}
use Rattle.uimg_signing.specs.Reach.{closes_at, takes, takes_from}

-- what is left says what the row says, or what those after it do
pub takes_one : (file : List ℕ) (rows : List Row) (i : ℕ) (row : Row) (more left : List Row) (all it : Bool) → left ≡ row ∷ more → it ≡ takes file rows i row → takes_from file rows i left ≡ all
    → (if it then takes_from file rows (i + 1) more else false) ≡ all
unfolding takes_from
takes_one file rows i row more left all it is told same =
    ap (λ (b : Bool). if b then takes_from file rows (i + 1) more else false) told ∙ sym (ap (λ (l : List Row). takes_from file rows i l) is) ∙ same

pub takes_end : (file : List ℕ) (rows : List Row) (i : ℕ) (left : List Row) (all : Bool) → left ≡ [] → takes_from file rows i left ≡ all → true ≡ all
unfolding takes_from
takes_end file rows i left all is same = sym (ap (λ (l : List Row). takes_from file rows i l) is) ∙ same

-- the end of the structure block, as it is
pub closes_not : (file : List ℕ) (block_end said : ℕ) → said ≡ block_end → block_end < 8 → false ≡ closes_at file said
closes_not file block_end said is short = sym (ap (λ (b : Bool). if b then false else be32 (slice file (said - 8) 4) 0 == 2) (less_true said 8 (omega (arith, is, short))))

pub closes_by : (file : List ℕ) (block_end said : ℕ) (it : Bool) → said ≡ block_end → 8 ≤ block_end → it ≡ (be32 (slice file (block_end - 8) 4) 0 == 2) → it ≡ closes_at file said
closes_by file block_end said it is long told =
    told ∙ ap (λ (n : ℕ). be32 (slice file (n - 8) 4) 0 == 2) (sym is) ∙ sym (ap (λ (b : Bool). if b then false else be32 (slice file (said - 8) 4) 0 == 2) (less_false said 8 (omega (arith, is, long))))
