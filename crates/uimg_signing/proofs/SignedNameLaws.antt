-- A message that is not refused signs the names of its properties.
use Rattle.std.proofs.Common.{◌≡◌, ℕ, zero, suc, ◌+◌, ◌-◌, ◌<◌, ◌≤◌, List, [], ◌∷◌, length, take, drop, Option, Some, None, Ok, Err, Bool, true, false, ◌&&◌, not, if◌then◌else◌, refl, ap, sym, ◌∙◌, arith}
use Rattle.std.specs.{Prelude.nat_lt, List.AllByRecursion}
use Rattle.std.proofs.lemmas.{List.drop-drop, Bool.ltb-true}
use Rattle.uimg_texts.specs.{Nul.before_nul, Slices.slice, Numbers.be32}
use Rattle.uimg_blob_reading.proofs.PhaseLaws.{some_some, some_none}
use Rattle.uimg_blob_reading.specs.Tokens.{Token, begin_node, end_node, prop, nop, last, stray, Blocks, offset}
use Rattle.uimg_signing.specs.declared.faults.SigningFault.{SigningFault}
use Rattle.uimg_signing.specs.declared.faults.SigningFault.TheVariants.{TooDeep, EarlyEnd, NameUnsigned}
use Rattle.uimg_signing.specs.{Covering.{Placed, covers, begins_deep}, Turning.{is_property, ends_early}, SignedParts.NameSigned}
use Rattle.uimg_signing.specs.Refusing.{names_by, names_size, is_named, is_unsigned, token_refusal, or_else, first_refusal}
use Rattle.uimg_signing.proofs.{GoingLaws.true_false, TokenLaws.Good}

-- a name ends at a NUL or before
ends_by : (k : ℕ) (xs name text : List ℕ) → before_nul xs ≡ Some name → before_nul (take 1 (drop k xs)) ≡ Some text → length name ≤ k
unfolding before_nul
ends_by k [] name text is nul = absurd (some_none (sym is))
ends_by zero (zero ∷ xs) name text is nul = omega (arith, ap length (some_some [] name is))
ends_by zero (suc x ∷ xs) name text is nul = absurd (some_none (sym nul))
ends_by (suc k) (zero ∷ xs) name text is nul = omega (arith, ap length (some_some [] name is))
ends_by (suc k) (suc x ∷ xs) name text is nul = longer (before_nul xs) (λ m at. ends_by k xs m text at nul) is
  where
    longer : (o : Option (List ℕ)) → ((m : List ℕ) → o ≡ Some m → length m ≤ k) → (elim o as (λ _. Option (List ℕ)) [ None ↦ None | Some m ↦ Some (suc x ∷ m) ]) ≡ Some name → length name ≤ suc k
    longer None shorter h = absurd (some_none (sym h))
    longer (Some m) shorter h = omega (arith, ap length (some_some (suc x ∷ m) name h), shorter m refl)

by_size : {P : Type 0} (c : Bool) (o : Option (List ℕ)) (strings at : ℕ) → at < (if c then names_by o strings else 0) → ((text : List ℕ) → o ≡ Some text → at < strings → P) → P
by_size true (Some text) strings at within next = next text refl within
by_size true None strings at within next = absurd (omega (arith, within))
by_size false o strings at within next = absurd (omega (arith, within))

-- a name that begins in the names of the signed strings ends in these
name_signed : (file : List ℕ) (start strings : ℕ) (t : Token) → Good file start t → is_named (is_property t) file (offset t) (names_size file start strings) ≡ true → NameSigned file strings t
name_signed file start strings (prop at (Ok p)) g named =
    let i = be32 file (at + 8) in
    by_size (nat_lt 0 strings) (before_nul (slice file (start + strings - 1) 1)) strings i (ltb-true i (names_size file start strings) named)
    (λ text nul within.
    let k = strings - 1 - i in
    let there : start + i + k ≡ start + strings - 1 = omega (arith, within) in
    let ended : before_nul (take 1 (drop k (drop (start + i) file))) ≡ Some text =
    ap (λ (xs : List ℕ). before_nul (take 1 xs)) (drop-drop k (start + i) file) ∙ ap (λ (n : ℕ). before_nul (take 1 (drop n file))) there ∙ nul in
    omega (arith, within, ends_by k (drop (start + i) file) p.name text g.right.1 ended))
name_signed file start strings (prop at (Err fault)) g named = tt
name_signed file start strings (begin_node at name) g named = tt
name_signed file start strings (end_node at) g named = tt
name_signed file start strings (nop at) g named = tt
name_signed file start strings (last at) g named = tt
name_signed file start strings (stray at fault) g named = tt

neither : (a b : Option SigningFault) → or_else a b ≡ None → (a ≡ None) × (b ≡ None)
neither None b h = (refl, h)
neither (Some fault) b h = absurd (some_none h)

unrefused : (deep early lacks : Bool) → (let o : Option SigningFault = if deep then Some TooDeep else if early then Some EarlyEnd else if lacks then Some NameUnsigned else None in o) ≡ None → lacks ≡ false
unrefused true early lacks h = absurd (some_none h)
unrefused false true lacks h = absurd (some_none h)
unrefused false false true h = absurd (some_none h)
unrefused false false false h = refl

has_name : (covered named : Bool) → covered ≡ true → (covered && not named) ≡ false → named ≡ true
has_name true true is h = refl
has_name true false is h = true_false true refl h
has_name false named is h = true_false false is refl

-- tokens of which none is refused have their names in the signed strings
pub names_signed : (listed : ℕ → Bool) (b : Blocks) (strings : ℕ) (ps : List Placed) → AllByRecursion (λ p. Good b.bytes b.strings p.token) ps
    → first_refusal (token_refusal listed b (names_size b.bytes b.strings strings)) ps ≡ None → AllByRecursion (λ p. covers listed p.nodes p.token ≡ true → NameSigned b.bytes strings p.token) ps
unfolding first_refusal
names_signed listed b strings [] good none = tt
names_signed listed b strings (p ∷ ps) good none =
    let names = names_size b.bytes b.strings strings in
    let both = neither (token_refusal listed b names p) (first_refusal (token_refusal listed b names) ps) none in
    let lacks = unrefused (begins_deep p) (ends_early b.structure_end p.token) (is_unsigned listed b.bytes names p) both.0 in (
      λ covered. name_signed b.bytes b.strings strings p.token good.0 (has_name (covers listed p.nodes p.token) (is_named (is_property p.token) b.bytes (offset p.token) names) covered lacks),
      names_signed listed b strings ps good.1 both.1,
    )
