-- Why a configuration is refused, a node at a time.
use Rattle.std.proofs.Common.{◌≡◌, ℕ, suc, ◌+◌, List, [], ◌∷◌, Option, Some, None, Bool, true, false, if◌then◌else◌, ◌<◌, length, drop, get_or, refl, ap, sym, ◌∙◌}
use Rattle.std.proofs.lemmas.List.{drop_more}
use Rattle.uimg_blob_reading.specs.Rows.{Row}
use Rattle.uimg_keys.specs.declared.key.PublicKey.{PublicKey}
use Rattle.uimg_verifying.specs.declared.required.Required.{Required}
use Rattle.uimg_strict.specs.declared.loose.Looseness.{Looseness}
use Rattle.uimg_strict.specs.declared.loose.Looseness.TheVariants.{SignedNodes, SignedStrings, Unsigned}
use Rattle.uimg_verifying.specs.Configurations.{is_configuration, configuration_refusal, decides, judged_node, only_of, refused_after, refused_by, refused_from, tried_node, unsigned_after, unsigned_from}
use Rattle.uimg_blob_reading.specs.declared.roles.Role.{Role}
use Rattle.uimg_blob_reading.specs.declared.roles.Role.TheVariants as role
use Rattle.uimg_signing.specs.Listing.{name_in}
use Rattle.uimg_strict.specs.Looseness.{LooseSaid}
use Rattle.uimg_verifying.specs.declared.configurations.Judged.{Judged}
use Rattle.uimg_verifying.specs.declared.configurations.Judged.TheVariants as judged
use Rattle.uimg_verifying.specs.declared.configurations.Tried.{Tried, TheVariants.{Other, Outside, Valid, Refused}}

module _ (sha1 : Bool) (key : PublicKey) (file : List ℕ) (rows : List Row) (configuration : ℕ) (its node : Row) (nodes : List Row) (why : Looseness) (found : Tried) (is : found ≡ tried_node sha1 key file rows configuration its node) where
  after : (left : ℕ) → refused_after found why left (λ w more. refused_from sha1 key file rows configuration its w more nodes) ≡ refused_from sha1 key file rows configuration its why left (node ∷ nodes)
  unfolding refused_from
  after left = ap (λ (o : Tried). refused_after o why left (λ w more. refused_from sha1 key file rows configuration its w more nodes)) is

  by_found : (other : Tried) (left n : ℕ) → found ≡ other → left ≡ n → refused_after other why n (λ w more. refused_from sha1 key file rows configuration its w more nodes) ≡ refused_from sha1 key file rows configuration its why left (node ∷ nodes)
  by_found other left n same many =
      ap (λ (o : Tried). refused_after o why n (λ w more. refused_from sha1 key file rows configuration its w more nodes)) (sym same)
      ∙ ap (λ (m : ℕ). refused_after found why m (λ w more. refused_from sha1 key file rows configuration its w more nodes)) (sym many) ∙ after left

  pub none_more : (left : ℕ) → found ≡ Other → refused_from sha1 key file rows configuration its why left nodes ≡ refused_from sha1 key file rows configuration its why left (node ∷ nodes)
  none_more left same = by_found Other left left same refl

  pub strings_outside : (left : ℕ) → found ≡ Outside → Some SignedStrings ≡ refused_from sha1 key file rows configuration its why left (node ∷ nodes)
  strings_outside left same = by_found Outside left left same refl

  too_many : (left : ℕ) (one : Tried) → (one ≡ Other → ⊥) → (one ≡ Outside → ⊥) → found ≡ one → left ≡ 0 → Some SignedNodes ≡ refused_from sha1 key file rows configuration its why left (node ∷ nodes)
  too_many left Other not inside same none = absurd (not refl)
  too_many left Outside not inside same none = absurd (inside refl)
  too_many left Valid not inside same none = by_found Valid left 0 same none
  too_many left (Refused w) not inside same none = by_found (Refused w) left 0 same none

  -- no more signatures are tried
  pub none_tried : (left : ℕ) → (found ≡ Other → ⊥) → (found ≡ Outside → ⊥) → left ≡ 0 → Some SignedNodes ≡ refused_from sha1 key file rows configuration its why left (node ∷ nodes)
  none_tried left not inside none = too_many left found not inside refl none

  pub one_valid : (left more : ℕ) → found ≡ Valid → left ≡ suc more → None ≡ refused_from sha1 key file rows configuration its why left (node ∷ nodes)
  one_valid left more same many = by_found Valid left (suc more) same many

  pub one_refused : (left more : ℕ) (w : Looseness) → found ≡ Refused w → left ≡ suc more → refused_from sha1 key file rows configuration its w more nodes ≡ refused_from sha1 key file rows configuration its why left (node ∷ nodes)
  one_refused left more w same many = by_found (Refused w) left (suc more) same many

pub none_left : (sha1 : Bool) (key : PublicKey) (file : List ℕ) (rows : List Row) (configuration : ℕ) (its : Row) (why : Looseness) (left : ℕ) (nodes : List Row) → nodes ≡ [] → Some why ≡ refused_from sha1 key file rows configuration its why left nodes
unfolding refused_from
none_left sha1 key file rows configuration its why left nodes none = sym (ap (refused_from sha1 key file rows configuration its why left) none)

pub not_configuration : (r : Role) → (r ≡ role.Configuration → ⊥) → false ≡ is_configuration r
not_configuration role.Configuration not = absurd (not refl)
not_configuration role.Root not = refl
not_configuration role.Images not = refl
not_configuration role.Image not = refl
not_configuration role.Hash not = refl
not_configuration role.Signature not = refl
not_configuration role.Configurations not = refl
not_configuration role.Other not = refl

-- a key and those after it
pub key_left : (xs keys : List PublicKey) (i : ℕ) (key : PublicKey) → xs ≡ keys → i < length xs → key ≡ get_or xs i key → drop i keys ≡ key ∷ drop (i + 1) keys
key_left xs keys i key same within is =
    ap (λ (l : List PublicKey). drop i l) (sym same) ∙ drop_more xs i key within ∙ ap (λ (k : PublicKey). k ∷ drop (i + 1) xs) (sym is) ∙ ap (λ (l : List PublicKey). key ∷ drop (i + 1) l) same

module _ (is_any : Bool) (refusal : PublicKey → Option Looseness) (key : PublicKey) (keys left : List PublicKey) (found before : Option Looseness) (are : left ≡ key ∷ keys) (is : found ≡ refusal key) where
  of_key : (if decides is_any found then found else refused_by is_any refusal keys found) ≡ refused_by is_any refusal left before
  unfolding refused_by
  of_key = ap (λ (o : Option Looseness). if decides is_any o then o else refused_by is_any refusal keys o) is
      ∙ sym (ap (λ (ks : List PublicKey). refused_by is_any refusal ks before) are)

  pub key_decides : decides is_any found ≡ true → found ≡ refused_by is_any refusal left before
  key_decides so = sym (ap (λ (b : Bool). if b then found else refused_by is_any refusal keys found) so) ∙ of_key

  pub keys_go_on : decides is_any found ≡ false → refused_by is_any refusal keys found ≡ refused_by is_any refusal left before
  keys_go_on so = sym (ap (λ (b : Bool). if b then found else refused_by is_any refusal keys found) so) ∙ of_key

pub keys_end : (is_any : Bool) (refusal : PublicKey → Option Looseness) (left : List PublicKey) (found : Option Looseness) → left ≡ [] → found ≡ refused_by is_any refusal left found
unfolding refused_by
keys_end is_any refusal left found none = sym (ap (λ (ks : List PublicKey). refused_by is_any refusal ks found) none)

module _ (required : Required) (file : List ℕ) (rows : List Row) (i : ℕ) (row : Row) (more : List Row) (any : Bool) (found : Judged) (is : found ≡ judged_node required file rows i row) where
  past : unsigned_after found any (name_in file row) (λ b. unsigned_from required file rows (i + 1) b more) ≡ unsigned_from required file rows i any (row ∷ more)
  unfolding unsigned_from
  past = by any where
    by : (b : Bool) → unsigned_after found b (name_in file row) (λ b. unsigned_from required file rows (i + 1) b more) ≡ unsigned_from required file rows i b (row ∷ more)
    by true = ap (λ (o : Judged). unsigned_after o true (name_in file row) (λ b. unsigned_from required file rows (i + 1) b more)) is
    by false = ap (λ (o : Judged). unsigned_after o false (name_in file row) (λ b. unsigned_from required file rows (i + 1) b more)) is

  by_judged : (other : Judged) → found ≡ other → unsigned_after other any (name_in file row) (λ b. unsigned_from required file rows (i + 1) b more) ≡ unsigned_from required file rows i any (row ∷ more)
  by_judged other same = ap (λ (o : Judged). unsigned_after o any (name_in file row) (λ b. unsigned_from required file rows (i + 1) b more)) (sym same) ∙ past

  pub other_more : found ≡ judged.Other → unsigned_from required file rows (i + 1) any more ≡ unsigned_from required file rows i any (row ∷ more)
  other_more same = by_judged judged.Other same

  pub signed_more : found ≡ judged.Signed → unsigned_from required file rows (i + 1) true more ≡ unsigned_from required file rows i any (row ∷ more)
  signed_more same = by_judged judged.Signed same

  pub refused_here : (why : Looseness) → found ≡ judged.Refused why → (said : LooseSaid) → said ≡ record { why = why; node = Some (name_in file row) } → Some said ≡ unsigned_from required file rows i any (row ∷ more)
  refused_here why same said what = ap (λ (x : LooseSaid). let o : Option LooseSaid = Some x in o) what ∙ by_judged (judged.Refused why) same

pub all_signed : (required : Required) (file : List ℕ) (rows : List Row) (i : ℕ) (any : Bool) (nodes : List Row) → nodes ≡ [] → any ≡ true → None ≡ unsigned_from required file rows i any nodes
unfolding unsigned_from
all_signed required file rows i any nodes none has = rw (none, has) refl

pub no_configuration : (required : Required) (file : List ℕ) (rows : List Row) (i : ℕ) (any : Bool) (nodes : List Row) → nodes ≡ [] → any ≡ false → (said : LooseSaid) → said ≡ record { why = Unsigned; node = only_of required } → Some said ≡ unsigned_from required file rows i any nodes
unfolding unsigned_from
no_configuration required file rows i any nodes none has said what = rw (none, has, what) refl
