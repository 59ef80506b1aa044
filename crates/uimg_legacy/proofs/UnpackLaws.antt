-- What is kept of an image, and what is told of it.
use Rattle.std.proofs.Common.{◌≡◌, inl, inr, ◌≤◌, ◌<◌, ◌+◌, ◌*◌, ◌^◌, ℕ, List, [], ◌++◌, length, length-append, Bool, true, false, true≢false, ◌==◌, nat_lt, IsTrue, Option, Some, None, Result, Ok, Err, refl, ap, sym, subst, ◌∙◌, arith}
use Rattle.std.proofs.lemmas.{Bool.{lt-ltb, le-ltb, eq-eqb}, List.{take_all, drop_at}}
use Rattle.uimg_sums.specs.Crc.{crc}
use Rattle.uimg_base.specs.Device.{Device, SameDevice}
use Rattle.uimg_legacy.specs.declared.{header.Header.Header, fault.LegacyFault.LegacyFault}
use Rattle.uimg_legacy.specs.declared.fault.{LegacyFault.TheVariants.Truncated, Fault.Fault}
use Rattle.uimg_legacy.specs.{declared.fault.Fault.TheVariants.{Legacy, Read, Put}, Image.payload}
use Rattle.uimg_legacy.specs.{Header.{header, spelled, spelled_with}, Parts.has_parts}
use Rattle.uimg_legacy.specs.Work.{data_read, sizes_read_with}
use Rattle.uimg_legacy.specs.UnpackingSteps.{TakesDataBetween, SettlesBetween, unpack_work}
use Rattle.uimg_legacy.specs.Unpacking.{Part, chosen_parts, parts_in, data_there, unpacked, unpack_of, AreRight, UnpacksBetween, HasRightParts, EndsAs, KeepsRightBetween}
use Rattle.uimg_legacy.proofs.HeaderLaws.{fields-spelled, header-spelled, length-spelled}
use Rattle.uimg_legacy.proofs.ReadsBackLaw.{head-append, header_from}

-- a header whose spelling is read as it
pub record IsSpelled (h : Header) : Type 0 where
  pub read : header (spelled h) ≡ Ok h
  pub long : length (spelled h) ≡ 64

pub is_spelled : (h : Header) → h.time < 2 ^ 32 → h.size < 2 ^ 32 → h.load < 2 ^ 32 → h.ep < 2 ^ 32 → h.dcrc < 2 ^ 32 → length h.name ≡ 32 → IsSpelled h
is_spelled h time size load ep dcrc name =
    let sum = crc (spelled_with 0 h) in
    record {
      read = header-spelled h sum refl (fields-spelled sum h time size load ep dcrc name) name;
      long = length-spelled sum h name;
    }

-- an image whose data are there
pub unpack_known : (only : Option ℕ) (image : List ℕ) (h : Header) → header image ≡ Ok h → 64 + h.size ≤ length image → unpack_of only image ≡ unpacked only h (payload image h)
unfolding data_there
unpack_known only image h read inside =
    let there : nat_lt (length image) (64 + h.size) ≡ false = le-ltb _ _ inside in
    rw (read, there) refl

pub unpack_truncated : (only : Option ℕ) (image : List ℕ) (h : Header) → header image ≡ Ok h → length image < 64 + h.size → unpack_of only image ≡ Err Truncated
unfolding data_there
unpack_truncated only image h read short =
    let cut : nat_lt (length image) (64 + h.size) ≡ true = lt-ltb _ _ short in
    rw (read, cut) refl

-- data whose sum is right
right_data : (only : Option ℕ) (h : Header) (bytes : List ℕ) (parts : List (List ℕ)) → crc bytes ≡ h.dcrc → parts_in only (has_parts h.kind) bytes ≡ Ok parts → unpacked only h bytes ≡ Ok (Some (chosen_parts only 0 parts))
right_data only h bytes parts sum cut =
    let right : (crc bytes == h.dcrc) ≡ true = eq-eqb _ _ sum in
    rw (cut, right) refl

-- the image of a header and such data
pub image_of : (only : Option ℕ) (h : Header) (bytes : List ℕ) (parts : List (List ℕ)) → IsSpelled h → length bytes ≡ h.size → crc bytes ≡ h.dcrc → parts_in only (has_parts h.kind) bytes ≡ Ok parts → (header (spelled h ++ bytes) ≡ Ok h) × (unpack_of only (spelled h ++ bytes) ≡ Ok (Some (chosen_parts only 0 parts)))
image_of only h bytes parts is long sum cut =
    let read : header (spelled h ++ bytes) ≡ Ok h = ap (λ (r : Result (List ℕ) LegacyFault). header_from r) (head-append (spelled h) bytes is.long) ∙ is.read in
    let all = length-append (spelled h) bytes in
    let body : payload (spelled h ++ bytes) h ≡ bytes = rw (drop_at (spelled h) bytes 64 is.long) (take_all h.size bytes (omega (arith, long))) in
    (read, unpack_known only (spelled h ++ bytes) h read (omega (arith, all, is.long, long)) ∙ ap (λ (xs : List ℕ). unpacked only h xs) body ∙ right_data only h bytes parts sum cut)

-- what is held is right
pub are_right : (only : Option ℕ) (honest : Bool) (h : Header) (d : Device) (right : Bool) (from to : List Part) → IsSpelled h → IsTrue honest → from ≡ [] → TakesDataBetween only honest h d (Ok right) from to → IsTrue right → AreRight h.dcrc to
are_right only honest h d true from to is known none p yes_right =
    let image = image_of only h p.bytes p.parts is p.long p.sum p.cut in
    record {
      only = only;
      image = spelled h ++ p.bytes;
      h = h;
      read = image.0;
      sum = refl;
      told = image.1 ∙ ap (λ (ps : List Part). Ok (Some ps)) (sym (p.held known ∙ ap (λ (ps : List Part). ps ++ chosen_parts only 0 p.parts) none));
    }
are_right only honest h d false from to is known none p yes_right = absurd (true≢false (sym yes_right))

-- what is kept, of any device
pub keeps_right : {E : Type 0} (made : Result Bool E) (only : Option ℕ) (honest : Bool) (h : Header) (d : Device) (right kept : Bool) (from to old mid new : List Part) → IsSpelled h → IsTrue honest → from ≡ [] → TakesDataBetween only honest h d (Ok right) from to → mid ≡ old → SettlesBetween {E = E} right (Ok kept) to mid new → KeepsRightBetween only (Ok kept) old new
keeps_right made only honest h d true kept from to old mid new is known none p before s =
    let image = image_of only h p.bytes p.parts is p.long p.sum p.cut in
    let held : to ≡ chosen_parts only 0 p.parts = p.held known ∙ ap (λ (ps : List Part). ps ++ chosen_parts only 0 p.parts) none in
    subst (λ (b : Bool). KeepsRightBetween only (Ok b) old new) (sym s.0) (record {
      image = spelled h ++ p.bytes;
      keeps = record { parts = chosen_parts only 0 p.parts; is = image.1; kept = s.1 ∙ ap (λ (ps : List Part). ps ++ to) before ∙ ap (λ (ps : List Part). old ++ ps) held };
    })
keeps_right made only honest h d false kept from to old mid new is known none p before s =
    subst (λ (b : Bool). KeepsRightBetween only (Ok b) old new) (sym s.0) (s.1 ∙ before)

-- what is told of an honest device
pub unpacks : {E : Type 0} (made : Result Bool E) (only : Option ℕ) (honest : Bool) (h : Header) (d e : Device) (right kept : Bool) (from to old mid new : List Part) → SameDevice d e → IsTrue d.honest → header d.bytes ≡ Ok h → 64 + h.size ≤ length d.bytes → IsTrue honest → from ≡ [] → TakesDataBetween only honest h e (Ok right) from to → mid ≡ old → SettlesBetween {E = E} right (Ok kept) to mid new → UnpacksBetween (Ok kept) (unpack_of only d.bytes) old new
unpacks made only honest h d e true kept from to old mid new same true_one read inside known none p before s =
    let at_e = subst (λ (b : Bool). IsTrue b) (sym same.honest) true_one in
    let body : p.bytes ≡ payload d.bytes h = p.right at_e ∙ ap (λ (xs : List ℕ). payload xs h) same.bytes in
    let held : to ≡ chosen_parts only 0 p.parts = p.held known ∙ ap (λ (ps : List Part). ps ++ chosen_parts only 0 p.parts) none in
    subst (λ (b : Bool). UnpacksBetween (Ok b) (unpack_of only d.bytes) old new) (sym s.0) (record {
      parts = chosen_parts only 0 p.parts;
      is = unpack_known only d.bytes h read inside ∙ ap (λ (xs : List ℕ). unpacked only h xs) (sym body) ∙ right_data only h p.bytes p.parts p.sum p.cut;
      kept = s.1 ∙ ap (λ (ps : List Part). ps ++ to) before ∙ ap (λ (ps : List Part). old ++ ps) held;
    })
unpacks made only honest h d e false kept from to old mid new same true_one read inside known none p before s =
    let at_e = subst (λ (b : Bool). IsTrue b) (sym same.honest) true_one in
    let w = p at_e in
    let told : unpacked only h (payload e.bytes h) ≡ Ok None = rw (w.cut, w.wrong) refl in
    subst (λ (b : Bool). UnpacksBetween (Ok b) (unpack_of only d.bytes) old new) (sym s.0)
    (unpack_known only d.bytes h read inside ∙ ap (λ (xs : List ℕ). unpacked only h (payload xs h)) (sym same.bytes) ∙ told, s.1 ∙ before)

-- what is kept where keeping failed, of any device
kept_or_not : {E : Type 0} (fault : E) (only : Option ℕ) (honest : Bool) (h : Header) (d : Device) (right : Bool) (from to old mid new : List Part) → IsSpelled h → IsTrue honest → from ≡ [] → TakesDataBetween only honest h d (Ok right) from to → mid ≡ old → SettlesBetween {E = E} right (Err fault) to mid new → KeepsRightBetween only (Err Put) old new
kept_or_not {E} fault only honest h d true from to old mid new is known none p before (inl same) = inl (same ∙ before)
kept_or_not {E} fault only honest h d true from to old mid new is known none p before (inr given) = inr (keeps_right {E = E} (Err fault) only honest h d true true from to old mid new is known none p before (refl, given))
kept_or_not {E} fault only honest h d false from to old mid new is known none p before same = inl (same ∙ before)

pub keeps_failed : {E : Type 0} (fault : E) (only : Option ℕ) (honest : Bool) (h : Header) (d : Device) (right : Bool) (r : Result Bool Fault) (from to old mid new : List Part) → r ≡ Err Put → IsSpelled h → IsTrue honest → from ≡ [] → TakesDataBetween only honest h d (Ok right) from to → mid ≡ old → SettlesBetween {E = E} right (Err fault) to mid new → KeepsRightBetween only r old new
keeps_failed {E} fault only honest h d right r from to old mid new failed is known none p before s =
    subst (λ (x : Result Bool Fault). KeepsRightBetween only x old new) (sym failed) (kept_or_not {E = E} fault only honest h d right from to old mid new is known none p before s)

-- the same of an honest one
told_or_not : {E : Type 0} (fault : E) (only : Option ℕ) (honest : Bool) (h : Header) (d e : Device) (right : Bool) (from to old mid new : List Part) → SameDevice d e → IsTrue d.honest → header d.bytes ≡ Ok h → 64 + h.size ≤ length d.bytes → IsTrue honest → from ≡ [] → TakesDataBetween only honest h e (Ok right) from to → mid ≡ old → SettlesBetween {E = E} right (Err fault) to mid new → UnpacksBetween (Err Put) (unpack_of only d.bytes) old new
told_or_not {E} fault only honest h d e true from to old mid new same true_one read inside known none p before (inl none_kept) = inl (none_kept ∙ before)
told_or_not {E} fault only honest h d e true from to old mid new same true_one read inside known none p before (inr given) =
    inr (unpacks {E = E} (Err fault) only honest h d e true true from to old mid new same true_one read inside known none p before (refl, given))
told_or_not {E} fault only honest h d e false from to old mid new same true_one read inside known none p before none_kept = inl (none_kept ∙ before)

pub unpacks_failed : {E : Type 0} (fault : E) (only : Option ℕ) (honest : Bool) (h : Header) (d e : Device) (right : Bool) (r : Result Bool Fault) (from to old mid new : List Part) → r ≡ Err Put → SameDevice d e → IsTrue d.honest → header d.bytes ≡ Ok h → 64 + h.size ≤ length d.bytes → IsTrue honest → from ≡ [] → TakesDataBetween only honest h e (Ok right) from to → mid ≡ old → SettlesBetween {E = E} right (Err fault) to mid new → UnpacksBetween r (unpack_of only d.bytes) old new
unpacks_failed {E} fault only honest h d e right r from to old mid new failed same true_one read inside known none p before s =
    subst (λ (x : Result Bool Fault). UnpacksBetween x (unpack_of only d.bytes) old new) (sym failed) (told_or_not {E = E} fault only honest h d e right from to old mid new same true_one read inside known none p before s)

-- nothing is kept before the parts are settled
none_kept : (only : Option ℕ) (fault : Fault) (old new : List Part) → new ≡ old → KeepsRightBetween only (Err fault) old new
none_kept only (Legacy fault) old new same = same
none_kept only Read old new same = same
none_kept only Put old new same = inl same

pub keeps_none : (only : Option ℕ) (r : Result Bool Fault) (fault : Fault) (old new : List Part) → r ≡ Err fault → new ≡ old → KeepsRightBetween only r old new
keeps_none only r fault old new is same = subst (λ (x : Result Bool Fault). KeepsRightBetween only x old new) (sym is) (none_kept only fault old new same)

-- what is told where data are refused
refused_data : (only : Option ℕ) (h : Header) (bytes : List ℕ) (fault : LegacyFault) → parts_in only (has_parts h.kind) bytes ≡ Err fault → unpacked only h bytes ≡ Err fault
refused_data only h bytes fault e = rw e refl

pub stops : (only : Option ℕ) (honest : Bool) (h : Header) (d e : Device) (r : Result Bool Fault) (fault : Fault) (from to old new : List Part) → r ≡ Err fault → SameDevice d e → IsTrue d.honest → header d.bytes ≡ Ok h → 64 + h.size ≤ length d.bytes → TakesDataBetween only honest h e (Err fault) from to → new ≡ old → UnpacksBetween r (unpack_of only d.bytes) old new
stops only honest h d e r (Legacy fault) from to old new is same true_one read inside p kept =
    let at_e = subst (λ (b : Bool). IsTrue b) (sym same.honest) true_one in
    subst (λ (x : Result Bool Fault). UnpacksBetween x (unpack_of only d.bytes) old new) (sym is)
    (unpack_known only d.bytes h read inside ∙ ap (λ (xs : List ℕ). unpacked only h (payload xs h)) (sym same.bytes) ∙ refused_data only h (payload e.bytes h) fault (p at_e), kept)
stops only honest h d e r Read from to old new is same true_one read inside p kept = subst (λ (x : Result Bool Fault). UnpacksBetween x (unpack_of only d.bytes) old new) (sym is) kept
stops only honest h d e r Put from to old new is same true_one read inside p kept = subst (λ (x : Result Bool Fault). UnpacksBetween x (unpack_of only d.bytes) old new) (sym is) (inl kept)

-- the same whatever the taker does
pub ends_of : (r : Result Bool Fault) (told : Result (Option (List Part)) LegacyFault) (old new : List Part) → UnpacksBetween r told old new → EndsAs r told
ends_of (Ok true) told old new k = subst (λ (t : Result (Option (List Part)) LegacyFault). HasRightParts t) (sym k.is) tt
ends_of (Ok false) told old new k = k.0
ends_of (Err (Legacy fault)) told old new k = k.0
ends_of (Err Read) told old new k = tt
ends_of (Err Put) told old new k = tt

pub ends_kept : (only : Option ℕ) (honest : Bool) (h : Header) (d e : Device) (right kept : Bool) (from to : List Part) → SameDevice d e → IsTrue d.honest → header d.bytes ≡ Ok h → 64 + h.size ≤ length d.bytes → TakesDataBetween only honest h e (Ok right) from to → kept ≡ right → EndsAs (Ok kept) (unpack_of only d.bytes)
ends_kept only honest h d e true kept from to same one read inside p is =
    let ps = chosen_parts only 0 p.parts in
    let q : TakesDataBetween only true h e (Ok true) [] ps = record { bytes = p.bytes; parts = p.parts; long = p.long; sum = p.sum; cut = p.cut; right = p.right; held = λ known. refl } in
    ends_of (Ok kept) (unpack_of only d.bytes) [] ps (unpacks {E = Fault} (Ok kept) only true h d e true kept [] ps [] [] ps same one read inside refl refl q refl (is, refl))
ends_kept only honest h d e false kept from to same one read inside p is =
    ends_of (Ok kept) (unpack_of only d.bytes) [] [] (unpacks {E = Fault} (Ok kept) only true h d e false kept [] [] [] [] [] same one read inside refl refl p refl (is, refl))

-- the most that is asked for
pub work_known : (d e : Device) (h : Header) → SameDevice d e → header d.bytes ≡ Ok h → 64 + h.size ≤ length d.bytes → unpack_work d.bytes ≡ 64 + (h.size + 8 * (sizes_read_with (has_parts h.kind) (payload e.bytes h) + 1))
unfolding data_read
work_known d e h same read inside =
    let there : nat_lt (length d.bytes) (64 + h.size) ≡ false = le-ltb _ _ inside in
    rw (read, there, same.bytes) refl
