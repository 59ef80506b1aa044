-- Contents that grow by one thing and by the next.
use Rattle.std.proofs.Common.{◌≡◌, ◌≤◌, ℕ, ◌+◌, List, [], ◌∷◌, ◌++◌, length, map, length-append, append_assoc, append-nil, add-zero, Bool, false, Option, Some, None, Result, Ok, Err, OnOk, IfErr, IsTrue, ◌∙◌, ap, sym, refl, subst, arith}
use Rattle.std.proofs.lemmas.List.{map-append, length-map}
use Rattle.uimg_base.specs.{Device.{Device, RisesIf}, Using.{Asks, UsesAtMost}}
use Rattle.uimg_map.specs.declared.{contents.Contents.Contents, fault.MapFault.MapFault}
use Rattle.uimg_map.specs.declared.{fault.MapFault.TheVariants.OutOfMemory, thing.Thing.Thing}
use Rattle.uimg_map.specs.Contents.{numbered_things, GrowsBy, AddsFound, Gathers}
use Rattle.uimg_map.specs.Faults.{is_read, stops}
use Rattle.uimg_map.specs.Found.{What, Found, Told, read_label, earlier_fault, found_then, nothing}

-- things behind others have the numbers behind theirs
numbered-append : (n : ℕ) (fs gs : List Found) → numbered_things n (fs ++ gs) ≡ numbered_things n fs ++ numbered_things (n + length fs) gs
numbered-append n [] gs = ap (λ (k : ℕ). numbered_things k gs) (sym (add-zero n))
numbered-append n (f ∷ fs) gs =
    let next : (n + 1) + length fs ≡ n + length (f ∷ fs) = omega arith in
    let more : numbered_things (n + 1) (fs ++ gs) ≡ numbered_things (n + 1) fs ++ numbered_things (n + length (f ∷ fs)) gs =
    numbered-append (n + 1) fs gs ∙ ap (λ (k : ℕ). numbered_things (n + 1) fs ++ numbered_things k gs) next in
    ap (λ (ts : List Thing). record { place = f.place; end = f.end; number = n } ∷ ts) more

first_of-assoc : (a b c : Option MapFault) → earlier_fault (earlier_fault a b) c ≡ earlier_fault a (earlier_fault b c)
first_of-assoc (Some fault) b c = refl
first_of-assoc None b c = refl

first_of-none : (a : Option MapFault) → a ≡ earlier_fault a None
first_of-none (Some fault) = refl
first_of-none None = refl

-- contents grow by nothing
pub grows_none : (file : List ℕ) (a : Contents) → GrowsBy file nothing a a
grows_none file a = record {
  size = refl;
  things = sym (append-nil a.things.items);
  labels = sym (append-nil (map (read_label file) a.labels.items));
  first = first_of-none a.fault;
}

-- by this and then by that
pub grows_then : {file : List ℕ} {m n : Told} {a b c : Contents} → GrowsBy file m a b → GrowsBy file n b c → GrowsBy file (found_then m n) a c
grows_then {file} {m} {n} {a} {b} {c} p q =
    let names : List Found → List What = map (λ (f : Found). f.what) in
    let count : length b.labels.items ≡ length a.labels.items + length m.found =
    sym (length-map b.labels.items (read_label file)) ∙ ap (λ (ws : List What). length ws) p.labels
    ∙ length-append (map (read_label file) a.labels.items) (names m.found)
    ∙ ap (λ (k : ℕ). k + length (names m.found)) (length-map a.labels.items (read_label file))
    ∙ ap (λ (k : ℕ). length a.labels.items + k) (length-map m.found (λ (f : Found). f.what)) in
    record {
      size = q.size ∙ p.size;
      things = q.things
          ∙ ap (λ (ts : List Thing). ts ++ numbered_things (length b.labels.items) n.found) p.things
          ∙ append_assoc a.things.items (numbered_things (length a.labels.items) m.found) (numbered_things (length b.labels.items) n.found)
          ∙ ap (λ (k : ℕ). a.things.items ++ (numbered_things (length a.labels.items) m.found ++ numbered_things k n.found)) count
          ∙ ap (λ (ts : List Thing). a.things.items ++ ts) (sym (numbered-append (length a.labels.items) m.found n.found));
      labels = q.labels
          ∙ ap (λ (ws : List What). ws ++ names n.found) p.labels
          ∙ append_assoc (map (read_label file) a.labels.items) (names m.found) (names n.found)
          ∙ ap (λ (ws : List What). map (read_label file) a.labels.items ++ ws) (sym (map-append (λ (f : Found). f.what) m.found n.found));
      first = q.first ∙ ap (λ (f : Option MapFault). earlier_fault f n.fault) p.first ∙ first_of-assoc a.fault m.fault n.fault;
    }

then_grows : {Y : Type 0} {file : List ℕ} {m : Told} {a b : Contents} (n : Told) (c : Contents) (r : Result Y MapFault) → GrowsBy file m a b → OnOk r (GrowsBy file n b c) → OnOk r (GrowsBy file (found_then m n) a c)
then_grows n c (Ok y) p q = grows_then p q
then_grows n c (Err e) p q = q

-- a step that gathers and the next
pub gathers_then : {X Y : Type 0} {x : X} {r : Result Y MapFault} {v w : List ℕ → ℕ} {m n : List ℕ → Told} {d e f : Device} {a b c : Contents}
    → Gathers v m (Ok x) d e a b → Gathers w n r e f b c → Gathers (λ file. v file + w file) (λ file. found_then (m file) (n file)) r d f a c
gathers_then {X} {Y} {x} {r} {v} {w} {m} {n} {d} {e} {f} {a} {b} {c} p q =
    let bytes : e.bytes ≡ d.bytes = p.uses.same.bytes in
    let honest : IsTrue d.honest → IsTrue e.honest = λ h. subst IsTrue (sym p.uses.same.honest) h in
    record {
      uses = record {
        same = record { bytes = q.uses.same.bytes ∙ bytes; honest = q.uses.same.honest ∙ p.uses.same.honest };
        asked = λ h.
            let first : e.asked ≤ d.asked + v d.bytes = p.uses.asked h in
            let next : f.asked ≤ e.asked + w d.bytes = subst (λ (file : List ℕ). f.asked ≤ e.asked + w file) bytes (q.uses.asked (honest h)) in
            omega (arith, first, next);
        failures = subst (λ (k : ℕ). RisesIf (is_read r) k f.failures) p.uses.failures q.uses.failures;
      };
      size = q.size ∙ p.size;
      grows = λ h. then_grows (n d.bytes) c r (p.grows h) (subst (λ (file : List ℕ). OnOk r (GrowsBy file (n file) b c)) bytes (q.grows (honest h)));
      stops = λ h. q.stops (honest h);
    }

-- a read, and a step that gathers
pub reads_then : {Y : Type 0} {r : Result Y MapFault} {w : List ℕ → ℕ} {n : List ℕ → Told} {d e f : Device} {a b : Contents} (v : List ℕ → ℕ)
    → UsesAtMost (v d.bytes) false d e → Gathers w n r e f a b → Gathers (λ file. v file + w file) n r d f a b
reads_then {Y} {r} {w} {n} {d} {e} {f} {a} {b} v p q =
    let bytes : e.bytes ≡ d.bytes = p.same.bytes in
    let honest : IsTrue d.honest → IsTrue e.honest = λ h. subst IsTrue (sym p.same.honest) h in
    record {
      uses = record {
        same = record { bytes = q.uses.same.bytes ∙ bytes; honest = q.uses.same.honest ∙ p.same.honest };
        asked = λ h.
            let first : e.asked ≤ d.asked + v d.bytes = p.asked h in
            let next : f.asked ≤ e.asked + w d.bytes = subst (λ (file : List ℕ). f.asked ≤ e.asked + w file) bytes (q.uses.asked (honest h)) in
            omega (arith, first, next);
        failures = subst (λ (k : ℕ). RisesIf (is_read r) k f.failures) p.failures q.uses.failures;
      };
      size = q.size;
      grows = λ h. subst (λ (file : List ℕ). OnOk r (GrowsBy file (n file) a b)) bytes (q.grows (honest h));
      stops = λ h. q.stops (honest h);
    }

-- contents that grow, and a step that gathers
pub adds_then : {Y : Type 0} {r : Result Y MapFault} {w : List ℕ → ℕ} {m n : List ℕ → Told} {d e : Device} {a b c : Contents}
    → b.size ≡ a.size → ((file : List ℕ) → GrowsBy file (m file) a b) → Gathers w n r d e b c → Gathers w (λ file. found_then (m file) (n file)) r d e a c
adds_then {Y} {r} {w} {m} {n} {d} {e} {a} {b} {c} size p q = record {
  uses = q.uses;
  size = q.size ∙ size;
  grows = λ h. then_grows (n d.bytes) c r (p d.bytes) (q.grows h);
  stops = q.stops;
}

-- a read, and contents that grow
adds_unread : {X : Type 0} (r : Result X MapFault) → IfErr r (λ fault. fault ≡ OutOfMemory) → is_read r ≡ false
adds_unread (Ok x) h = refl
adds_unread (Err fault) h = ap (λ (e : MapFault). is_read {X = ℕ} (Err e)) h

adds_stops : {X : Type 0} (r : Result X MapFault) → IfErr r (λ fault. fault ≡ OutOfMemory) → IfErr r (λ fault. IsTrue (stops fault))
adds_stops (Ok x) h = tt
adds_stops (Err fault) h = subst (λ (e : MapFault). IsTrue (stops e)) (sym h) refl

adds_grow : {X : Type 0} (n : List ℕ → Told) (a b : Contents) (file : List ℕ) (r : Result X MapFault) → OnOk r ((file : List ℕ) → GrowsBy file (n file) a b) → OnOk r (GrowsBy file (n file) a b)
adds_grow n a b file (Ok x) h = h file
adds_grow n a b file (Err fault) h = h

pub reads_and_adds : {Y : Type 0} {r : Result Y MapFault} {v : List ℕ → ℕ} {n : List ℕ → Told} {d e : Device} {a b : Contents}
    → UsesAtMost (v d.bytes) false d e → AddsFound n r a b → Gathers v n r d e a b
reads_and_adds {Y} {r} {v} {n} {d} {e} {a} {b} p q = record {
  uses = record {
    same = p.same;
    asked = p.asked;
    failures = subst (λ (failed : Bool). RisesIf failed d.failures e.failures) (sym (adds_unread r q.memory)) p.failures;
  };
  size = q.size;
  grows = λ h. adds_grow n a b d.bytes r q.grows;
  stops = λ h. adds_stops r q.memory;
}

-- the same by other definitions
pub gathers_as : {Y : Type 0} {r : Result Y MapFault} {v w : List ℕ → ℕ} {m n : List ℕ → Told} {d e : Device} {a b : Contents}
    → (IsTrue d.honest → v d.bytes ≤ w d.bytes) → (IsTrue d.honest → m d.bytes ≡ n d.bytes) → Gathers v m r d e a b → Gathers w n r d e a b
gathers_as {Y} {r} {v} {w} {m} {n} {d} {e} {a} {b} less is q = record {
  uses = record {
    same = q.uses.same;
    asked = λ h. let most = q.uses.asked h in let fewer = less h in omega (arith, most, fewer);
    failures = q.uses.failures;
  };
  size = q.size;
  grows = λ h. subst (λ (t : Told). OnOk r (GrowsBy d.bytes t a b)) (is h) (q.grows h);
  stops = q.stops;
}

-- at most so many bytes of any device, and so of an honest one
pub at_most : {n : ℕ} {failed : Bool} {d e : Device} → Asks n failed d e → UsesAtMost n failed d e
at_most p = record { same = p.same; asked = λ _. p.asked; failures = p.failures }

-- no byte
pub none_asked : (d : Device) → UsesAtMost 0 false d d
none_asked d = record { same = record { bytes = refl; honest = refl }; asked = λ _. omega arith; failures = refl }

-- a read, and contents that grow
pub reads_and_grows : {Y : Type 0} {y : Y} {v : List ℕ → ℕ} {n : List ℕ → Told} {d e : Device} {a b : Contents}
    → UsesAtMost (v d.bytes) false d e → ((file : List ℕ) → GrowsBy file (n file) a b) → Gathers v n (Ok y) d e a b
reads_and_grows {Y} {y} {v} {n} {d} {e} {a} {b} p q = record {
  uses = record { same = p.same; asked = p.asked; failures = p.failures };
  size = (q d.bytes).size;
  grows = λ h. q d.bytes;
  stops = λ h. tt;
}
