-- How contents grow by what is found in a file.
use Rattle.std.specs.Prelude.{◌≡◌, ℕ, ◌+◌, List, [], ◌∷◌, ◌++◌, length, map, Result, OnOk, IfErr}
use Rattle.std.specs.Prelude.{IsTrue}
use Rattle.uimg_base.specs.{Device.Device, Using.UsesAtMost}
use Rattle.uimg_map.specs.declared.{contents.Contents.Contents, fault.MapFault.MapFault}
use Rattle.uimg_map.specs.declared.{fault.MapFault.TheVariants.OutOfMemory, thing.Thing.Thing}
use Rattle.uimg_map.specs.{Faults.{is_read, stops}, Found.{Found, Told, read_label, earlier_fault}}

-- things in their order, numbered from `number` on
abbrev pub numbered_things : ℕ → List Found → List Thing
numbered_things number [] = []
numbered_things number (f ∷ fs) =
    record { place = f.place; end = f.end; number = number } ∷ numbered_things (number + 1) fs

-- Contents grew by what is found in a file: things with their labels' numbers, and a first fault.
pub record GrowsBy (file : List ℕ) (more : Told) (old new : Contents) : Type 0 where
  pub size : new.size ≡ old.size
  pub things : new.things.items ≡ old.things.items
      ++ numbered_things (length old.labels.items) more.found
  pub labels : map (read_label file) new.labels.items ≡ map
      (read_label file) old.labels.items ++ map (λ f. f.what) more.found
  pub first : new.fault ≡ earlier_fault old.fault more.fault

-- Contents grew so, for any file, unless memory was refused.
pub record AddsFound {X : Type 0} (told : List ℕ → Told) (result : Result X MapFault)
    (old new : Contents) : Type 0 where
  pub size : new.size ≡ old.size
  pub grows : OnOk result ((file : List ℕ) → GrowsBy file (told file) old new)
  pub memory : IfErr result (λ fault. fault ≡ OutOfMemory)

-- Of an honest device at most `work` bytes were requested, and contents grew by what is found in
-- its bytes, unless a read failed or memory was refused.
pub record Gathers {X : Type 0} (work : List ℕ → ℕ) (told : List ℕ → Told)
    (result : Result X MapFault) (old new : Device) (before after : Contents) : Type 0 where
  pub uses : UsesAtMost (work old.bytes) (is_read result) old new
  pub size : after.size ≡ before.size
  pub grows : IsTrue old.honest → OnOk result (GrowsBy old.bytes (told old.bytes) before after)
  pub stops : IsTrue old.honest → IfErr result (λ fault. IsTrue (stops fault))
