-- The memory reservation block of a devicetree blob (Devicetree Specification, section 5.3).
use Rattle.std.specs.Prelude.{ℕ, zero, suc, ◌-◌, ◌/◌, ◌==◌, ◌&&◌, min, nat_lt, List, [], ◌∷◌, ◌++◌}
use Rattle.std.specs.Prelude.{map, length, take, drop, codes, Bool, if◌then◌else◌, Option, Some}
use Rattle.std.specs.{Prelude.{None, Vec}, Int.{from_be_bytes, w64}, Option.option_map}
use Rattle.json.specs.Json.{Json}
use Rattle.uimg_texts.specs.{Numbers.be32, Slices.slice}
use Rattle.uimg_info.specs.declared.reservations.Reservation.{Reservation}
use Rattle.uimg_printing.specs.Members.{Member, object_of, array_of, number_member}

-- the entry at the beginning of bytes: an address and a size
abbrev pub reservation_at : List ℕ → Reservation
reservation_at bytes =
    record {
      address = from_be_bytes w64 (take 8 bytes);
      size = from_be_bytes w64
          (take 8 (drop 8 bytes));
    }

-- whether an entry ends the list
abbrev pub ends_list : Reservation → Bool
ends_list entry = entry.address == 0 && entry.size == 0

-- the collected items, if there are any
abbrev pub items_in : {X Z : Type 0} → Option (Vec X Z) → Option (List X)
items_in gathered = option_map (λ entries. entries.items) gathered

-- the entries before the one that ends the list, if it is among the first n
unfoldable pub entries_of : ℕ → List ℕ → Option (List Reservation)
entries_of zero bytes = None
entries_of (suc n) bytes =
    if ends_list (reservation_at bytes) then Some []
    else option_map (λ es. reservation_at bytes ∷ es)
    (entries_of n (drop 16 bytes))

abbrev pub entries_in : List ℕ → Option (List Reservation)
entries_in bytes = entries_of (length bytes / 16) bytes

-- The entries of a file's block, whose blob has this total size: from the header's offset up to the
-- blob's end, in at most 65,536 bytes; none if the blob ends before that number of the header.
unfoldable pub reservations_of : List ℕ → ℕ → Option (List Reservation)
reservations_of file totalsize =
    if nat_lt totalsize 20 then None else entries_in
    (slice file (be32 file 16) (min 65536 (totalsize - be32 file 16)))

abbrev pub reservation_json : Reservation → Json
reservation_json entry =
    object_of
    (number_member (codes "address") entry.address ++ number_member (codes "size") entry.size)

-- the entries, unless the block has no end there
abbrev pub reservations_members : Option (List Reservation) → List Member
reservations_members None = []
reservations_members (Some entries) =
    (codes "reservations", array_of (map reservation_json entries)) ∷ []
