-- The reservation block of a FIT image (Devicetree Specification, section 5.3).
use Rattle.std.specs.Prelude.{ℕ, zero, suc, ◌-◌, ◌/◌, ◌==◌, nat_lt, min, List, [], ◌∷◌, length, take}
use Rattle.std.specs.Prelude.{drop, Bool, if◌then◌else◌, Option, Some, None, Vec}
use Rattle.std.specs.{Int.{from_be_bytes, w64}, Option.option_map}
use Rattle.uimg_texts.specs.{Numbers.be32, Slices.slice}
use Rattle.uimg_blob_writing.specs.declared.reservation.Reservation.{Reservation}

-- the entry at the beginning of bytes: an address and a size
abbrev pub reservation_at : List ℕ → Reservation
reservation_at bytes =
    record {
      address = from_be_bytes w64 (take 8 bytes);
      size = from_be_bytes w64
          (take 8 (drop 8 bytes));
    }

-- whether an entry ends the list: one of no bytes, as in libfdt's fdt_num_mem_rsv; the Specification
-- ends it by a pair of zeros
abbrev pub ends_list : Reservation → Bool
ends_list entry = entry.size == 0

-- the collected items, if there are any
abbrev pub items_in : {X Z : Type 0} → Option (Vec X Z) → Option (List X)
items_in gathered = option_map (λ entries. entries.items) gathered

-- the entries before the one that ends the list, if it is among the first n
unfoldable pub entries_of : ℕ → List ℕ → Option (List Reservation)
entries_of zero bytes = None
entries_of (suc n) bytes =
    if ends_list (reservation_at bytes) then Some []
    else option_map (λ es. reservation_at bytes ∷ es)
    (entries_of n (drop 16 bytes))

abbrev pub entries_in : List ℕ → Option (List Reservation)
entries_in bytes = entries_of (length bytes / 16) bytes

-- where the block may end at most: where the structure block begins if that is behind it, and else
-- where the blob ends
abbrev pub block_end : ℕ → ℕ → ℕ → ℕ
block_end place structure total = if nat_lt place structure then min structure total else total

-- The entries of a file's block, in at most 65,536 bytes from the header's offset on; none if the
-- block begins within the header, or does not end there.
abbrev pub reservations_of : List ℕ → Option (List Reservation)
reservations_of file =
    if nat_lt (be32 file 16) 40 then None else entries_in
    (slice file (be32 file 16)
    (min 65536 (block_end (be32 file 16) (be32 file 8) (be32 file 4) - be32 file 16)))
