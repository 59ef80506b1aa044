-- A map that was written is that of its file.
use Rattle.std.proofs.Common.{◌≡◌, ℕ, List, length, Option, Result, inr, ap, subst, ◌∙◌}
use Rattle.std.specs.Prelude.{IsTrue}
use Rattle.uimg_base.specs.Device.{Device, SameDevice}
use Rattle.uimg_map.specs.declared.{map.Map.Map}
use Rattle.uimg_map.specs.{Lines.PutsLines, Maps.{IsMapOf}}
use Rattle.uimg_tool.specs.{Answering.Comes, FaultTexts.told_of_exit, Maps.{IsMapped, mapped_status, mapped_told}, Statuses.exit_status}
use Rattle.uimg_tool.specs.declared.request_fault.RequestFault.{RequestFault}

pub came : (d e : Device) (map : Map) (end : Result ℕ RequestFault) (old new : Option (List ℕ)) → SameDevice d e → map.size ≡ length d.bytes → (IsTrue d.honest → IsMapOf d.bytes map)
    → (IsTrue e.honest → PutsLines e.bytes map map.rows.items old new) → exit_status end ≡ mapped_status map.fault → told_of_exit end ≡ mapped_told map.fault → IsTrue d.honest → Comes (IsMapped d.bytes) (exit_status end) (told_of_exit end) old new
came d e map end old new same size found lines status told honest =
    let put = subst (λ (file : List ℕ). PutsLines file map map.rows.items old new) same.bytes (lines (same.honest ∙ honest)) in
    let first = (found honest).first in
    inr (record { is = status ∙ ap mapped_status first; tells = told ∙ ap mapped_told first; map = map; size = size; found = found honest; put = put })
