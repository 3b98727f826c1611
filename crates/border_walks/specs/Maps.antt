-- What `mapping` answers for C: a struct of numbers, the first 0 where nothing is refused.
use Rattle.rules.specs.declared.Refusal.{Refusal}
use Rattle.mapping.specs.declared.Counts.{Counts}
use Rattle.std.specs.Prelude.{◌≡◌, ℕ, Err, Result, Ok}
use Rattle.rules.specs.Refusals.{Fault, of_none, fault_of}
use Rattle.border_walks.specs.declared.maps.MapReply.{MapReply}

abbrev pub map_fault : Result Counts Refusal → Fault
map_fault (Ok c) = of_none 0
map_fault (Err r) = fault_of r

abbrev pub bytes_of : Result Counts Refusal → ℕ
bytes_of (Ok c) = c.bytes
bytes_of (Err r) = 0

abbrev pub rows_of : Result Counts Refusal → ℕ
rows_of (Ok c) = c.rows
rows_of (Err r) = 0

pub record SaysMap (r : MapReply) (a : Result Counts Refusal) : Type 0 where
  pub number : r.number ≡ (map_fault a).number
  pub place : r.place ≡ (map_fault a).place
  pub argument : r.argument ≡ (map_fault a).argument
  pub amount : r.amount ≡ (map_fault a).amount
  pub lines : r.lines ≡ bytes_of a
  pub rows : r.rows ≡ rows_of a
