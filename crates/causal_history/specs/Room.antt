-- Room in a table for one more row.
use Rattle.std.specs.Prelude.{◌+◌, ◌<◌, ◌≤◌, vec_len, vec_capacity}
use Rattle.indexmap.specs.IndexSet.{spare}
use Rattle.causal_history.specs.declared.table.Table.{Table}

-- a row, 32 numbers of predecessors and 32 names can be put without more memory
pub record HasRoom (table : Table) : Type 0 where
  pub rows : vec_len table.rows < vec_capacity table.rows
  pub links : vec_len table.links < vec_capacity table.links
  pub numbers : vec_len table.numbers + 32 ≤ vec_capacity table.numbers
  pub ids : 0 < spare table.ids
  pub senders : 0 < spare table.senders
  pub named : 32 ≤ spare table.named
  pub cards : vec_len table.cards + 32 ≤ vec_capacity table.cards
