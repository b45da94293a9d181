use Rattle.std.proofs.Common.{◌≢◌, ◌<◌, ℕ}
use Rattle.std.specs.Prelude.{IsSome}
use Rattle.group_model.specs.Marks.{IsPlace}
use Rattle.group_model.specs.Membership.{ids_named}
use Rattle.group_model.specs.Sets.{Id}
use Rattle.causal_history.specs.Rows.{history_of}
use Rattle.secret_book.specs.HeldBooks.{held}
use Rattle.met_members.proofs.met.is_met.Given as goal

-- the others at the places so far have a pairing
abbrev pub invariant-loop-place : goal.invariant-loop-place
invariant-loop-place g l = (p : ℕ) (x : Id) → p < l.place → IsPlace (ids_named (history_of l.history)) p x → x ≢ l.me.0.0
    → IsSome ((held l.book).pairing p)
