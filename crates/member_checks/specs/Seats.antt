-- What a member's refusals are judged by.
use Rattle.std.specs.Prelude.{◌≡◌, ◌≢◌, ℕ, [], Some}
use Rattle.kem_trait.specs.declared.kem.Kem.{Ghosts}
use Rattle.group_model.specs.Sets.{In}
use Rattle.group_model.specs.Membership.{ids_named}
use Rattle.causal_history.specs.Rows.{history_of}
use Rattle.causal_cast.specs.Judging.{set_of}
use Rattle.reference_member.specs.Members.{Member, own_id}
use Rattle.member_checks.specs.declared.seat.Seat.{Seat}

-- The seat is the member's.
pub record IsSeatOf {K P : Type 0} (kem : Ghosts K P) (M : Member) (seat : Seat) : Type 0 where
  pub rows : M.rows ≡ seat.history.now
  pub id : own_id kem M ≡ seat.me.0.0
  pub inviter : M.inviter ≡ seat.inviter.0.0
  pub height : M.height ≡ seat.height

-- A history that has a row has this set, and names the member.
pub record IsSeated (set : ℕ) (seat : Seat) : Type 0 where
  pub of_set : seat.history.now ≢ [] → set_of seat.history.now ≡ Some set
  pub named : seat.history.now ≢ [] → In seat.me.0.0 (ids_named (history_of seat.history.now))
