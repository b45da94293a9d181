-- What a member is, by its seat.
use Rattle.std.proofs.Common.{◌≡◌, ◌^◌, length, ◌∙◌, ap}
use Rattle.kem_trait.specs.declared.kem.Kem.{Ghosts}
use Rattle.group_model.specs.Validity.{count_of}
use Rattle.causal_history.specs.Rows.{history_of}
use Rattle.reference_member.specs.Members.{Member, known, made_count}
use Rattle.member_checks.specs.declared.seat.Seat.{Seat}
use Rattle.member_checks.specs.Seats.{IsSeatOf}

module _ {K P : Type 0} (kem : Ghosts K P) (M : Member) (seat : Seat) (is : IsSeatOf kem M seat) where
  pub known-is : known M ≡ history_of seat.history.now
  known-is = ap history_of is.rows

  pub length-is : length (known M) ≡ length (history_of seat.history.now)
  length-is = ap length known-is

  pub made-is : made_count kem M ≡ count_of seat.me.0.0 (history_of seat.history.now)
  made-is = ap (λ x. count_of x (known M)) is.id ∙ ap (count_of seat.me.0.0) known-is

  pub leaves-are : 2 ^ M.height ≡ 2 ^ seat.height
  leaves-are = ap (λ n. 2 ^ n) is.height
