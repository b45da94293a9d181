-- A row that is found stands in the history.
use Rattle.std.proofs.Common.{◌≡◌, ℕ, true, Option, Some, None}
use Rattle.std.specs.Option.{is_some, MatchOption}
use Rattle.group_model.specs.Sets.{Id}
use Rattle.group_model.specs.Messages.{History, Stands}
use Rattle.group_model.proofs.Numbers.{number-in}
use Rattle.causal_history.specs.Numbered.{IsNumberOf}

pub found-stands : (h : History) (id : Id) (found : Option ℕ)
    → MatchOption found (Stands h id → ⊥) (λ at. IsNumberOf h id at) → is_some found ≡ true → Stands h id
found-stands h id (Some at) n e =
    record { by = n.by; there_is = number-in h at n.by n.number; has_id = n.has_id }
found-stands h id None n e = absurd cc
