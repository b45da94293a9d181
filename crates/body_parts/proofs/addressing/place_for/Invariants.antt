use Rattle.std.proofs.Common.{◌≡◌, ◌+◌, drop}
use Rattle.group_model.specs.Plain.{place}
use Rattle.body_parts.specs.Receivers.{ids_to}
use Rattle.body_parts.proofs.addressing.place_for.Given as goal

-- each receiver before this one comes before the id
abbrev pub invariant-loop-i : goal.invariant-loop-i
invariant-loop-i l = place (ids_to (drop l.i l.to)) l.id + l.i ≡ place (ids_to l.to) l.id
