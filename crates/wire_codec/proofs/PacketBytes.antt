-- What reading says of packets.
use Rattle.std.proofs.Common.{◌≡◌, ◌<◌, ◌≤◌, ℕ, List, length, sym, ◌∙◌, arith, inl, inr}
use Rattle.std.specs.Prelude.{Ok, Err}
use Rattle.group_fields.specs.Fields.{place_of}
use Rattle.group_fields.specs.LayoutReads.{read_whole}
use Rattle.group_fields.specs.declared.fault.FieldFault.{FieldFault}
use Rattle.group_fields.proofs.LayoutLaws.{place_is, whole_fails}
use Rattle.wire_codec.specs.Packets.{IsMalformed, Packet, greatest_size, packet}

-- the place that is refused first is the least
pub the_place : (bytes : List ℕ) (fault : FieldFault) (place : ℕ) → length bytes ≤ greatest_size → read_whole packet 0 bytes ≡ Err fault
    → IsMalformed bytes place → place_of fault ≡ place
the_place bytes fault place le e (inl (lt, is)) = absurd (omega arith)
the_place bytes fault place le e (inr (fits, (other, is, at))) = place_is packet bytes fault other e is ∙ sym at

pub none_refused : (bytes : List ℕ) (place : ℕ) (p : Packet) → length bytes ≤ greatest_size → read_whole packet 0 bytes ≡ Ok p
    → IsMalformed bytes place → ⊥
none_refused bytes place p le mine (inl (lt, at)) = omega arith
none_refused bytes place p le mine (inr (fits, (other, is, at))) =
    let stops = whole_fails packet 0 bytes other is.refused in
    let bad = stops.is in
    cc

-- too many bytes
pub too_many : (bytes : List ℕ) (place : ℕ) → greatest_size < length bytes → IsMalformed bytes place → place ≡ greatest_size
too_many bytes place lt (inl (lt_too, is)) = is
too_many bytes place lt (inr (fits, fault)) = absurd (omega arith)
