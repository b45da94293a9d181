use Rattle.std.proofs.Common.{◌≡◌, ◌*◌, ◌+◌, ◌-◌, ◌∙◌, ℕ, List, ap, sym, arith, take, drop}
use Rattle.std.specs.Prelude.{Some}
use Rattle.wire_codec.specs.Packets.{AddressedPart}
use Rattle.wire_codec.proofs.PartBytes.{part_at}
use Rattle.wire_codec.proofs.parts.PartsView.part.Goals as goal

pub slice_bounds-copy_from_slice-end-2 : goal.slice_bounds-copy_from_slice-end-2
slice_bounds-copy_from_slice-end-2 c =
    let inside = c.self.inside in
    let at = part_at inside.set inside.count c.args.index c.part_size-size.result inside.bytes.now c.args.self.now c.self.view_is c.self.invariant c.requires c.part_size-size.ensures in
    omega (arith, at.within)

pub slice_bounds-result-end : goal.slice_bounds-result-end
slice_bounds-result-end c =
    let inside = c.self.inside in
    let at = part_at inside.set inside.count c.args.index c.part_size-size.result inside.bytes.now c.args.self.now c.self.view_is c.self.invariant c.requires c.part_size-size.ensures in
    omega (arith, at.within)

pub returns : goal.returns
returns c =
    let inside = c.self.inside in
    let bytes = inside.bytes.now in
    let size = c.part_size-size.result in
    let at = part_at inside.set inside.count c.args.index size bytes c.args.self.now c.self.view_is c.self.invariant c.requires c.part_size-size.ensures in
    let from = c.args.index * (32 + size) in
    let n : 32 ≡ from + 32 - from = omega arith in
    let m : size ≡ from + 32 + size - (from + 32) = omega arith in
    let id : take 32 (drop from bytes) ≡ c.copy_from_slice.new.self = ap (λ (k : ℕ). take k (drop from bytes)) n ∙ sym c.copy_from_slice.ensures.after in
    at.is ∙ ap (λ (b : List ℕ). let one : AddressedPart = record { to = record { 0 = record { 0 = b } }; bytes = take size (drop (from + 32) bytes) } in Some one) id
    ∙ ap (λ (k : ℕ). let one : AddressedPart = record { to = record { 0 = record { 0 = c.copy_from_slice.new.self } }; bytes = take k (drop (from + 32) bytes) } in Some one) m
