use Rattle.std.proofs.Common.{◌≡◌, ◌*◌, ◌+◌, ◌-◌, ◌∙◌, ℕ, List, ap, sym, length, arith, take, drop, slice_get}
use Rattle.std.specs.Prelude.{Some}
use Rattle.group_fields.specs.declared.ids.Digest.{Digest}
use Rattle.group_fields.proofs.IdBytes.{ids_in-length, id_at}
use Rattle.group_fields.proofs.ids_view.IdsView.id.Goals as goal

pub slice_bounds-copy_from_slice-end-2 : goal.slice_bounds-copy_from_slice-end-2
slice_bounds-copy_from_slice-end-2 c =
    let n = ids_in-length c.self.inside.count c.self.inside.bytes.now in
    let v = ap length c.self.view_is in
    omega (arith, n, v, c.self.invariant, c.requires)

pub returns : goal.returns
returns c =
    let n = ids_in-length c.self.inside.count c.self.inside.bytes.now in
    let v = ap length c.self.view_is in
    let at = id_at c.self.inside.count c.args.index c.self.inside.bytes.now (omega (arith, n, v, c.requires)) in
    let e : c.args.index * 32 + 32 - c.args.index * 32 ≡ 32 = omega arith in
    let f : 32 * c.args.index ≡ c.args.index * 32 = omega arith in
    let bytes = c.self.inside.bytes.now in
    let same : take 32 (drop (32 * c.args.index) bytes) ≡ c.copy_from_slice.new.self =
    ap (λ (k : ℕ). take 32 (drop k bytes)) f ∙ ap (λ (k : ℕ). take k (drop (c.args.index * 32) bytes)) (sym e) ∙ sym c.copy_from_slice.ensures.after in
    ap (λ (ids : List Digest). slice_get ids c.args.index) (sym c.self.view_is) ∙ at ∙ ap (λ (b : List ℕ). let d : Digest = record { 0 = b } in Some d) same
