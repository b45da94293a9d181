-- The body of a kind, from what was read of its layout.
use Rattle.std.proofs.Common.{◌≡◌, ◌⊎◌, ℕ, sym, subst, inl, inr}
use Rattle.std.specs.Prelude.{Result}
use Rattle.group_fields.specs.LayoutReads.{Takes}
use Rattle.group_fields.specs.Reading.{Reading}
use Rattle.group_fields.specs.declared.fault.FieldFault.{FieldFault}
use Rattle.group_fields.specs.declared.header.Kind.{Kind}
use Rattle.group_fields.specs.declared.header.Kind.TheVariants as kinds
use Rattle.group_fields.specs.declared.header.Target.{Target}
use Rattle.group_fields.specs.declared.ids.MemberId.{MemberId}
use Rattle.wire_codec.specs.Packets.{Body, add_body, body, member_named, parts_body}

pub as_kind : {T : Type 0} (view : T → Body) (target : Target) {set wanted : ℕ} {kind wanted_kind : Kind} {old new : Reading} (result : Result T FieldFault)
    → set ≡ wanted → kind ≡ wanted_kind → Takes view (body set kind target) old new result → Takes view (body wanted wanted_kind target) old new result
as_kind view target {set} {wanted} {kind} {wanted_kind} {old} {new} result es ek one =
    subst (λ (k : Kind). Takes view (body wanted k target) old new result) ek
    (subst (λ (s : ℕ). Takes view (body s kind target) old new result) es one)

pub to_named : {T : Type 0} (view : T → Body) (set : ℕ) (target : Target) {to : MemberId} {old new : Reading} (result : Result T FieldFault)
    → to ≡ member_named target → Takes view (add_body set to) old new result → Takes view (add_body set (member_named target)) old new result
to_named view set target {to} {old} {new} result e one = subst (λ (id : MemberId). Takes view (add_body set id) old new result) e one

-- a kind whose body has parts alone
pub parts_kind : {T : Type 0} (view : T → Body) (set : ℕ) (kind : Kind) (target : Target) {old new : Reading} (result : Result T FieldFault)
    → (kind ≡ kinds.Update) ⊎ ((kind ≡ kinds.Remove) ⊎ (kind ≡ kinds.Ack)) → Takes view (parts_body set 31) old new result
    → Takes view (body set kind target) old new result
unfolding body
parts_kind view set kind target {old} {new} result (inl e) one = subst (λ (k : Kind). Takes view (body set k target) old new result) (sym e) one
parts_kind view set kind target {old} {new} result (inr (inl e)) one = subst (λ (k : Kind). Takes view (body set k target) old new result) (sym e) one
parts_kind view set kind target {old} {new} result (inr (inr e)) one = subst (λ (k : Kind). Takes view (body set k target) old new result) (sym e) one
