use Rattle.std.proofs.Common.{◌≡◌, ◌+◌, true, false, List, refl, sym, ◌∙◌, ap, subst, arith, length}
use Rattle.std.proofs.lemmas.List.{length-map}
use Rattle.causal_history.specs.Bits.{bit}
use Rattle.group_fields.specs.declared.ids.MemberId.{MemberId}
use Rattle.body_parts.specs.declared.addressing.Receiver.{Receiver}
use Rattle.body_parts.proofs.Gathered.{AreGathered, gathered, ids_in, one_more, passed, placed-at}
use Rattle.body_parts.proofs.addressing.receivers_among.Goals as goal
use Rattle.body_parts.proofs.addressing.receivers_among.Goals.{then-has+in_ok-put, else-has}

pub loop-place-preserved : goal.loop-place-preserved
loop-place-preserved c =
    let ids = ids_in c.args.members.now in
    let P : List Receiver → Type 0 = AreGathered ids (bit c.args.to.0) (c.loop-place.place + 1) in
    elim c.if-has.branch [
      | then-has+in_ok-put w ↦
          (let set : bit c.args.to.0 c.loop-place.place ≡ true = cc in
          subst P (sym (ap (λ v. v.items) w.receivers-is ∙ w.in_ok-put.ensures))
          (one_more ids (bit c.args.to.0) c.loop-place.place c.loop-place.receivers.items c.loop-place.invariant c.requires.distinct _ refl
          (placed-at c.args.members.now c.loop-place.place _ (omega arith)) set))
      | else-has w ↦
          (let unset : bit c.args.to.0 c.loop-place.place ≡ false = cc in
          subst P (sym (ap (λ v. v.items) w.receivers-is))
          (passed ids (bit c.args.to.0) c.loop-place.place c.loop-place.receivers.items c.loop-place.invariant unset))
    ]

pub returns : goal.returns
returns c =
    let long : length (ids_in c.args.members.now) ≡ length c.args.members.now = length-map c.args.members.now (λ (id : MemberId). id.0.0) in
    gathered (ids_in c.args.members.now) (bit c.args.to.0) c.loop-place.place c.loop-place.receivers.items c.loop-place.invariant
    (omega (arith, long)) (omega arith)
