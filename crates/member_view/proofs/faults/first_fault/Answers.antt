use Rattle.std.proofs.Common.{◌≡◌, [], List, length, subst, sym, ◌∙◌, ap, arith}
use Rattle.std.specs.Prelude.{MatchOption}
use Rattle.causal_history.specs.Rows.{history_of}
use Rattle.group_messages.specs.Messages.{message_of, ids_of}
use Rattle.member_view.specs.Causes.{IsFirst, GivesNone}
use Rattle.member_view.specs.declared.faults.RuleFault.TheVariants as faults
use Rattle.member_view.proofs.Oldest.{rows-none, rows-length}
use Rattle.group_model.specs.Sets.{Id}
use Rattle.group_model.specs.Messages.{Create}
use Rattle.member_view.proofs.ActFacts.{not-create}
use Rattle.member_view.proofs.FaultLaws.{create-taken, create-refused, causes-over}
use Rattle.member_view.proofs.faults.first_fault.Goals as goal
use Rattle.member_view.proofs.faults.first_fault.Goals.{then-count-eq0+in_default, else-count-eq0}

pub returns-then-opens : goal.returns-then-opens
returns-then-opens g c =
    let e = rows-none c.args.history.now (let k = c.count.ensures.count in let z = c.if-count-eq0.true in omega arith) in
    rw e (create-taken g.G.Membership.rule (message_of c.args.header.now) (ids_of c.in-Create.members) c.in-Create.ensures
    (c.opens.ensures.0 c.if-opens.true))

pub returns-in-Create : goal.returns-in-Create
returns-in-Create g c =
    let e = rows-none c.args.history.now (let k = c.count.ensures.count in let z = c.if-count-eq0.true in omega arith) in
    rw e (create-refused g.G.Membership.rule (message_of c.args.header.now) (ids_of c.in-Create.members) c.in-Create.ensures
    (λ k. let y = c.opens.ensures.1 k in let n = c.if-opens.false in cc))

pub returns : goal.returns
returns g c =
    let h = history_of c.args.history.now in
    let m = message_of c.args.header.now in
    let over : h ≡ [] → (members : List Id) → m.kind ≡ Create members → ⊥ = λ e members k. elim c.if-count-eq0.branch [
      | then-count-eq0+in_default w ↦ not-create w.act_of.result (λ ids d. w.in_default.not-Create ids d) members (w.act_of.ensures ∙ k)
      | else-count-eq0 w ↦ let n = w.if-count-eq0.false in let f = ap length e in let d = rows-length c.args.history.now in
          let z = c.count.ensures.count in omega arith
    ] in
    subst (λ z. MatchOption c.fault_over.result (GivesNone z) (λ fault. IsFirst z fault))
    (sym (causes-over g.G.Membership.rule h m over)) c.fault_over.ensures
