use Rattle.std.proofs.Common.{◌≡◌, List, [], ◌∷◌, ◌++◌, arith, ap, length, subst, sym, ◌∙◌, vec_len}
use Rattle.group_model.specs.Sets.{In}
use Rattle.group_model.specs.Messages.{Stands}
use Rattle.group_model.specs.Membership.{named_by, with_id}
use Rattle.group_messages.specs.Messages.{kind_of}
use Rattle.causal_history.specs.Rows.{Row, history_of, MayBePushed}
use Rattle.causal_history.specs.Keeping.{IsLink, IsTable, enrolled, roster_of}
use Rattle.causal_history.proofs.PushFacts.{pushed}
use Rattle.causal_history.proofs.RowFacts.{history-length, length-senders, stands-key}
use Rattle.causal_history.proofs.history.History.push.Goals as goal

pub push-requires-clause-few_senders : goal.push-requires-clause-few_senders
push-requires-clause-few_senders c = omega (
  arith,
  ap length c.in_ok-make_room.ensures.senders,
  ap length c.self.invariant.senders_are,
  length-senders (history_of c.self.inside.table.rows.items),
  history-length c.self.inside.table.rows.items,
  ap length c.self.view_is,
  c.requires.room,
)

pub push-requires-clause-stand : goal.push-requires-clause-stand
push-requires-clause-stand c = λ i k. subst (λ z. In i z) (sym c.in_ok-make_room.ensures.ids)
    (stands-key c.self.inside.table.rows.items c.self.inside.table.ids.keys c.self.invariant.ids_are i
    (subst (λ (z : List Row). Stands (history_of z) i) (sym c.self.view_is) (c.requires.predecessors i k)))

pub invariant_of-self-2 : goal.invariant_of-self-2
invariant_of-self-2 c =
    let row : Row = record { header = c.args.header.now; cards = c.args.cards.now } in
    let old = c.make_room.new.self in
    let table : IsTable old.rows.items old.links.items old.numbers.items old.ids.keys old.senders.keys old.named.keys old.cards.items =
    rw (
      c.in_ok-make_room.ensures.rows,
      c.in_ok-make_room.ensures.links,
      c.in_ok-make_room.ensures.numbers,
      c.in_ok-make_room.ensures.ids,
      c.in_ok-make_room.ensures.senders,
      c.in_ok-make_room.ensures.named,
      c.in_ok-make_room.ensures.cards,
    ) c.self.invariant in
    let may : MayBePushed old.rows.items row =
    subst (λ (z : List Row). MayBePushed z row) (sym (c.in_ok-make_room.ensures.rows ∙ c.self.view_is)) c.requires in
    let links = c.push.ensures.links in
    let more = c.push.ensures.numbers in
    let is : IsLink old.ids.keys (with_id old.senders.keys c.args.header.now.sender.0.0) (old.numbers.items ++ more.0) links.0 c.args.header.now =
    subst (λ z. IsLink old.ids.keys z (old.numbers.items ++ more.0) links.0 c.args.header.now) c.push.ensures.senders
    (subst (λ z. IsLink old.ids.keys c.push.new.self.senders.keys z links.0 c.args.header.now) more.1 links.2) in
    pushed old.rows.items row old.links.items links.0 old.numbers.items more.0 old.ids.keys old.senders.keys old.named.keys old.cards.items
    table may c.bytes-spelled.ensures.has more.2 is
    c.push.new.self.rows.items c.push.new.self.links.items c.push.new.self.numbers.items c.push.new.self.ids.keys c.push.new.self.senders.keys
    c.push.new.self.named.keys c.push.new.self.cards.items
    (c.push.ensures.rows ∙ ap (λ z. old.rows.items ++ z ∷ []) (c.in_ok-row.ensures
    ∙ ap (λ z. let r : Row = record { header = c.args.header.now; cards = z } in r) c.as_slice.ensures)) links.1 more.1 c.push.ensures.ids c.push.ensures.senders
    (c.push.ensures.roster ∙ ap (λ n. enrolled n (roster_of old.named.keys old.cards.items) (named_by (kind_of c.args.header.now)) 0)
    (let e : vec_len old.rows ≡ length old.rows.items = omega (arith, old.rows.ok) in e))
