use Rattle.std.proofs.Common.{◌≡◌, arith, length, ap, sym, subst, take, drop}
use Rattle.std.proofs.lemmas.List.{length-append}
use Rattle.group_fields.specs.declared.ids.MemberId.{MemberId}
use Rattle.group_model.specs.Marks.{IsPlace}
use Rattle.causal_history.specs.Keeping.{AreNumbers}
use Rattle.group_messages.specs.Messages.{ids_of}
use Rattle.causal_history.proofs.ListMore.{get-below, window}
use Rattle.causal_history.proofs.TableFacts.{length-with_id, length-ids_of}
use Rattle.causal_history.proofs.table.Table.link_of.Goals as goal

pub push_numbers-requires-clause-few : goal.push_numbers-requires-clause-few
push_numbers-requires-clause-few c =
    rw c.predecessors-ids.ensures (omega (
      arith,
      length-ids_of c.args.header.now.predecessors,
      c.predecessors_ascend.ensures.few c.args.header.now c.bytes-spelled.ensures.has,
    ))

pub push_numbers-requires-clause-room : goal.push_numbers-requires-clause-room
push_numbers-requires-clause-room c =
    rw c.predecessors-ids.ensures (omega (
      arith,
      c.requires.room.numbers,
      length-ids_of c.args.header.now.predecessors,
      c.predecessors_ascend.ensures.few c.args.header.now c.bytes-spelled.ensures.has,
    ))

pub overflow_cast-result : goal.overflow_cast-result
overflow_cast-result c = omega (
  arith,
  c.requires.few_senders,
  ap length c.put.ensures.keys,
  length-with_id c.args.self.now.senders.keys c.sender.result.0.0,
  get-below c.put.new.index.keys c.put.result c.sender.result.0.0 c.put.ensures.number,
)

pub overflow_cast-result-2 : goal.overflow_cast-result-2
overflow_cast-result-2 c = omega (
  arith,
  c.count.ensures,
  ap length c.predecessors-ids.ensures,
  length-ids_of c.args.header.now.predecessors,
  c.predecessors_ascend.ensures.few c.args.header.now c.bytes-spelled.ensures.has,
)

pub returns-clause-numbers : goal.returns-clause-numbers
returns-clause-numbers c =
    let p = c.push_numbers.ensures in (
      p.0,
      p.1,
      omega (
        arith,
        p.2.size,
        length-ids_of c.predecessors-ids.result,
        ap length c.predecessors-ids.ensures,
        length-ids_of c.args.header.now.predecessors,
        c.predecessors_ascend.ensures.few c.args.header.now c.bytes-spelled.ensures.has,
      ),
    )

pub returns-clause-link : goal.returns-clause-link
returns-clause-link c =
    let p = c.push_numbers.ensures in
    let few : length p.0 ≡ c.count.result = omega (arith, p.2.size, length-ids_of c.predecessors-ids.result, c.count.ensures) in
    record {
      kind = c.kind.ensures;
      seq = c.seq.ensures;
      sender = subst (λ (z : MemberId). IsPlace c.put.new.index.keys c.put.result z.0.0) c.sender.ensures c.put.ensures.number;
      answered = c.answered_by.ensures;
      within = omega (arith, few, c.len-first.ensures, c.args.self.now.numbers.ok, ap length p.1, length-append c.args.self.now.numbers.items p.0);
      predecessors =
          let w = window c.args.self.now.numbers.items p.0 c.len-first.result c.count.result
          (omega (arith, c.len-first.ensures, c.args.self.now.numbers.ok)) (sym few) in
          subst (λ z. AreNumbers c.args.self.now.ids.keys (take c.count.result (drop c.len-first.result z)) (ids_of c.args.header.now.predecessors)) (sym p.1)
          (subst (λ z. AreNumbers c.args.self.now.ids.keys z (ids_of c.args.header.now.predecessors)) (sym w)
          (subst (λ z. AreNumbers c.args.self.now.ids.keys p.0 (ids_of z)) c.predecessors-ids.ensures p.2));
    }
