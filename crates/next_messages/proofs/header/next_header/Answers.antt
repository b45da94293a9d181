use Rattle.std.proofs.Common.{ℕ, ◌<◌, ◌≤◌, ◌==◌, ◌||◌, IsTrue, length, refl, sym, subst, arith}
use Rattle.causal_history.specs.Rows.{history_of}
use Rattle.next_messages.proofs.HeaderFacts.{heads-counted, heads-many}
use Rattle.next_messages.proofs.header.next_header.Goals as goal

pub returns-then-len-gt-MOST_HEADS-clause-none : goal.returns-then-len-gt-MOST_HEADS-clause-none
returns-then-len-gt-MOST_HEADS-clause-none g c =
    let ids = c.in_ok-predecessors.predecessors in
    let many : 32 < length ids = omega (arith, c.len.ensures, c.if-len-gt-MOST_HEADS.true) in
    heads-many (history_of c.args.history.now) ids (c.heads_by_predecessors.ensures.one_list (history_of c.args.history.now))
    c.in_ok-predecessors.ensures many

pub returns-clause-next : goal.returns-clause-next
returns-clause-next g c =
    let ids = c.in_ok-predecessors.predecessors in
    let few : length ids ≤ 32 = omega (arith, c.len.ensures, c.if-len-gt-MOST_HEADS.false) in
    record {
      set = c.SET.ensures;
      group = c.group_by.ensures;
      sender = refl;
      seq = c.next_seq.ensures;
      kind_is = refl;
      target_is = refl;
      predecessors = c.in_ok-predecessors.ensures;
      spelled = record {
        set = subst (λ (n : ℕ). IsTrue ((n == 1) || (n == 2))) (sym c.SET.ensures) c.cards_have_room.ensures.set;
        seq = omega (arith, c.next_seq.ensures);
        target = c.requires.suits;
        predecessors = heads-counted (history_of c.args.history.now) ids c.in_ok-predecessors.ensures few;
      };
    }
