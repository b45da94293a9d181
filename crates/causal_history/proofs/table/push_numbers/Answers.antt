use Rattle.std.proofs.Common.{arith}
use Rattle.causal_history.proofs.ListMore.{get-below}
use Rattle.causal_history.proofs.TableFacts.{some-there, some-at, id-among, numbers-more}
use Rattle.causal_history.proofs.table.push_numbers.Goals as goal

pub unwrap-number-requires : goal.unwrap-number-requires
unwrap-number-requires c = let i = c.id.ensures in let n = c.number_of.ensures in
    some-there _ _ c.number_of.result (λ m. m (c.requires.stand _ (id-among c.args.ids.now c.loop-at.at c.id.result i))) n

pub overflow_cast-number : goal.overflow_cast-number
overflow_cast-number c =
    let p = some-at _ _ c.number_of.result c.unwrap-number.result c.unwrap-number.ensures c.number_of.ensures in
    let l = get-below c.args.index.now.keys c.unwrap-number.result c.id.result.0 p in omega (arith, l, c.requires.few_ids)

pub loop-at-preserved : goal.loop-at-preserved
loop-at-preserved c =
    let p = some-at _ _ c.number_of.result c.unwrap-number.result c.unwrap-number.ensures c.number_of.ensures in
    record {
      numbers = numbers-more c.args.index.now.keys c.args.numbers.now.items c.loop-at.numbers.items c.append.new.list.items
          c.args.ids.now c.loop-at.at c.unwrap-number.result c.id.result c.id.ensures p c.append.ensures.items c.loop-at.invariant.numbers;
      capacity = omega (arith, c.loop-at.invariant.capacity, c.append.ensures.room);
      size = omega (arith, c.append.ensures.size, c.loop-at.invariant.size);
    }
