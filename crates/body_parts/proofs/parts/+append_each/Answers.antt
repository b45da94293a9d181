use Rattle.std.proofs.Common.{rules, arith}
use Rattle.secret_book.specs.HeldBooks.{held}
use Rattle.body_parts.proofs.Each.{each_for, first_in, none_for, rest_ascends, rest_can, rest_placed}
use Rattle.body_parts.proofs.parts.+append_each.Goals as goal

pub returns-in_default : goal.returns-in_default
returns-in_default g t c =
    none_for g.K.Kem c.args.to.now c.args.payload.now c.args.draws.now (held c.args.book.now) c.args.into.now.items c.in_default.len_below

pub append_part-requires : goal.append_part-requires
append_part-requires g t c = c.requires.can _ (first_in c.args.to.now _ (omega arith))

pub append_each-requires : goal.append_each-requires
append_each-requires g t c κs within = (
  search rules,
  (
    search rules,
    (
      search rules,
      (
        rest_placed c.args.to.now c.requires.placed,
        (
          rest_ascends c.args.to.now c.requires.ascend,
          rest_can c.args.to.now _ (omega arith) c.requires.placed c.requires.ascend (held c.args.book.now) (held c.append_part.new.book)
              c.args.draws.now c.append_part.new.draws c.in_ok-append_part.ensures.part.2.met c.in_ok-append_part.ensures.others
              c.in_ok-append_part.ensures.left c.requires.can,
        ),
      ),
    ),
  ),
)

pub returns : goal.returns
returns g t c =
    each_for g.K.Kem c.args.to.now _ c.args.payload.now c.args.draws.now c.append_part.new.draws (held c.args.book.now)
    (held c.append_part.new.book) (held c.append_each.new.book) c.args.into.now.items c.append_digest.new.bytes.items c.append_part.new.into.items
    c.append_each.new.into.items c.append_each.result (omega arith) c.requires.placed c.requires.ascend c.in_ok-append_digest.ensures.above
    c.in_ok-append_part.ensures.part c.in_ok-append_part.ensures.left c.append_each.ensures
