use Rattle.std.proofs.Common.{arith}
use Rattle.wire_codec.proofs.RowBytes.{is_next, is_read, none_left}
use Rattle.wire_codec.proofs.rows.Rows.next.Goals as goal

pub returns-then-self-eq0-clause-none : goal.returns-then-self-eq0-clause-none
returns-then-self-eq0-clause-none c =
    none_left c.self.inside.count c.self.inside.bytes.now c.args.self.now c.self.view_is c.self.invariant (omega arith)

pub returns-then-self-eq0-clause-end : goal.returns-then-self-eq0-clause-end
returns-then-self-eq0-clause-end c =
    none_left c.self.inside.count c.self.inside.bytes.now c.args.self.now c.self.view_is c.self.invariant (omega arith)

pub unwrap-header-requires : goal.unwrap-header-requires
unwrap-header-requires c =
    is_read c.self.inside.count c.self.inside.bytes.now c.args.self.now c.self.view_is c.self.invariant (omega arith) c.new-cursor.result c.take_row.new.cursor
    c.take_row.result c.new-cursor.ensures c.take_row.ensures

pub invariant_of-self : goal.invariant_of-self
invariant_of-self c =
    (is_next c.self.inside.count c.self.inside.bytes.now c.args.self.now c.self.view_is c.self.invariant (omega arith) c.new-cursor.result c.take_row.new.cursor
    c.take_row.result c.new-cursor.ensures c.take_row.ensures c.unwrap-header.result c.place-size.result c.unwrap-header.ensures c.place-size.ensures.place).rest

pub returns-clause-some : goal.returns-clause-some
returns-clause-some c =
    (is_next c.self.inside.count c.self.inside.bytes.now c.args.self.now c.self.view_is c.self.invariant (omega arith) c.new-cursor.result c.take_row.new.cursor
    c.take_row.result c.new-cursor.ensures c.take_row.ensures c.unwrap-header.result c.place-size.result c.unwrap-header.ensures c.place-size.ensures.place).are
