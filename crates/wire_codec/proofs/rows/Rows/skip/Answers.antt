use Rattle.std.proofs.Common.{sym, arith}
use Rattle.wire_codec.proofs.RowBytes.{is_some, rest_behind, two_long}
use Rattle.wire_codec.proofs.rows.Rows.skip.Goals as goal

pub row_size-size-requires : goal.row_size-size-requires
row_size-size-requires c = two_long c.self.inside.count c.self.inside.bytes.now c.args.self.now c.self.view_is c.self.invariant c.requires

pub slice_bounds-self-count : goal.slice_bounds-self-count
slice_bounds-self-count c =
    (rest_behind c.self.inside.count c.self.inside.bytes.now c.args.self.now c.self.view_is c.self.invariant c.requires c.row_size-size.result c.row_size-size.ensures).within

pub slice_bounds-self-start : goal.slice_bounds-self-start
slice_bounds-self-start c =
    let rest = rest_behind c.self.inside.count c.self.inside.bytes.now c.args.self.now c.self.view_is c.self.invariant c.requires c.row_size-size.result c.row_size-size.ensures in
    omega (arith, rest.within)

pub overflow_sub-self : goal.overflow_sub-self
overflow_sub-self c =
    let some = is_some c.self.inside.count c.self.inside.bytes.now c.args.self.now c.self.view_is c.self.invariant c.requires in
    omega (arith, some)

pub invariant_of-self : goal.invariant_of-self
invariant_of-self c =
    (rest_behind c.self.inside.count c.self.inside.bytes.now c.args.self.now c.self.view_is c.self.invariant c.requires c.row_size-size.result c.row_size-size.ensures).rest

pub returns : goal.returns
returns c =
    sym (rest_behind c.self.inside.count c.self.inside.bytes.now c.args.self.now c.self.view_is c.self.invariant c.requires c.row_size-size.result c.row_size-size.ensures).are
