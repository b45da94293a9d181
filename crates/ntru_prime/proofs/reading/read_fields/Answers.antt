use Rattle.std.proofs.Common.{ap, ap₂, ◌∙◌, Some, None, take, drop, to_z, w32, arith}
use Rattle.ntru_model.specs.Encodings.{public_read}
use Rattle.ntru_prime.specs.Sets.{set_of}
use Rattle.ntru_prime.proofs.Loops.{on_some, is_there, is_absent}
use Rattle.ntru_prime.proofs.Encapsulates.{read_some, read_none, public_centred}
use Rattle.ntru_prime.proofs.FieldReads.{small_none, small_some, fields_none_f, fields_none_g, fields_all}
use Rattle.ntru_prime.proofs.reading.read_fields.Goals as goal

pub returns-then-is_none-clause-fields : goal.returns-then-is_none-clause-fields
returns-then-is_none-clause-fields g c = fields_none_f (set_of g.row.P (to_z w32 g.row.Q) g.row.W) c.args.secret.now (small_none g.row.P _ _ c.part.result.now c.requires.f_len c.part.ensures (λ sp. is_absent c.decode_small.result c.is_none.result c.is_none.ensures c.if-is_none.true (c.decode_small.ensures.spelled.1 sp)))

pub returns-then-is_none-2-clause-fields : goal.returns-then-is_none-2-clause-fields
returns-then-is_none-2-clause-fields g c = fields_none_g (set_of g.row.P (to_z w32 g.row.Q) g.row.W) c.args.secret.now c.decode_small.new.into (small_some g.row.P _ c.part.result.now c.decode_small.new.into c.requires.set.fours (omega arith) c.part.ensures (on_some c.decode_small.result (is_there c.decode_small.result c.is_none.result c.is_none.ensures c.if-is_none.false) c.decode_small.ensures.value)) (small_none g.row.P _ _ c.part-2.result.now c.requires.g_len c.part-2.ensures (λ sp. is_absent c.decode_small-2.result c.is_none-2.result c.is_none-2.ensures c.if-is_none-2.true (c.decode_small-2.ensures.spelled.1 sp)))

pub returns-then-is_none-3-clause-fields : goal.returns-then-is_none-3-clause-fields
returns-then-is_none-3-clause-fields g c =
    fields_all (set_of g.row.P (to_z w32 g.row.Q) g.row.W) c.args.secret.now c.decode_small.new.into c.decode_small-2.new.into None (small_some g.row.P _ c.part.result.now c.decode_small.new.into c.requires.set.fours (omega arith) c.part.ensures (on_some c.decode_small.result (is_there c.decode_small.result c.is_none.result c.is_none.ensures c.if-is_none.false) c.decode_small.ensures.value)) (small_some g.row.P _ c.part-2.result.now c.decode_small-2.new.into c.requires.set.fours (omega arith) c.part-2.ensures (on_some c.decode_small-2.result (is_there c.decode_small-2.result c.is_none-2.result c.is_none-2.ensures c.if-is_none-2.false) c.decode_small-2.ensures.value))
    (read_none c.read_public.result c.read_public.new.h c.is_none-3.result _ c.is_none-3.ensures c.if-is_none-3.true c.read_public.ensures ∙ ap (public_read (set_of g.row.P (to_z w32 g.row.Q) g.row.W)) (c.part-3.ensures ∙ ap₂ (λ n m. take n (drop m c.args.secret.now)) c.public_len-public.ensures.exact (omega arith)))

pub returns-clause-fields : goal.returns-clause-fields
returns-clause-fields g c =
    fields_all (set_of g.row.P (to_z w32 g.row.Q) g.row.W) c.args.secret.now c.decode_small.new.into c.decode_small-2.new.into (Some c.read_public.new.h) (small_some g.row.P _ c.part.result.now c.decode_small.new.into c.requires.set.fours (omega arith) c.part.ensures (on_some c.decode_small.result (is_there c.decode_small.result c.is_none.result c.is_none.ensures c.if-is_none.false) c.decode_small.ensures.value)) (small_some g.row.P _ c.part-2.result.now c.decode_small-2.new.into c.requires.set.fours (omega arith) c.part-2.ensures (on_some c.decode_small-2.result (is_there c.decode_small-2.result c.is_none-2.result c.is_none-2.ensures c.if-is_none-2.false) c.decode_small-2.ensures.value))
    (read_some c.read_public.result c.read_public.new.h c.is_none-3.result _ c.is_none-3.ensures c.if-is_none-3.false c.read_public.ensures ∙ ap (public_read (set_of g.row.P (to_z w32 g.row.Q) g.row.W)) (c.part-3.ensures ∙ ap₂ (λ n m. take n (drop m c.args.secret.now)) c.public_len-public.ensures.exact (omega arith)))

pub returns-clause-f_small : goal.returns-clause-f_small
returns-clause-f_small g c = (on_some c.decode_small.result (is_there c.decode_small.result c.is_none.result c.is_none.ensures c.if-is_none.false) c.decode_small.ensures.value).small

pub returns-clause-g_small : goal.returns-clause-g_small
returns-clause-g_small g c = (on_some c.decode_small-2.result (is_there c.decode_small-2.result c.is_none-2.result c.is_none-2.ensures c.if-is_none-2.false) c.decode_small-2.ensures.value).small

pub returns-clause-h_centred : goal.returns-clause-h_centred
returns-clause-h_centred g c =
    public_centred c.requires.set c.part-3.result.now c.read_public.new.h (read_some c.read_public.result c.read_public.new.h c.is_none-3.result _ c.is_none-3.ensures c.if-is_none-3.false c.read_public.ensures)
