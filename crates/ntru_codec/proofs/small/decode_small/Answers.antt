use Rattle.std.proofs.Common.{true≢false, length, sym, ap, subst, refl, ◌∙◌, arith}
use Rattle.ntru_codec.specs.Small.{SpellsSmall, ArePacked, coefficients}
use Rattle.ntru_codec.proofs.Codes.{coefficients-encoding, packed_encoding, encoding-coefficients, small-coefficients, length-small_encoding}
use Rattle.ntru_codec.proofs.small.decode_small.Goals as goal

pub returns-then-bytes-into-clause-spelled : goal.returns-then-bytes-into-clause-spelled
returns-then-bytes-into-clause-spelled c = (
  λ some. absurd (true≢false (sym some)),
  λ found.
      let len = length-small_encoding found.0 (omega (arith, found.1, c.requires.count)) in
      absurd (omega (arith, len, ap length found.2.encoded, found.1, c.if-bytes-into.true)),
)

pub returns-then-not-are_packed-clause-spelled : goal.returns-then-not-are_packed-clause-spelled
returns-then-not-are_packed-clause-spelled c = (
  λ some. absurd (true≢false (sym some)),
  λ found.
      let packed = packed_encoding found.0 (omega (arith, found.1, c.requires.count)) found.2.small in
      let yes = c.are_packed.ensures.1 (subst ArePacked found.2.encoded packed) in
      absurd (true≢false (sym yes ∙ c.if-not-are_packed.true)),
)

pub returns-clause-value : goal.returns-clause-value
returns-clause-value c =
    let spells : SpellsSmall c.args.bytes.now (coefficients c.args.bytes.now) = record {
      small = small-coefficients c.args.bytes.now (c.are_packed.ensures.0 c.if-not-are_packed.false);
      encoded = encoding-coefficients c.args.bytes.now;
    } in
    subst (λ a. SpellsSmall c.args.bytes.now a) (sym c.unpack.ensures) spells

pub returns-clause-spelled : goal.returns-clause-spelled
returns-clause-spelled c =
    let spells : SpellsSmall c.args.bytes.now (coefficients c.args.bytes.now) = record {
      small = small-coefficients c.args.bytes.now (c.are_packed.ensures.0 c.if-not-are_packed.false);
      encoded = encoding-coefficients c.args.bytes.now;
    } in
    (λ _. (c.unpack.new.into, c.unpack.auto.into, subst (λ a. SpellsSmall c.args.bytes.now a) (sym c.unpack.ensures) spells), λ _. refl)

pub returns-clause-only : goal.returns-clause-only
returns-clause-only c = λ a len spells.
    c.unpack.ensures ∙ ap coefficients (sym spells.encoded) ∙ coefficients-encoding a (omega (arith, len, c.requires.count)) spells.small
