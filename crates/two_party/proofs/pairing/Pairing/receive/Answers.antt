use Rattle.std.proofs.Common.{rules, refl, ap, ◌∙◌, sym, Some, None}
use Rattle.std.specs.Int.{w32, from_be_bytes}
use Rattle.two_party.proofs.Received.{received-none, received-is, answer-is, kept-is, kept-some}
use Rattle.two_party.proofs.pairing.Pairing.receive.Goals as goal

pub returns-then-not-is_part-clause-answer : goal.returns-then-not-is_part-clause-answer
returns-then-not-is_part-clause-answer g c =
    answer-is g.K.Kem c.args.self.now c.args.part.now None (received-none g.K.Kem c.args.self.now c.args.part.now c.is_part.result c.is_part.ensures (search rules))

pub returns-then-not-is_part-clause-kept : goal.returns-then-not-is_part-clause-kept
returns-then-not-is_part-clause-kept g c =
    kept-is g.K.Kem c.args.self.now c.args.part.now None (received-none g.K.Kem c.args.self.now c.args.part.now c.is_part.result c.is_part.ensures (search rules))

pub returns-in_default-clause-answer : goal.returns-in_default-clause-answer
returns-in_default-clause-answer g c =
    answer-is g.K.Kem c.args.self.now c.args.part.now None
    (received-is g.K.Kem c.args.self.now c.args.part.now c.is_part.result c.is_part.ensures (search rules) _ _ _ c.tail-sealed.result.now
    refl (c.from_be_bytes-number.ensures ∙ ap (from_be_bytes w32) c.four_at.ensures) (search rules) (search rules) ∙ sym c.in_ok-opened.ensures ∙ (search rules))

pub returns-in_default-clause-kept : goal.returns-in_default-clause-kept
returns-in_default-clause-kept g c =
    kept-is g.K.Kem c.args.self.now c.args.part.now None
    (received-is g.K.Kem c.args.self.now c.args.part.now c.is_part.result c.is_part.ensures (search rules) _ _ _ c.tail-sealed.result.now
    refl (c.from_be_bytes-number.ensures ∙ ap (from_be_bytes w32) c.four_at.ensures) (search rules) (search rules) ∙ sym c.in_ok-opened.ensures ∙ (search rules))

pub returns-clause-answer : goal.returns-clause-answer
returns-clause-answer g c =
    ap Some c.keep_opened.ensures.payload
    ∙ answer-is g.K.Kem c.args.self.now c.args.part.now (Some c.in-Some.opened)
    (received-is g.K.Kem c.args.self.now c.args.part.now c.is_part.result c.is_part.ensures (search rules) _ _ _ c.tail-sealed.result.now
    refl (c.from_be_bytes-number.ensures ∙ ap (from_be_bytes w32) c.four_at.ensures) (search rules) (search rules) ∙ sym c.in_ok-opened.ensures ∙ (search rules))

pub returns-clause-kept : goal.returns-clause-kept
returns-clause-kept g c =
    kept-some g.K.Kem c.args.self.now c.args.part.now c.keep_opened.new.self _ _ c.in-Some.opened c.keep_opened.ensures.kept refl (c.from_be_bytes-number.ensures ∙ ap (from_be_bytes w32) c.four_at.ensures)
    (received-is g.K.Kem c.args.self.now c.args.part.now c.is_part.result c.is_part.ensures (search rules) _ _ _ c.tail-sealed.result.now
    refl (c.from_be_bytes-number.ensures ∙ ap (from_be_bytes w32) c.four_at.ensures) (search rules) (search rules) ∙ sym c.in_ok-opened.ensures ∙ (search rules))
