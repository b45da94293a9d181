use Rattle.std.proofs.Common.{length, sym, ap, ◌∙◌}
use Rattle.ntru_codec.specs.Mixed.{encoding}
use Rattle.ntru_codec.specs.Round.{digits_of}
use Rattle.ntru_codec.proofs.Rounds.{row_equal}
use Rattle.ntru_codec.proofs.Sizes.{length-mixed_encoding}
use Rattle.ntru_codec.proofs.mixed.encode_mixed.Goals as goal

pub encode_row-requires-clause-size : goal.encode_row-requires-clause-size
encode_row-requires-clause-size c =
    let row = ap (digits_of c.equal.result) c.widen.ensures ∙ row_equal c.equal.result c.args.modulus c.args.digits.now c.equal.ensures.front c.equal.ensures.each c.equal.ensures.last in
    c.requires.size ∙ sym (length-mixed_encoding c.args.modulus c.args.digits.now) ∙ ap (λ ds. length (encoding ds)) (sym row)
