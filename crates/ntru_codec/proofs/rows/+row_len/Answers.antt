use Rattle.std.proofs.Common.{◌<◌, ◌+◌, get_or, length, sym, ap, ap₂, ◌∙◌, arith}
use Rattle.std.proofs.lemmas.List.{length-append}
use Rattle.ntru_codec.specs.Mixed.{digit, encoding, round_bytes, next_round}
use Rattle.ntru_codec.specs.Round.{digits_of}
use Rattle.ntru_codec.proofs.Bytes.{length-low_bytes}
use Rattle.ntru_codec.proofs.Coding.{encoding-one, encoding-round}
use Rattle.ntru_codec.proofs.Rounds.{single_row, length-row, length-round, next_exists, after_digits}
use Rattle.ntru_codec.proofs.rows.+row_len.Goals as goal

pub returns-then-row-eq0-clause-exact : goal.returns-then-row-eq0-clause-exact
returns-then-row-eq0-clause-exact t c = λ rs len.
    let v = get_or rs 0 0 in
    ap length (ap encoding (single_row c.args.row rs c.if-row-eq0.true) ∙ encoding-one (digit v c.args.row.last) ∙ c.shrink.ensures.gives_off v)
    ∙ length-low_bytes c.shrink.result.bytes v

pub returns-clause-exact : goal.returns-clause-exact
returns-clause-exact t c = λ rs len.
    let row = c.args.row in
    let r = c.round-round.result in
    let long : row.front < length rs = omega (arith, len) in
    let whole = encoding-round (digits_of row rs) (length-row row rs long (omega (arith, c.if-row-eq0.false))) in
    let next = next_exists row r rs c.round-round.ensures long in
    let rest = c.row_len.ensures.exact next.0 (next.1 ∙ ap (λ n. n + 1) (sym c.after.ensures.front)) in
    ap length whole ∙ length-append (round_bytes (digits_of row rs)) (encoding (next_round (digits_of row rs)))
    ∙ ap₂ (λ a b. a + b)
    (length-round row r rs c.round-round.ensures long ∙ sym c.len.ensures.exact)
    (ap (λ ds. length (encoding ds)) (next.2 ∙ sym (after_digits c.after.result r next.0 c.after.ensures.front c.after.ensures.each c.after.ensures.last)) ∙ rest)
