use Rattle.std.proofs.Common.{◌≡◌, ◌++◌, length, get_or, sym, ap, ap₂, ◌∙◌, arith}
use Rattle.std.proofs.lemmas.List.{length-append}
use Rattle.ntru_codec.specs.Mixed.{digit, given_off, encoding, round_bytes, next_round}
use Rattle.ntru_codec.specs.Rows.{low_bytes}
use Rattle.ntru_codec.specs.Round.{digits_of}
use Rattle.ntru_codec.proofs.Bytes.{length-low_bytes}
use Rattle.ntru_codec.proofs.Coding.{encoding-one, encoding-round, given_off-low}
use Rattle.ntru_codec.proofs.Rounds.{length-round, single_row, length-row, after_digits, after_below}
use Rattle.ntru_codec.proofs.rows.+encode_row.Goals as goal

pub returns-then-row-eq0 : goal.returns-then-row-eq0
returns-then-row-eq0 t c =
    let v = get_or c.args.digits.now 0 0 in
    let one = ap encoding (single_row c.args.row c.args.digits.now c.if-row-eq0.true) ∙ encoding-one (digit v c.args.row.last) ∙ given_off-low 4 2 v c.args.row.last in
    let len : length c.args.into.now ≡ length (given_off 4 2 (digit v c.args.row.last)) = c.requires.size ∙ ap length one ∙ length-low_bytes (length (given_off 4 2 (digit v c.args.row.last))) v in
    c.give_off.ensures.bytes ∙ ap (λ n. low_bytes n v) len ∙ sym one

pub split_at_mut-now-requires : goal.split_at_mut-now-requires
split_at_mut-now-requires t c =
    let whole = encoding-round (digits_of c.args.row c.args.digits.now) (length-row c.args.row c.args.digits.now c.requires.long (omega (arith, c.if-row-eq0.false))) in
    let len = length-round c.args.row c.round-round.result c.args.digits.now c.round-round.ensures c.requires.long in
    omega (arith, c.len.ensures.exact, len, c.requires.size, ap length whole, length-append (round_bytes (digits_of c.args.row c.args.digits.now)) (encoding (next_round (digits_of c.args.row c.args.digits.now))))

pub encode_row-requires : goal.encode_row-requires
encode_row-requires t c =
    let ds = c.args.digits.now in
    let row = c.args.row in
    let r = c.round-round.result in
    let left = c.encode_round.new.left in
    let whole = encoding-round (digits_of row ds) (length-row row ds c.requires.long (omega (arith, c.if-row-eq0.false))) in
    let len = length-round row r ds c.round-round.ensures c.requires.long in
    let next = after_digits c.after.result r left c.after.ensures.front c.after.ensures.each c.after.ensures.last ∙ c.encode_round.ensures.left in
    let size : length c.split_at_mut-now.result.1.now ≡ length (encoding (digits_of c.after.result left)) =
    omega (arith, c.split_at_mut-now.ensures.back_len, c.len.ensures.exact, len, c.requires.size, ap length whole, length-append (round_bytes (digits_of row ds)) (encoding (next_round (digits_of row ds))), ap (λ x. length (encoding x)) next) in (
      omega (arith, c.decreases, c.after.ensures.front, c.round-round.ensures.pairs, c.if-row-eq0.false),
      (
        omega (arith, c.after.ensures.front, c.round-round.ensures.pairs, c.requires.room),
        (
          omega (arith, c.after.ensures.front, c.round-round.ensures.pairs, c.requires.long),
          (after_below c.after.result r left c.after.ensures.front c.after.ensures.each c.after.ensures.last c.encode_round.ensures.below, size),
        ),
      ),
    )

pub returns : goal.returns
returns t c =
    let ds = c.args.digits.now in
    let row = c.args.row in
    let whole = encoding-round (digits_of row ds) (length-row row ds c.requires.long (omega (arith, c.if-row-eq0.false))) in
    let next = after_digits c.after.result c.round-round.result c.encode_round.new.left c.after.ensures.front c.after.ensures.each c.after.ensures.last ∙ c.encode_round.ensures.left in
    ap₂ (λ xs ys. xs ++ ys) c.encode_round.ensures.bytes (c.encode_row.ensures ∙ ap encoding next) ∙ sym whole
