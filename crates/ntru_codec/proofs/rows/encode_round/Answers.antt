use Rattle.std.proofs.Common.{◌≡◌, ◌*◌, ◌/◌, ◌^◌, ◌<◌, ◌++◌, ◌∷◌, [], length, take, sym, ap, ap₂, subst, ◌∙◌, arith}
use Rattle.std.specs.List.{All}
use Rattle.std.proofs.lemmas.List.{length-take-le}
use Rattle.ntru_codec.specs.Mixed.{digit, digits}
use Rattle.ntru_codec.specs.Rows.{low_bytes}
use Rattle.ntru_codec.proofs.Lists.{take_written, get_or_written}
use Rattle.ntru_codec.proofs.Rounds.{round_is, end_left_below, pairs_below, high_parts_below}
use Rattle.ntru_codec.proofs.rows.encode_round.Goals as goal

pub encode_pairs-requires-clause-below : goal.encode_pairs-requires-clause-below
encode_pairs-requires-clause-below c =
    pairs_below c.args.row.front c.args.row.each (2 * c.args.round.pairs) c.args.digits.now (omega (arith, c.requires.round.pairs)) c.requires.below.front_below

pub returns-clause-bytes : goal.returns-clause-bytes
returns-clause-bytes c =
    let v = c.end_of.result in
    let is = round_is c.args.row c.args.round c.args.digits.now v c.requires.round c.requires.long c.end_of.ensures in
    let len : length c.split_at_mut-front.result.1.now ≡ c.args.round.last.bytes = omega (arith, c.split_at_mut-front.ensures.back_len, c.requires.size) in
    ap₂ (λ xs ys. xs ++ ys) c.encode_pairs.ensures.bytes (c.give_off.ensures.bytes ∙ ap (λ n. low_bytes n v) len) ∙ sym is.bytes_are

pub returns-clause-left : goal.returns-clause-left
returns-clause-left c =
    let v = c.end_of.result in
    let r = c.args.round in
    let is = round_is c.args.row r c.args.digits.now v c.requires.round c.requires.long c.end_of.ensures in
    let len : length c.split_at_mut-front.result.1.now ≡ r.last.bytes = omega (arith, c.split_at_mut-front.ensures.back_len, c.requires.size) in
    let wrote : length c.encode_pairs.new.left ≡ r.pairs = omega (arith, length-take-le r.pairs c.args.left.now (omega (arith, c.requires.room))) in
    let front = take_written c.encode_pairs.new.left c.args.left.now r.pairs c.give_off.result wrote in
    let last = get_or_written c.encode_pairs.new.left c.args.left.now r.pairs c.give_off.result wrote c.requires.room in
    ap₂ (λ xs w. digits r.each.modulus xs ++ digit w r.last.modulus ∷ []) (front ∙ c.encode_pairs.ensures.left) (last ∙ c.give_off.ensures.left ∙ ap (λ n. v / 256 ^ n) len)
    ∙ sym is.left_are

pub returns-clause-below : goal.returns-clause-below
returns-clause-below c =
    let v = c.end_of.result in
    let r = c.args.round in
    let len : length c.split_at_mut-front.result.1.now ≡ r.last.bytes = omega (arith, c.split_at_mut-front.ensures.back_len, c.requires.size) in
    let wrote : length c.encode_pairs.new.left ≡ r.pairs = omega (arith, length-take-le r.pairs c.args.left.now (omega (arith, c.requires.room))) in
    let front = take_written c.encode_pairs.new.left c.args.left.now r.pairs c.give_off.result wrote in
    let last = get_or_written c.encode_pairs.new.left c.args.left.now r.pairs c.give_off.result wrote c.requires.room in
    let pairs = pairs_below c.args.row.front c.args.row.each (2 * r.pairs) c.args.digits.now (omega (arith, c.requires.round.pairs)) c.requires.below.front_below in
    let high = high_parts_below 16384 c.args.row.each r.each.bytes r.each.modulus c.requires.round.each (take (2 * r.pairs) c.args.digits.now) pairs in
    let end = end_left_below c.args.row r c.args.digits.now v c.requires.round c.requires.long c.requires.below c.end_of.ensures in
    record {
      front_below = subst (λ xs. All (λ x. x < r.each.modulus) xs) (sym (front ∙ c.encode_pairs.ensures.left)) high;
      last_below = subst (λ w. w < r.last.modulus) (sym (last ∙ c.give_off.ensures.left ∙ ap (λ n. v / 256 ^ n) len)) end;
    }
