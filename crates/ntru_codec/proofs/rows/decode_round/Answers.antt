use Rattle.std.proofs.Common.{◌≡◌, ◌*◌, ◌≤◌, ◌<◌, length, drop, arith}
use Rattle.std.proofs.lemmas.List.{length-take-le, length-append, length-drop}
use Rattle.ntru_codec.proofs.Rounds.{comes_from, round_back_bytes, round_back_left, round_unique, round_whole}
use Rattle.ntru_codec.proofs.rows.decode_round.Goals as goal

pub returns-clause-bytes : goal.returns-clause-bytes
returns-clause-bytes c =
    let two : 2 * c.args.round.pairs ≤ length c.args.digits.now = omega (arith, c.requires.round.pairs, c.requires.long) in
    let pairs : length c.decode_pairs-pairs_whole.new.digits ≡ 2 * c.args.round.pairs = omega (arith, c.decode_pairs-pairs_whole.auto.digits, length-take-le (2 * c.args.round.pairs) c.args.digits.now two) in
    let long : c.args.row.front < length c.decode_end-end_whole.new.digits = omega (arith, c.decode_end-end_whole.auto.digits, c.requires.long, pairs, length-append c.decode_pairs-pairs_whole.new.digits (drop (2 * c.args.round.pairs) c.args.digits.now), length-drop (2 * c.args.round.pairs) c.args.digits.now) in
    let from =
    comes_from c.args.row c.args.round c.args.bytes.now c.args.left.now c.split_at.result.0.now c.split_at.result.1.now c.args.digits.now c.decode_pairs-pairs_whole.new.digits c.decode_end-end_whole.new.digits c.split_at.ensures.front c.split_at.ensures.back pairs c.decode_pairs-pairs_whole.ensures.bytes c.decode_pairs-pairs_whole.ensures.left c.decode_pairs-pairs_whole.ensures.firsts c.decode_end-end_whole.ensures.before c.decode_end-end_whole.ensures.end c.decode_end-end_whole.ensures.unique in
    round_back_bytes c.args.row c.args.round c.args.bytes.now c.args.left.now c.decode_end-end_whole.new.digits c.requires.round long from

pub returns-clause-left : goal.returns-clause-left
returns-clause-left c =
    let two : 2 * c.args.round.pairs ≤ length c.args.digits.now = omega (arith, c.requires.round.pairs, c.requires.long) in
    let pairs : length c.decode_pairs-pairs_whole.new.digits ≡ 2 * c.args.round.pairs = omega (arith, c.decode_pairs-pairs_whole.auto.digits, length-take-le (2 * c.args.round.pairs) c.args.digits.now two) in
    let long : c.args.row.front < length c.decode_end-end_whole.new.digits = omega (arith, c.decode_end-end_whole.auto.digits, c.requires.long, pairs, length-append c.decode_pairs-pairs_whole.new.digits (drop (2 * c.args.round.pairs) c.args.digits.now), length-drop (2 * c.args.round.pairs) c.args.digits.now) in
    let from =
    comes_from c.args.row c.args.round c.args.bytes.now c.args.left.now c.split_at.result.0.now c.split_at.result.1.now c.args.digits.now c.decode_pairs-pairs_whole.new.digits c.decode_end-end_whole.new.digits c.split_at.ensures.front c.split_at.ensures.back pairs c.decode_pairs-pairs_whole.ensures.bytes c.decode_pairs-pairs_whole.ensures.left c.decode_pairs-pairs_whole.ensures.firsts c.decode_end-end_whole.ensures.before c.decode_end-end_whole.ensures.end c.decode_end-end_whole.ensures.unique in
    round_back_left c.args.row c.args.round c.args.bytes.now c.args.left.now c.decode_end-end_whole.new.digits c.requires.round long from

pub returns-clause-unique : goal.returns-clause-unique
returns-clause-unique c =
    let two : 2 * c.args.round.pairs ≤ length c.args.digits.now = omega (arith, c.requires.round.pairs, c.requires.long) in
    let pairs : length c.decode_pairs-pairs_whole.new.digits ≡ 2 * c.args.round.pairs = omega (arith, c.decode_pairs-pairs_whole.auto.digits, length-take-le (2 * c.args.round.pairs) c.args.digits.now two) in
    let long : c.args.row.front < length c.decode_end-end_whole.new.digits = omega (arith, c.decode_end-end_whole.auto.digits, c.requires.long, pairs, length-append c.decode_pairs-pairs_whole.new.digits (drop (2 * c.args.round.pairs) c.args.digits.now), length-drop (2 * c.args.round.pairs) c.args.digits.now) in
    let from =
    comes_from c.args.row c.args.round c.args.bytes.now c.args.left.now c.split_at.result.0.now c.split_at.result.1.now c.args.digits.now c.decode_pairs-pairs_whole.new.digits c.decode_end-end_whole.new.digits c.split_at.ensures.front c.split_at.ensures.back pairs c.decode_pairs-pairs_whole.ensures.bytes c.decode_pairs-pairs_whole.ensures.left c.decode_pairs-pairs_whole.ensures.firsts c.decode_end-end_whole.ensures.before c.decode_end-end_whole.ensures.end c.decode_end-end_whole.ensures.unique in
    round_unique c.args.row c.args.round c.args.bytes.now c.args.left.now c.decode_end-end_whole.new.digits c.requires.round long c.requires.room (omega (arith, c.requires.size)) from

pub returns-clause-whole : goal.returns-clause-whole
returns-clause-whole c =
    let two : 2 * c.args.round.pairs ≤ length c.args.digits.now = omega (arith, c.requires.round.pairs, c.requires.long) in
    let pairs : length c.decode_pairs-pairs_whole.new.digits ≡ 2 * c.args.round.pairs = omega (arith, c.decode_pairs-pairs_whole.auto.digits, length-take-le (2 * c.args.round.pairs) c.args.digits.now two) in
    let long : c.args.row.front < length c.decode_end-end_whole.new.digits = omega (arith, c.decode_end-end_whole.auto.digits, c.requires.long, pairs, length-append c.decode_pairs-pairs_whole.new.digits (drop (2 * c.args.round.pairs) c.args.digits.now), length-drop (2 * c.args.round.pairs) c.args.digits.now) in
    round_whole c.args.row c.args.round c.args.digits.now c.decode_pairs-pairs_whole.new.digits c.decode_end-end_whole.new.digits c.decode_pairs-pairs_whole.result c.decode_end-end_whole.result c.requires.round long pairs c.decode_end-end_whole.ensures.before c.decode_pairs-pairs_whole.ensures.firsts c.decode_pairs-pairs_whole.ensures.seconds c.decode_end-end_whole.ensures.whole
