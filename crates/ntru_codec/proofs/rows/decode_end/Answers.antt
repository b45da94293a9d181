use Rattle.std.proofs.Common.{◌≡◌, ◌%◌, ◌/◌, ◌^◌, subst, arith}
use Rattle.ntru_codec.specs.Rows.{low_bytes}
use Rattle.ntru_codec.proofs.Rounds.{alone_end, joined_unique}
use Rattle.ntru_codec.proofs.rows.decode_end.Goals as goal

pub returns-then-row-eq0-clause-end : goal.returns-then-row-eq0-clause-end
returns-then-row-eq0-clause-end c = λ v end. alone_end c.args.row c.args.round c.args.digits.now c.args.bytes.now c.args.left v c.requires.round c.if-row-eq0.true c.requires.long c.requires.size end

pub returns-clause-unique : goal.returns-clause-unique
returns-clause-unique c = λ rs v end below low-v high-v.
    let odd : c.args.row.front % 2 ≡ 1 = omega (arith, c.if-row-eq0.false) in
    let low = subst (λ n. low_bytes n c.take_back-value.result ≡ c.args.bytes.now) c.requires.size c.take_back-value.ensures.bytes in
    let high = subst (λ n. c.take_back-value.result / 256 ^ n ≡ c.args.left) c.requires.size c.take_back-value.ensures.left in
    let same = joined_unique c.args.row c.args.round.last.bytes c.take_back-value.result v c.args.bytes.now c.args.digits.now rs c.args.left odd c.requires.long low high end below low-v high-v in
    (λ _. same.0, same.1)
