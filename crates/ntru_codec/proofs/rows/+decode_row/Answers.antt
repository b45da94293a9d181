use Rattle.std.proofs.Common.{◌≡◌, ◌+◌, ◌<◌, ◌++◌, Bool, true, false, Option, Some, None, IsSome, OnSome, IsTrue, length, get_or, take, drop, sym, ap, ap₂, subst, ◌∙◌, arith, refl}
use Rattle.std.specs.Bool.{then_some}
use Rattle.ntru_codec.specs.Mixed.{digit, encoding, round_bytes, next_round}
use Rattle.ntru_codec.specs.Round.{digits_of, left_of, AreBelow}
use Rattle.ntru_codec.proofs.Coding.{encoding-one, encoding-round}
use Rattle.ntru_codec.proofs.Rounds.{single_row, single_below, single_last, single_same, length-row, after_digits, after_below, next_values, rest_spelled, long_enough, row_front, below_front}
use Rattle.ntru_codec.proofs.rows.+decode_row.Goals as goal

on_some : {X P Q : Type 0} (o : Option X) → (P → Q) → OnSome o P → OnSome o Q
on_some None f h = tt
on_some (Some x) f h = f h

on_then_some : {P : Type 0} (b : Bool) → (IsTrue b → P) → OnSome (then_some b (tt {0})) P
on_then_some true f = f refl
on_then_some false f = tt

some_then_some : (b : Bool) → IsTrue b → IsSome (then_some b (tt {0}))
some_then_some true h = refl
some_then_some false h = cc

pub returns-then-row-eq0-clause-found : goal.returns-then-row-eq0-clause-found
returns-then-row-eq0-clause-found t c =
    let none = c.if-row-eq0.true in
    let new = c.decode_one.new.digits in
    on_some c.decode_one.result
    (λ h. (single_below c.args.row new none h.0, ap encoding (single_row c.args.row new none) ∙ encoding-one (digit (get_or new 0 0) c.args.row.last) ∙ h.1))
    c.decode_one.ensures.found

pub returns-then-row-eq0-clause-only : goal.returns-then-row-eq0-clause-only
returns-then-row-eq0-clause-only t c = λ rs len below is.
    let none = c.if-row-eq0.true in
    let one = sym (encoding-one (digit (get_or rs 0 0) c.args.row.last)) ∙ ap encoding (sym (single_row c.args.row rs none)) ∙ is in
    let found = c.decode_one.ensures.only (get_or rs 0 0) (single_last c.args.row rs none below) one in
    (found.0, single_same c.args.row rs c.decode_one.new.digits none len (omega (arith, c.requires.long, c.decode_one.auto.digits)) found.1)

pub returns-then-bytes-given_off-clause-only : goal.returns-then-bytes-given_off-clause-only
returns-then-bytes-given_off-clause-only t c = λ rs len below is.
    let long = long_enough c.args.row c.round-round.result rs c.args.bytes.now c.round-round.ensures (omega (arith, len)) (omega (arith, c.if-row-eq0.false)) is in
    absurd (omega (arith, long, c.len-given_off.ensures.exact, c.if-bytes-given_off.true))

pub returns-in_err-decode_row-clause-only : goal.returns-in_err-decode_row-clause-only
returns-in_err-decode_row-clause-only t c = λ rs len below is.
    let r = c.round-round.result in
    let a = c.after.result in
    let long : c.args.row.front < length rs = omega (arith, len) in
    let rest = rest_spelled c.args.row r rs c.args.bytes.now c.round-round.ensures long (omega (arith, c.if-row-eq0.false)) is in
    let next = next_values c.args.row r rs c.round-round.ensures long below in
    let spelled = ap encoding (after_digits a r next.0 c.after.ensures.front c.after.ensures.each c.after.ensures.last ∙ sym next.2) ∙ rest.1 ∙ ap (λ n. drop n c.args.bytes.now) (sym c.len-given_off.ensures.exact) ∙ sym c.split_at.ensures.back in
    let found = c.in_err-decode_row.ensures.only next.0 (next.1 ∙ ap (λ n. n + 1) (sym c.after.ensures.front)) (after_below a r next.0 c.after.ensures.front c.after.ensures.each c.after.ensures.last next.3) spelled in
    let never : false ≡ true = found.0 in
    cc

pub returns-clause-found : goal.returns-clause-found
returns-clause-found t c =
    let r = c.round-round.result in
    let new = c.decode_round.new.digits in
    let left = c.decode_row.new.digits in
    let long : c.args.row.front < length new = omega (arith, c.decode_round.auto.digits, c.decode_row.auto.left, c.requires.long) in
    let whole = encoding-round (digits_of c.args.row new) (length-row c.args.row new long (omega (arith, c.if-row-eq0.false))) in
    let rest = ap encoding (c.decode_round.ensures.left ∙ sym (after_digits c.after.result r left c.after.ensures.front c.after.ensures.each c.after.ensures.last)) ∙ c.in_ok-decode_row.ensures.found.1 in
    let both = whole ∙ ap₂ (λ xs ys. xs ++ ys) c.decode_round.ensures.bytes rest ∙ sym c.split_at.ensures.by_index.0 in
    subst (λ o. OnSome o (AreBelow c.args.row new × (encoding (digits_of c.args.row new) ≡ c.args.bytes.now))) (sym c.then_some.ensures)
    (on_then_some c.decode_round.result (λ w. (c.decode_round.ensures.whole.0 w, both)))

pub returns-clause-only : goal.returns-clause-only
returns-clause-only t c = λ rs len below is.
    let r = c.round-round.result in
    let a = c.after.result in
    let left = c.decode_row.new.digits in
    let long : c.args.row.front < length rs = omega (arith, len) in
    let rest = rest_spelled c.args.row r rs c.args.bytes.now c.round-round.ensures long (omega (arith, c.if-row-eq0.false)) is in
    let next = next_values c.args.row r rs c.round-round.ensures long below in
    let spelled = ap encoding (after_digits a r next.0 c.after.ensures.front c.after.ensures.each c.after.ensures.last ∙ sym next.2) ∙ rest.1 ∙ ap (λ n. drop n c.args.bytes.now) (sym c.len-given_off.ensures.exact) ∙ sym c.split_at.ensures.back in
    let found = c.in_ok-decode_row.ensures.only next.0 (next.1 ∙ ap (λ n. n + 1) (sym c.after.ensures.front)) (after_below a r next.0 c.after.ensures.front c.after.ensures.each c.after.ensures.last next.3) spelled in
    let front : next.0 ≡ take (r.pairs + 1) left = found.1 ∙ ap (λ n. take (n + 1) left) c.after.ensures.front in
    let lefts : next_round (digits_of c.args.row rs) ≡ left_of r left = next.2 ∙ ap (λ xs. left_of r xs) front ∙ row_front r.pairs r.each.modulus r.last.modulus left in
    let now : round_bytes (digits_of c.args.row rs) ≡ c.split_at.result.0.now = rest.0 ∙ ap (λ n. take n c.args.bytes.now) (sym c.len-given_off.ensures.exact) ∙ sym c.split_at.ensures.front in
    let same = c.decode_round.ensures.unique rs len below now lefts in
    let whole = c.decode_round.ensures.whole.1 (below_front c.args.row.front c.args.row.each c.args.row.last rs c.decode_round.new.digits same below) in
    (subst (λ o. IsSome o) (sym c.then_some.ensures) (some_then_some c.decode_round.result whole), same)
