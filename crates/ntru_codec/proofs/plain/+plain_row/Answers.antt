use Rattle.std.proofs.Common.{◌≡◌, ℕ, ◌≤◌, List, ◌++◌, length, sym, ap, subst, ◌∙◌, arith, append_assoc}
use Rattle.std.proofs.lemmas.List.{length-map}
use Rattle.ntru_codec.specs.Mixed.{digit, encoding, round_bytes, next_round}
use Rattle.ntru_codec.specs.Digits.{digits_at, AreDigits}
use Rattle.ntru_codec.proofs.Coding.{encoding-round}
use Rattle.ntru_codec.proofs.Giving.{encoding_of_one, length_left, OnOk-onto}
use Rattle.ntru_codec.proofs.plain.+plain_row.Goals as goal

pub returns-then-row-eq1 : goal.returns-then-row-eq1
returns-then-row-eq1 t c =
    c.in_ok-give_bytes.ensures.bytes ∙ ap (λ xs. c.args.bytes.now.items ++ xs) (sym (encoding_of_one c.args.row.now (0, 0) c.if-row-eq1.true))

pub plain_row-requires : goal.plain_row-requires
plain_row-requires t c =
    let row = c.args.row.now in
    let left = c.plain_round.new.left.items in
    let whole : digits_at left ≡ next_round (digits_at row) = c.in_ok-plain_round.ensures.left ∙ ap (λ xs. digits_at xs ++ next_round (digits_at row)) c.new-left.ensures.items in
    let len = length_left left row whole in
    let same : length c.as_slice.result.now ≡ length left = ap length c.as_slice.ensures.value in
    let P : List (ℕ × ℕ) → Type 0 = λ xs. AreDigits xs in
    (omega (arith, c.decreases, len, same, c.if-row-eq1.false), (omega (arith, len, same), subst P (sym c.as_slice.ensures.value) c.in_ok-plain_round.ensures.digits))

pub returns : goal.returns
returns t c =
    let row = c.args.row.now in
    let old = c.args.bytes.now.items in
    let left = c.plain_round.new.left.items in
    let given = c.plain_round.new.bytes.items in
    let whole : digits_at left ≡ next_round (digits_at row) = c.in_ok-plain_round.ensures.left ∙ ap (λ xs. digits_at xs ++ next_round (digits_at row)) c.new-left.ensures.items in
    let l : length (digits_at row) ≡ length row = length-map row (λ d. digit d.0 d.1) in
    let two : 2 ≤ length (digits_at row) = omega (arith, c.if-row-eq1.false, c.requires.some) in
    OnOk-onto c.plain_row.result _ _ c.plain_row.ensures (λ is.
    is
    ∙ ap (λ xs. given ++ encoding (digits_at xs)) c.as_slice.ensures.value
    ∙ ap (λ ds. given ++ encoding ds) whole
    ∙ ap (λ xs. xs ++ encoding (next_round (digits_at row))) c.in_ok-plain_round.ensures.bytes
    ∙ append_assoc old (round_bytes (digits_at row)) (encoding (next_round (digits_at row)))
    ∙ ap (λ xs. old ++ xs) (sym (encoding-round (digits_at row) two)))
