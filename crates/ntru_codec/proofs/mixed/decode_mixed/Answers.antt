use Rattle.std.proofs.Common.{◌≡◌, ◌+◌, true≢false, is_some, length, sym, ap, subst, refl, ◌∙◌, arith}
use Rattle.std.proofs.lemmas.List.{take_all}
use Rattle.ntru_codec.specs.Mixed.{encoding, Spells}
use Rattle.ntru_codec.proofs.Rounds.{row_equal, equal_below, below_equal}
use Rattle.ntru_codec.proofs.mixed.decode_mixed.Goals as goal

pub returns-in_err-decode_row-clause-spelled : goal.returns-in_err-decode_row-clause-spelled
returns-in_err-decode_row-clause-spelled c = (
  λ some. absurd (true≢false (sym some ∙ ap is_some c.from_residual.ensures)),
  λ found.
      let row = c.equal.result in
      let rs = found.0 in
      let len : row.front + 1 ≡ length rs = c.equal.ensures.front ∙ sym found.1 in
      let is = ap encoding (row_equal row c.args.modulus rs len c.equal.ensures.each c.equal.ensures.last) ∙ found.2.encoded in
      let never = c.in_err-decode_row.ensures.only rs (sym len) (equal_below row c.args.modulus rs len c.equal.ensures.each c.equal.ensures.last found.2.below) is in
      absurd (true≢false (sym never.0)),
)

pub narrow-requires-clause-fits : goal.narrow-requires-clause-fits
narrow-requires-clause-fits c =
    let row = c.equal.result in
    let new = c.decode_row.new.digits in
    let len : row.front + 1 ≡ length new = c.equal.ensures.front ∙ sym (c.decode_row.auto.digits ∙ c.split_at_mut-row.ensures.front_len) in
    let all = below_equal row c.args.modulus new len c.equal.ensures.each c.equal.ensures.last c.in_ok-decode_row.ensures.found.0 in
    λ k d h. omega (arith, all k d h, c.ranges.modulus)

pub returns-clause-spelled : goal.returns-clause-spelled
returns-clause-spelled c =
    let row = c.equal.result in
    let new = c.decode_row.new.digits in
    let len : row.front + 1 ≡ length new = c.equal.ensures.front ∙ sym (c.decode_row.auto.digits ∙ c.split_at_mut-row.ensures.front_len) in
    let spells : Spells c.args.modulus c.args.bytes.now new = record {
      below = below_equal row c.args.modulus new len c.equal.ensures.each c.equal.ensures.last c.in_ok-decode_row.ensures.found.0;
      encoded = ap encoding (sym (row_equal row c.args.modulus new len c.equal.ensures.each c.equal.ensures.last)) ∙ c.in_ok-decode_row.ensures.found.1;
    } in
    (λ _. (new, c.decode_row.auto.digits ∙ c.split_at_mut-row.ensures.front_len, spells), λ _. refl)

pub returns-clause-value : goal.returns-clause-value
returns-clause-value c =
    let row = c.equal.result in
    let new = c.decode_row.new.digits in
    let len : row.front + 1 ≡ length new = c.equal.ensures.front ∙ sym (c.decode_row.auto.digits ∙ c.split_at_mut-row.ensures.front_len) in
    let spells : Spells c.args.modulus c.args.bytes.now new = record {
      below = below_equal row c.args.modulus new len c.equal.ensures.each c.equal.ensures.last c.in_ok-decode_row.ensures.found.0;
      encoded = ap encoding (sym (row_equal row c.args.modulus new len c.equal.ensures.each c.equal.ensures.last)) ∙ c.in_ok-decode_row.ensures.found.1;
    } in
    subst (λ ds. Spells c.args.modulus c.args.bytes.now ds) (sym c.narrow.ensures) spells

pub returns-clause-only : goal.returns-clause-only
returns-clause-only c = λ rs size spells.
    let row = c.equal.result in
    let new = c.decode_row.new.digits in
    let len : row.front + 1 ≡ length rs = c.equal.ensures.front ∙ sym size in
    let whole : row.front + 1 ≡ length new = c.equal.ensures.front ∙ sym (c.decode_row.auto.digits ∙ c.split_at_mut-row.ensures.front_len) in
    let is = ap encoding (row_equal row c.args.modulus rs len c.equal.ensures.each c.equal.ensures.last) ∙ spells.encoded in
    let found = c.in_ok-decode_row.ensures.only rs (sym len) (equal_below row c.args.modulus rs len c.equal.ensures.each c.equal.ensures.last spells.below) is in
    c.narrow.ensures ∙ sym (take_all (row.front + 1) new (omega (arith, whole))) ∙ sym found.1
