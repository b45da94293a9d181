use Rattle.std.proofs.Common.{◌≡◌, ℕ, List, ◌++◌, ◌∷◌, [], length, drop, get_or, sym, ap, subst, ◌∙◌, arith, append-nil, append_assoc, rules}
use Rattle.std.proofs.lemmas.List.{map-append, take_rest, length-drop}
use Rattle.std.proofs.lemmas.List.Elements.{All-drop, All-push}
use Rattle.ntru_codec.specs.Mixed.{digit, given_off, round_bytes, next_round}
use Rattle.ntru_codec.specs.Digits.{digits_at, IsDigit, AreDigits}
use Rattle.ntru_codec.proofs.Giving.{round_of_none, round_of_one, round_of_more, OnOk-onto}
use Rattle.ntru_codec.proofs.plain.+plain_round.Goals as goal

pub returns-then-is_empty-clause-bytes : goal.returns-then-is_empty-clause-bytes
returns-then-is_empty-clause-bytes t c =
    let none : length c.args.row.now ≡ 0 = search rules in
    sym (append-nil c.args.bytes.now.items) ∙ ap (λ xs. c.args.bytes.now.items ++ xs) (sym (round_of_none c.args.row.now none).0)

pub returns-then-is_empty-clause-left : goal.returns-then-is_empty-clause-left
returns-then-is_empty-clause-left t c =
    let none : length c.args.row.now ≡ 0 = search rules in
    sym (append-nil (digits_at c.args.left.now.items)) ∙ ap (λ xs. digits_at c.args.left.now.items ++ xs) (sym (round_of_none c.args.row.now none).1)

pub returns-then-row-eq1-clause-bytes : goal.returns-then-row-eq1-clause-bytes
returns-then-row-eq1-clause-bytes t c =
    sym (append-nil c.args.bytes.now.items) ∙ ap (λ xs. c.args.bytes.now.items ++ xs) (sym (round_of_one c.args.row.now (0, 0) c.if-row-eq1.true).0)

pub returns-then-row-eq1-clause-left : goal.returns-then-row-eq1-clause-left
returns-then-row-eq1-clause-left t c =
    let row = c.args.row.now in
    let left = c.args.left.now.items in
    ap digits_at c.in_ok-push.ensures.items ∙ map-append (λ (d : ℕ × ℕ). digit d.0 d.1) left (get_or row 0 (0, 0) ∷ [])
    ∙ ap (λ xs. digits_at left ++ xs) (sym (round_of_one row (0, 0) c.if-row-eq1.true).1)

pub plain_round-requires : goal.plain_round-requires
plain_round-requires t c =
    let row = c.args.row.now in
    let left = c.args.left.now.items in
    let rest = c.in_ok-rest.rest in
    let some : length row ≡ 0 → ⊥ = search rules in
    let below = c.in_ok-rest.ensures.below in
    let low = below.1 in
    let P : List (ℕ × ℕ) → Type 0 = λ xs. AreDigits xs in (
      omega (arith, c.decreases, ap length (take_rest row 2), length-drop 2 row, some),
      (
        subst P (sym (take_rest row 2)) (All-drop IsDigit 2 row c.requires.digits),
        subst P (sym c.in_ok-push-2.ensures.items) (All-push IsDigit left rest c.requires.left (below.0, omega arith)),
      ),
    )

pub returns-clause-bytes : goal.returns-clause-bytes
returns-clause-bytes t c =
    let row = c.args.row.now in
    let old = c.args.bytes.now.items in
    let both = c.join-both.result in
    let some : length row ≡ 0 → ⊥ = search rules in
    let more = round_of_more row (0, 0) both (omega (arith, some)) c.join-both.ensures.joined in
    OnOk-onto c.plain_round.result _ _ c.plain_round.ensures.bytes (λ is.
    is
    ∙ ap (λ xs. c.give_bytes.new.bytes.items ++ round_bytes (digits_at xs)) (take_rest row 2)
    ∙ ap (λ xs. xs ++ round_bytes (digits_at (drop 2 row))) c.in_ok-rest.ensures.bytes
    ∙ append_assoc old (given_off 4 16384 (digit both.0 both.1)) (round_bytes (digits_at (drop 2 row)))
    ∙ ap (λ xs. old ++ xs) (sym more.0))

pub returns-clause-left : goal.returns-clause-left
returns-clause-left t c =
    let row = c.args.row.now in
    let left = c.args.left.now.items in
    let both = c.join-both.result in
    let rest = c.in_ok-rest.rest in
    let next = next_round (digits_at (drop 2 row)) in
    let some : length row ≡ 0 → ⊥ = search rules in
    let more = round_of_more row (0, 0) both (omega (arith, some)) c.join-both.ensures.joined in
    OnOk-onto c.plain_round.result _ _ c.plain_round.ensures.left (λ is.
    is
    ∙ ap (λ xs. digits_at c.push-2.new.self.items ++ next_round (digits_at xs)) (take_rest row 2)
    ∙ ap (λ xs. digits_at xs ++ next) c.in_ok-push-2.ensures.items
    ∙ ap (λ xs. xs ++ next) (map-append (λ (d : ℕ × ℕ). digit d.0 d.1) left (rest ∷ []))
    ∙ append_assoc (digits_at left) (digit rest.0 rest.1 ∷ []) next
    ∙ ap (λ d. digits_at left ++ d ∷ next) c.in_ok-rest.ensures.left
    ∙ ap (λ xs. digits_at left ++ xs) (sym more.1))
