use Rattle.std.proofs.Common.{rules, ap, ◌∙◌, ◌≡◌, ◌+◌, ◌++◌, List, ℕ, take, drop}
use Rattle.std.specs.Int.{w32, from_be_bytes}
use Rattle.two_party.proofs.Openings.{read-is, read-some, read-none}
use Rattle.two_party.proofs.reading.read_content.Goals as goal

pub returns-then-not-is_usable : goal.returns-then-not-is_usable
returns-then-not-is_usable g c =
    let four : c.four_at.result ≡ take 4 (drop (32 + g.K.Kem.SECRET_LEN) c.args.bytes.now) = search rules in
    read-none g.K.Kem c.args.bytes.now c.unwrap-payload.result.now (g.K.Kem.secret_key c.in-Some.pair) c.tail-key.result.now c.from_be_bytes-number.result c.is_usable.result
    (read-is g.K.Kem c.args.bytes.now c.unwrap-payload.result.now (g.K.Kem.secret_key c.in-Some.pair) c.tail-key.result.now c.from_be_bytes-number.result c.is_usable.result
    (search rules) (search rules) (search rules) (c.from_be_bytes-number.ensures ∙ ap (from_be_bytes w32) four) (search rules) (g.K.Kem.pairs_are_tested c.in-Some.pair) (search rules) c.is_usable.ensures) (search rules)

pub returns : goal.returns
returns g c =
    let four : c.four_at.result ≡ take 4 (drop (32 + g.K.Kem.SECRET_LEN) c.args.bytes.now) = search rules in
    read-some g.K.Kem c.args.bytes.now c.unwrap-payload.result.now (g.K.Kem.secret_key c.in-Some.pair) c.tail-key.result.now c.from_be_bytes-number.result c.is_usable.result _
    (read-is g.K.Kem c.args.bytes.now c.unwrap-payload.result.now (g.K.Kem.secret_key c.in-Some.pair) c.tail-key.result.now c.from_be_bytes-number.result c.is_usable.result
    (search rules) (search rules) (search rules) (c.from_be_bytes-number.ensures ∙ ap (from_be_bytes w32) four) (search rules) (g.K.Kem.pairs_are_tested c.in-Some.pair) (search rules) c.is_usable.ensures) (search rules)
    (c.in_ok-extend_from_slice.ensures.items ∙ ap (λ (z : List ℕ). z ++ c.tail-key.result.now) c.new-public.ensures.items)
