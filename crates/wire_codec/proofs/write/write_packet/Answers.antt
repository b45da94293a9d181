use Rattle.std.proofs.Common.{◌≡◌, ◌≤◌, ◌++◌, ◌∙◌, List, ℕ, length, ap, sym, subst}
use Rattle.wire_codec.specs.Packets.{IsPacket, greatest_size, joined}
use Rattle.wire_codec.proofs.Joins.{joined_is, together}
use Rattle.wire_codec.proofs.write.write_packet.Goals as goal

whole : (c : goal.After-from) → c.from.result ≡ joined c.args.header.now c.args.body.now c.args.signature.now
whole c =
    c.from.ensures ∙ c.in_ok-append_bytes-6.ensures.plain
    ∙ ap (λ (l : List ℕ). l ++ c.args.signature.now) (c.in_ok-append_bytes-5.ensures.plain
    ∙ ap (λ (l : List ℕ). l ++ c.args.body.now) (c.in_ok-append_bytes-4.ensures.plain
    ∙ ap (λ (l : List ℕ). l ++ c.to_be_bytes-2.result) (c.in_ok-append_bytes-3.ensures.plain
    ∙ ap (λ (l : List ℕ). l ++ c.args.header.now) (c.in_ok-append_bytes-2.ensures.plain
    ∙ ap (λ (l : List ℕ). l ++ c.to_be_bytes.result) c.in_ok-append_bytes.ensures.plain))))
    ∙ joined_is c.args.header.now c.args.body.now c.args.signature.now c.new-bytes.result.items c.to_be_bytes.result c.to_be_bytes-2.result
    c.new-bytes.ensures.items c.to_be_bytes.ensures c.to_be_bytes-2.ensures

pub returns-clause-joined : goal.returns-clause-joined
returns-clause-joined c = whole c

pub returns-clause-packet : goal.returns-clause-packet
returns-clause-packet c = λ packet of fits.
    subst (λ (b : List ℕ). IsPacket packet b) (sym (whole c))
    (together packet c.args.header.now c.args.body.now c.args.signature.now of c.requires.header
    (subst (λ (b : List ℕ). length b ≤ greatest_size) (whole c) fits))
