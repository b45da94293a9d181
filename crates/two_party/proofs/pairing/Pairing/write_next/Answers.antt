use Rattle.std.proofs.Common.{rules, refl}
use Rattle.two_party.proofs.NextParts.{next_part-from}
use Rattle.two_party.proofs.pairing.Pairing.write_next.Goals as goal

pub returns : goal.returns
returns g c =
    next_part-from g.K.Kem c.args.self.now _ c.args.draw.now _ c.args.payload.now c.as_slice.result.now c.draw.inside.encapsulation
    c.encapsulate-key.result c.encapsulate-key.new.ciphertext c.write_sealed.new.into c.write_target.new.into
    c.self.view_is c.draw.view_is (search rules) (g.K.Kem.pairs_are_tested c.draw.inside.own) refl (g.K.Kem.pairs_are_tested c.draw.inside.other)
    c.requires.few c.as_slice.ensures.value refl c.encapsulate-key.ensures c.write_sealed.ensures c.write_target.ensures
