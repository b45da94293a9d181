use Rattle.std.proofs.Common.{sym, ◌∙◌}
use Rattle.ntru_model.proofs.Counts.{large_cipher}
use Rattle.ntru_prime.proofs.sets.Sntrup761Kem.encap.Goals as goal

pub encap-requires-clause-room : goal.encap-requires-clause-room
encap-requires-clause-room g c = c.requires.room ∙ sym large_cipher
