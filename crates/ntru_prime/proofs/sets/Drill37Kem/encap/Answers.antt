use Rattle.std.proofs.Common.{sym, ◌∙◌}
use Rattle.ntru_model.proofs.Counts.{little_cipher}
use Rattle.ntru_prime.proofs.sets.Drill37Kem.encap.Goals as goal

pub encap-requires-clause-room : goal.encap-requires-clause-room
encap-requires-clause-room g c = c.requires.room ∙ sym little_cipher
