use Rattle.hkdf_seal.proofs.Xors.{sealed-sealed}
use Rattle.hkdf_seal.proofs.Opening.{opened-sealed_with_tag, opened-only}
use Rattle.hkdf_seal.proofs.laws.opening_undoes_sealing.Goals as goal

pub returns-clause-twice : goal.returns-clause-twice
returns-clause-twice c = λ key text. sealed-sealed key text

pub returns-clause-opens : goal.returns-clause-opens
returns-clause-opens c = λ key text. opened-sealed_with_tag key text

pub returns-clause-only : goal.returns-clause-only
returns-clause-only c = λ key bytes text e. opened-only key bytes text e
