use Rattle.std.proofs.Common.{◌≡◌, ◌≢◌, [], ◌∷◌, inl, List, Option, Some, None, MatchOption, subst}
use Rattle.kem_trait.specs.declared.kem.Kem.{Ghosts}
use Rattle.group_model.specs.Sets.{Bytes, Id}
use Rattle.group_model.specs.Messages.{History}
use Rattle.causal_cast.specs.declared.verdict.Verdict.{Verdict}
use Rattle.causal_cast.specs.declared.verdict.Verdict.TheVariants as answers
use Rattle.reference_member.specs.Members.{Member}
use Rattle.reference_member.specs.Refusals.{IsVerdict, on_packet}
use Rattle.reference_member.specs.declared.refusal.Refusal.{Refusal}
use Rattle.reference_member.specs.declared.refusal.Refusal.TheVariants as refusals
use Rattle.member_checks.specs.Answers.{AnswersFirst}
use Rattle.member_checks.proofs.packets.packet_refusal.Goals as goal

-- the verdict is the refusal, unless the packet is ready
by-verdict : {K P : Type 0} (kem : Ghosts K P) (rule : History → List Id) (M : Member) (bytes : Bytes) (verdict : Verdict)
    (answer : Option Refusal)
    → MatchOption answer (verdict ≡ answers.Ready) (λ refusal. (verdict ≢ answers.Ready) × (refusal ≡ refusals.Packet verdict))
    → IsVerdict kem rule M bytes verdict → AnswersFirst (on_packet kem rule M bytes ∷ []) answer
by-verdict kem rule M bytes verdict None e v = (subst (λ z. IsVerdict kem rule M bytes z) e v, tt)
by-verdict kem rule M bytes verdict (Some refusal) e v = inl (verdict, v, e.0, e.1)

pub returns : goal.returns
returns g c = λ M is. by-verdict g.K.Kem g.G.Membership.rule M c.args.bytes.now c.in_ok-verdict.verdict c.refusal_by.result
    c.refusal_by.ensures (c.in_ok-verdict.ensures M is)
