use Rattle.std.proofs.Common.{◌≤◌, Some, List, length, subst, sym, arith}
use Rattle.kem_trait.specs.declared.kem.Kem.{Ghosts}
use Rattle.group_model.specs.Sets.{Id}
use Rattle.group_model.specs.Messages.{AreHeads, History}
use Rattle.group_model.specs.Membership.{ids_named}
use Rattle.group_model.specs.Logs.{hist}
use Rattle.group_model.specs.Settings.{Owner}
use Rattle.group_model.proofs.LogLaws.{log_kept}
use Rattle.reference_member.specs.Accepted.{IsRunOf}
use Rattle.reference_member.specs.Members.{IsOwner, Member, known}
use Rattle.reference_member.specs.Messages.{MadeMessage}
use Rattle.reference_member.specs.Steps.{Step}
use Rattle.reference_member.proofs.FewNamed.{run-few}
use Rattle.reference_member.proofs.HeadsFew.{heads-named}
use Rattle.reference_member.proofs.Lawful.{run-sound}
use Rattle.reference_member.proofs.laws.heads_are_few.Goals as goal

module _ {K P : Type 0} (kem : Ghosts K P) where
  few-heads : (rule : History → List Id) (steps : List Step) (M : Member) (made : List MadeMessage) (O : Owner)
      → IsRunOf kem rule steps (Some M) made → IsOwner kem rule M O → (ids : List Id) → AreHeads (known M) ids
      → length ids ≤ length (ids_named (known M))
  few-heads rule steps M made O run is ids heads =
      let sound = run-sound kem rule steps M made run in
      let kept = log_kept O M.log (sound.conducts O is).lawful in
      let agrees = sound.base.agrees in
      subst (λ (h : History). length ids ≤ length (ids_named h)) agrees
      (heads-named O.rule O.inviter (hist M.log)
      (record { history = kept.history; valid = kept.valid; unforked = kept.unforked }) ids
      (subst (λ (h : History). AreHeads h ids) (sym agrees) heads))

pub returns : goal.returns
returns g c = record {
  named = run-few g.K.Kem;
  by_named = few-heads g.K.Kem;
  few = λ rule steps M made O run is ids heads.
      let by = few-heads g.K.Kem rule steps M made O run is ids heads in
      let most = run-few g.K.Kem rule steps M made run in
      omega arith;
}
