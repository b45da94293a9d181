-- Why no message is made.
use Rattle.std.proofs.Common.{List, inl, inr}
use Rattle.kem_trait.specs.declared.kem.Kem.{Ghosts}
use Rattle.group_fields.specs.declared.header.Header.{Header}
use Rattle.group_fields.specs.declared.header.Kind.{Kind}
use Rattle.group_fields.specs.declared.header.Target.{Target}
use Rattle.group_model.specs.Sets.{Bytes, Id}
use Rattle.group_model.specs.Messages.{History}
use Rattle.causal_history.specs.Rows.{Row}
use Rattle.secret_book.specs.HeldBooks.{HeldBook}
use Rattle.next_messages.specs.Headers.{IsNextHeader}
use Rattle.member_commands.specs.declared.refusal.NotMade.{NotMade}
use Rattle.member_commands.specs.declared.refusal.NotMade.TheVariants.{Memory, NoUsableKey, Repeated, Unfit}
use Rattle.member_commands.specs.Refusing.{IsUnbegun, IsUnmade, IsUnsealed, IsUntaken}

module _ {K P : Type 0} (kem : Ghosts K P) (rule : History → List Id) (rows : List Row) (random : Bytes) (me : Id) (kind : Kind)
    (target : Target) (book : HeldBook) where
  pub unbegun : (why : NotMade) → IsUnbegun rows why → IsUnmade kem rule rows random me kind target book why
  unbegun NoUsableKey u = absurd u
  unbegun Repeated u = absurd u
  unbegun Unfit u = inl u
  unbegun Memory u = tt

  module _ (header : Header) (next : IsNextHeader kem.SET rows me random kind target header) where
    pub unsealed : (why : NotMade) → IsUnsealed kem rule rows random header book why
        → IsUnmade kem rule rows random me kind target book why
    unsealed NoUsableKey u = (header, next, u)
    unsealed Repeated u = (header, next, u)
    unsealed Unfit u = inr (header, next, u)
    unsealed Memory u = tt

    pub untaken : (why : NotMade) → IsUntaken rows header why → IsUnmade kem rule rows random me kind target book why
    untaken NoUsableKey u = absurd u
    untaken Repeated u = (header, next, u)
    untaken Unfit u = absurd u
    untaken Memory u = tt
