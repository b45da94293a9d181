-- Why the message of a text isn't taken.
use Rattle.std.proofs.Common.{ℕ, List}
use Rattle.kem_trait.specs.declared.kem.Kem.{Ghosts}
use Rattle.group_fields.specs.declared.header.Header.{Header}
use Rattle.group_model.specs.Sets.{Bytes, Id}
use Rattle.causal_history.specs.Rows.{Row}
use Rattle.secret_book.specs.HeldBooks.{HeldBook}
use Rattle.member_commands.specs.declared.refusal.NotMade.{NotMade}
use Rattle.member_commands.specs.declared.refusal.NotMade.TheVariants.{Memory, NoUsableKey, Repeated, Unfit}
use Rattle.member_commands.specs.Refusing.{IsUntaken}
use Rattle.member_commands.specs.Saying.{IsTextHeader, IsUnsaid}

module _ {K P : Type 0} (kem : Ghosts K P) (rows : List Row) (random : Bytes) (me : Id) (place : ℕ) (book : HeldBook) where
  pub untaken : (header : Header) → IsTextHeader kem rows random me header → (why : NotMade) → IsUntaken rows header why
      → IsUnsaid kem rows random me place book why
  untaken header next NoUsableKey u = absurd u
  untaken header next Repeated u = (header, next, u)
  untaken header next Unfit u = absurd u
  untaken header next Memory u = tt
