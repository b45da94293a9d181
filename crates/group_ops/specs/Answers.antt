-- The inputs of the answers of a crowd, kept place by place. docs/GROUP.md, "The book of a member".
use Rattle.std.specs.Prelude.{◌≡◌, ◌⊎◌, ℕ, zero, suc, Bool, cond, List, [], Some}
use Rattle.group_model.specs.Sets.{Bytes, Id}
use Rattle.group_model.specs.Messages.{Create, Message, History}
use Rattle.group_model.specs.Membership.{named_by}
use Rattle.secret_book.specs.HeldBooks.{HeldBook, with_kept}

-- the message makes the group
pub record OpensGroup (h : History) (m : Message) : Type 0 where
  pub first : h ≡ []
  pub members : List Id
  pub creates : m.kind ≡ Create members

-- the message names nobody, or makes the group
abbrev pub NamesAtFirst : History → Message → Type 0
NamesAtFirst h m = (named_by m.kind ≡ []) ⊎ OpensGroup h m

module _ (of : Id) (secret : ℕ → Bytes) (bits : ℕ → Bool) where
  -- the secret of a place is kept for its answer to the operation, where the place is in the crowd
  abbrev pub answer_kept : ℕ → HeldBook → HeldBook
  answer_kept p b = cond (bits p) (with_kept of p (Some (secret p)) b) b

  -- the same for each place below the number
  unfoldable pub answers_kept : ℕ → HeldBook → HeldBook
  answers_kept zero b = b
  answers_kept (suc n) b = answer_kept n (answers_kept n b)
