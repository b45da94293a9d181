-- Senders of a history by their numbers.
use Rattle.std.specs.Prelude.{MatchOption}
use Rattle.group_model.specs.Sets.{In}
use Rattle.group_model.specs.Messages.{History}
use Rattle.group_model.specs.Marks.{IsPlace}
use Rattle.causal_history.specs.Rows.{senders_of}
use Rattle.member_view.specs.declared.author.Author.{Author}

-- the author's number is its own among the senders of the history, and it has none where it sent nothing
abbrev pub IsAuthor : History → Author → Type 0
IsAuthor h a = MatchOption a.number (In a.id.0.0 (senders_of h) → ⊥) (λ n. IsPlace (senders_of h) n a.id.0.0)
