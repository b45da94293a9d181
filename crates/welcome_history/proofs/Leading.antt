-- The causes of rows, one behind the other.
use Rattle.std.proofs.Common.{ℕ, suc, inl, inr, List, [], ◌∷◌, ◌++◌, refl}
use Rattle.group_fields.specs.declared.card.Card.{Card}
use Rattle.group_fields.specs.declared.header.Header.{Header}
use Rattle.causal_history.specs.Rows.{Row}
use Rattle.member_view.specs.Causes.{Causes, IsFirst, GivesNone}
use Rattle.wire_codec.specs.Packets.{Packet}
use Rattle.causal_cast.specs.declared.verdict.Verdict.{Verdict}
use Rattle.causal_cast.specs.declared.verdict.Verdict.TheVariants.{BadWelcome}
use Rattle.welcome_history.specs.Joining.{EndHolds, Joining, RowHolds, message, on_rows}
use Rattle.welcome_history.specs.Welcomes.{row_of}

-- what is the first of the causes that are left is the first of all, and where none of them holds none of all does
pub record Leads (all left : Causes Verdict) : Type 0 where
  pub first : (v : Verdict) → IsFirst left v → IsFirst all v
  pub none : GivesNone left → GivesNone all

pub leads-all : (all : Causes Verdict) → Leads all all
leads-all all = record { first = λ v x. x; none = λ x. x }

module _ (F : Joining) (packet : Packet) (cards : List Card) (all : Causes Verdict) (number : ℕ) (older : List Row) where
  pub breaks-row : (header : Header) (headers : List Header)
      → Leads all (on_rows F packet cards number older (header ∷ headers))
      → (RowHolds F (message F packet).group cards older header → ⊥) → IsFirst all (BadWelcome number)
  breaks-row header headers l n = l.first (BadWelcome number) (inl (n, refl))

  pub holds-row : (header : Header) (headers : List Header)
      → Leads all (on_rows F packet cards number older (header ∷ headers))
      → RowHolds F (message F packet).group cards older header
      → Leads all (on_rows F packet cards (suc number) (older ++ row_of cards header ∷ []) headers)
  holds-row header headers l h = record { first = λ v x. l.first v (inr (h, x)); none = λ x. l.none (h, x) }

  pub breaks-end : Leads all (on_rows F packet cards number older [])
      → (EndHolds older (message F packet) → ⊥) → IsFirst all (BadWelcome number)
  breaks-end l n = l.first (BadWelcome number) (inl (n, refl))

  pub holds-end : Leads all (on_rows F packet cards number older []) → EndHolds older (message F packet)
      → GivesNone all
  holds-end l h = l.none (h, tt)
