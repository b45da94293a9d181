-- What is kept of a member from step to step.
use Rattle.std.proofs.Common.{◌≡◌, ◌⊎◌, List, [], ◌∷◌, ◌++◌, Some, None, refl, sym, subst, inl}
use Rattle.kem_trait.specs.declared.kem.Kem.{Ghosts}
use Rattle.group_fields.specs.declared.card.Card.{Card}
use Rattle.group_model.specs.Sets.{Id}
use Rattle.group_model.specs.Messages.{History, IsHistory}
use Rattle.group_model.specs.Packets.{Given}
use Rattle.group_model.specs.Settings.{Owner}
use Rattle.group_model.specs.Logs.{Made, hist}
use Rattle.group_model.specs.LawfulLogs.{IsLawfulLog, MakesPacket}
use Rattle.group_model.specs.Conduct.{AnswersAtOnce, Follows, waiting}
use Rattle.group_model.proofs.ListFacts.{In-left}
use Rattle.group_keys.specs.Primitives.{primitives_of}
use Rattle.group_messages.specs.Messages.{message_of}
use Rattle.causal_history.specs.Rows.{cards_of}
use Rattle.causal_history.proofs.RowFacts.{history-push}
use Rattle.member_identity.specs.Identity.{secret_from}
use Rattle.reference_member.specs.Members.{IsOwner, Member, known, own_id, own_pair}
use Rattle.reference_member.specs.Messages.{MadeMessage, as_packet}
use Rattle.reference_member.specs.Refusals.{IsOut}
use Rattle.reference_member.specs.Accepted.{with_made}
use Rattle.reference_member.proofs.Histories.{made-history}
use Rattle.reference_member.proofs.OwnerForms.{SaysOf}
use Rattle.reference_member.proofs.RowsNamed.{AreNamed, IsNamed, cards-more, named-more}

-- the owner of a log of this member that says of these cards what they say
pub record Owns {K P : Type 0} (kem : Ghosts K P) (rule : History → List Id) (M : Member) (cards : List Card) (O : Owner) : Type 0 where
  pub primitives : O.primitives ≡ primitives_of kem
  pub rule_is : O.rule ≡ rule
  pub id : O.id ≡ own_id kem M
  pub card : O.card ≡ own_pair kem M
  pub says : SaysOf kem O.inviter O.public_key cards

module _ {K P : Type 0} (kem : Ghosts K P) (rule : History → List Id) (M : Member) where
  pub owns : (O : Owner) → IsOwner kem rule M O → Owns kem rule M (cards_of M.rows) O
  owns O is = record {
    primitives = is.primitives;
    rule_is = is.rule_is;
    id = is.id;
    card = is.card;
    says = record { inviters = is.inviters; keys = is.keys };
  }

  pub owner-of : (O : Owner) → Owns kem rule M (cards_of M.rows) O → IsOwner kem rule M O
  owner-of O is = record {
    primitives = is.primitives;
    rule_is = is.rule_is;
    id = is.id;
    card = is.card;
    inviters = is.says.inviters;
    keys = is.says.keys;
  }

  -- what no owner is asked for
  pub record Base : Type 0 where
    pub agrees : hist M.log ≡ known M
    pub fresh : M.rows ≡ [] → M.log ≡ []
    pub named : AreNamed M.rows
    pub secret : secret_from kem M.random ≡ Some M.secret
    pub history : IsHistory (known M)

  pub record Conducts (O : Owner) : Type 0 where
    pub lawful : IsLawfulLog O M.log
    pub at_once : AnswersAtOnce M.log
    pub settled : (waiting M.log ≡ None) ⊎ IsOut kem rule M

  pub record Sound : Type 0 where
    pub base : Base
    pub conducts : (O : Owner) → IsOwner kem rule M O → Conducts O

  -- the message may be the next of the owner's log
  pub record Enters (O : Owner) (t : Given) (made : MadeMessage) : Type 0 where
    pub makes : MakesPacket O M.log (as_packet kem M made) t
    pub turn : Follows (waiting M.log) (Made (as_packet kem M made) t)

pub no-rows : {A : Type 0} (xs : List A) (x : A) → xs ++ x ∷ [] ≡ [] → ⊥
no-rows [] x e = cc
no-rows (y ∷ xs) x e = cc

module _ {K P : Type 0} (kem : Ghosts K P) (rule : History → List Id) (M : Member) (t : Given) (made : MadeMessage) where
  -- the member after a message of its own
  pub base-made : Base kem rule M → IsHistory (message_of made.header ∷ known M)
      → IsNamed (record { header = made.header; cards = made.carried.cards })
      → Base kem rule (with_made kem t made M)
  unfolding with_made
  base-made base history names = record {
    agrees = made-history kem t made M base.agrees;
    fresh = λ e. absurd (no-rows M.rows _ e);
    named = named-more M.rows (record { header = made.header; cards = made.carried.cards }) base.named names;
    secret = base.secret;
    history = subst IsHistory (sym (history-push M.rows (record { header = made.header; cards = made.carried.cards }))) history;
  }

  pub owns-made : (O : Owner) → IsOwner kem rule (with_made kem t made M) O
      → Owns kem rule M (cards_of M.rows ++ made.carried.cards) O
  unfolding with_made
  owns-made O is = record {
    primitives = is.primitives;
    rule_is = is.rule_is;
    id = is.id;
    card = is.card;
    says = subst (λ z. SaysOf kem O.inviter O.public_key z)
        (cards-more M.rows (record { header = made.header; cards = made.carried.cards }))
        (record { inviters = is.inviters; keys = is.keys });
  }

  -- its owner is that of the member before it
  pub owner-made : (O : Owner) → IsOwner kem rule (with_made kem t made M) O → IsOwner kem rule M O
  owner-made O is =
      let o = owns-made O is in
      record {
        primitives = o.primitives;
        rule_is = o.rule_is;
        id = o.id;
        card = o.card;
        inviters = λ card i. o.says.inviters card (In-left made.carried.cards i);
        keys = λ card i. o.says.keys card (In-left made.carried.cards i);
      }

  pub conducts-made : (O : Owner) → IsLawfulLog O M.log → AnswersAtOnce M.log → Enters kem rule M O t made
      → Conducts kem rule (with_made kem t made M) O
  unfolding with_made
  conducts-made O lawful at_once e = record { lawful = (e.makes, lawful); at_once = (e.turn, at_once); settled = inl refl }
