-- The last message of a sender, as its maker and as a reader have it.
use Rattle.std.proofs.Common.{◌≡◌, ◌≢◌, ◌⊎◌, inl, inr, [], ◌∷◌, Some, refl, sym, ◌∙◌, subst, ap}
use Rattle.std.specs.Str.{bytes_eq}
use Rattle.group_model.specs.Sets.{Id, In, here, there}
use Rattle.group_model.specs.Messages.{Message, History, past, with_past}
use Rattle.group_model.specs.Membership.{Named, InView}
use Rattle.group_model.specs.KeyTerms.{Empty, empty_ratchet, turned_known}
use Rattle.group_model.specs.Packets.{Packet, Given}
use Rattle.group_model.specs.Logs.{LogEntry, Joined, Took, Made, header_of, Log, rows_of, hist}
use Rattle.group_model.specs.Settings.{Setting, card_of}
use Rattle.group_model.specs.Knowledge.{prior_of, motion_known}
use Rattle.group_model.specs.Worlds.{Turn, Turns, log_of, Moment, now, once}
use Rattle.group_model.specs.SharedSecrets.{ratchet, answer_term}
use Rattle.group_model.specs.LawfulWorlds.{MayLeave, AreHashesDistinct, IsLawful}
use Rattle.group_model.proofs.InSetting.{known, seed_known, forwarded, ratchet_before, answer_known}
use Rattle.group_model.proofs.ListFacts.{yes_is, no_is, test, In-nothing, In-cases, other_id}
use Rattle.group_model.proofs.Pasts.{heads-lead_back, past-trans, past-apart, same-message, deps-stand, Agree}
use Rattle.group_model.proofs.Views.{same_or_not, Named-within}
use Rattle.group_model.proofs.Worlds.{own, apart, log_case, log-own, log-none, moment_now, Good, good, hist-more, lawful_at, hist-since, header-stands, add_suits}
use Rattle.group_model.proofs.Knowing.{known-none as none_known, known-own as own_known, known-apart as apart_known, known_rows-none}

-- a moment of an earlier world is one of the later
pub moment_on : {w v u : Turns} {x y : Id} {e f : LogEntry} → Moment w x e v → Moment v y f u → Moment w y f u
moment_on now k = once k
moment_on (once m) k = once (moment_on m k)

-- how a moment of a longer world came
pub data When (u : Turn) (w : Turns) (x : Id) (e : LogEntry) (v : Turns) : Type 0 where
  at_head : u.who ≡ x → u.entry ≡ e → v ≡ w → When u w x e v
  before_it : Moment w x e v → When u w x e v

pub when : {u : Turn} {w v : Turns} {x : Id} {e : LogEntry} → Moment (u ∷ w) x e v → When u w x e v
when now = at_head refl refl refl
when (once m) = before_it m

pub ratchet-apart : (G : Setting) → (u : Turn) (w : Turns) (s : Id) → u.who ≢ s → ratchet G.primitives (u ∷ w) s ≡ ratchet G.primitives w s
unfolding ratchet answer_term
ratchet-apart G u w s n = rw (other_id u.who s n) refl

pub data MakesNone : LogEntry → Type 0 where
  joins_only : {p : Packet} → MakesNone (Joined p)
  takes_only : {p : Packet} → MakesNone (Took p)

pub ratchet-kept : (G : Setting) → (x : Id) (e : LogEntry) (w : Turns) (s : Id) → MakesNone e → ratchet G.primitives (record { who = x; entry = e } ∷ w) s ≡ ratchet G.primitives w s
unfolding ratchet answer_term
ratchet-kept G x (Joined p) w s joins_only = elim (test (bytes_eq x s)) [ yes_is e ↦ rw e refl | no_is e ↦ rw e refl ]
ratchet-kept G x (Made p t) w s n = elim n [ ]
ratchet-kept G x (Took p) w s takes_only = elim (test (bytes_eq x s)) [ yes_is e ↦ rw e refl | no_is e ↦ rw e refl ]

pub ratchet-none : (G : Setting) → (s : Id) → ratchet G.primitives [] s ≡ Empty
unfolding ratchet answer_term
ratchet-none G s = refl

pub WhenMade : {u : Turn} {w v : Turns} {x : Id} {p : Packet} {t : Given} → MakesNone u.entry → Moment (u ∷ w) x (Made p t) v → Moment w x (Made p t) v
WhenMade {u} {p = p} {t = t} n m = elim (when m) [ at_head a b d ↦ absurd (not_made (subst MakesNone b n)) | before_it k ↦ k ]
  where
    not_made : MakesNone (Made p t) → ⊥
    not_made n = elim n [ ]

-- no message of s was made since
pub data QuietMade (s : Id) (from : Turns) : Turns → Type 0 where
  q_here : QuietMade s from from
  q_who : {u : Turn} {w : Turns} → u.who ≢ s → QuietMade s from w → QuietMade s from (u ∷ w)
  q_none : {u : Turn} {w : Turns} → MakesNone u.entry → QuietMade s from w → QuietMade s from (u ∷ w)

-- no entry of s, and no welcome, in the log of x since
pub data Plain : LogEntry → Type 0 where
  plain_took : {p : Packet} → Plain (Took p)
  plain_made : {p : Packet} {t : Given} → Plain (Made p t)

pub data QuietIn (x s : Id) (from : Turns) : Turns → Type 0 where
  i_here : QuietIn x s from from
  i_who : {u : Turn} {w : Turns} → u.who ≢ x → QuietIn x s from w → QuietIn x s from (u ∷ w)
  i_other : {u : Turn} {w : Turns} → Plain u.entry → (header_of u.entry).sender ≢ s → QuietIn x s from w → QuietIn x s from (u ∷ w)

module _ (G : Setting) where
  pub known-none : (x s : Id) → known G x [] s ≡ Some empty_ratchet
  known-none x s = none_known G.primitives (card_of G x) x s

  pub known-apart : (x : Id) (e : LogEntry) (l : Log) (s : Id) → (header_of e).sender ≢ s → known G x (e ∷ l) s ≡ prior_of e (known G x l s) s
  known-apart x e l s n = apart_known G.primitives (card_of G x) x e l s n

  pub known-own : (x : Id) (e : LogEntry) (l : Log) (s : Id) → (header_of e).sender ≡ s → known G x (e ∷ l) s
      ≡ turned_known G.primitives (motion_known G.primitives (header_of e).kind s (seed_known G x e l) (λ i. answer_known G x l i s (forwarded G x e l))) (ratchet_before G x e l (prior_of e (known G x l s) s))
  known-own x e l s n = own_known G.primitives (card_of G x) x e l s n

  -- a row of the sender, or none
  pub data RowOf (h : History) (s : Id) : Type 0 where
    row_is : (a : Message) → In a h → a.sender ≡ s → RowOf h s
    no_row : ((a : Message) → In a h → a.sender ≢ s) → RowOf h s

  pub row_of : (h : History) (s : Id) → RowOf h s
  row_of [] s = no_row (λ a i. absurd (In-nothing i))
  row_of (m ∷ h) s = elim (same_or_not m.sender s) [
    | inl e ↦ row_is m here e
    | inr n ↦ elim (row_of h s) [
      | row_is a i e ↦ row_is a (there i) e
      | no_row f ↦ no_row (λ a i. elim (In-cases i) [ inl e ↦ (λ q. n (ap (λ (z : Message). z.sender) (sym e) ∙ q)) | inr j ↦ f a j ])
    ]
  ]

  -- the last message that s made
  pub data LatestMade (w : Turns) (s : Id) : Type 0 where
    made_none : ratchet G.primitives w s ≡ Empty → ((p : Packet) (t : Given) (v : Turns) → Moment w s (Made p t) v → ⊥) → QuietMade s [] w → LatestMade w s
    made_last : (p : Packet) (t : Given) (v : Turns) → Moment w s (Made p t) v → ratchet G.primitives w s ≡ ratchet G.primitives (record { who = s; entry = Made p t } ∷ v) s
        → ((q : Packet) (r : Given) (u : Turns) → Moment w s (Made q r) u → (q.header ≡ p.header) ⊎ In q.header (hist (log_of v s))) → QuietMade s (record { who = s; entry = Made p t } ∷ v) w → LatestMade w s

  LatestMade-more : {u : Turn} {w : Turns} {s : Id} → ratchet G.primitives (u ∷ w) s ≡ ratchet G.primitives w s → ((p : Packet) (t : Given) (v : Turns) → Moment (u ∷ w) s (Made p t) v → Moment w s (Made p t) v)
      → ((from : Turns) → QuietMade s from w → QuietMade s from (u ∷ w)) → LatestMade w s → LatestMade (u ∷ w) s
  LatestMade-more e f g (made_none r n q) = made_none (e ∙ r) (λ p t v m. n p t v (f p t v m)) (g [] q)
  LatestMade-more e f g (made_last p t v m r a y) = made_last p t v (once m) (e ∙ r) (λ q r u k. a q r u (f q r u k)) (g _ y)

  pub latest_made : (w : Turns) → IsLawful G w → (s : Id) → LatestMade w s
  latest_made [] l s = made_none (ratchet-none G s) (λ p t v m. elim m [ ]) q_here
  latest_made (u ∷ w) l s = elim (same_or_not u.who s) [
    | inr n ↦ LatestMade-more (ratchet-apart G u w s n) (λ p t v m. elim (when m) [ at_head a b d ↦ absurd (n a) | before_it k ↦ k ]) (λ from q. q_who n q) (latest_made w l.2 s)
    | inl e ↦ by_entry u.entry refl e (latest_made w l.2 s)
  ]
    where
      by_entry : (e : LogEntry) → u.entry ≡ e → u.who ≡ s → LatestMade w s → LatestMade (u ∷ w) s
      by_entry (Joined p) q n k = LatestMade-more (subst (λ z. ratchet G.primitives (record { who = u.who; entry = z } ∷ w) s ≡ ratchet G.primitives w s) (sym q) (ratchet-kept G u.who (Joined p) w s joins_only))
          (λ p t v m. WhenMade (subst MakesNone (sym q) joins_only) m) (λ from y. q_none (subst MakesNone (sym q) joins_only) y) k
      by_entry (Took p) q n k = LatestMade-more (subst (λ z. ratchet G.primitives (record { who = u.who; entry = z } ∷ w) s ≡ ratchet G.primitives w s) (sym q) (ratchet-kept G u.who (Took p) w s takes_only))
          (λ p t v m. WhenMade (subst MakesNone (sym q) takes_only) m) (λ from y. q_none (subst MakesNone (sym q) takes_only) y) k
      by_entry (Made p t) q n k =
          let mom : Moment (u ∷ w) s (Made p t) w = subst (λ z. Moment (u ∷ w) z (Made p t) w) n (subst (λ z. Moment (u ∷ w) u.who z w) q (moment_now u w)) in
          made_last p t w mom
          (subst (λ z. ratchet G.primitives (u ∷ w) s ≡ ratchet G.primitives (record { who = z; entry = Made p t } ∷ w) s) n (subst (λ z. ratchet G.primitives (u ∷ w) s ≡ ratchet G.primitives (record { who = u.who; entry = z } ∷ w) s) q refl))
          (λ p' r v m. elim (when m) [
            | at_head a b d ↦ inl (let g : Made p' r ≡ Made p t = sym b ∙ q in ap header_of g)
            | before_it j ↦ inr (header-stands G l.2 j)
          ])
          (subst (λ z. QuietMade s (record { who = z; entry = Made p t } ∷ w) (u ∷ w)) n (subst (λ z. QuietMade s (record { who = u.who; entry = z } ∷ w) (u ∷ w)) q q_here))

  -- a message of a history that stands in it as an entry
  pub record AsEntry (w : Turns) (x : Id) (a : Message) : Type 0 where
    pub entry : LogEntry
    pub world : Turns
    pub moment : Moment w x entry world
    pub is : header_of entry ≡ a

  pub distinct_at : (w : Turns) → IsLawful G w → AreHashesDistinct w
  distinct_at [] l = record { same = λ x y a b i j e. absurd (In-nothing (subst (λ z. In a (hist z)) (log-none x) i)) }
  distinct_at (u ∷ w) l = l.1

  -- with an earlier world
  pub agree_back : {w v : Turns} {z : Id} {e : LogEntry} → IsLawful G w → Moment w z e v → (x y : Id) → Agree (hist (log_of v y)) (hist (log_of w x))
  agree_back {w} l m x y = record { same = λ a b i j e. (distinct_at w l).same y x a b (hist-since G l m y i) j e }

  -- a past in an earlier maker's history is one in x's
  pub past_forth : {w v : Turns} {z : Id} {e : LogEntry} → IsLawful G w → Moment w z e v → (x : Id) {m a : Message} → In m (hist (log_of w x))
      → In a (past (hist (log_of v z)) m.predecessors) → In a (past (hist (log_of w x)) m.predecessors)
  past_forth {w} {v} {z} l k x {m} j i = past-apart (hist (log_of v z)) (hist (log_of w x)) (good G v (lawful_at G l k).1 z).history (good G w l x).history
      (agree_back l k x z) m.predecessors (deps-stand (hist (log_of w x)) (good G w l x).history j) i

  pub rows_stand : {w v : Turns} {x : Id} {p : Packet} → IsLawful G w → Moment w x (Joined p) v → {a : Message} → In a p.rows → In a (hist (log_of w x))
  rows_stand {x = x} {p = p} l m {a} i = go m refl l
    where
      go : {w v : Turns} {e : LogEntry} → Moment w x e v → e ≡ Joined p → IsLawful G w → In a (hist (log_of w x))
      go (now {w = w} {e = e}) d l = subst (λ z. In a (hist z)) (sym (log-own x e w)) (subst (λ z. In a (hist (z ∷ log_of w x))) (sym d) (there i))
      go (once k) d l = hist-more G _ _ l x (go k d l.2)

  -- a row does not name the member, and a member sees no row
  pub row_unnamed : {w v : Turns} {x : Id} {p : Packet} → IsLawful G w → Moment w x (Joined p) v → {a : Message} → In a p.rows → Named (with_past (hist (log_of w x)) a) x → ⊥
  row_unnamed {w} {v} {x} {p} l m {a} i named =
      let f : MayLeave G v x (Joined p) = (lawful_at G l m).0 in
      let g : Good G (hist (log_of w x)) = good G w l x in
      let j : In p.header (hist (log_of w x)) = header-stands G l m in
      let into : (b : Message) → In b p.rows → In b (hist (log_of w x)) = λ b k. rows_stand l m k in
      let in_past : In a (past (hist (log_of w x)) p.header.predecessors) = past-apart p.rows (hist (log_of w x)) f.0.history.2 g.history
      (record { same = λ b d k n q. same-message (hist (log_of w x)) g.history (into b k) n q }) p.header.predecessors (deps-stand (hist (log_of w x)) g.history j) (heads-lead_back p.rows f.0.history.2 p.header.predecessors f.0.heads i) in
      (add_suits G g j f.0.adds).0 (Named-within (record {
        each = λ b. elim (In-cases b) [
          | inl e ↦ subst (λ z. In z (past (hist (log_of w x)) p.header.predecessors)) (sym e) in_past
          | inr q ↦ past-trans (hist (log_of w x)) g.history p.header.predecessors in_past q
        ];
      }) named)

  pub row_unseen : {w v : Turns} {x : Id} {p : Packet} → IsLawful G w → Moment w x (Joined p) v → {a : Message} → In a p.rows → InView G.rule (hist (log_of w x)) a x → ⊥
  row_unseen {w} {x = x} l m {a} i see = row_unnamed l m i (G.is_rule.named (with_past (hist (log_of w x)) a) x see)

  -- the last message of s in the history of x
  pub data LatestIn (w : Turns) (x s : Id) : Type 0 where
    none_in : known G x (log_of w x) s ≡ Some empty_ratchet → ((a : Message) → In a (hist (log_of w x)) → a.sender ≢ s) → LatestIn w x s
    rows_in : (p : Packet) (v : Turns) → Moment w x (Joined p) v → (r : Message) → In r (hist (log_of w x)) → r.sender ≡ s → ((a : Message) → In a (hist (log_of w x)) → a.sender ≡ s → In a p.rows) → LatestIn w x s
    last_in : (f : LogEntry) (v : Turns) → Moment w x f v → (header_of f).sender ≡ s → known G x (log_of w x) s ≡ known G x (log_of (record { who = x; entry = f } ∷ v) x) s
        → ((a : Message) → In a (hist (log_of w x)) → a.sender ≡ s → (a ≡ header_of f) ⊎ In a (rows_of f (hist (log_of v x)))) → QuietIn x s (record { who = x; entry = f } ∷ v) w → LatestIn w x s

  pub latest_in : (w : Turns) → IsLawful G w → (x s : Id) → LatestIn w x s
  latest_in [] l x s = none_in (subst (λ z. known G x z s ≡ Some empty_ratchet) (sym (log-none x)) (known-none x s))
      (λ a i. absurd (In-nothing (subst (λ z. In a (hist z)) (log-none x) i)))
  latest_in (u ∷ w) l x s = elim (log_case u w x) [
    | apart n q ↦ elim (latest_in w l.2 x s) [
      | none_in k f ↦ none_in (rw q k) (rw q f)
      | rows_in p v m r i e f ↦ rows_in p v (once m) r (rw q i) e (rw q f)
      | last_in f v m e k a y ↦ last_in f v (once m) e (rw q k) (rw q a) (i_who n y)
    ]
    | own n q ↦ by_entry u.entry refl n (subst (λ z. MayLeave G w z u.entry) n l.0) q (same_or_not (header_of u.entry).sender s) (latest_in w l.2 x s)
  ]
    where
      added : (e : LogEntry) → u.entry ≡ e → log_of (u ∷ w) x ≡ u.entry ∷ log_of w x → log_of (u ∷ w) x ≡ e ∷ log_of w x
      added e d q = q ∙ ap (λ z. z ∷ log_of w x) d

      mine : (e : LogEntry) → u.entry ≡ e → u.who ≡ x → Moment (u ∷ w) x e w
      mine e d n = subst (λ z. Moment (u ∷ w) z e w) n (subst (λ z. Moment (u ∷ w) u.who z w) d (moment_now u w))

      as_last : (e : LogEntry) → u.entry ≡ e → u.who ≡ x → log_of (u ∷ w) x ≡ u.entry ∷ log_of w x → (header_of u.entry).sender ≡ s → LatestIn (u ∷ w) x s
      as_last e d n q t = last_in e w (mine e d n) (ap (λ z. (header_of z).sender) (sym d) ∙ t)
          (subst (λ z. known G x (log_of (u ∷ w) x) s ≡ known G x (log_of (record { who = z; entry = e } ∷ w) x) s) n
          (subst (λ z. known G x (log_of (u ∷ w) x) s ≡ known G x (log_of (record { who = u.who; entry = z } ∷ w) x) s) d refl))
          (λ a i _. In-cases (subst (λ z. In a (hist z)) (added e d q) i))
          (subst (λ z. QuietIn x s (record { who = z; entry = e } ∷ w) (u ∷ w)) n (subst (λ z. QuietIn x s (record { who = u.who; entry = z } ∷ w) (u ∷ w)) d i_here))

      other_header : (e : LogEntry) → u.entry ≡ e → (header_of u.entry).sender ≢ s → (header_of e).sender ≢ s
      other_header e d n t = n (ap (λ z. (header_of z).sender) d ∙ t)

      goes_on : (e : LogEntry) → u.entry ≡ e → log_of (u ∷ w) x ≡ u.entry ∷ log_of w x → (header_of u.entry).sender ≢ s → (hist (e ∷ log_of w x) ≡ header_of e ∷ hist (log_of w x)) → known G x (e ∷ log_of w x) s ≡ known G x (log_of w x) s → Plain e
          → LatestIn w x s → LatestIn (u ∷ w) x s
      goes_on e d q t hh kk pl (none_in k f) = none_in (rw (added e d q) (kk ∙ k)) (rw (added e d q, hh) (λ a i. elim (In-cases i) [ inl p ↦ (λ z. other_header e d t (ap (λ (y : Message). y.sender) (sym p) ∙ z)) | inr j ↦ f a j ]))
      goes_on e d q t hh kk pl (rows_in p v m r i y f) = rows_in p v (once m) r (rw (added e d q, hh) (there i)) y (rw (added e d q, hh) (λ b j z. elim (In-cases j) [
        | inl k ↦ absurd (other_header e d t (ap (λ (g : Message). g.sender) (sym k) ∙ z))
        | inr k ↦ f b k z
      ]))
      goes_on e d q t hh kk pl (last_in f v m y k a z0) = last_in f v (once m) y (rw (added e d q) (kk ∙ k)) (rw (added e d q, hh) (λ b i z. elim (In-cases i) [
        | inl p ↦ absurd (other_header e d t (ap (λ (y : Message). y.sender) (sym p) ∙ z))
        | inr j ↦ a b j z
      ])) (i_other (subst Plain (sym d) pl) t z0)

      by_entry : (e : LogEntry) → u.entry ≡ e → u.who ≡ x → MayLeave G w x u.entry → log_of (u ∷ w) x ≡ u.entry ∷ log_of w x → ((header_of u.entry).sender ≡ s) ⊎ ((header_of u.entry).sender ≢ s) → LatestIn w x s → LatestIn (u ∷ w) x s
      by_entry e d n f q (inl t) k = as_last e d n q t
      by_entry (Made p r) d n f q (inr t) k = goes_on (Made p r) d q t refl (known-apart x (Made p r) (log_of w x) s (other_header (Made p r) d t)) plain_made k
      by_entry (Took p) d n f q (inr t) k = goes_on (Took p) d q t refl (known-apart x (Took p) (log_of w x) s (other_header (Took p) d t)) plain_took k
      by_entry (Joined p) d n f q (inr t) k = elim (row_of p.rows s) [
        | no_row g ↦ none_in (rw (added (Joined p) d q) (known-apart x (Joined p) (log_of w x) s (other_header (Joined p) d t) ∙ known_rows-none p.rows s g))
            (rw (added (Joined p) d q) (λ a i. elim (In-cases i) [ inl y ↦ (λ z. other_header (Joined p) d t (ap (λ (y : Message). y.sender) (sym y) ∙ z)) | inr j ↦ g a j ]))
        | row_is r i y ↦ rows_in p w (mine (Joined p) d n) r (rw (added (Joined p) d q) (there i)) y (rw (added (Joined p) d q) (λ a j z. elim (In-cases j) [
          | inl k ↦ absurd (other_header (Joined p) d t (ap (λ (g : Message). g.sender) (sym k) ∙ z))
          | inr k ↦ k
        ]))
      ]
