-- The example with rows of an outsider, by a play of it.
use Rattle.std.proofs.Common.{◌≡◌, Bool, true, false, List, [], ◌∷◌, Option, Some, None, map, refl, sym, ◌∙◌, subst}
use Rattle.std.specs.Str.{bytes_eq}
use Rattle.group_model.specs.Sets.{Bytes, Id, In, here}
use Rattle.group_model.specs.Messages.{Message, History, past}
use Rattle.group_model.specs.Membership.{remove_wins}
use Rattle.group_model.specs.KeyTerms.{empty_ratchet, welcome_word, add_word, seed_of, member_secret, first_chain, next_chain, message_key}
use Rattle.group_model.specs.Pairing.{own_key, drop_by, draws}
use Rattle.group_model.specs.Packets.{Addressed, Packet}
use Rattle.group_model.specs.Logs.{LogEntry, Joined, Took, Made, hist}
use Rattle.group_model.specs.Settings.{card_of}
use Rattle.group_model.specs.Worlds.{Turns, log_of, Moment, now, once}
use Rattle.group_model.specs.LawfulWorlds.{IsLawful}
use Rattle.group_model.specs.Examples.{ada, bob, cyd, eve, numbered, opening, opening_acked, eves_ack, eves_update, answer_of_bob, answer_of_ada, invitation, invitation_acked, ratchet_of_ada, later_history_of_ada, later_history_of_bob, later_history_of_cyd, UpdateTaken, RowsOfAnOutsider}
use Rattle.group_model.proofs.InSetting.{learnt_of}
use Rattle.group_model.proofs.Says.{both, opposite, both-true, says-same, says-has}
use Rattle.group_model.proofs.Quick.{quick, quick_answer, quick_learnt, quick_learnt_of, quick_learnt_of-known, quick_chain}
use Rattle.group_model.proofs.Play.{PlayEvent, Makes_it, Takes_it, Joins_by, Hears_it, can_make, can_take, can_join, is_outsider, step, play, world_of, played-lawful, is_entitled, entitled-where, there_is, value_of, value-there, welcome_of, welcome-where}
use Rattle.group_model.proofs.Judged.{message_eq, same-message_eq, are_addressees, addressees-where}
use Rattle.group_model.proofs.ListFacts.{test, yes_is, no_is, some_same}
use Rattle.group_model.proofs.Toy.{toy}
use Rattle.group_model.proofs.Members.{setting, setting_fixed, drawn, history_eq, same-history}
use Rattle.group_model.proofs.Theorem.{agreement_between}
use Rattle.group_model.proofs.Conduct.{own_ratchet_known_in_worlds}
use Rattle.group_model.specs.Knowledge.{events, payload}

-- a packet with nothing but its header
abbrev bare : Message → Packet
bare m = record { header = m; parts = []; rows = []; sealed = [] }

-- a part that no key opens
abbrev broken : Id → Addressed
broken x = record { to = x; part = record { made_by_sender = false; number = 0; ciphertext = []; sealed = [] } }

abbrev update_sent : Packet
update_sent = record { header = eves_update; parts = broken ada ∷ broken bob ∷ []; rows = []; sealed = [] }

-- the play, the newest event first
abbrev pub script : List PlayEvent
script =
    Takes_it cyd (numbered 28) ∷ Takes_it cyd (numbered 25)
    ∷ Takes_it bob (numbered 28) ∷ Takes_it bob (numbered 25) ∷ Takes_it bob (numbered 27)
    ∷ Takes_it ada (numbered 27)
    ∷ Makes_it ratchet_of_ada (cyd ∷ []) (drawn 208) ∷ Takes_it ada (numbered 26) ∷ Takes_it ada (numbered 24)
    ∷ Makes_it invitation_acked [] (drawn 207) ∷ Joins_by cyd (numbered 26)
    ∷ Makes_it invitation (cyd ∷ []) (drawn 206)
    ∷ Makes_it answer_of_ada [] (drawn 205) ∷ Hears_it ada update_sent
    ∷ Makes_it answer_of_bob [] (drawn 204) ∷ Hears_it bob update_sent
    ∷ Hears_it bob (bare eves_ack) ∷ Hears_it ada (bare eves_ack)
    ∷ Takes_it ada (numbered 21) ∷ Makes_it opening_acked [] (drawn 201)
    ∷ Takes_it bob (numbered 20) ∷ Makes_it opening (bob ∷ eve ∷ []) (drawn 200) ∷ []

unfoldable pub the_world : Turns
the_world = world_of setting (play setting script)

-- what the world is judged by
abbrev have_histories : Turns → Bool
have_histories w = both (history_eq (hist (log_of w ada)) later_history_of_ada)
    (both (history_eq (hist (log_of w bob)) later_history_of_bob) (history_eq (hist (log_of w cyd)) later_history_of_cyd))

abbrev opening_learnt : Turns → Option Bytes
opening_learnt w = quick_learnt_of setting bob (log_of w bob) opening_acked

abbrev know_enough : Turns → Bool
know_enough w = both (is_entitled setting w ada opening_acked) (both (is_entitled setting w bob opening_acked) (there_is (opening_learnt w)))

abbrev rows_are : Option Packet → History → Bool
rows_are None h = false
rows_are (Some p) h = history_eq p.rows h

abbrev eves_rows : History
eves_rows = answer_of_bob ∷ eves_update ∷ eves_ack ∷ opening_acked ∷ opening ∷ []

judged : both (have_histories the_world) (both (know_enough the_world) (rows_are (welcome_of the_world cyd) eves_rows)) ≡ true
unfolding the_world setting toy step can_make can_take can_join is_outsider quick quick_answer quick_learnt quick_learnt_of quick_chain past remove_wins log_of events own_key drop_by draws empty_ratchet welcome_word add_word seed_of member_secret first_chain next_chain message_key
judged = refl

-- a packet that a member took, and what came before
record Taking : Type 0 where
  packet : Packet
  before : Turns

abbrev taking_here : (who : Id) → LogEntry → (x i : Id) → Turns → Option Taking → Option Taking
taking_here who (Joined p) x i w older = older
taking_here who (Made p t) x i w older = older
taking_here who (Took p) x i w older = elim (both (bytes_eq who x) (bytes_eq p.header.id i)) [
  | true ↦ Some (record { packet = p; before = w })
  | false ↦ older
]

abbrev taking_of : Turns → (x i : Id) → Option Taking
taking_of [] x i = None
taking_of (u ∷ w) x i = taking_here u.who u.entry x i w (taking_of w x i)

taking-where : (w : Turns) (x i : Id) (r : Taking) → taking_of w x i ≡ Some r → Moment w x (Took r.packet) r.before
taking-where [] x i r e = cc
taking-where (u ∷ w) x i r e = by u.who u.entry (λ d. taking-where w x i r d) e
  where
    by : (y : Id) (f : LogEntry) → (taking_of w x i ≡ Some r → Moment w x (Took r.packet) r.before)
        → taking_here y f x i w (taking_of w x i) ≡ Some r → Moment (record { who = y; entry = f } ∷ w) x (Took r.packet) r.before
    by y (Joined q) k e = once (k e)
    by y (Made q t) k e = once (k e)
    by y (Took q) k e = elim (test (both (bytes_eq y x) (bytes_eq q.header.id i))) [
      | no_is n ↦ once (k (rw (n, taking_here) at e))
      | yes_is d ↦
          let f : record { packet = q; before = w } ≡ r =
          (let g : Some (record { packet = q; before = w }) ≡ Some r = rw (d, taking_here) at e in some_same g) in
          let same : y ≡ x = (says-same y x).holds (both-true (bytes_eq y x) _ d).0 in
          subst (λ (z : Taking). Moment (record { who = y; entry = Took q } ∷ w) x (Took z.packet) z.before) f
          (subst (λ z. Moment (record { who = y; entry = Took q } ∷ w) z (Took q) w) same now)
    ]

abbrev receivers : Packet → List Id
receivers p = map (λ (a : Addressed). a.to) p.parts

abbrev payload_at : Id → Taking → Option Bytes
payload_at x r = payload setting.primitives (card_of setting x) x (log_of r.before x) r.packet

abbrev is_update : Id → Option Taking → Bool
is_update x None = false
is_update x (Some r) = both (message_eq r.packet.header eves_update)
    (both (are_addressees setting.rule (r.packet.header ∷ hist (log_of r.before x)) r.packet.header (receivers r.packet))
    (opposite (there_is (payload_at x r))))

abbrev update_of : Id → Option Taking
update_of x = taking_of the_world x (numbered 23)

updates_judged : both (is_update ada (update_of ada)) (is_update bob (update_of bob)) ≡ true
unfolding the_world setting toy step can_make can_take can_join is_outsider quick quick_answer quick_learnt quick_learnt_of quick_chain past remove_wins log_of events own_key drop_by draws empty_ratchet welcome_word add_word seed_of member_secret first_chain next_chain message_key
updates_judged = refl

none-there : (o : Option Bytes) → opposite (there_is o) ≡ true → o ≡ None
none-there None e = refl
none-there (Some b) e = cc

update_taken : (x : Id) (o : Option Taking) → update_of x ≡ o → is_update x o ≡ true → UpdateTaken setting the_world x
update_taken x None e t = cc
update_taken x (Some r) e t =
    let a = both-true (message_eq r.packet.header eves_update) _ t in
    let b = both-true (are_addressees setting.rule (r.packet.header ∷ hist (log_of r.before x)) r.packet.header (receivers r.packet)) _ a.1 in
    record {
      packet = r.packet;
      before = r.before;
      moment = taking-where the_world x (numbered 23) r e;
      is = same-message_eq r.packet.header eves_update a.0;
      to_addressees = addressees-where setting.rule setting.is_rule (r.packet.header ∷ hist (log_of r.before x)) r.packet.header (receivers r.packet) here b.0;
      unopened = none-there (payload_at x r) b.1;
    }

lawful_world : IsLawful setting the_world
unfolding the_world
lawful_world = played-lawful setting script

eve_outside : In eve setting.members → ⊥
unfolding setting
eve_outside i = let e = (says-has (ada ∷ bob ∷ cyd ∷ []) eve).told i in let f : false ≡ true = e in cc

record Welcome : Type 0 where
  packet : Packet
  before : Turns
  joined : Moment the_world cyd (Joined packet) before
  rows : packet.rows ≡ eves_rows

welcome_from : (o : Option Packet) → welcome_of the_world cyd ≡ o → rows_are o eves_rows ≡ true → Welcome
welcome_from None e r = cc
welcome_from (Some p) e r = let m = welcome-where the_world cyd p e in
    record { packet = p; before = m.0; joined = m.1; rows = same-history p.rows eves_rows r }

pub with_rows : RowsOfAnOutsider
with_rows =
    let all = both-true (have_histories the_world) _ judged in
    let more = both-true (know_enough the_world) _ all.1 in
    let h1 = both-true (history_eq (hist (log_of the_world ada)) later_history_of_ada) _ all.0 in
    let h2 = both-true (history_eq (hist (log_of the_world bob)) later_history_of_bob) _ h1.1 in
    let k1 = both-true (is_entitled setting the_world ada opening_acked) _ more.0 in
    let k2 = both-true (is_entitled setting the_world bob opening_acked) _ k1.1 in
    let e = entitled-where setting the_world ada opening_acked k1.0 in
    let f = entitled-where setting the_world bob opening_acked k2.0 in
    let bob_learnt : learnt_of setting bob (log_of the_world bob) opening_acked ≡ Some (value_of (opening_learnt the_world)) =
    sym (quick_learnt_of-known setting bob (log_of the_world bob) opening_acked) ∙ value-there (opening_learnt the_world) k2.1 in
    let joins = welcome_from (welcome_of the_world cyd) refl more.1 in
    let updates = both-true (is_update ada (update_of ada)) _ updates_judged in
    record {
      setting = setting;
      removes_win = setting_fixed.0;
      all_honest = setting_fixed.1;
      world = the_world;
      lawful = lawful_world;
      of_ada = same-history _ _ h1.0;
      of_bob = same-history _ _ h2.0;
      of_cyd = same-history _ _ h2.1;
      outside = eve_outside;
      ada_took = update_taken ada (update_of ada) refl updates.0;
      bob_took = update_taken bob (update_of bob) refl updates.1;
      welcome = joins.packet;
      before = joins.before;
      joined = joins.joined;
      rows = joins.rows;
      cyd_ratchet = own_ratchet_known_in_worlds setting the_world cyd lawful_world;
      ada_entitled = e;
      bob_entitled = f;
      secret = value_of (opening_learnt the_world);
      ada_learnt = (agreement_between setting the_world ada bob opening_acked lawful_world e f).1 ∙ bob_learnt;
      bob_learnt = bob_learnt;
    }
