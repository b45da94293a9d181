-- The example of three members, by a play of it.
use Rattle.std.proofs.Common.{◌≡◌, ℕ, Bool, true, false, cond, List, [], ◌∷◌, Option, Some, IsSome, refl, sym, ◌∙◌, ap, codes}
use Rattle.std.specs.Str.{bytes_eq}
use Rattle.group_model.specs.Sets.{Bytes, Id, here}
use Rattle.group_model.specs.Messages.{History, past}
use Rattle.group_model.specs.Membership.{remove_wins}
use Rattle.group_model.specs.KeyTerms.{empty_ratchet, welcome_word, add_word, seed_of, member_secret, first_chain, next_chain, message_key}
use Rattle.group_model.specs.Pairing.{own_key, drop_by, draws}
use Rattle.group_model.specs.Settings.{Setting}
use Rattle.group_model.specs.Packets.{Given}
use Rattle.group_model.specs.Logs.{hist}
use Rattle.group_model.specs.Worlds.{Turns, log_of}
use Rattle.group_model.specs.Examples.{ada, bob, cyd, numbered, creation, creation_acked, update, addition, addition_acked, handed, forwarded, update_acked, question, answer, history_of_ada, history_of_bob, history_of_cyd, ThreeMembers}
use Rattle.group_model.proofs.RemoveWins.{remove_wins-rule}
use Rattle.group_model.proofs.Says.{both, opposite, both-true, says-same, says-not}
use Rattle.group_model.proofs.Judged.{message_eq, same-message_eq}
use Rattle.group_model.proofs.Quick.{quick, quick_answer, quick_learnt, quick_learnt_of, quick_learnt_of-known, quick_chain, quick_text_of, quick_text_of-known}
use Rattle.group_model.proofs.Play.{PlayEvent, Makes_it, Takes_it, Joins_by, can_make, can_take, can_join, step, play, world_of, played-lawful, is_entitled, entitled-where, there_is, value_of, value-there, at_once, at_once-where}
use Rattle.group_model.specs.LawfulWorlds.{IsLawful}
use Rattle.group_model.specs.Agreement.{MadeBy}
use Rattle.group_model.proofs.InSetting.{learnt_of, text_of}
use Rattle.group_model.proofs.Theorem.{agreement_between, text_agreement}
use Rattle.group_model.proofs.Toy.{toy, public_of}
use Rattle.group_model.specs.Knowledge.{events}

-- each card's secret key is the id with a number more
abbrev pub secret_of : Id → Bytes
secret_of x = 7 ∷ x

pub pair_tested : (x : Id) → toy.is_pair (secret_of x) (public_of (secret_of x)) ≡ true
unfolding toy
pair_tested x = (says-same (public_of (secret_of x)) (public_of (secret_of x))).told refl

pub encapsulates_toy : (public seed : Bytes) → IsSome (toy.encapsulate public seed)
unfolding toy
encapsulates_toy public seed = refl

unfoldable pub setting : Setting
setting = record {
  primitives = toy;
  rule = remove_wins;
  inviter = λ y. Some (cond (bytes_eq y cyd) bob ada);
  public_key = λ y. public_of (secret_of y);
  members = ada ∷ bob ∷ cyd ∷ [];
  secret_key = secret_of;
  is_rule = remove_wins-rule;
  tested = λ x i. pair_tested x;
  encapsulates = λ y seed h. encapsulates_toy (public_of (secret_of y)) seed;
}

-- 32 random bytes by one number, and a text
abbrev pub drawn : ℕ → Given
drawn n = record { random = n ∷ []; text = [] }

abbrev pub says : ℕ → Bytes → Given
says n text = record { random = n ∷ []; text = text }

-- the play, the newest event first
abbrev pub script : List PlayEvent
script =
    Takes_it cyd (numbered 19) ∷ Takes_it bob (numbered 19) ∷ Makes_it answer [] (says 109 (codes "hi"))
    ∷ Takes_it bob (numbered 18) ∷ Takes_it ada (numbered 18) ∷ Makes_it question [] (says 108 (codes "hello"))
    ∷ Takes_it cyd (numbered 15) ∷ Takes_it cyd (numbered 16)
    ∷ Takes_it bob (numbered 17) ∷ Takes_it bob (numbered 15) ∷ Takes_it bob (numbered 14)
    ∷ Takes_it ada (numbered 17) ∷ Takes_it ada (numbered 16) ∷ Takes_it ada (numbered 14)
    ∷ Makes_it update_acked [] (drawn 107) ∷ Takes_it cyd (numbered 12)
    ∷ Makes_it forwarded (cyd ∷ []) (drawn 106) ∷ Takes_it bob (numbered 12)
    ∷ Makes_it handed (cyd ∷ []) (drawn 105) ∷ Takes_it ada (numbered 13)
    ∷ Makes_it addition_acked [] (drawn 104) ∷ Joins_by cyd (numbered 13)
    ∷ Makes_it addition (cyd ∷ []) (drawn 103) ∷ Makes_it update (bob ∷ []) (drawn 102)
    ∷ Takes_it ada (numbered 11) ∷ Makes_it creation_acked [] (drawn 101)
    ∷ Takes_it bob (numbered 10) ∷ Makes_it creation (bob ∷ []) (drawn 100) ∷ []

unfoldable pub the_world : Turns
the_world = world_of setting (play setting script)

abbrev pub history_eq : History → History → Bool
history_eq [] [] = true
history_eq [] (b ∷ k) = false
history_eq (a ∷ h) [] = false
history_eq (a ∷ h) (b ∷ k) = both (message_eq a b) (history_eq h k)

pub same-history : (h k : History) → history_eq h k ≡ true → h ≡ k
same-history [] [] e = refl
same-history [] (b ∷ k) e = cc
same-history (a ∷ h) [] e = cc
same-history (a ∷ h) (b ∷ k) e = let p = both-true (message_eq a b) (history_eq h k) e in
    let f = same-message_eq a b p.0 in let g = same-history h k p.1 in cc

abbrev pub all_at_once : Turns → Bool
all_at_once w = both (at_once (log_of w ada)) (both (at_once (log_of w bob)) (at_once (log_of w cyd)))

-- what the world is judged by: the members' histories, who is entitled to what, and what the makers of two messages learnt and
-- a reader of a text read
abbrev have_histories : Turns → Bool
have_histories w = both (history_eq (hist (log_of w ada)) history_of_ada)
    (both (history_eq (hist (log_of w bob)) history_of_bob) (history_eq (hist (log_of w cyd)) history_of_cyd))

abbrev are_entitled : Turns → Bool
are_entitled w = both (is_entitled setting w ada forwarded) (both (is_entitled setting w bob forwarded) (both (is_entitled setting w cyd forwarded)
    (both (is_entitled setting w ada handed) (both (is_entitled setting w cyd handed)
    (both (is_entitled setting w ada question) (is_entitled setting w bob question))))))

abbrev forwarded_learnt : Turns → Option Bytes
forwarded_learnt w = quick_learnt_of setting bob (log_of w bob) forwarded

abbrev handed_learnt : Turns → Option Bytes
handed_learnt w = quick_learnt_of setting ada (log_of w ada) handed

abbrev question_read : Turns → Option Bytes
question_read w = quick_text_of setting ada (log_of w ada) question

abbrev know_enough : Turns → Bool
know_enough w = both (there_is (forwarded_learnt w)) (both (there_is (handed_learnt w))
    (both (opposite (bytes_eq (value_of (forwarded_learnt w)) (value_of (handed_learnt w))))
    (both (there_is (question_read w)) (bytes_eq (value_of (question_read w)) (codes "hello")))))

judged : both (have_histories the_world) (both (are_entitled the_world) (both (know_enough the_world) (all_at_once the_world))) ≡ true
unfolding the_world setting toy step can_make can_take can_join quick quick_answer quick_learnt quick_learnt_of quick_chain quick_text_of past remove_wins log_of events own_key drop_by draws empty_ratchet welcome_word add_word seed_of member_secret first_chain next_chain message_key
judged = refl

pub setting_fixed : (setting.rule ≡ remove_wins) × (setting.members ≡ ada ∷ bob ∷ cyd ∷ [])
unfolding setting
setting_fixed = (refl, refl)

lawful_world : IsLawful setting the_world
unfolding the_world
lawful_world = played-lawful setting script

-- the example, with the theorems applied to it: what others learnt is what the maker learnt, and what was read was sent
pub three : ThreeMembers
three =
    let all = both-true (have_histories the_world) _ judged in
    let more = both-true (are_entitled the_world) _ all.1 in
    let h1 = both-true (history_eq (hist (log_of the_world ada)) history_of_ada) _ all.0 in
    let h2 = both-true (history_eq (hist (log_of the_world bob)) history_of_bob) _ h1.1 in
    let e1 = both-true (is_entitled setting the_world ada forwarded) _ more.0 in
    let e2 = both-true (is_entitled setting the_world bob forwarded) _ e1.1 in
    let e3 = both-true (is_entitled setting the_world cyd forwarded) _ e2.1 in
    let e4 = both-true (is_entitled setting the_world ada handed) _ e3.1 in
    let e5 = both-true (is_entitled setting the_world cyd handed) _ e4.1 in
    let e6 = both-true (is_entitled setting the_world ada question) _ e5.1 in
    let last = both-true (know_enough the_world) (all_at_once the_world) more.1 in
    let a1 = both-true (at_once (log_of the_world ada)) _ last.1 in
    let a2 = both-true (at_once (log_of the_world bob)) _ a1.1 in
    let k1 = both-true (there_is (forwarded_learnt the_world)) _ last.0 in
    let k2 = both-true (there_is (handed_learnt the_world)) _ k1.1 in
    let k3 = both-true (opposite (bytes_eq (value_of (forwarded_learnt the_world)) (value_of (handed_learnt the_world)))) _ k2.1 in
    let k4 = both-true (there_is (question_read the_world)) _ k3.1 in
    let ada_f = entitled-where setting the_world ada forwarded e1.0 in
    let bob_f = entitled-where setting the_world bob forwarded e2.0 in
    let cyd_f = entitled-where setting the_world cyd forwarded e3.0 in
    let ada_h = entitled-where setting the_world ada handed e4.0 in
    let cyd_h = entitled-where setting the_world cyd handed e5.0 in
    let ada_q = entitled-where setting the_world ada question e6.0 in
    let bob_q = entitled-where setting the_world bob question e6.1 in
    let bob_learnt : learnt_of setting bob (log_of the_world bob) forwarded ≡ Some (value_of (forwarded_learnt the_world)) =
    sym (quick_learnt_of-known setting bob (log_of the_world bob) forwarded) ∙ value-there (forwarded_learnt the_world) k1.0 in
    let ada_handed : learnt_of setting ada (log_of the_world ada) handed ≡ Some (value_of (handed_learnt the_world)) =
    sym (quick_learnt_of-known setting ada (log_of the_world ada) handed) ∙ value-there (handed_learnt the_world) k2.0 in
    let ada_read : text_of setting ada (log_of the_world ada) question ≡ Some (codes "hello") =
    sym (quick_text_of-known setting ada (log_of the_world ada) question) ∙ value-there (question_read the_world) k4.0
    ∙ ap (λ z. Some z) ((says-same (value_of (question_read the_world)) (codes "hello")).holds k4.1) in
    let sent : (k : MadeBy the_world question) → k.given.text ≡ codes "hello" = λ k.
    let t = text_agreement setting the_world lawful_world ada question ada_q refl k in cc in
    record {
      setting = setting;
      removes_win = setting_fixed.0;
      all_honest = setting_fixed.1;
      world = the_world;
      lawful = lawful_world;
      of_ada = same-history _ _ h1.0;
      of_bob = same-history _ _ h2.0;
      of_cyd = same-history _ _ h2.1;
      ada_at_once = at_once-where _ a1.0;
      bob_at_once = at_once-where _ a2.0;
      cyd_at_once = at_once-where _ a2.1;
      ada_entitled = ada_f;
      bob_entitled = bob_f;
      cyd_entitled = cyd_f;
      secret = value_of (forwarded_learnt the_world);
      bob_learnt = bob_learnt;
      ada_learnt = (agreement_between setting the_world ada bob forwarded lawful_world ada_f bob_f).1 ∙ bob_learnt;
      cyd_learnt = (agreement_between setting the_world cyd bob forwarded lawful_world cyd_f bob_f).1 ∙ bob_learnt;
      cyd_was_handed = cyd_h;
      other_secret = value_of (handed_learnt the_world);
      ada_handed = ada_handed;
      cyd_handed = (agreement_between setting the_world cyd ada handed lawful_world cyd_h ada_h).1 ∙ ada_handed;
      secrets_differ = (says-not (says-same (value_of (forwarded_learnt the_world)) (value_of (handed_learnt the_world)))).holds k3.0;
      ada_entitled_to_text = ada_q;
      ada_read = ada_read;
      bob_read = let k = bob_q.honest.made question here in
          text_agreement setting the_world lawful_world bob question bob_q refl k ∙ ap (λ z. Some z) (sent k);
      sent = sent;
    }
