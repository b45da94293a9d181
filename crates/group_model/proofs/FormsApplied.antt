-- The forms that code meets, applied to the history of the first example.
use Rattle.std.proofs.Common.{◌≡◌, ◌↔◌, ℕ, ◌<◌, zero, suc, true, false, inl, inr, [], ◌∷◌, nat_lt, refl, sym, subst, arith}
use Rattle.std.proofs.lemmas.Bool.{ltb-true}
use Rattle.group_model.specs.Sets.{Id, In, here, there, Within}
use Rattle.group_model.specs.Messages.{past, IsHistory, IsHead, AreHeads}
use Rattle.group_model.specs.Membership.{ids_named, MovesNobody, AreAddressees, remove_wins}
use Rattle.group_model.specs.Marks.{IsPlace, IsCrowd}
use Rattle.group_model.specs.Settings.{owner_in}
use Rattle.group_model.specs.Worlds.{log_of}
use Rattle.group_model.specs.Examples.{ada, bob, cyd, numbered, creation, creation_acked, update, addition, handed, forwarded, answer, history_of_ada, ThreeMembers}
use Rattle.group_model.specs.ExampleLaws.{draft, FormsOfAda, FormsOfTheCreation, PlacesOfAda}
use Rattle.group_model.proofs.ListFacts.{has-In, In-nothing, In-cases}
use Rattle.group_model.proofs.Pasts.{past-direct, same-message}
use Rattle.group_model.proofs.PastsInside.{past-of_inner, view-of_inner, past-by_predecessor, head-by_predecessors}
use Rattle.group_model.proofs.RemoveWins.{remove_wins-rule, ids_named-Named, ids_named-distinct}
use Rattle.group_model.proofs.Places.{place-in, in-place, place-one, place-distinct, place-stays, crowd-one}
use Rattle.group_model.proofs.Numbers.{past-marked, marks-one, number-same, number-one, pushed}
use Rattle.group_model.proofs.MarksMade.{marks_of, past-marks}
use Rattle.group_model.proofs.Addressees.{addressees_move}
use Rattle.group_model.proofs.Ascending.{heads-same, addressees-same}
use Rattle.group_model.proofs.Verdicts.{heads-where}
use Rattle.group_model.proofs.Judged.{addressees-where}
use Rattle.group_model.proofs.LogLaws.{Kept, log_kept}
use Rattle.group_model.proofs.Worlds.{lawful_log}
use Rattle.group_model.proofs.Members.{three}

-- what ada's log keeps
pub kept_by_ada : (e : ThreeMembers) → Kept (owner_in e.setting ada) history_of_ada
kept_by_ada e = subst (λ z. Kept (owner_in e.setting ada) z) e.of_ada
    (log_kept (owner_in e.setting ada) (log_of e.world ada) (lawful_log e.setting e.world e.lawful ada))

whole : IsHistory history_of_ada
whole = (kept_by_ada three).history

heads_of_ada : AreHeads history_of_ada (numbered 19 ∷ [])
heads_of_ada = heads-where history_of_ada (numbered 19 ∷ []) refl

head_of_ada : IsHead history_of_ada answer
head_of_ada = let k = heads_of_ada.only (numbered 19) here in
    subst (λ z. IsHead history_of_ada z) (same-message history_of_ada whole k.1.there_is here k.2) k.1

update_inside : In update (past history_of_ada forwarded.predecessors)
update_inside = past-direct history_of_ada forwarded.predecessors (there (there (there (there (there (there (there here))))))) here

creation_inside : In creation (past history_of_ada creation_acked.predecessors)
creation_inside = past-direct history_of_ada creation_acked.predecessors
    (there (there (there (there (there (there (there (there (there here))))))))) here

pub forms_of_ada : FormsOfAda
forms_of_ada = record {
  marks = marks_of history_of_ada (past history_of_ada handed.predecessors);
  marks_past = past-marks history_of_ada whole handed.predecessors;
  one_set = λ others i k. marks-one history_of_ada handed.predecessors others (marks_of history_of_ada (past history_of_ada handed.predecessors)) k
      (past-marks history_of_ada whole handed.predecessors) i;
  marked_past = past-marked history_of_ada handed.predecessors (marks_of history_of_ada (past history_of_ada handed.predecessors)) whole
      (past-marks history_of_ada whole handed.predecessors);
  number = inr (inr (inr (inr (inr (inl (refl, refl))))));
  one_number = λ i r. number-same history_of_ada whole i 4 handed r (inr (inr (inr (inr (inr (inl (refl, refl)))))));
  one_message = λ m r. number-one history_of_ada 4 m handed r (inr (inr (inr (inr (inr (inl (refl, refl)))))));
  inside = update_inside;
  past_inside = past-of_inner history_of_ada forwarded.predecessors update whole update_inside;
  view_inside = λ x. view-of_inner remove_wins history_of_ada forwarded.predecessors update x whole update_inside;
  by_a_predecessor = (past-by_predecessor history_of_ada update creation whole).1
      (creation_acked, there (there (there (there (there (there (there (there here))))))), here, inr creation_inside);
  heads = heads_of_ada;
  one_list = λ ids k. heads-same history_of_ada ids (numbered 19 ∷ []) k heads_of_ada;
  head = head_of_ada;
  no_predecessor = ((head-by_predecessors history_of_ada answer).0 head_of_ada).1;
  pushed = pushed (creation ∷ creation_acked ∷ []) update;
}

alone : IsHistory (creation ∷ [])
alone = (λ i j. absurd (In-nothing j), λ s. In-nothing s.there_is, tt)

draft_alone : IsHistory (draft ∷ [])
draft_alone = (λ i j. absurd (In-nothing j), λ s. In-nothing s.there_is, tt)

acked : IsHistory (creation_acked ∷ creation ∷ [])
acked = whole.2.2.2.2.2.2.2.2

bob_alone : AreAddressees remove_wins (creation ∷ []) creation (bob ∷ [])
unfolding past remove_wins
bob_alone = addressees-where remove_wins remove_wins-rule (creation ∷ []) creation (bob ∷ []) here refl

bob_in : In bob (remove_wins (creation ∷ []))
unfolding remove_wins
bob_in = has-In (remove_wins (creation ∷ [])) bob refl

follows : Within (creation ∷ []) (past (creation ∷ []) creation_acked.predecessors)
follows = record {
  each = λ {a} i. elim (In-cases i) [
    | inl d ↦ subst (λ z. In z (past (creation ∷ []) creation_acked.predecessors)) (sym d)
        (past-direct (creation ∷ []) creation_acked.predecessors here here)
    | inr j ↦ absurd (In-nothing j)
  ];
}

moves_nobody : MovesNobody creation_acked.kind
moves_nobody = record { names_nobody = λ y n. n; removes_nobody = λ y n. n }

pub forms_of_the_creation : FormsOfTheCreation
forms_of_the_creation = record {
  addressees = bob_alone;
  before_the_body = addressees_move remove_wins remove_wins-rule [] creation [] [] (bob ∷ []) alone draft_alone bob_alone;
  one_list = λ ids k. addressees-same remove_wins (creation ∷ []) creation ids (bob ∷ []) k bob_alone;
  digests_unread = remove_wins-rule.newest_digests_unread [] creation [] [] bob alone draft_alone bob_in;
  others_stay = λ x. remove_wins-rule.others_stay (creation ∷ []) creation_acked x acked follows moves_nobody;
}

cyd_place : IsPlace (ids_named history_of_ada) 2 cyd
cyd_place = refl

bob_place : IsPlace (ids_named (creation_acked ∷ creation ∷ [])) 1 bob
bob_place = refl

first_two : IsCrowd (ids_named history_of_ada) (λ p. nat_lt p 2) (λ x. In x (ada ∷ bob ∷ []))
first_two = record {
  each = each;
  within = λ p e. let l : p < 2 = ltb-true p 2 e in omega (arith, l);
}
  where
    neither : In cyd (ada ∷ bob ∷ []) → ⊥
    neither i = elim (In-cases i) [
      | inl d ↦ let e : cyd ≡ ada = d in cc
      | inr j ↦ elim (In-cases j) [ inl d ↦ let e : cyd ≡ bob = d in cc | inr k ↦ In-nothing k ]
    ]

    each : (p : ℕ) (x : Id) → IsPlace (ada ∷ bob ∷ cyd ∷ []) p x → (nat_lt p 2 ≡ true) ↔ In x (ada ∷ bob ∷ [])
    each zero x e = let d : ada ≡ x = cc in (λ t. subst (λ z. In z (ada ∷ bob ∷ [])) d here, λ i. refl)
    each (suc zero) x e = let d : bob ≡ x = cc in (λ t. subst (λ z. In z (ada ∷ bob ∷ [])) d (there here), λ i. refl)
    each (suc (suc zero)) x e = let d : cyd ≡ x = cc in (
      λ t. let f : false ≡ true = t in cc,
      λ i. absurd (neither (subst (λ z. In z (ada ∷ bob ∷ [])) (sym d) i)),
    )
    each (suc (suc (suc p))) x e = absurd cc

pub places_of_ada : PlacesOfAda
places_of_ada = record {
  distinct = ids_named-distinct history_of_ada;
  named = ids_named-Named history_of_ada cyd (place-in (ids_named history_of_ada) 2 cyd cyd_place);
  place = cyd_place;
  there_is = in-place (ids_named history_of_ada) cyd (place-in (ids_named history_of_ada) 2 cyd cyd_place);
  one_place = λ p e. place-distinct (ids_named history_of_ada) (ids_named-distinct history_of_ada) p 2 cyd e cyd_place;
  one_id = λ x e. place-one (ids_named history_of_ada) 2 x cyd e cyd_place;
  stays = place-stays addition (creation_acked ∷ creation ∷ []) 1 bob bob_place;
  crowd = first_two;
  one_crowd = λ bits p k. crowd-one (ids_named history_of_ada) (λ x. In x (ada ∷ bob ∷ [])) bits (λ q. nat_lt q 2) k first_two p;
}
