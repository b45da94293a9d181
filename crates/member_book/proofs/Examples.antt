-- The laws of the book, applied to the example of three members.
use Rattle.std.proofs.Common.{◌≡◌, [], ◌∷◌, None, refl, sym, ◌∙◌, ap, subst, arith}
use Rattle.group_model.specs.Sets.{here, there}
use Rattle.group_model.specs.Settings.{Owner, owner_in}
use Rattle.group_model.specs.Packets.{Packet, part_for}
use Rattle.group_model.specs.Logs.{Joined, Took, Made, hist}
use Rattle.group_model.specs.LawfulLogs.{MakesPacket, IsLawfulLog}
use Rattle.group_model.specs.Worlds.{log_of}
use Rattle.group_model.specs.Agreement.{MadeBy}
use Rattle.group_model.specs.Examples.{ada, bob, cyd, update, forwarded, history_of_ada, ThreeMembers}
use Rattle.group_model.specs.ExampleLaws.{QuestionTaken}
use Rattle.group_model.specs.Validity.{HasStepped}
use Rattle.group_model.proofs.Worlds.{lawful_log, lawful_at}
use Rattle.group_model.proofs.Theorem.{known_of-at, text_of-at}
use Rattle.group_model.proofs.RemoveWins.{ids_named-distinct}
use Rattle.group_model.proofs.LogsApplied.{logs_of_three_members}
use Rattle.member_book.specs.Laws.{book_of}
use Rattle.member_book.specs.Standing.{BookStands}
use Rattle.member_book.specs.Examples.{QuestionRead, ForwardedByBook, BooksOfThreeMembers}
use Rattle.member_book.proofs.OfOwner.{learnt_of, text_of}
use Rattle.member_book.proofs.Step.{opens_same}
use Rattle.member_book.proofs.LawsOfLogs.{entry_keeps, log_keeps, makes_same, none_to_self}
use Rattle.member_book.proofs.Owned.{own_known}
use Rattle.member_book.proofs.Calls.{calls_make, sends_each_same}
use Rattle.member_book.proofs.Places.{places_serve}
use Rattle.member_book.proofs.LogStates.{state_of_log}

question_read : (e : ThreeMembers) → QuestionTaken e.setting e.world → QuestionRead e
question_read e t =
    let O : Owner = owner_in e.setting ada in
    let lawful : IsLawfulLog O (log_of t.before ada) = lawful_log e.setting t.before (lawful_at e.setting e.lawful t.moment).1 ada in
    record {
      packet = t.packet;
      before = t.before;
      moment = t.moment;
      is = t.is;
      reads = opens_same O (log_of t.before ada) (book_of O (log_of t.before ada)) (log_keeps O (log_of t.before ada) lawful) (Took t.packet)
          ∙ sym (text_of-at e.setting t.moment e.lawful)
          ∙ ap (λ z. text_of O (log_of e.world ada) z) t.is ∙ e.ada_read;
      by_calls = λ b. calls_make O (hist (log_of t.before ada)) (Took t.packet) b
          (λ p d n. let f : t.packet ≡ p = (let g : Took t.packet ≡ Took p = d in cc) in
          subst (λ (z : Packet). part_for z.parts ada ≡ None) f t.no_part)
          (λ p d. let g : Took t.packet ≡ Joined p = d in absurd cc);
    }

forwarded_by_book : (e : ThreeMembers) (k : MadeBy e.world forwarded) → ForwardedByBook e k
forwarded_by_book e k =
    let O : Owner = owner_in e.setting bob in
    let lawful : IsLawfulLog O (log_of k.before bob) = lawful_log e.setting k.before (lawful_at e.setting e.lawful k.moment).1 bob in
    let makes : MakesPacket O (log_of k.before bob) k.packet k.given = (lawful_at e.setting e.lawful k.moment).0 in
    let stands : BookStands O (log_of k.before bob) (book_of O (log_of k.before bob)) = log_keeps O (log_of k.before bob) lawful in
    let at = known_of-at e.setting k.moment e.lawful in
    record {
      learned = (entry_keeps O (log_of k.before bob) (Made k.packet k.given) (book_of O (log_of k.before bob)) lawful makes stands).1
          ∙ sym at.1 ∙ ap (λ z. learnt_of O (log_of e.world bob) z) k.is ∙ e.bob_learnt;
      addressees = makes.addressees;
      parts = makes_same O (log_of k.before bob) k.packet k.given (book_of O (log_of k.before bob)) lawful makes stands;
      sends = λ b. sends_each_same O (log_of k.before bob) k.packet k.given b makes;
    }

pub books_of_three_members : (e : ThreeMembers) → BooksOfThreeMembers e
books_of_three_members e =
    let O : Owner = owner_in e.setting ada in
    let lawful : IsLawfulLog O (log_of e.world ada) = lawful_log e.setting e.world e.lawful ada in
    let stepped : HasStepped history_of_ada ada = record {
      by = update;
      there_is = there (there (there (there (there (there (there here))))));
      own = refl;
      steps = tt;
    } in
    let made : MadeBy e.world forwarded = e.bob_entitled.honest.made forwarded here in
    record {
      stands = λ x. log_keeps (owner_in e.setting x) (log_of e.world x) (lawful_log e.setting e.world e.lawful x);
      none_to_self = λ x. none_to_self (owner_in e.setting x) (log_of e.world x) (lawful_log e.setting e.world e.lawful x);
      chain = (own_known O (log_of e.world ada) lawful).1 (subst (λ z. HasStepped z ada) (sym e.of_ada) stepped);
      question_read = question_read e (logs_of_three_members e).at_taker;
      made = made;
      forwarded_by_book = forwarded_by_book e made;
      pairing = λ y. state_of_log O y (log_of e.world ada);
      by_places = λ b. places_serve (ada ∷ bob ∷ cyd ∷ []) 2 b (ids_named-distinct history_of_ada) (omega arith);
    }
