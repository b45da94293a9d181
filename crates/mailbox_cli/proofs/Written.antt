-- What was written, and how a call ended, tell which events happened.
use Rattle.std.proofs.Common.{◌≡◌, ◌≢◌, ◌⊎◌, inl, inr, ⊎_elim, ℕ, ◌+◌, ◌≤◌, Bool, true, false, ◌||◌, List, [], ◌∷◌, ◌++◌, length, take, Result, Ok, Err, None, refl, sym, ◌∙◌, ap, subst, arith, append_assoc, length-append}
use Rattle.std.proofs.lemmas.List.{length-take}
use Rattle.std.proofs.lemmas.List.Folds.{list_any-append}
use Rattle.std.specs.List.{list_any}
use Rattle.kem_trait.specs.declared.kem.Kem.{Ghosts as KemGhosts}
use Rattle.mailbox_cli.specs.Call.{Answers, Call, Carries, Devices, HasCauses, IsComplete, IsHonest, IsOpened, DiskFault, OutputFault, LeavesEnd, LeavesLines, LeavesSteps}
use Rattle.mailbox_cli.specs.Receipts.{with_steps, Reaches, IsWritten}
use Rattle.mailbox_cli.specs.Steps.{Step, steps_of}
use Rattle.mailbox_cli.specs.Story.{Event, opens, draws, awaits, plans, puts, prints, ends, story, seeds_in, plans_in, lines_in, steps_after, with_step, is_opening}
use Rattle.mailbox_cli.specs.declared.ended.Ended.{Ended}
use Rattle.mailbox_cli.proofs.Sums.{lines_in-append, steps_after-append}

module _ {K L D P E S : Type 0} (kem : KemGhosts K L) (on : Devices D P E S) (call : Call D P E S) where
  -- without a failure the end was reached, or memory ran out
  end_reached : (rest : List Event) → LeavesEnd rest call.ended → HasCauses on call.before call.after call.ended
      → IsHonest on call.before call.after → (call.ended.status ≡ 9) ⊎ (rest ≡ ends call.ended.status call.ended.refusal ∷ [])
  end_reached [] ending causes honest = absurd ending
  end_reached (opens ∷ rest) (inl is) causes honest = absurd (honest.disk (inl (causes.disk is.0)))
  end_reached (opens ∷ rest) (inr is) causes honest = inl is.0
  end_reached (draws random ∷ rest) ending causes honest = absurd ending
  end_reached (awaits ∷ rest) (inl is) causes honest = absurd (honest.entropy (inl (causes.entropy is.0)))
  end_reached (awaits ∷ rest) (inr is) causes honest = inl is.0
  end_reached (plans step ∷ rest) (inl is) causes honest = absurd (honest.disk (inl (causes.disk is.0)))
  end_reached (plans step ∷ rest) (inr is) causes honest = inl is.0
  end_reached (puts name bytes ∷ rest) (inl is) causes honest = absurd (honest.post (inl (causes.post is.0)))
  end_reached (puts name bytes ∷ rest) (inr is) causes honest = inl is.0
  end_reached (prints text ∷ rest) (inl is) causes honest = absurd (honest.sink (inl (causes.sink is.0)))
  end_reached (prints text ∷ rest) (inr is) causes honest = inl is.0
  end_reached (ends status refusal ∷ rest) is causes honest = inr (λ i. ends (sym is.1.0 i) (sym is.1.1 i) ∷ is.0 i)

  pub complete_of : Carries kem on call → HasCauses on call.before call.after call.ended → IsComplete kem on call
  complete_of carries causes honest = (carries, end_reached carries.rest carries.ending causes honest)

  -- with status 0 the end was reached
  pub done_end : (rest : List Event) → LeavesEnd rest call.ended → call.ended.status ≡ 0 → rest ≡ ends 0 call.ended.refusal ∷ []
  done_end [] ending zero = absurd ending
  done_end (opens ∷ rest) (inl is) zero = absurd (omega (arith, is.0, zero))
  done_end (opens ∷ rest) (inr is) zero = absurd (omega (arith, is.0, zero))
  done_end (draws random ∷ rest) ending zero = absurd ending
  done_end (awaits ∷ rest) (inl is) zero = absurd (omega (arith, is.0, zero))
  done_end (awaits ∷ rest) (inr is) zero = absurd (omega (arith, is.0, zero))
  done_end (plans step ∷ rest) (inl is) zero = absurd (omega (arith, is.0, zero))
  done_end (plans step ∷ rest) (inr is) zero = absurd (omega (arith, is.0, zero))
  done_end (puts name bytes ∷ rest) (inl is) zero = absurd (omega (arith, is.0, zero))
  done_end (puts name bytes ∷ rest) (inr is) zero = absurd (omega (arith, is.0, zero))
  done_end (prints text ∷ rest) (inl is) zero = absurd (omega (arith, is.0, zero))
  done_end (prints text ∷ rest) (inr is) zero = absurd (omega (arith, is.0, zero))
  done_end (ends status refusal ∷ rest) is zero = λ i. ends ((sym is.1.0 ∙ zero) i) (sym is.1.1 i) ∷ is.0 i

  pub done_lasts : (carries : Carries kem on call) → on.disk.told → call.ended.status ≡ 0 → IsOpened carries.read carries.events
      → (image : List ℕ) → on.disk.image call.after.disk image → steps_of kem image ≡ steps_after carries.read carries.events
  done_lasts carries told zero was image here =
      subst (λ (rest : List Event). LeavesSteps (DiskFault kem on call) rest
      (steps_after carries.read carries.events) (steps_of kem image)) (done_end carries.rest carries.ending zero)
      (carries.images told was image here)

-- two ways to part a list
splits : (a b c d : List Event) → a ++ b ≡ c ++ d
    → ((more : List Event) × (a ≡ c ++ more)) ⊎ ((event : Event) × (more : List Event) × (c ≡ a ++ event ∷ more) × (b ≡ event ∷ (more ++ d)))
splits a b [] d is = inl (a, refl)
splits [] b (event ∷ c) d is = inr (event, c, refl, is)
splits (x ∷ a) b (event ∷ c) d is =
    let same : x ≡ event = cc in
    let tails : a ++ b ≡ c ++ d = cc in
    ⊎_elim (λ longer. inl (longer.0, λ i. same i ∷ longer.1 i))
    (λ shorter. inr (shorter.0, shorter.1, (λ i. sym same i ∷ shorter.2 i), shorter.3)) (splits a b c d tails)

-- where a story stopped, at most the next line was written
line_bound : (fault : Type 0) (event : Event) (rest : List Event) (written written' : List ℕ)
    → LeavesLines fault (event ∷ rest) written written' → length written' ≤ length written + length (lines_in (event ∷ []))
line_bound fault (prints text) rest written written' (inl same) = omega (arith, ap length same)
line_bound fault (prints text) rest written written' (inr (cause, some)) = omega (
  arith,
  ap length some.1,
  length-append written (take some.0 text),
  length-take some.0 text,
  length-append text [],
)
line_bound fault opens rest written written' same = omega (arith, ap length same)
line_bound fault (draws random) rest written written' same = omega (arith, ap length same)
line_bound fault awaits rest written written' same = omega (arith, ap length same)
line_bound fault (plans step) rest written written' same = omega (arith, ap length same)
line_bound fault (puts name bytes) rest written written' same = omega (arith, ap length same)
line_bound fault (ends status refusal) rest written written' same = omega (arith, ap length same)

some_length : (text : List ℕ) → text ≢ [] → 1 ≤ length text
some_length [] some = absurd (some refl)
some_length (byte ∷ text) some = omega arith

steps_after-with : (read : Result (List Step) ℕ) (events : List Event) → steps_after read events ≡ with_steps (plans_in events) read
steps_after-with read [] = refl
steps_after-with read (plans step ∷ events) = steps_after-with (with_step step read) events
steps_after-with read (event ∷ events) = steps_after-with read events

with_steps-more : (read : Result (List Step) ℕ) (steps : List Step) (step : Step)
    → with_step step (with_steps steps read) ≡ with_steps (steps ++ step ∷ []) read
with_steps-more read [] step = refl
with_steps-more read (first ∷ steps) step = with_steps-more (with_step first read) steps step

-- what is left where a story stopped reaches all that happened
left_reaches : (fault : Type 0) (rest : List Event) (read now : Result (List Step) ℕ) → LeavesSteps fault rest read now
    → (now ≡ read) ⊎ ((step : Step) × (now ≡ with_step step read))
left_reaches fault [] read now is = inl is
left_reaches fault (plans step ∷ rest) read now (inl is) = inl is
left_reaches fault (plans step ∷ rest) read now (inr more) = inr (step, more.1)
left_reaches fault (event ∷ rest) read now is = inl is

opened_longer : (read : Result (List Step) ℕ) (front more : List Event) → IsOpened read front → IsOpened read (front ++ more)
opened_longer (Ok steps) front more was =
    list_any-append is_opening front more ∙ ap (λ (b : Bool). b || list_any is_opening more) was
opened_longer (Err place) front more was = absurd was

module _ {K L D P E S : Type 0} (kem : KemGhosts K L) (on : Devices D P E S) (call : Call D P E S) (carries : Carries kem on call)
    (front : List Event) (line : IsWritten kem on call carries front) (told : on.disk.told) (told' : on.sink.told) where
  -- all events in front of the line happened
  happened : (more : List Event) × (carries.events ≡ front ++ more)
  happened = ⊎_elim (λ longer. longer) (λ shorter.
      let bound = line_bound (OutputFault kem on call) shorter.0 (shorter.1 ++ prints line.text ∷ line.later)
      (on.sink.written call.before.out ++ lines_in carries.events) (on.sink.written call.after.out)
      (subst (λ (rest : List Event). LeavesLines (OutputFault kem on call) rest (on.sink.written call.before.out ++ lines_in carries.events)
      (on.sink.written call.after.out)) shorter.3 (carries.lines told')) in
      absurd (omega (
        arith,
        bound,
        some_length line.text line.not_empty,
        ap length line.written,
        length-append (on.sink.written call.before.out) (lines_in front ++ (line.text ++ line.more)),
        length-append (lines_in front) (line.text ++ line.more),
        length-append line.text line.more,
        length-append (on.sink.written call.before.out) (lines_in carries.events),
        ap length (ap lines_in shorter.2),
        ap length (lines_in-append carries.events (shorter.0 ∷ shorter.1)),
        length-append (lines_in carries.events) (lines_in (shorter.0 ∷ shorter.1)),
        ap length (lines_in-append (shorter.0 ∷ []) shorter.1),
        length-append (lines_in (shorter.0 ∷ [])) (lines_in shorter.1),
      ))) (splits carries.events carries.rest front (prints line.text ∷ line.later) (sym carries.is ∙ line.is))

  pub line_lasts : IsOpened carries.read front → (image : List ℕ) → on.disk.image call.after.disk image
      → Reaches (steps_after carries.read front) (steps_of kem image)
  line_lasts was image here =
      let events = happened in
      let opened : IsOpened carries.read carries.events =
      subst (IsOpened carries.read) (sym events.1) (opened_longer carries.read front events.0 was) in
      let split : steps_after carries.read carries.events ≡ with_steps (plans_in events.0) (steps_after carries.read front) =
      ap (steps_after carries.read) events.1 ∙ steps_after-append carries.read front events.0
      ∙ steps_after-with (steps_after carries.read front) events.0 in
      ⊎_elim (λ same. (plans_in events.0, same ∙ split))
      (λ more. (
        plans_in events.0 ++ more.0 ∷ [],
        more.1 ∙ ap (with_step more.0) split ∙ with_steps-more (steps_after carries.read front) (plans_in events.0) more.0,
      )) (left_reaches (DiskFault kem on call) carries.rest
      (steps_after carries.read carries.events) (steps_of kem image) (carries.images told opened image here))
