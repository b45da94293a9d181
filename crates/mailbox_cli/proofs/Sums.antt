-- What events do, all together, piece by piece.
use Rattle.std.proofs.Common.{◌≡◌, ◌⊎◌, inl, inr, ℕ, Bool, true, false, ◌||◌, List, [], ◌∷◌, ◌++◌, take, Result, Ok, Err, refl, sym, ◌∙◌, ap, append_assoc}
use Rattle.std.proofs.lemmas.List.{append-nil}
use Rattle.std.specs.FinMap.{insert}
use Rattle.std.specs.List.{list_any}
use Rattle.group_fields.specs.Plan.{next_call}
use Rattle.mail_trait.specs.Post.{Files, whole_put}
use Rattle.mail_trait.specs.declared.put.Put.{Put}
use Rattle.mailbox_cli.specs.Call.{IsAmong, LeavesSteps, LeavesPost, LeavesLines}
use Rattle.mailbox_cli.specs.Steps.{Step}
use Rattle.mailbox_cli.specs.Story.{Event, opens, draws, awaits, plans, puts, prints, ends, seeds_in, plans_in, puts_in, lines_in, with_step, steps_after, files_after, asked_after, is_acknowledged}

pub seeds_in-append : (a b : List Event) → seeds_in (a ++ b) ≡ seeds_in a ++ seeds_in b
seeds_in-append [] b = refl
seeds_in-append (draws random ∷ a) b = ap (λ (l : List (List ℕ)). random ∷ l) (seeds_in-append a b)
seeds_in-append (event ∷ a) b = seeds_in-append a b

pub plans_in-append : (a b : List Event) → plans_in (a ++ b) ≡ plans_in a ++ plans_in b
plans_in-append [] b = refl
plans_in-append (plans step ∷ a) b = ap (λ (l : List Step). step ∷ l) (plans_in-append a b)
plans_in-append (event ∷ a) b = plans_in-append a b

pub puts_in-append : (a b : List Event) → puts_in (a ++ b) ≡ puts_in a ++ puts_in b
puts_in-append [] b = refl
puts_in-append (puts name bytes ∷ a) b = ap (λ (l : List Put). whole_put name bytes ∷ l) (puts_in-append a b)
puts_in-append (event ∷ a) b = puts_in-append a b

pub lines_in-append : (a b : List Event) → lines_in (a ++ b) ≡ lines_in a ++ lines_in b
lines_in-append [] b = refl
lines_in-append (prints text ∷ a) b =
    ap (λ (l : List ℕ). text ++ l) (lines_in-append a b) ∙ sym (append_assoc text (lines_in a) (lines_in b))
lines_in-append (event ∷ a) b = lines_in-append a b

pub steps_after-append : (read : Result (List Step) ℕ) (a b : List Event)
    → steps_after read (a ++ b) ≡ steps_after (steps_after read a) b
steps_after-append read [] b = refl
steps_after-append read (plans step ∷ a) b = steps_after-append (with_step step read) a b
steps_after-append read (event ∷ a) b = steps_after-append read a b

pub files_after-append : (files : Files) (a b : List Event) → files_after files (a ++ b) ≡ files_after (files_after files a) b
files_after-append files [] b = refl
files_after-append files (puts name bytes ∷ a) b = files_after-append (insert files name bytes) a b
files_after-append files (event ∷ a) b = files_after-append files a b

pub asked_after-append : (a b : List (List ℕ)) (asked : ℕ) → asked_after (a ++ b) asked ≡ asked_after b (asked_after a asked)
asked_after-append [] b asked = refl
asked_after-append (random ∷ a) b asked = asked_after-append a b (next_call asked)

pub acknowledged-append : (so_far : Bool) (a b : List Event)
    → is_acknowledged so_far (a ++ b) ≡ is_acknowledged (is_acknowledged so_far a) b
acknowledged-append so_far [] b = refl
acknowledged-append so_far (plans step ∷ a) b = acknowledged-append false a b
acknowledged-append so_far (prints text ∷ a) b = acknowledged-append true a b
acknowledged-append so_far (event ∷ a) b = acknowledged-append so_far a b

abbrev okay : List Step → Result (List Step) ℕ
okay steps = Ok steps

-- where the journal reads as steps, the planned ones come behind them
pub steps_after-plans : (steps : List Step) (events : List Event) → steps_after (Ok steps) events ≡ okay (steps ++ plans_in events)
steps_after-plans steps [] = ap okay (sym (append-nil steps))
steps_after-plans steps (plans step ∷ events) =
    steps_after-plans (steps ++ step ∷ []) events ∙ ap okay (append_assoc steps (step ∷ []) (plans_in events))
steps_after-plans steps (event ∷ events) = steps_after-plans steps events

-- no step is planned where none is in either part
pub none_before : (a b : List Step) → a ++ b ≡ [] → a ≡ []
none_before [] b none = refl
none_before (step ∷ a) b none = cc

pub none_behind : (a b : List Step) → a ++ b ≡ [] → b ≡ []
none_behind [] b none = none
none_behind (step ∷ a) b none = cc

-- what is among the later steps is among all
pub among_later : (read : Result (List Step) ℕ) (a b : List Event) (now : Result (List Step) ℕ)
    → IsAmong (steps_after read a) b now → IsAmong read (a ++ b) now
among_later read [] b now is = is
among_later read (plans step ∷ a) b now is = inr (among_later (with_step step read) a b now is)
among_later read (event ∷ a) b now is = among_later read a b now is

pub among_first : (read : Result (List Step) ℕ) (b : List Event) (now : Result (List Step) ℕ) → now ≡ read → IsAmong read b now
among_first read [] now is = is
among_first read (plans step ∷ b) now is = inl is
among_first read (event ∷ b) now is = among_first read b now is

pub among_sooner : (read : Result (List Step) ℕ) (a b : List Event) (now : Result (List Step) ℕ)
    → IsAmong read a now → IsAmong read (a ++ b) now
among_sooner read [] b now is = among_first read b now is
among_sooner read (plans step ∷ a) b now (inl is) = inl is
among_sooner read (plans step ∷ a) b now (inr is) = inr (among_sooner (with_step step read) a b now is)
among_sooner read (event ∷ a) b now is = among_sooner read a b now is

-- a story that stops leaves what was there
pub steps_same : (counted : Type 0) (rest : List Event) (read now : Result (List Step) ℕ) → now ≡ read
    → LeavesSteps counted rest read now
steps_same counted [] read now is = is
steps_same counted (plans step ∷ rest) read now is = inl is
steps_same counted (event ∷ rest) read now is = is

pub post_same : (rest : List Event) (files files' : Files) (list list' : List Put) → files' ≡ files → list' ≡ list
    → LeavesPost rest files list files' list'
post_same [] files files' list list' same same' = (same, same')
post_same (puts name bytes ∷ rest) files files' list list' same same' = inl (same, same')
post_same (event ∷ rest) files files' list list' same same' = (same, same')

pub lines_same : (fault : Type 0) (rest : List Event) (written written' : List ℕ) → written' ≡ written
    → LeavesLines fault rest written written'
lines_same fault [] written written' same = same
lines_same fault (prints text ∷ rest) written written' same = inl same
lines_same fault (event ∷ rest) written written' same = same
