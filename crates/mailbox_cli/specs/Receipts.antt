-- What acknowledges steps: a line behind them, or status 0.
use Rattle.std.specs.Prelude.{◌≡◌, ◌≢◌, ℕ, List, [], ◌∷◌, ◌++◌, Result}
use Rattle.kem_trait.specs.declared.kem.Kem.{Ghosts as KemGhosts}
use Rattle.mailbox_cli.specs.Call.{Call, Carries, Devices}
use Rattle.mailbox_cli.specs.Steps.{Step}
use Rattle.mailbox_cli.specs.Story.{Event, prints, story, seeds_in, lines_in, with_step}

-- what the journal reads with more steps
abbrev pub with_steps : List Step → Result (List Step) ℕ → Result (List Step) ℕ
with_steps [] read = read
with_steps (step ∷ steps) read = with_steps steps (with_step step read)

-- these steps, and maybe more behind them
abbrev pub Reaches : Result (List Step) ℕ → Result (List Step) ℕ → Type 0
Reaches read now = (more : List Step) × (now ≡ with_steps more read)

module _ {K L D P E S : Type 0} (kem : KemGhosts K L) (on : Devices D P E S) (call : Call D P E S) where
  -- The story has this line behind the events in front, and the line was written whole.
  pub record IsWritten (carries : Carries kem on call) (front : List Event) : Type 0 where
    pub text : List ℕ
    pub later : List Event
    pub more : List ℕ
    pub not_empty : text ≢ []
    pub is : story kem call.words carries.read carries.files (seeds_in carries.events) ≡ front ++ prints text ∷ later
    pub written : on.sink.written call.after.out ≡ on.sink.written call.before.out ++ (lines_in front ++ (text ++ more))
