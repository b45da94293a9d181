-- What a call does on paper, event by event.
use Rattle.std.specs.Prelude.{ℕ, ◌==◌, Bool, true, false, not, if◌then◌else◌, List, [], ◌∷◌, ◌++◌, length, Option, Some}
use Rattle.std.specs.Prelude.{None, Result, Ok, Err, codes}
use Rattle.std.specs.FinMap.{insert}
use Rattle.group_fields.specs.Plan.{next_call}
use Rattle.group_fields.specs.declared.ids.MemberId.{MemberId}
use Rattle.hex.specs.Hex.{encode_lower}
use Rattle.kem_trait.specs.declared.kem.Kem.{Ghosts as KemGhosts}
use Rattle.mail_trait.specs.Post.{Files, whole_put}
use Rattle.mail_trait.specs.declared.put.Put.{Put}
use Rattle.member_identity.specs.Identity.{card_bytes}
use Rattle.sha2.specs.Sha256.{sha256}
use Rattle.mailbox_cli.specs.Lines.{made_line, card_line, refusal_line, status_of}
use Rattle.mailbox_cli.specs.Steps.{Step, has_key, inviter_of, tree_height}
use Rattle.mailbox_cli.specs.Words.{command_of}
use Rattle.mailbox_cli.specs.declared.command.Command.{Command}
use Rattle.mailbox_cli.specs.declared.command.Command.TheVariants.{Init, Card}
use Rattle.mailbox_cli.specs.declared.ended.Refusal.{Refusal}
use Rattle.mailbox_cli.specs.declared.ended.Refusal.TheVariants.{Words, NotMade, AlreadyMade, NoUsableKey, NotJournal}

pub data Event : Type 0 where
  -- the journal is opened
  opens : Event
  -- random bytes are asked for, and these come
  draws : List ℕ → Event
  -- random bytes are asked for, and none have come
  awaits : Event
  -- a step is made durable
  plans : Step → Event
  -- bytes are put into the mail folder under a name
  puts : List ℕ → List ℕ → Event
  -- a line is printed
  prints : List ℕ → Event
  -- the answer: a status, and the refusal with 2, 3 or 8
  ends : ℕ → Option Refusal → Event

-- the first refusal whose condition holds
abbrev pub first : List (Bool × Refusal) → Option Refusal
first [] = None
first (row ∷ rows) = if row.0 then Some row.1 else first rows

-- a refusal's line, and its answer
abbrev pub refuses : Refusal → List Event
refuses refusal = prints (refusal_line refusal) ∷ ends (status_of refusal) (Some refusal) ∷ []

-- the first refusal that holds, or what comes where none does
abbrev pub refuses_or : Option Refusal → List Event → List Event
refuses_or None later = later
refuses_or (Some refusal) later = refuses refusal

-- the next random bytes are drawn, and what comes goes by them
abbrev pub draws_then : (List ℕ → List (List ℕ) → List Event) → List (List ℕ) → List Event
draws_then later [] = awaits ∷ []
draws_then later (random ∷ seeds) = draws random ∷ later random seeds

-- a line, and the answer that the command was carried out
abbrev pub says : List ℕ → List Event
says text = prints text ∷ ends 0 None ∷ []

-- the step of an `init` with these random bytes
abbrev pub init_step : Option MemberId → List ℕ → Step
init_step inviter random = record { inviter = inviter_of inviter; random = random }

-- the name of a card's file: its id in lower-case hexadecimal digits, and `.card`
abbrev pub file_name : List ℕ → List ℕ
file_name card = encode_lower (sha256 card) ++ codes ".card"

-- a card is put under its name, and its id is told
abbrev pub puts_card : Option (List ℕ) → List Event
puts_card None = []
puts_card (Some card) = puts (file_name card) card ∷ says (card_line (sha256 card))

module _ {K L : Type 0} (kem : KemGhosts K L) where
  -- what `init` is refused for: by the steps before it, and then by its random bytes
  abbrev pub init_refusals : List Step → List (Bool × Refusal)
  init_refusals steps = (not (length steps == 0), AlreadyMade) ∷ []

  abbrev pub seed_refusals : List ℕ → List (Bool × Refusal)
  seed_refusals random = (not (has_key kem random), NoUsableKey) ∷ []

  -- the step of these random bytes is made durable and told
  abbrev pub seed_story : Option MemberId → List ℕ → List Event
  seed_story inviter random =
      refuses_or (first (seed_refusals random)) (plans (init_step inviter random) ∷ says made_line)

  -- `init` draws random bytes and makes the member.
  abbrev pub init_story : Option MemberId → List Step → List (List ℕ) → List Event
  init_story inviter steps seeds =
      refuses_or (first (init_refusals steps)) (draws_then (λ random seeds'. seed_story inviter random) seeds)

  abbrev pub card_refusals : List Step → List (Bool × Refusal)
  card_refusals steps = (length steps == 0, NotMade) ∷ []

  -- the card of the member that the first step made
  abbrev pub card_in : List Step → Option (List ℕ)
  card_in [] = None
  card_in (step ∷ steps) = card_bytes kem tree_height step

  -- `card` puts the member's card and tells its id.
  abbrev pub card_story : List Step → List Event
  card_story steps = refuses_or (first (card_refusals steps)) (puts_card (card_in steps))

  -- the story of a command after steps, over the mail folder and the random bytes
  abbrev pub command_story : Command → List Step → Files → List (List ℕ) → List Event
  command_story (Init inviter) steps files seeds = init_story inviter steps seeds
  command_story Card steps files seeds = card_story steps

  -- the story of a command over what the journal reads
  abbrev pub read_story : Command → Result (List Step) ℕ → Files → List (List ℕ) → List Event
  read_story command (Err place) files seeds = refuses (NotJournal place)
  read_story command (Ok steps) files seeds = command_story command steps files seeds

  -- The story of words. Those that spell no command are refused at once.
  abbrev pub story_of : Option Command → Result (List Step) ℕ → Files → List (List ℕ) → List Event
  story_of None read files seeds = refuses Words
  story_of (Some command) read files seeds = opens ∷ read_story command read files seeds

  abbrev pub story : List (List ℕ) → Result (List Step) ℕ → Files → List (List ℕ) → List Event
  story words read files seeds = story_of (command_of words) read files seeds

-- what events do, all together: the random bytes that come
abbrev pub seeds_in : List Event → List (List ℕ)
seeds_in [] = []
seeds_in (draws random ∷ events) = random ∷ seeds_in events
seeds_in (event ∷ events) = seeds_in events

-- the steps that are made durable
abbrev pub plans_in : List Event → List Step
plans_in [] = []
plans_in (plans step ∷ events) = step ∷ plans_in events
plans_in (event ∷ events) = plans_in events

-- the puts into the mail folder
abbrev pub puts_in : List Event → List Put
puts_in [] = []
puts_in (puts name bytes ∷ events) = whole_put name bytes ∷ puts_in events
puts_in (event ∷ events) = puts_in events

-- the bytes of all lines
abbrev pub lines_in : List Event → List ℕ
lines_in [] = []
lines_in (prints text ∷ events) = text ++ lines_in events
lines_in (event ∷ events) = lines_in events

-- what the journal reads with one step more
abbrev pub with_step : Step → Result (List Step) ℕ → Result (List Step) ℕ
with_step step (Ok steps) = Ok (steps ++ step ∷ [])
with_step step (Err place) = Err place

-- what the journal reads after them
abbrev pub steps_after : Result (List Step) ℕ → List Event → Result (List Step) ℕ
steps_after read [] = read
steps_after read (plans step ∷ events) = steps_after (with_step step read) events
steps_after read (event ∷ events) = steps_after read events

-- the mail folder after them
abbrev pub files_after : Files → List Event → Files
files_after files [] = files
files_after files (puts name bytes ∷ events) = files_after (insert files name bytes) events
files_after files (event ∷ events) = files_after files events

-- how often the source was asked after one question for each of these random bytes
abbrev pub asked_after : List (List ℕ) → ℕ → ℕ
asked_after [] asked = asked
asked_after (random ∷ seeds) asked = asked_after seeds (next_call asked)

-- no step was planned since the last line
abbrev pub is_acknowledged : Bool → List Event → Bool
is_acknowledged so_far [] = so_far
is_acknowledged so_far (plans step ∷ events) = is_acknowledged false events
is_acknowledged so_far (prints text ∷ events) = is_acknowledged true events
is_acknowledged so_far (event ∷ events) = is_acknowledged so_far events

-- the device that an event asks
abbrev pub asks_disk : Event → Bool
asks_disk opens = true
asks_disk (plans step) = true
asks_disk event = false

abbrev pub asks_post : Event → Bool
asks_post (puts name bytes) = true
asks_post event = false

abbrev pub asks_source : Event → Bool
asks_source (draws random) = true
asks_source awaits = true
asks_source event = false

abbrev pub asks_output : Event → Bool
asks_output (prints text) = true
asks_output event = false

abbrev pub is_opening : Event → Bool
is_opening opens = true
is_opening event = false
