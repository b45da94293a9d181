-- The lines that are printed, and the status that goes with each refusal.
use Rattle.std.specs.Prelude.{ℕ, ◌==◌, ◌||◌, Bool, if◌then◌else◌, List, [], ◌∷◌, ◌++◌, Option, Some, None, codes}
use Rattle.std.specs.Prelude.{decimal}
use Rattle.hex.specs.Hex.{encode_lower}
use Rattle.mailbox_cli.specs.declared.ended.Refusal.{Refusal}
use Rattle.mailbox_cli.specs.declared.ended.Refusal.TheVariants.{Words, NotMade, AlreadyMade, NoUsableKey, NotJournal}

abbrev pub line : List ℕ → List ℕ
line text = text ++ 10 ∷ []

abbrev pub refusal_line : Refusal → List ℕ
refusal_line Words = line (codes "refused words")
refusal_line NotMade = line (codes "refused not-made")
refusal_line AlreadyMade = line (codes "refused already-made")
refusal_line NoUsableKey = line (codes "refused no-usable-key")
refusal_line (NotJournal place) = line (codes "not a journal " ++ decimal place)

abbrev pub status_of : Refusal → ℕ
status_of Words = 2
status_of NotMade = 3
status_of AlreadyMade = 3
status_of NoUsableKey = 3
status_of (NotJournal place) = 8

-- the command was carried out, or it was refused
abbrev pub is_quiet : ℕ → Bool
is_quiet status = status == 0 || status == 2 || status == 3 || status == 8

-- the disk, the mail folder, the source of random bytes or the output failed, or memory ran out
abbrev pub is_fault : ℕ → Bool
is_fault status = status == 4 || status == 5 || status == 6 || status == 7 || status == 9

-- a status that goes with a refusal, or with none
abbrev pub fits : ℕ → Option Refusal → Bool
fits status None = status == 0 || is_fault status
fits status (Some refusal) = status == status_of refusal

abbrev pub made_line : List ℕ
made_line = line (codes "made")

-- the line of a card, by its id
abbrev pub card_line : List ℕ → List ℕ
card_line id = line (codes "card " ++ encode_lower id)

-- what a person is told on standard error with a status
abbrev pub failure_of : ℕ → Option (List ℕ)
failure_of status =
    if status == 4 then Some (codes "the journal could not be read or written")
    else (if status == 5 then Some (codes "the mail folder could not be read or written")
    else (if status == 6 then Some (codes "no random bytes could be read")
    else (if status == 7 then Some (codes "the output could not be written")
    else (if status == 9 then Some (codes "memory ran out") else None))))
