-- The grammar of the words, and what a command line stands for.
use Rattle.std.specs.Prelude.{ℕ, ◌+◌, ◌-◌, ◌*◌, ◌==◌, ◌&&◌, Bool, false, nat_eq, nat_le, if◌then◌else◌, List, [], ◌∷◌}
use Rattle.std.specs.Prelude.{length, Option, Some, None, codes}
use Rattle.std.specs.Cmp.Lexicographic.{pointwise}
use Rattle.std.specs.Option.{option_and_then, option_map}
use Rattle.mailbox_cli.specs.declared.command.Command.{Command}
use Rattle.mailbox_cli.specs.declared.command.Command.TheVariants.{Init, Card}

abbrev pub is_word : List ℕ → List ℕ → Bool
is_word word other = pointwise nat_eq word other

-- a word of two or more bytes that begins with a hyphen
abbrev pub is_option : List ℕ → Bool
is_option [] = false
is_option (first ∷ []) = false
is_option (first ∷ second ∷ rest) = first == 45

-- The values behind the first word: the first `--` among them is dropped, and all behind it are values. Before it a
-- word that looks like an option is refused.
abbrev pub values_of : List (List ℕ) → Option (List (List ℕ))
values_of [] = Some []
values_of (word ∷ words) =
    if is_word word (codes "--")
    then Some words
    else (if is_option word then None else option_map (λ values. word ∷ values) (values_of words))

-- the value of a lower-case hexadecimal digit
abbrev pub digit_of : ℕ → Option ℕ
digit_of c =
    if nat_le 48 c && nat_le c 57
    then Some (c - 48)
    else (if nat_le 97 c && nat_le c 102 then Some (c - 87) else None)

-- the byte that two digits spell, the high one first
abbrev pub byte_of : ℕ → ℕ → Option ℕ
byte_of high low = option_and_then (λ first. option_map (λ second. 16 * first + second) (digit_of low)) (digit_of high)

-- the bytes that pairs of digits spell
abbrev pub bytes_of_digits : List ℕ → Option (List ℕ)
bytes_of_digits [] = Some []
bytes_of_digits (high ∷ []) = None
bytes_of_digits (high ∷ low ∷ rest) =
    option_and_then (λ byte. option_map (λ bytes. byte ∷ bytes) (bytes_of_digits rest)) (byte_of high low)

-- the 32 bytes that 64 digits spell
abbrev pub id_of : List ℕ → Option (List ℕ)
id_of word = if length word == 64 then bytes_of_digits word else None

-- `init` without a value names nobody as the inviter, and with one the member of that id
abbrev pub init_of : List (List ℕ) → Option Command
init_of [] = Some (Init None)
init_of (id ∷ []) = option_map (λ bytes. Init (Some (record { 0 = record { 0 = bytes } }))) (id_of id)
init_of (first ∷ second ∷ rest) = None

-- a command that takes no value
abbrev pub without_values : Command → List (List ℕ) → Option Command
without_values command [] = Some command
without_values command (value ∷ values) = None

-- the command of a first word, with the values behind it
abbrev pub command_with : List ℕ → List (List ℕ) → Option Command
command_with word values =
    if is_word word (codes "init")
    then init_of values
    else (if is_word word (codes "card") then without_values Card values else None)

abbrev pub command_of : List (List ℕ) → Option Command
command_of [] = None
command_of (word ∷ words) = option_and_then (command_with word) (values_of words)

-- The words of the program, its name in front: the path of the journal, that of the mail folder, and the words of the
-- command. Fewer than two words behind the name are none of these.
abbrev pub journal_in : List (List ℕ) → List ℕ
journal_in (name ∷ journal ∷ mail ∷ command) = journal
journal_in words = []

abbrev pub mail_in : List (List ℕ) → List ℕ
mail_in (name ∷ journal ∷ mail ∷ command) = mail
mail_in words = []

abbrev pub command_in : List (List ℕ) → List (List ℕ)
command_in (name ∷ journal ∷ mail ∷ command) = command
command_in words = []
