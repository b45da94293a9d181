-- How the reading of words goes on.
use Rattle.std.proofs.Common.{◌≡◌, ℕ, ◌+◌, ◌*◌, ◌<◌, ◌≤◌, ◌==◌, true, List, [], ◌∷◌, ◌++◌, length, take, drop, get_or, set, Option, Some, None, refl, sym, ◌∙◌, ap, arith, append_assoc}
use Rattle.std.proofs.lemmas.Bool.Decides.{nat_tests}
use Rattle.std.proofs.lemmas.List.{drop_more, take_more_set, take_all, drop_all, append-nil}
use Rattle.std.specs.Option.{option_and_then, option_map}
use Rattle.mailbox_cli.specs.Words.{init_of, id_of, byte_of, bytes_of_digits, without_values}
use Rattle.mailbox_cli.specs.declared.command.Command.{Command}

-- what was read, in front of what the rest stands for
abbrev pub in_front : {A : Type 0} → List A → Option (List A) → Option (List A)
in_front front None = None
in_front front (Some rest) = Some (front ++ rest)

in_front-push : {A : Type 0} (front : List A) (x : A) (rest : Option (List A)) → in_front front (option_map (λ xs. x ∷ xs) rest) ≡ in_front (front ++ x ∷ []) rest
in_front-push front x None = refl
in_front-push front x (Some xs) = ap Some (sym (append_assoc front (x ∷ []) xs))

-- the digits at twice an index
pub two_more : (word : List ℕ) (i : ℕ) → 2 * i + 1 < length word → drop (2 * i) word ≡ get_or word (2 * i) 0 ∷ get_or word (2 * i + 1) 0 ∷ drop (2 * (i + 1)) word
two_more word i within =
    drop_more word (2 * i) 0 (omega arith)
    ∙ ap (λ (l : List ℕ). get_or word (2 * i) 0 ∷ l) (drop_more word (2 * i + 1) 0 within ∙ ap (λ (k : ℕ). get_or word (2 * i + 1) 0 ∷ drop k word) (omega arith))

pub id_more : (word id : List ℕ) (i b : ℕ) → 2 * i + 1 < length word → i < length id → byte_of (get_or word (2 * i) 0) (get_or word (2 * i + 1) 0) ≡ Some b
    → bytes_of_digits word ≡ in_front (take i id) (bytes_of_digits (drop (2 * i) word)) → bytes_of_digits word ≡ in_front (take (i + 1) (set id i b)) (bytes_of_digits (drop (2 * (i + 1)) word))
id_more word id i b within room is so_far =
    so_far ∙ ap (λ (l : List ℕ). in_front (take i id) (bytes_of_digits l)) (two_more word i within)
    ∙ ap (λ (o : Option ℕ). in_front (take i id) (option_and_then (λ byte. option_map (λ bytes. byte ∷ bytes) (bytes_of_digits (drop (2 * (i + 1)) word))) o)) is
    ∙ in_front-push (take i id) b (bytes_of_digits (drop (2 * (i + 1)) word))
    ∙ ap (λ (l : List ℕ). in_front l (bytes_of_digits (drop (2 * (i + 1)) word))) (sym (take_more_set id i b room))

pub id_done : (word id : List ℕ) → length word ≡ 64 → length id ≡ 32 → bytes_of_digits word ≡ in_front (take 32 id) (bytes_of_digits (drop (2 * 32) word)) → bytes_of_digits word ≡ Some id
id_done word id size room all =
    all ∙ ap (λ (l : List ℕ). in_front (take 32 id) (bytes_of_digits l)) (drop_all 64 word (omega (arith, size)))
    ∙ ap Some (append-nil (take 32 id) ∙ take_all 32 id (omega (arith, room)))

pub in_front-nothing : {A : Type 0} (rest : Option (List A)) → rest ≡ in_front [] rest
in_front-nothing None = refl
in_front-nothing (Some xs) = refl

-- two values and more
pub init_many : (values : List (List ℕ)) → 2 ≤ length values → init_of values ≡ None
init_many [] many = absurd (omega arith)
init_many (first ∷ []) many = absurd (omega arith)
init_many (first ∷ second ∷ rest) many = refl

pub id_of_digits : (word : List ℕ) → length word ≡ 64 → id_of word ≡ bytes_of_digits word
id_of_digits word size =
    let test : (length word == 64) ≡ true = grind (arith, nat_tests) in
    rw test refl

-- a value where none is taken
pub without_some : (command : Command) (values : List (List ℕ)) → 1 ≤ length values → without_values command values ≡ None
without_some command [] some = absurd (omega arith)
without_some command (value ∷ rest) some = refl
