use Rattle.std.proofs.Common.{◌≡◌, ℕ, true, List, [], ◌∷◌, length, nat_eq, refl, arith}
use Rattle.std.proofs.lemmas.Bool.Decides.{nat_tests}
use Rattle.group_messages.specs.Messages.{message_of}
use Rattle.causal_history.specs.Rows.{Row}
use Rattle.next_messages.proofs.Addressed.{stands-well}
use Rattle.member_answers.proofs.tests.stands_well.Goals as goal

-- no rows are counted where there are none
empty : (rows : List Row) (count : ℕ) → count ≡ length rows → nat_eq count 0 ≡ true → rows ≡ []
empty [] count e d = refl
empty (row ∷ rows) count e d = let none : count ≡ 0 = grind (arith, nat_tests) in absurd (omega (arith, e, none))

pub returns-in-Create : goal.returns-in-Create
returns-in-Create c = λ none.
    let header = c.args.operation.now in
    stands-well c.args.history.now (message_of header) header.kind header.target
    (λ k. empty c.args.history.now c.count-first.result c.count-first.ensures.count none)
