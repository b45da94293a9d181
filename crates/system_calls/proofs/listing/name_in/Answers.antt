use Rattle.std.proofs.Common.{◌≡◌, ◌≢◌, ◌∙◌, ◌++◌, ◌∷◌, List, ℕ, IsTrue, MatchOption, rules, sym, subst, ap}
use Rattle.std.proofs.lemmas.List.{append_cancel_left}
use Rattle.system_calls.specs.Stored.{is_name, path_in}
use Rattle.system_calls.proofs.listing.name_in.Goals as goal

pub returns-in_err-name : goal.returns-in_err-name
returns-in_err-name c =
    let split : c.args.path.now ≡ c.args.folder.now ++ c.in_ok-rest.rest.now = search rules in
    subst (λ found. MatchOption found ((name : List ℕ) → IsTrue (is_name name) → c.args.path.now ≢ path_in c.args.folder.now name) (λ name. IsTrue (is_name name.now) × c.args.path.now ≡ path_in c.args.folder.now name.now))
    (sym c.from_residual-in_err-name.ensures)
    (λ name is e. c.in_err-name.ensures name (append_cancel_left c.args.folder.now _ _ (sym split ∙ e)))

pub returns-else-may_stand : goal.returns-else-may_stand
returns-else-may_stand c = λ name is e.
    let split : c.args.path.now ≡ c.args.folder.now ++ c.in_ok-rest.rest.now = search rules in
    let here : 47 ∷ c.in_ok-name.name.now ≡ 47 ∷ name = sym c.in_ok-name.ensures ∙ append_cancel_left c.args.folder.now _ _ (sym split ∙ e) in
    let same : c.in_ok-name.name.now ≡ name = cc in
    let never = c.if-may_stand.ensures ∙ ap is_name same ∙ is in
    cc
