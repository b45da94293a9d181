use Rattle.std.proofs.lemmas.Result.{on_ok_weaker}
use Rattle.welcome_history.proofs.HandedOn.{welcome_appended}
use Rattle.welcome_history.proofs.writing.append_welcome.Goals as goal

pub returns : goal.returns
returns g c =
    on_ok_weaker c.append_rows.result
    (λ rows. welcome_appended g.K.Kem.SET c.args.history.now c.args.into.now.items c.append_cards.new.into.items c.append_rows.new.into.items
    c.in_ok-append_cards.ensures rows)
    c.append_rows.ensures
