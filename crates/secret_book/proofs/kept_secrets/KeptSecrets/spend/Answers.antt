use Rattle.std.proofs.Common.{◌∙◌, ap}
use Rattle.secret_book.specs.HeldBooks.{kept_by}
use Rattle.secret_book.proofs.AnswerTables.{finds-kept, updates-kept}
use Rattle.secret_book.proofs.kept_secrets.KeptSecrets.spend.Goals as goal

pub returns-clause-secret : goal.returns-clause-secret
returns-clause-secret c =
    c.remove.ensures.value ∙ finds-kept (record { of = c.args.of.now; place = c.args.place }) _
    ∙ ap (λ z. kept_by z c.args.of.now.0.0 c.args.place) c.self.view_is

pub returns-clause-spent : goal.returns-clause-spent
returns-clause-spent c =
    updates-kept c.self.inside.secrets c.remove.new.self _ c.self.view_is (record { of = c.args.of.now; place = c.args.place }) _ c.remove.ensures.updates
