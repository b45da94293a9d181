use Rattle.std.proofs.Common.{◌∙◌, ap, option_map}
use Rattle.secret_book.proofs.PlaceTables.{reads-pairing}
use Rattle.secret_book.proofs.book.Book.sends.Goals as goal

pub returns : goal.returns
returns g c = c.sends.ensures ∙ ap (option_map (λ k. k.sends)) (reads-pairing _ _ c.self.view_is _ _ c.requires c.index.ensures)
