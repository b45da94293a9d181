use Rattle.secret_book.proofs.PlaceTables.{after-meet, unmet}
use Rattle.secret_book.proofs.book.Book.meet.Goals as goal

pub returns-clause-met : goal.returns-clause-met
returns-clause-met g c = after-meet _ _ c.self.view_is _ _ _ _ _ c.in_ok-reserve.ensures.items c.push_reserved.ensures.items
    c.new.ensures c.in_ok-pairing.ensures

pub returns-in_err-reserve-clause-unmet : goal.returns-in_err-reserve-clause-unmet
returns-in_err-reserve-clause-unmet g c = unmet _ _ c.self.view_is _ c.requires.next c.self.invariant

pub returns-in_err-pairing-clause-unmet : goal.returns-in_err-pairing-clause-unmet
returns-in_err-pairing-clause-unmet g c = unmet _ _ c.self.view_is _ c.requires.next c.self.invariant

pub returns-clause-unmet : goal.returns-clause-unmet
returns-clause-unmet g c = unmet _ _ c.self.view_is _ c.requires.next c.self.invariant
