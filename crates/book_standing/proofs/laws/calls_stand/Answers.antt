use Rattle.std.proofs.Common.{subst}
use Rattle.book_standing.specs.Standing.{CallsStand}
use Rattle.book_standing.proofs.Calls as calls
use Rattle.book_standing.proofs.laws.calls_stand.Goals as goal

pub returns : goal.returns
returns g c = λ O ids p b state h within.
    let kem = g.K.Kem in
    let Places = c.places_serve.ensures.calls in
    let Serves = c.a_book_serves_places.ensures in
    let Opened = c.a_state_serves_a_pairing.ensures.opened in
    subst (CallsStand kem O ids p b) h.is (record {
      ratchet = calls.at_own kem O ids p b state h within Places Serves b.ratchet;
      chain = calls.at_own kem O ids p b state h within Places Serves b.chain;
      kept = λ i. calls.at_own kem O ids p b state h within Places Serves (b.kept i);
      hands = calls.hands kem O ids p b state h within Places Serves;
      steps = calls.steps kem O ids p b state h within Places Serves;
      gives = calls.gives kem O ids p b state h within Places Serves;
      chains = calls.chains kem O ids p b state h within Places Serves;
      keys = calls.keys kem O ids p b state h within Places Serves;
      keeps = calls.keeps kem O ids p b state h within Places Serves;
      spends = calls.spends kem O ids p b state h within Places Serves;
      opens = calls.opens kem O ids p b state h within Places Serves Opened c.pairings_stand.ensures.opens c.pairings_stand.ensures.refused;
      payload = calls.payload kem O ids p b state h within Places Serves Opened;
      sends = calls.sends kem O ids p b state h within Places Serves c.pairings_stand.ensures.sends;
      part = calls.part kem O ids p b state h within Places Serves c.a_state_serves_a_pairing.ensures.next;
    })
