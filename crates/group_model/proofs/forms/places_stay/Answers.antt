use Rattle.group_model.specs.Sets.{In}
use Rattle.group_model.proofs.forms.places_stay.Goals as goal
use Rattle.group_model.proofs.RemoveWins.{ids_named-Named, Named-ids_named, ids_named-distinct}
use Rattle.group_model.proofs.Places.{in-place, place-one, place-distinct, place-stays, crowd-one}

pub returns-clause-named : goal.returns-clause-named
returns-clause-named c = λ h x. (ids_named-Named h x, Named-ids_named h x)

pub returns-clause-distinct : goal.returns-clause-distinct
returns-clause-distinct c = ids_named-distinct

pub returns-clause-there_is : goal.returns-clause-there_is
returns-clause-there_is c = in-place

pub returns-clause-one_place : goal.returns-clause-one_place
returns-clause-one_place c = λ ids x p q g e d. place-distinct ids g p q x e d

pub returns-clause-one_id : goal.returns-clause-one_id
returns-clause-one_id c = λ ids x y p e d. place-one ids p x y e d

pub returns-clause-stays : goal.returns-clause-stays
returns-clause-stays c = λ h m x p e. place-stays m h p x e

pub returns-clause-one_crowd : goal.returns-clause-one_crowd
returns-clause-one_crowd c = λ ids members a b p k l. crowd-one ids (λ x. In x members) a b k l p
