-- What follows from what holds where a call succeeds.
use Rattle.std.specs.Prelude.{Result, Ok, Err, IfOk, OnErr}

pub ok-map : {T E : Type 0} {P Q : T → Type 0} (r : Result T E) → ((x : T) → P x → Q x) → IfOk r P → IfOk r Q
ok-map (Ok x) f h = f x h
ok-map (Err e) f h = h

pub err-map : {T E : Type 0} {P Q : Type 0} (r : Result T E) → (P → Q) → OnErr r P → OnErr r Q
err-map (Ok x) f h = h
err-map (Err e) f h = f h
