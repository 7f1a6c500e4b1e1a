-- From what an operation always gives to what the trait says of it.
use Rattle.std.proofs.Common.{Result, Ok, Err, IfOk}
use Rattle.std.specs.Prelude.{IsOkAnd}

pub from_ok : {T E : Type 0} (r : Result T E) (P Q : T → Type 0) → ((x : T) → P x → Q x) → IsOkAnd r P → IfOk r Q
from_ok (Ok x) P Q f h = f x h
from_ok (Err e) P Q f h = absurd h

pub both_ok : {T E : Type 0} (r : Result T E) (P Q : T → Type 0) → IsOkAnd r P → IsOkAnd r Q → IsOkAnd r (λ x. P x × Q x)
both_ok (Ok x) P Q p q = (p, q)
both_ok (Err e) P Q p q = absurd p
