-- What holds in any case holds where a result is an `Ok`, and where it is an `Err`. Assumes nothing.
use Rattle.std.specs.Prelude.{OnOk, OnErr, Ok, Err, Result}

pub on_ok : {T E P : Type 0} (r : Result T E) → P → OnOk r P
on_ok (Ok x) p = p
on_ok (Err e) p = tt

pub on_err : {T E P : Type 0} (r : Result T E) → P → OnErr r P
on_err (Ok x) p = tt
on_err (Err e) p = p
