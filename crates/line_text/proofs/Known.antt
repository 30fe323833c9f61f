-- What is known by its number or its name.
use Rattle.std.proofs.Common.{◌≡◌, Some, None, Option, refl}
use Rattle.std.specs.Option.{ok_or}
use Rattle.std.specs.Result.{result_ok}

pub known : {A E : Type 0} (o : Option A) (e : E) → result_ok (ok_or o e) ≡ o
known None e = refl
known (Some a) e = refl
