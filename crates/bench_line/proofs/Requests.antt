-- What the code's answer about a request says, as a law. Assumes nothing.
use mathlib.Core.Path.{◌≡◌, refl}
use mathlib.Core.List.{List}
use Prim.Native.Nat.{ℕ}
use Rattle.per.specs.Pdu.{Answer, got, refused}
use Rattle.pdu.specs.declared.uplink.Ground.{Ground}
use Rattle.bench_line.specs.Lines.{parsed_in, request_in, request_call}

pub request-heard : (x : Answer Ground) (o : List ℕ) → parsed_in (request_call x) o ≡ request_in x
unfolding parsed_in request_call request_in
request-heard (got g) o = refl
request-heard (refused n) o = refl
