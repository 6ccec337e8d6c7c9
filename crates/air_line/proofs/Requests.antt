-- What the code's answer about a request says, as a law. Assumes nothing.
use mathlib.Core.Path.{◌≡◌, refl}
use mathlib.Core.List.{List}
use Prim.Native.Nat.{ℕ}
use Rattle.per.specs.Pdu.{Answer, got, refused}
use Rattle.pdu.specs.declared.downlink.AirPdu.{AirPdu}
use Rattle.air_line.specs.Lines.{parsed_with, request_in, request_line}

pub request-heard : (x : Answer AirPdu) (o : List ℕ) → parsed_with (request_line x).call (request_line x).list o ≡ request_in x
unfolding parsed_with request_line request_in
request-heard (got a) o = refl
request-heard (refused n) o = refl
