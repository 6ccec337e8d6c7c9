-- Demand 2, of messages, from the theorems of `pdu`. Assumes nothing.
use Rattle.pdu.proofs.Promises.{air-written, air-read, ground-written, ground-read}
use Rattle.promises.proofs.Readings.{ground-refuses}
use Rattle.promises.specs.Messages.{GroundWays, Messages}

ground-ways : GroundWays
ground-ways = record {
  written = ground-written;
  accepted = λ s g o h. let r = ground-read s g o h in (r.0, r.1, λ d. rw d at r.2);
  omitted = λ s g o h d. rw d at (ground-read s g o h).2;
  refuses = ground-refuses;
}

pub messages : Messages
messages = record { air = record { written = air-written; accepted = air-read }; ground = ground-ways }
