use Rattle.pdu.proofs.answer.Goals as goal

pub returns-in-Some : goal.returns-in-Some
returns-in-Some g c = rw c.in-Some.is

pub returns-in-None : goal.returns-in-None
returns-in-None g c = rw c.in-None.is
