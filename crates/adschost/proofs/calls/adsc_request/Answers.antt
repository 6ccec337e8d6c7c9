use Rattle.adschost.proofs.calls.adsc_request.Goals as goal

pub returns : goal.returns
returns c = rw (← c.ground_at.ensures) c.step.ensures
