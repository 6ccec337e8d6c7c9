use mathlib.Core.Path.{◌∙◌}
use lib.ListN.{length}
use Rattle.script.specs.Fields.{held_in}
use Rattle.script.specs.Lines.{call_of}
use Rattle.script.proofs.Heard.{heard-makes}
use Rattle.air_line.specs.Lines.{parsed_with, parsed_in, air_script}
use Rattle.air_line.proofs.line.parse_line.Goals as goal

pub returns-in-Octets : goal.returns-in-Octets
unfolding held_in call_of
returns-in-Octets c = let k = c.read_line-heard in
    let is = heard-makes air_script (length c.args.octets.now) c.args.line.now k.new.octets k.result k.ensures in
    c.octets_call.ensures ∙ (rw c.in-Octets.is at is)

pub returns-in-Number : goal.returns-in-Number
unfolding held_in call_of
returns-in-Number c = let k = c.read_line-heard in
    let is = heard-makes air_script (length c.args.octets.now) c.args.line.now k.new.octets k.result k.ensures in
    c.number_call.ensures _ ∙ (rw c.in-Number.is at is)

pub returns-in-Unread : goal.returns-in-Unread
unfolding held_in call_of parsed_in parsed_with
returns-in-Unread c = let k = c.read_line-heard in
    let is = heard-makes air_script (length c.args.octets.now) c.args.line.now k.new.octets k.result k.ensures in
    rw c.bare.ensures (rw c.in-Unread.is at is)
