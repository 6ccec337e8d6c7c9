use Rattle.pdu_words.specs.Names.{vocabulary, lists, list_at}
use Rattle.pdu_words.specs.AirRows.{air_rows, air_words}
use Rattle.pdu_words.specs.CodeRows.{way_of, entries_of, guard_of, row_of}
use Rattle.pdu_words.proofs.air.put_air.Goals as goal

pub returns : goal.returns
unfolding air_words air_rows row_of guard_of way_of entries_of vocabulary lists list_at
returns c = c.put_rows.ensures
