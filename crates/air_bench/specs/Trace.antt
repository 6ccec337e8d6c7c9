-- The trace of an air script (F75: "first line `adsc air trace 1`, last `end N`").
use Rattle.std.specs.Prelude.{List, ℕ}
use Rattle.script.specs.Replies.{Reply}
use Rattle.script.specs.Trace as script
use Rattle.air_bench.specs.declared.reply.Setup.{Setup}
use Rattle.air_bench.specs.Replies.{air_bench}

-- a line's number, its answer and the end; and the box after it
abbrev pub numbered : ℕ → Setup → List ℕ → Reply Setup
numbered = script.numbered air_bench

-- the trace of a whole script
abbrev pub trace_of : List ℕ → List ℕ
trace_of = script.trace_of air_bench
