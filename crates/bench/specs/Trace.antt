-- The trace of a script (01, "Bench examples").
use Rattle.std.specs.Prelude.{List, ℕ}
use Rattle.script.specs.Replies.{Reply}
use Rattle.script.specs.Trace as script
use Rattle.bench.specs.declared.reply.Setup.{Setup}
use Rattle.bench.specs.Replies.{ground_bench}

-- a line's number, its answer and the end; and the box after it
abbrev pub numbered : ℕ → Setup → List ℕ → Reply Setup
numbered = script.numbered ground_bench

-- the trace of a whole script
abbrev pub trace_of : List ℕ → List ℕ
trace_of = script.trace_of ground_bench
