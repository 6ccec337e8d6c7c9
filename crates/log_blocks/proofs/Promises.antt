-- What L6 asks, for form one. Assumes nothing.
use Prim.Native.Nat.{ℕ, zero, suc, ◌+◌, ◌≤◌, ◌<◌}
use mathlib.Core.Path.{◌≡◌, sym, ap, ◌∙◌}
use mathlib.Core.List.{List, [], ◌∷◌}
use native.Mathlib.Omega.{arith}
use lib.ListN.{length, get_or, set, take, length-take}
use Rattle.refusals.specs.Refusals.{CHECK-WRONG}
use Rattle.octets.specs.Octets.{Octets}
use Rattle.octets.specs.laws.Runs.{octets-take}
use Rattle.log_blocks.specs.Block.{BLOCKS, block_of, judged}
use Rattle.log_blocks.specs.Log.{All, got, bad, joined, pack, unpack, held, read_block}
use Rattle.log_blocks.specs.Play.{Step, went, refused, play_log, calls, kept, recorded}
use Rattle.log_blocks.specs.Record.{Rec, Good, Call, noted, form_one}
use Rattle.log_blocks.specs.Tapes.{tape, recorder, note_all, log_of}
use Rattle.log_blocks.proofs.Packs.{unpack-pack, pack-bytes, block_back, held_all, held_fits, held_first, held-such}
use Rattle.log_blocks.proofs.Fewest.{pack-unpack}
use Rattle.log_blocks.proofs.Plays.{recorded-first, log-plays}
use Rattle.log_blocks.proofs.FormOne.{lawful-one}
use Rattle.log_blocks.proofs.Checks.{changed-reads}
use Rattle.log_blocks.proofs.Recorders.{recorder-packs}

-- (a) what is packed is read
pub packed-reads : (rs : List Rec) → All Good rs → length (pack form_one rs) ≤ BLOCKS → unpack form_one (pack form_one rs) ≡ got rs
packed-reads = unpack-pack form_one Good lawful-one

-- and is octets
pub packed-octets : (rs : List Rec) → All Good rs → length (pack form_one rs) ≤ BLOCKS → All Octets (pack form_one rs)
packed-octets rs g h = pack-bytes form_one Good lawful-one rs g (omega (arith, h))

-- (b) one octet changed is never good, whatever number is due
pub changed-refused : (n m : ℕ) (b : List ℕ) (k v : ℕ) → Octets b → judged 0 n b ≡ 0 → k < 512 → v < 256 → (v ≡ get_or b k 0 → ⊥)
    → read_block form_one m (set b k v) ≡ bad CHECK-WRONG
changed-refused = changed-reads form_one

-- (c) what reads well is, block by block, the block of its records; and packed anew it gives the same records
pub read-is-packed : (n : ℕ) (b : List ℕ) (rs : List Rec) → Octets b → read_block form_one n b ≡ got rs
    → All Good rs × (length (joined form_one rs) ≤ 504) × (b ≡ block_of (0 + n) (joined form_one rs))
read-is-packed = block_back form_one Good lawful-one

pub read-packs-back : (bs : List (List ℕ)) (rs : List Rec) → All Octets bs → unpack form_one bs ≡ got rs → unpack form_one (pack form_one rs) ≡ got rs
read-packs-back = pack-unpack form_one Good lawful-one

-- every log that append and finish leave reads, also one that has ended
pub recorder-reads : (rs : List Rec) (b : List ℕ) → length b ≡ 512 → All Good rs → unpack form_one (log_of (note_all (recorder (tape 0 0) b []) rs)) ≡ got (held form_one rs)
recorder-reads rs b h g = ap (unpack form_one) (recorder-packs rs b h g) ∙ packed-reads (held form_one rs) (held-such form_one Good rs g) (held_fits form_one rs)

-- ---- play, for any step function that answers a call and what is kept of it alike
good-noted : (r : Rec) → Call r → Good (noted r)
good-noted r c =
    record {
      kind = c.kind;
      seconds = c.seconds;
      short = omega (arith, length-take 129 r.octets);
      octets = octets-take 129 r.octets c.octets;
    }

module _ {S A : Type 0} (step : S → Rec → Step S A) (same : (s : S) (r : Rec) → step s (noted r) ≡ step s r) where
  good-recorded : (rs : List Rec) (s : S) → All Call rs → All Good (recorded step noted s rs)
  good-recorded [] s g = tt
  good-recorded (r ∷ rs) s g = go (step s r) (λ t. good-recorded rs t g.1)
    where
      go : (x : Step S A) → ((t : S) → All Good (recorded step noted t rs)) → All Good (kept step x (noted r) s (λ (t : S). recorded step noted t rs))
      go (went t a) f = (good-noted r g.0, f t)
      go refused f = f s

  pub log-plays-as-called : (rs : List Rec) (s : S) → All Call rs → length (pack form_one (recorded step noted s rs)) ≤ BLOCKS
      → play_log step form_one s (pack form_one (recorded step noted s rs)) ≡ got (calls step s rs)
  log-plays-as-called rs s g h = log-plays step form_one Good lawful-one noted same rs s (good-recorded rs s g) h

  -- the same of the blocks that append and finish leave in a lent block
  pub recorder-plays-as-called : (rs : List Rec) (s : S) (b : List ℕ) → length b ≡ 512 → All Call rs → length (pack form_one (recorded step noted s rs)) ≤ BLOCKS
      → play_log step form_one s (log_of (note_all (recorder (tape 0 0) b []) (recorded step noted s rs))) ≡ got (calls step s rs)
  recorder-plays-as-called rs s b h g l =
      let l' = recorded step noted s rs in
      ap (play_log step form_one s) (recorder-packs l' b h (good-recorded rs s g) ∙ ap (pack form_one) (held_all form_one l' l)) ∙ log-plays-as-called rs s g l

  all_take : (k : ℕ) (rs : List Rec) → All Call rs → All Call (take k rs)
  all_take zero rs g = tt
  all_take (suc k) [] g = tt
  all_take (suc k) (r ∷ rs) g = (g.0, all_take k rs g.1)

  -- and of a log that has ended: it plays as the first calls did
  pub recorder-plays-first : (rs : List Rec) (s : S) (b : List ℕ) → length b ≡ 512 → All Call rs
      → (k : ℕ) × (play_log step form_one s (log_of (note_all (recorder (tape 0 0) b []) (recorded step noted s rs))) ≡ got (calls step s (take k rs)))
  recorder-plays-first rs s b h g =
      let l = recorded step noted s rs in
      let f = held_first form_one l in
      let x = recorded-first step noted rs (held form_one l) f.0 s f.1 in
      let k = x.0 in
      let few : length (pack form_one (recorded step noted s (take k rs))) ≤ BLOCKS = rw x.1 (held_fits form_one l) in
      (k, ap (play_log step form_one s) (recorder-packs l b h (good-recorded rs s g) ∙ ap (pack form_one) (sym x.1)) ∙ log-plays-as-called (take k rs) s (all_take k rs g) few)
