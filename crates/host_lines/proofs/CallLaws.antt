-- Calls by their words. Assumes nothing.
use mathlib.Core.Path.{◌≡◌, refl}
use mathlib.Core.List.{List, [], ◌∷◌}
use Prim.Native.Nat.{ℕ}
use Rattle.text.specs.Words.{found_from}
use Rattle.per.specs.Writing.{Delivered}
use Rattle.adschost.specs.Flatness.{WritesFlat}
use Rattle.host_record.specs.Hosting.{Done, Hosts, Opening, Makes}
use Rattle.host_log.specs.Recording.{Kept, Keeps}
use Rattle.host_lines.specs.declared.call.Called.{Called}
use Rattle.host_lines.specs.Calls.{host_words, word_of, written, on_link, opens, on_block, Does}

-- the table of words has none in front
pub host-word : (w : List ℕ) → found_from 0 w ([] ∷ host_words) ≡ word_of w
unfolding word_of
host-word [] = refl
host-word (x ∷ w) = refl

pub wrote_so : {d : Delivered} {r : Called} {out : List ℕ} (link : List ℕ) → WritesFlat d 999 r.number out r.length → Does (written link d) r link out
unfolding written
wrote_so link w = record { number_is = w.number_is; length_is = w.length_is; link_is = refl; out_is = w.octets_are }

pub linked-so : {d : Done} {n : ℕ} {link out : List ℕ} → Hosts d n link out → Does (on_link d) (record { number = n; length = 999 }) link out
unfolding on_link
linked-so h = record { number_is = h.number_is; length_is = refl; link_is = h.link_is; out_is = h.answer_is }

pub opens-so : {o : Opening} {n : ℕ} {link : List ℕ} (out : List ℕ) → Makes o n link → Hosts (opens o out) n link out
opens-so out m = record { number_is = m.number_is; link_is = m.link_is; answer_is = refl }

pub kept-so : {k : Kept} {n : ℕ} {link : List ℕ} (out : List ℕ) → Keeps k n link → Hosts (on_block k out) n link out
kept-so out m = record { number_is = m.number_is; link_is = m.block_is; answer_is = refl }
