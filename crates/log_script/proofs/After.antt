-- Line after line: what a line leaves is behind what those before it left, on the tape and on the page. Assumes nothing.
use Prim.Native.Nat.{ℕ}
use mathlib.Core.Path.{◌≡◌, refl, sym, ap, subst, ◌∙◌}
use mathlib.Core.Bool.{Bool, true, false}
use mathlib.Core.List.{List, [], ◌∷◌, ◌++◌, append_assoc, append-nil}
use lib.Dec.{eqb}
use Rattle.text.specs.Text.{pick}
use Rattle.text.specs.Page.{Page, page, Writes}
use Rattle.text.proofs.Pages.{after}
use Rattle.link.specs.Tests as link
use Rattle.log_blocks.specs.declared.Tape.{Tape}
use Rattle.log_blocks.specs.declared.NotWritten.{NotWritten}
use Rattle.log_blocks.specs.declared.NotWritten.TheVariants.{Full, Ended, Refused}
use Rattle.std.specs.Prelude.{Result, Ok, Err}
use Rattle.log_blocks.specs.Record.{Rec, noted}
use Rattle.log_blocks.specs.Tapes.{appended, finished_to, recorder, note_by, log_of}
use Rattle.log_blocks.specs.Tapes as tapes
use Rattle.log_script.specs.declared.recorder.Recorder.{Recorder}
use Rattle.log_script.specs.Heard.{Heard}
use Rattle.log_script.specs.Notes.{Desk, desk, ends, note_on, kept_on, line_on, desk_of, text_of, Leaves}

-- ---- blocks that were finished before
module _ (done : List (List ℕ)) where
  abbrev behind : Desk → Desk
  behind d = desk d.box (recorder d.log.at d.log.block (done ++ d.log.done)) d.ended

  note-behind : (d : Desk) (x : Rec) → note_on (behind d) x ≡ behind (note_on d x)
  unfolding note_on
  note-behind d x = go (appended d.log.at d.log.block x)
    where
      by : Desk → Result Tape NotWritten → Desk
      by k a = desk k.box (note_by a k.log x (λ (l : tapes.Recorder). l)) (ends a)

      go : (a : Result Tape NotWritten) → by (behind d) a ≡ behind (by d a)
      go (Ok t) = refl
      go (Err Full) =
          let n = tapes.turned d.log x in
          ap (λ (l : List (List ℕ)). desk d.box (recorder n.at n.block l) false) (append_assoc done d.log.done (finished_to d.log.at d.log.block ∷ []))
      go (Err Ended) = refl
      go (Err Refused) = refl

  kept-behind : (xs : List Rec) (d : Desk) → kept_on (behind d) xs ≡ behind (kept_on d xs)
  kept-behind [] d = refl
  kept-behind (x ∷ xs) d = ap (λ (k : Desk). kept_on k xs) (go d.ended) ∙ kept-behind xs (pick d.ended d (note_on d (noted x)))
    where
      go : (e : Bool) → pick e (behind d) (note_on (behind d) (noted x)) ≡ behind (pick e d (note_on d (noted x)))
      go true = refl
      go false = note-behind d (noted x)

text-append : (xs ys : List (List ℕ)) → text_of (xs ++ ys) ≡ text_of xs ++ text_of ys
text-append [] ys = refl
text-append (x ∷ xs) ys = ap (λ (s : List ℕ). x ++ s) (text-append xs ys) ∙ sym (append_assoc x (text_of xs) (text_of ys))

module _ (d : Desk) (p : Page) (r : Recorder) (b out : List ℕ) (is : Leaves d p r b out) where
  abbrev done : List (List ℕ)
  done = d.log.done

  on-page : (ys : List (List ℕ)) (z : Page) → Writes (page out r.at) (text_of ys) z → Writes p (text_of (done ++ ys)) z
  on-page ys z w = subst (λ (s : List ℕ). Writes p s z) (sym (text-append done ys)) (after is.page_is w)

  -- one line more
  pub line_after : (h : Heard) (q : Recorder) (left last : List ℕ) → Leaves (line_on (desk_of r b) h) (page out r.at) q left last → Leaves (line_on d h) p q left last
  unfolding line_on
  line_after h q left last x = subst (λ (k : Desk). Leaves k p q left last) (sym whole)
      (record { box_is = x.box_is; tape_is = x.tape_is; ended_is = x.ended_is; block_is = x.block_is; page_is = on-page _ _ x.page_is })
    where
      made : Tape → List ℕ → List (List ℕ) → Bool → Desk
      made t c l e = kept_on (desk h.box (recorder t c l) e) h.kept

      whole : line_on d h ≡ behind done (line_on (desk_of r b) h)
      whole =
          ap (λ (l : List (List ℕ)). made d.log.at d.log.block l d.ended) (sym (append-nil done))
          ∙ ap (λ (t : Tape). made t d.log.block (done ++ []) d.ended) (sym is.tape_is)
          ∙ ap (λ (c : List ℕ). made r.tape c (done ++ []) d.ended) (sym is.block_is)
          ∙ ap (λ (e : Bool). made r.tape b (done ++ []) e) (sym is.ended_is)
          ∙ kept-behind done h.kept (desk h.box (recorder r.tape b []) r.ended)

  -- the end of the log
  pub close-after : (z : Page) → Writes (page out r.at) (text_of (log_of (desk_of r b).log)) z → Writes p (text_of (log_of d.log)) z
  unfolding log_of
  close-after z w = subst (λ (l : List (List ℕ)). Writes p (text_of l) z) (sym whole) (on-page _ z w)
    where
      go : (c : Bool) (x : List ℕ) → link.pick c done (done ++ (x ∷ [])) ≡ done ++ link.pick c [] (x ∷ [])
      go true x = sym (append-nil done)
      go false x = refl

      whole : log_of d.log ≡ done ++ log_of (desk_of r b).log
      whole =
          go (eqb d.log.at.used 0) (finished_to d.log.at d.log.block)
          ∙ ap (λ (t : Tape). done ++ link.pick (eqb t.used 0) [] (finished_to t d.log.block ∷ [])) (sym is.tape_is)
          ∙ ap (λ (c : List ℕ). done ++ link.pick (eqb r.tape.used 0) [] (finished_to r.tape c ∷ [])) (sym is.block_is)
