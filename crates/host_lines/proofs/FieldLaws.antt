-- The fields of a line. Assumes nothing.
use mathlib.Core.Path.{◌≡◌, refl, ap, ◌∙◌}
use mathlib.Core.Bool.{Bool, true, false}
use mathlib.Core.List.{List, [], ◌∷◌}
use Prim.Native.Nat.{ℕ, suc, ◌+◌, ◌-◌, ◌/◌, ◌≤◌}
use native.Mathlib.Omega.{arith}
use borrow.Author.Tests.{leb-true, eq-eqb, ne_eqb}
use lib.Dec.{leb}
use lib.ListN.{length, get_or, take, drop}
use Rattle.text.specs.Text.{pick, hex_good, hex_of, hex_into, octets_of, word_end, HexRead}
use Rattle.std.specs.Prelude.{Result, Ok, Err}
use Rattle.text.specs.declared.HexFault.{HexFault}
use Rattle.text.specs.declared.HexFault.TheVariants.{Long, Garbled}
use Rattle.text.proofs.Laws.{part-all}
use Rattle.text.proofs.Trip.{read-front}
use Rattle.host_lines.specs.declared.fields.Field.{Field}
use Rattle.host_lines.specs.declared.fields.Numbers.{Numbers}
use Rattle.host_lines.specs.declared.fields.Asked.{Asked}
use Rattle.host_lines.specs.Fields.{unheld, held_of, hex_step, no_field, held_by, held_in, Holds, Ask, unread, numbers_in, numbers_asked, field_then, asked, unasked, asked_in, Asks}

-- ---- one field
-- what was read into a buffer
read-in : (s o : List ℕ) (used : ℕ) → held_in (held_by (hex_of (length o) s) used) (hex_into o s) ≡ held_of (length o) s used
unfolding held_by held_of hex_of
read-in s o used = go (hex_good s) (leb (length s / 2) (length o)) refl refl
  where
    go : (b f : Bool) → hex_good s ≡ b → leb (length s / 2) (length o) ≡ f
        → held_in (held_by (hex_of (length o) s) used) (hex_into o s) ≡ pick b (pick f (record { good = true; octets = octets_of s; used = used }) unheld) unheld
    go true true g l = rw (g, l) (ap (λ (x : List ℕ). record { good = true; octets = x; used = used }) (read-front o s g (leb-true _ _ l)))
    go true false g l = rw (g, l)
    go false f g l = rw g

read_fits : (s : List ℕ) (room used : ℕ) → (held_by (hex_of room s) used).count ≤ room
unfolding held_by hex_of
read_fits s room used = go (hex_good s) (leb (length s / 2) room) refl
  where
    go : (b f : Bool) → leb (length s / 2) room ≡ f → (held_by (pick b (pick f (Ok (length s / 2)) (Err Long)) (Err Garbled)) used).count ≤ room
    go true true l = leb-true _ _ l
    go true false l = omega arith
    go false f l = omega arith

read-used : (h : Result ℕ HexFault) (used : ℕ) → (held_by h used).used ≤ used
unfolding held_by
read-used (Ok n) used = omega arith
read-used (Err e) used = omega arith

pub hold-none : (room : ℕ) (s o : List ℕ) → length s ≡ 0 → Holds room s no_field o
unfolding hex_step
hold-none room [] o h = record { is = refl; within = omega arith; fits = omega arith }
hold-none room (c ∷ cs) o h = absurd (omega arith)

pub hold-bad : (room : ℕ) (s o : List ℕ) → (length s ≡ 0 → ⊥) → (get_or s 0 0 ≡ 32 → ⊥) → Holds room s no_field o
unfolding hex_step
hold-bad room [] o h n = absurd (h refl)
hold-bad room (c ∷ cs) o h n = record { is = rw (ne_eqb c 32 n); within = omega arith; fits = omega arith }

pub hold-good : (s o after : List ℕ) (e : ℕ) (h : Result ℕ HexFault) (r : Field) → (length s ≡ 0 → ⊥) → get_or s 0 0 ≡ 32 → e ≡ word_end (take (length s - 1) (drop 1 s)) → e + 1 ≤ length s
    → HexRead o (take (e + 1 - 1) (drop 1 s)) h after → r ≡ held_by h (e + 1) → Holds (length o) s r after
unfolding hex_step
hold-good [] o after e h r some sp ends inside x is = absurd (some refl)
hold-good (c ∷ cs) o after e h r some sp ends inside x is =
    let w : e ≡ word_end cs = ends ∙ ap word_end (part-all (c ∷ cs) 1 (suc (length cs)) refl) in
    let k : e + 1 - 1 ≡ e = omega arith in
    record {
      is = rw (eq-eqb c 32 sp, is, x.found_is, x.buffer_is, k, ← w) (read-in (take e cs) o (e + 1));
      within = rw is (omega (arith, read-used h (e + 1)));
      fits = rw (is, x.found_is) (read_fits _ _ _);
    }

-- ---- a whole line
module _ (s : List ℕ) (x : Field) (p : List ℕ) (m : ℕ) (whole : m ≡ 520) (h : Holds m s x p) where
  here : held_in x p ≡ hex_step 520 s
  here = rw (← whole) h.is

  field-there : (f : List ℕ → List ℕ → Ask) (t : List ℕ) → x.good ≡ true → t ≡ drop x.used s → f (take x.count p) t ≡ field_then f s
  unfolding field_then
  field-there f t g e = rw (← here, g, e)

  field-none : (f : List ℕ → List ℕ → Ask) → x.good ≡ false → unread ≡ field_then f s
  unfolding field_then
  field-none f g = rw (← here, g)

module _ (s : List ℕ) (x : Field) (p : List ℕ) (m : ℕ) (mm : m ≡ 520) (X : Holds m s x p) where
  pub asked-no-link : x.good ≡ false → unread ≡ asked s
  unfolding asked
  asked-no-link g = field-none s x p m mm X _ g

  module _ (gx : x.good ≡ true) (t : List ℕ) (pt : t ≡ drop x.used s) (y : Field) (q : List ℕ) (n : ℕ) (nn : n ≡ 520) (Y : Holds n t y q) where
    pub asked-no-octets : y.good ≡ false → unread ≡ asked s
    unfolding asked
    asked-no-octets g = field-none t y q n nn Y _ g ∙ field-there s x p m mm X _ t gx pt

    module _ (gy : y.good ≡ true) (u : List ℕ) (pu : u ≡ drop y.used t) (z : Field) (o : List ℕ) (k : ℕ) (kk : k ≡ 520) (Z : Holds k u z o) where
      pub asked-no-out : z.good ≡ false → unread ≡ asked s
      unfolding asked
      asked-no-out g = field-none u z o k kk Z _ g ∙ field-there t y q n nn Y _ u gy pu ∙ field-there s x p m mm X _ t gx pt

      pub asked-all : z.good ≡ true → (v : List ℕ) → v ≡ drop z.used u → (f : Numbers) → f ≡ numbers_in v
          → numbers_asked (take x.count p) (take y.count q) (take z.count o) f ≡ asked s
      unfolding asked
      asked-all gz v pv f is = rw is (field-there u z o k kk Z _ v gz pv ∙ field-there t y q n nn Y _ u gy pu ∙ field-there s x p m mm X _ t gx pt)

pub asks_nothing : {s : List ℕ} {r : Asked} {p q o : List ℕ} → r ≡ unasked → unread ≡ asked s → Asks s r p q o
unfolding asked_in numbers_asked
asks_nothing e u = rw e (record { is = u; link_fits = omega arith; octets_fits = omega arith; out_fits = omega arith; numbers_fit = omega arith })
