-- What reading and writing refuse by: 0, or the number of a refusal. A law for each combinator; `search names` finds those of most codecs. Assumes nothing.
use Prim.Native.Nat.{ℕ, zero, suc, ◌*◌}
use mathlib.Core.Path.{◌≡◌, refl, sym, ap, ◌∙◌}
use mathlib.Core.Bool.{Bool, true, false, cond}
use mathlib.Core.List.{List}
use lib.Dec.{eqb}
use Rattle.std.specs.Prelude.{Option, Some, None, ℤ, pos, negsuc}
use Rattle.refusals.specs.declared.Refusal.{Refusal}
use Rattle.refusals.specs.declared.Refusal.TheVariants as why
use Rattle.refusals.specs.Refusals.{number, number_or_none, Found, Named}
use Rattle.refusals.proofs.Numbers.{found-named}
use Rattle.per.specs.declared.cursor.Cursor.{Cursor}
use Rattle.per.specs.declared.pen.Pen.{Pen}
use Rattle.per.specs.Codec.{Codec, Out, first, unless}
use Rattle.per.specs.Field.{Field, settle, raised_chk}
use Rattle.per.specs.Shapes.{Other}
use Rattle.per.specs.Formats.{field, num_field, run_field, flag_field, extension_field, signed_field, count_field, dep, via, recast, only, absent, when, mask_bad}
use Rattle.per.specs.Formats.{Alt, alt_codec, never_codec, choice, vec, list16}
use Rattle.per.specs.Pdu.{window, start, finish, answer, read_pdu}
use Rattle.per.specs.Reading.{Reads}
use Rattle.per.specs.Writing.{Writes, ink}
use Rattle.per.proofs.Ends.{pdu-is}

-- a codec reads and writes with named refusals alone
pub record Refuses {A : Type 0} (c : Codec A) : Type 0 where
  pub read : (bs : List Bool) (j : Cursor) → Named j.refusal → Named (c.run bs j).next.refusal
  pub write : (a : A) → Named (c.chk a)

-- ---- numbers
pub named-0 : Named 0
named-0 = record { who = None; is = refl }

pub named : (r : Refusal) → Named (number r)
named r = record { who = Some r; is = refl }

pub named_first : (a b : ℕ) → Named a → Named b → Named (first a b)
named_first zero b p q = q
named_first (suc a) b p q = p

pub named_unless : (b : Bool) (n : ℕ) → Named n → Named (unless b n)
named_unless true n p = named-0
named_unless false n p = p

named_pick : {A : Type 0} (b : Bool) (x y : Out A) → Named x.next.refusal → Named y.next.refusal → Named (cond b x y).next.refusal
named_pick true x y p q = p
named_pick false x y p q = q

named_settle : {A : Type 0} (n : ℕ) (a z : A) (at to : ℕ) → Named n → Named (settle n a z at to).next.refusal
named_settle zero a z at to p = named-0
named_settle (suc n) a z at to p = p

named_raised : (k hi : ℕ) (z : ℤ) → Named (raised_chk k hi z)
named_raised k hi (pos n) = named_unless _ _ (named why.OutOfRange)
named_raised k hi (negsuc n) = named_unless _ _ (named why.OutOfRange)

pub named-mask : (carried : ℕ) (need : Bool) (v : ℕ) → Named (mask_bad carried need v)
named-mask carried need v = named_first _ _ (named_unless _ _ (named why.NotCarried)) (named_unless _ _ (named why.NoElement))

-- ---- fields
pub of_field : {A : Type 0} (f : Field A) → ((v : ℕ) → Named (f.judge v)) → ((a : A) → Named (f.chk a)) → Refuses (field f)
unfolding field
of_field f p q = record {
  read = λ bs j h. named_pick (eqb j.refusal 0) _ _ (named_pick _ _ _ (named_settle _ _ _ _ _ (p _)) (named why.CutShort)) h;
  write = q;
}

pub of-num : (lo hi : ℕ) → Refuses (field (num_field lo hi))
of-num lo hi =
    of_field _ (λ v. named_unless _ _ (named why.AboveRange)) (λ a. named_first _ _ (named_unless _ _ (named why.OutOfRange)) (named_unless _ _ (named why.OutOfRange)))

pub of-run : (w : ℕ) → Refuses (field (run_field w))
of-run w =
    of_field _ (λ v. named_unless _ _ (named why.AboveRange)) (λ a. named_first _ _ (named_unless _ _ (named why.OutOfRange)) (named_unless _ _ (named why.OutOfRange)))

pub of-flag : Refuses (field flag_field)
of-flag = of_field _ (λ v. named-0) (λ b. named-0)

pub of-extension : Refuses (field extension_field)
of-extension = of_field _ (λ v. named_unless _ _ (named why.ExtensionSet)) (λ a. named-0)

pub of-signed : (k hi : ℕ) → Refuses (field (signed_field k hi))
of-signed k hi = of_field _ (λ v. named_unless _ _ (named why.AboveRange)) (λ a. named_raised k hi a.number)

pub of-count : Refuses (field count_field)
of-count = of_field _ (λ n. named_unless _ _ (named why.ListOver)) (λ n. named_unless _ _ (named why.ListOver))

-- ---- putting together
pub of-absent : {A : Type 0} (z : A) → Refuses (absent z)
unfolding absent
of-absent z = record { read = λ bs j h. h; write = λ a. named-0 }

pub of-dep : {A B : Type 0} (c : Codec A) (k : A → Codec B) → Refuses c → ((a : A) → Refuses (k a)) → Refuses (dep c k)
unfolding dep
of-dep c k p q = record {
  read = λ bs j h. (q (c.run bs j).value).read bs (c.run bs j).next (p.read bs j h);
  write = λ x. named_first _ _ (p.write x.0) ((q (c.norm x.0)).write x.1);
}

pub of-via : {A B : Type 0} (c : Codec A) (to : A → B) (from : B → A) (ok : B → ℕ)
    (left : (a : A) → c.chk a ≡ 0 → c.norm a ≡ a → (ok (to a) ≡ 0) × (from (to a) ≡ a)) → Refuses c → ((b : B) → Named (ok b)) → Refuses (via c to from ok left)
unfolding via
of-via c to from ok left p q = record { read = p.read; write = λ b. named_first _ _ (q b) (p.write (from b)) }

pub of-recast : {A B : Type 0} (c : Codec A) (to : A → B) (from : B → A) (ok : B → ℕ) (grade : A → ℕ)
    (left : (a : A) → c.chk a ≡ 0 → c.norm a ≡ a → grade a ≡ 0 → (ok (to a) ≡ 0) × (from (to a) ≡ a))
    (other : (a : A) → c.chk a ≡ 0 → c.norm a ≡ a → grade a ≡ 1 → Other c to from ok a)
    → Refuses c → ((b : B) → Named (ok b)) → Refuses (recast c to from ok grade left other)
unfolding recast
of-recast c to from ok grade left other p q = record { read = p.read; write = λ b. named_first _ _ (q b) (p.write (from b)) }

pub of-when : {A : Type 0} (b : Bool) (z : A) (c : Codec A) → Refuses c → Refuses (when b z c)
unfolding when
of-when true z c p = p
of-when false z c p = of-absent z

pub of-only : {A : Type 0} (c : Codec A) (bad : A → ℕ) → Refuses c → ((a : A) → Named (bad a)) → Refuses (only c bad)
unfolding only
of-only c bad p q = record {
  read = λ bs j h. named_pick (eqb (c.run bs j).next.refusal 0) _ _ (named_settle _ _ _ _ _ (q (c.run bs j).value)) (p.read bs j h);
  write = λ a. named_first _ _ (p.write a) (q (c.norm a));
}

pub of-alternative : {E P : Type 0} (tag : E → ℕ) (i : ℕ) (c : Codec P) (make : P → E) (get : E → P) (t : (p : P) → tag (make p) ≡ i) (g : (p : P) → get (make p) ≡ p)
    → Refuses c → Refuses (alt_codec tag i c make get t g)
unfolding alt_codec
of-alternative tag i c make get t g p = of-via _ _ _ _ _ p (λ e. named_unless _ _ (named why.OutOfRange))

pub of-never : {E : Type 0} (z : E) → Refuses (never_codec z)
unfolding never_codec
of-never z = of-only _ _ (of-absent z) (λ e. named why.AboveRange)

pub of-choices : {E : Type 0} (top : ℕ) (tag : E → ℕ) (alts : (i : ℕ) → Alt tag i) → ((i : ℕ) → Refuses (alts i).codec) → Refuses (choice top tag alts)
unfolding choice
of-choices top tag alts p = of-via _ _ _ _ _ (of-dep _ _ (of-num 0 top) p) (λ e. named-0)

pub of_vec : {A : Type 0} (c : Codec A) (n : ℕ) → Refuses c → Refuses (vec c n)
unfolding vec
of_vec c zero p = of-via _ _ _ _ _ (of-absent _) (λ l. named_unless _ _ (named why.OutOfRange))
of_vec c (suc n) p = of-via _ _ _ _ _ (of-dep _ _ p (λ a. of_vec c n p)) (λ l. named_unless _ _ (named why.OutOfRange))

pub of-list16 : {A : Type 0} (m : ℕ) (c : Codec A) → Refuses c → Refuses (list16 m c)
unfolding list16
of-list16 m c p = of-dep _ _ of-count (λ n. of_vec c (n * m) p)

pub ruleset names = (named-0, named-mask, of-num, of-run, of-flag, of-extension, of-signed, of-absent, of-dep, of-via, of-when, of-only, of-alternative, of-never, of-choices, of-list16)

-- ---- whole PDUs: reading, and writing
pub read-named : {A : Type 0} (c : Codec A) → Refuses c → (s : List ℕ) → Named (finish (window s) (c.run (window s) (start s)).next).refusal
unfolding finish start
read-named c p s =
    named_first _ _ (p.read (window s) (start s) (named_unless _ _ (named why.InputOver)))
    (named_first _ _ (named_unless _ _ (named why.Filling)) (named_unless _ _ (named why.OctetsAfter)))

-- the refusal that is looked up behind a PDU is the one that was met
pub pdu-found : {A : Type 0} (c : Codec A) → Refuses c → {s : List ℕ} {j n e : Cursor} {v : A} {x : Option Refusal} → j ≡ start s → Reads c s j v n → e ≡ finish (window s) n
    → Found e.refusal x → read_pdu c s ≡ answer (number_or_none x) v
pdu-found c p {s} {v = v} b r f x =
    let m = rw (← b, ← r.next_is, ← f) at (read-named c p s) in
    pdu-is c b r f ∙ ap (λ (n : ℕ). answer n v) (sym (found-named _ m x))

pub write-named : {A : Type 0} (c : Codec A) → Refuses c → {s t : List ℕ} {p q : Pen} {a : A} → p ≡ record { at = 0; refusal = 0 } → Writes c s p a q t → Named q.refusal
unfolding ink
write-named c m {a = a} e w = rw (w.pen_is, e) (m.write a)
