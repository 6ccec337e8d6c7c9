-- The formats of 01's message table: each kind of field, and each way to put codecs together, as a codec with its laws.
use Rattle.std.specs.Prelude.{ℕ, zero, suc, ◌+◌, ◌-◌, ◌*◌, ◌^◌, ◌≡◌, refl, Bool, true, false, cond, not, ◌&&◌, List, [], ◌∷◌, length, eqb, leb, ltb, pos}
use Rattle.std.proofs.Common.{sym, ap, ◌∙◌, add-zero, arith, eq-eqb, eqb-true}
use Rattle.std.specs.Int.Bits.{bit_and}
use Rattle.std.proofs.Math.IntN.{sub_ℕ}
use Rattle.per.specs.declared.cursor.Signed.{Signed}
use Rattle.per.specs.Bits.{of_bit, width}
use Rattle.per.specs.laws.Bits.{of_bit-lt}
use Rattle.per.specs.Codec.{Codec, out, first, unless}
use Rattle.per.specs.laws.Codec.{first-0, first-1, unless-true}
use Rattle.per.specs.Field.{Field, read_field, field_bits, raised, raised_chk}
use Rattle.per.specs.laws.Field.{field-stuck, field-there, field_room, field-kept, field_back}
use Rattle.per.specs.Shapes.{dep_run, dep_chk, dep_enc, dep_norm, dep_form, via_run, via_chk, via_enc, Other, recast_form, only_run, only_chk, only_enc}
use Rattle.per.specs.laws.Dep.{dep-stuck, dep-there, dep-room, dep-kept, dep-back}
use Rattle.per.specs.laws.Via.{via-stuck, via-there, via-kept, via-back, absent-moved, absent-there}
use Rattle.per.specs.laws.Recast.{recast-kept, recast-back}
use Rattle.per.specs.laws.Only.{only-stuck, only-there, only-room, only_kept, only-back}
use Rattle.per.specs.laws.Kinds.{num-write, num-read, run-write, run-read, flag-read, flag-write, zero_bit, count-write, raised-write, raised-read}
use Rattle.refusals.specs.Refusals.{ABOVE-RANGE, EXTENSION-SET, LIST-OVER, NO-ELEMENT, NOT-CARRIED, OUT-OF-RANGE}

-- ---- putting together

-- one field
unfoldable pub field : {A : Type 0} → Field A → Codec A
field f = record {
  none = f.none;
  run = read_field f;
  chk = f.chk;
  enc = field_bits f;
  norm = λ a. a;
  form = λ bs j. 0;
  stuck = field-stuck f;
  there = field-there f;
  room = field_room f;
  kept = λ bs j h g. field-kept f bs j h;
  back = λ bs j h g. field_back f bs j h;
}

-- one codec and then another, which the first one's value picks
unfoldable pub dep : {A B : Type 0} → Codec A → (A → Codec B) → Codec (A × B)
dep c k = record {
  none = (c.none, (k c.none).none);
  run = dep_run c k;
  chk = dep_chk c k;
  enc = dep_enc c k;
  norm = dep_norm c k;
  form = dep_form c k;
  stuck = dep-stuck c k;
  there = dep-there c k;
  room = dep-room c k;
  kept = dep-kept c k;
  back = dep-back c k;
}

-- one after the other
abbrev pub pair : {A B : Type 0} → Codec A → Codec B → Codec (A × B)
pair c d = dep c (λ a. d)

-- the same bits for another type. Values that `from` cannot tell apart are one value; `ok` is a refusal of a write
unfoldable pub via : {A B : Type 0} (c : Codec A) (to : A → B) (from : B → A) (ok : B → ℕ)
    → ((a : A) → c.chk a ≡ 0 → c.norm a ≡ a → (ok (to a) ≡ 0) × (from (to a) ≡ a)) → Codec B
via c to from ok left = record {
  none = to c.none;
  run = via_run c to from ok;
  chk = via_chk c to from ok;
  enc = via_enc c to from ok;
  norm = λ b. to (c.norm (from b));
  form = c.form;
  stuck = via-stuck c to from ok;
  there = via-there c to from ok;
  room = c.room;
  kept = via-kept c to from ok left;
  back = via-back c to from ok left;
}

-- another value for the same bits, with nothing more to judge
abbrev pub iso : {A B : Type 0} (c : Codec A) (to : A → B) (from : B → A) → ((a : A) → from (to a) ≡ a) → Codec B
iso c to from left = via c to from (λ b. 0) (λ a g s. (refl, left a))

-- a value with more forms than one: c reads the parts as they were sent, `to` is their value, and `from` its parts in the writer's own form.
-- `grade` is the form of the parts: 0 the writer's own, 1 another, 2 of a value that may not be written
unfoldable pub recast : {A B : Type 0} (c : Codec A) (to : A → B) (from : B → A) (ok : B → ℕ) (grade : A → ℕ)
    → ((a : A) → c.chk a ≡ 0 → c.norm a ≡ a → grade a ≡ 0 → (ok (to a) ≡ 0) × (from (to a) ≡ a))
    → ((a : A) → c.chk a ≡ 0 → c.norm a ≡ a → grade a ≡ 1 → Other c to from ok a) → Codec B
recast c to from ok grade left other = record {
  none = to c.none;
  run = via_run c to from ok;
  chk = via_chk c to from ok;
  enc = via_enc c to from ok;
  norm = λ b. to (c.norm (from b));
  form = recast_form c grade;
  stuck = via-stuck c to from ok;
  there = via-there c to from ok;
  room = c.room;
  kept = recast-kept c to from ok grade left other;
  back = recast-back c to from ok grade left other;
}

-- a further judgement, alike on reading and on writing
unfoldable pub only : {A : Type 0} → Codec A → (A → ℕ) → Codec A
only c bad = record {
  none = c.none;
  run = only_run c bad;
  chk = only_chk c bad;
  enc = only_enc c bad;
  norm = c.norm;
  form = c.form;
  stuck = only-stuck c bad;
  there = only-there c bad;
  room = only-room c bad;
  kept = only_kept c bad;
  back = only-back c bad;
}

-- no bits: z is read, and what is written is no part of the value
unfoldable pub absent : {A : Type 0} → A → Codec A
absent z = record {
  none = z;
  run = λ bs j. out z j;
  chk = λ a. 0;
  enc = λ a. [];
  norm = λ a. z;
  form = λ bs j. 0;
  stuck = λ bs j h. refl;
  there = λ a bs rest j h z0 e. absent-there z j z0;
  room = λ bs j h l. l;
  kept = λ bs j h f. record { good = refl; same = refl; short = omega arith };
  back = λ bs j h f. record { moved = absent-moved j h; bits = rw add-zero };
}

-- "NULL takes no bits"
abbrev pub Null : Type 0
Null = record {}

-- the part that takes no bits
abbrev pub null : Codec Null
null = absent (record {})

-- an optional part: c if it is present, else z is read
unfoldable pub when : {A : Type 0} → Bool → A → Codec A → Codec A
when true z c = c
when false z c = absent z

-- ---- kinds of field

-- "A whole number in lo..hi is sent as value minus lo, in the fewest bits that hold hi minus lo"
abbrev pub num_field : ℕ → ℕ → Field ℕ
num_field lo hi = record {
  width = width (hi - lo);
  judge = λ v. unless (leb (lo + v) hi) ABOVE-RANGE;
  to = λ v. lo + v;
  from = λ a. a - lo;
  chk = λ a. first (unless (leb lo a) OUT-OF-RANGE) (unless (leb a hi) OUT-OF-RANGE);
  none = 0;
  write = num-write lo hi;
  read = λ v l g. num-read lo hi v g;
}

-- a whole number of lo..hi
abbrev pub num : ℕ → ℕ → Codec ℕ
num lo hi = field (num_field lo hi)

-- a run of w bits as a number; a number has at most 32 bits
abbrev pub run_field : ℕ → Field ℕ
run_field w = record {
  width = w;
  judge = λ v. unless (leb w 32) ABOVE-RANGE;
  to = λ v. v;
  from = λ v. v;
  chk = λ v. first (unless (leb w 32) OUT-OF-RANGE) (unless (ltb v (2 ^ w)) OUT-OF-RANGE);
  none = 0;
  write = λ v h. ((run-write w v h).0, (run-write w v h).1, refl);
  read = λ v l g. (run-read w v l g, refl);
}

-- a number of w bits
abbrev pub run : ℕ → Codec ℕ
run w = field (run_field w)

-- one bit, as a truth value
abbrev pub flag_field : Field Bool
flag_field = record {
  width = 1;
  judge = λ v. 0;
  to = λ v. eqb v 1;
  from = of_bit;
  chk = λ b. 0;
  none = false;
  write = λ b h. (of_bit-lt b, refl, flag-write b);
  read = λ v h g. (refl, flag-read v h);
}

-- a truth value
abbrev pub flag : Codec Bool
flag = field flag_field

-- "A mark * means an extension bit comes first; it must be 0"
abbrev pub extension_field : Field Null
extension_field = record {
  width = 1;
  judge = λ v. unless (eqb v 0) EXTENSION-SET;
  to = λ v. record {};
  from = λ a. 0;
  chk = λ a. 0;
  none = record {};
  write = λ a h. (omega arith, refl, refl);
  read = λ v h g. (refl, zero_bit v 8 g);
}

-- an extension bit
abbrev pub extension : Codec Null
extension = field extension_field

-- what a mark * stands before
abbrev pub ext : {A : Type 0} → Codec A → Codec A
ext c = iso (pair extension c) (λ p. p.1) (λ a. (record {}, a)) (λ p. refl)

-- "A level of -75 to 10000 is sent as the level plus 75": a number of -k..hi, sent plus k in the fewest bits
abbrev pub signed_field : ℕ → ℕ → Field Signed
signed_field k hi = record {
  width = width (hi + k);
  judge = λ v. unless (leb v (hi + k)) ABOVE-RANGE;
  to = λ v. record { number = sub_ℕ v k };
  from = λ a. raised k a.number;
  chk = λ a. raised_chk k hi a.number;
  none = record { number = pos 0 };
  write = λ a h. let w = raised-write k hi a.number h in (w.0, w.1, ap (λ z. record { number = z }) w.2);
  read = λ v l g. raised-read k hi v g;
}

-- a number of -k..hi
abbrev pub signed : ℕ → ℕ → Codec Signed
signed k hi = field (signed_field k hi)

-- "Presence bits follow, one for each optional or default field": one number, whose bits stand in `carried`, else 10; where one must be there, none is 15
abbrev pub mask_bad : ℕ → Bool → ℕ → ℕ
mask_bad carried need v = first (unless (eqb (bit_and v carried) v) NOT-CARRIED) (unless (not (need && eqb v 0)) NO-ELEMENT)

-- a presence bit of weight w is set
unfoldable pub has : ℕ → ℕ → Bool
has w v = not (eqb (bit_and v w) 0)

-- the presence bits of `all`
abbrev pub mask : ℕ → ℕ → Bool → Codec ℕ
mask all carried need = only (num 0 all) (mask_bad carried need)

-- ---- a choice by index. An alternative of index i writes only values whose tag is i
pub record Alt {E : Type 0} (tag : E → ℕ) (i : ℕ) : Type 0 where
  pub codec : Codec E
  pub own : (e : E) → codec.chk e ≡ 0 → tag e ≡ i

-- the values that `make` makes
unfoldable pub alt_codec : {E P : Type 0} (tag : E → ℕ) (i : ℕ) (c : Codec P) (make : P → E) (get : E → P)
    → ((p : P) → tag (make p) ≡ i) → ((p : P) → get (make p) ≡ p) → Codec E
alt_codec tag i c make get t g = via c make get (λ e. unless (eqb (tag e) i) OUT-OF-RANGE) (λ p h s. (rw (eq-eqb (tag (make p)) i (t p)), g p))

-- its index is the only tag that it writes
pub alt_own : {E P : Type 0} (tag : E → ℕ) (i : ℕ) (c : Codec P) (make : P → E) (get : E → P)
    (t : (p : P) → tag (make p) ≡ i) (g : (p : P) → get (make p) ≡ p) (e : E) → (alt_codec tag i c make get t g).chk e ≡ 0 → tag e ≡ i
unfolding alt_codec via
alt_own tag i c make get t g e h = eqb-true (tag e) i (unless-true (eqb (tag e) i) 4 (first-0 (unless (eqb (tag e) i) OUT-OF-RANGE) (c.chk (get e)) h))

-- an index that is not used
unfoldable pub never_codec : {E : Type 0} → E → Codec E
never_codec z = only (absent z) (λ e. ABOVE-RANGE)

-- nothing is written by it
pub never_own : {E : Type 0} (z : E) (n : ℕ) (e : E) → (never_codec z).chk e ≡ 0 → n ≡ 0
unfolding never_codec only absent
never_own z n e h = absurd (omega arith)

-- an alternative with its index, as a line of a table
pub record Arm {E : Type 0} (tag : E → ℕ) : Type 0 where
  pub index_is : ℕ
  pub codec : Codec E
  pub own : (e : E) → codec.chk e ≡ 0 → tag e ≡ index_is

-- the values of tag i, which `make` makes of what c reads
abbrev pub arm : {E P : Type 0} {tag : E → ℕ} (i : ℕ) (c : Codec P) (make : P → E) (get : E → P)
    → ((p : P) → tag (make p) ≡ i) → ((p : P) → get (make p) ≡ p) → Arm tag
arm {tag = tag} i c make get t g = record { index_is = i; codec = alt_codec tag i c make get t g; own = alt_own tag i c make get t g }

-- what an index reads: its line of the table, or, where none has it, nothing
abbrev pub arm_codec : {E : Type 0} {tag : E → ℕ} → List (Arm tag) → E → ℕ → Codec E
arm_codec [] z i = never_codec z
arm_codec (a ∷ more) z i = cond (eqb a.index_is i) a.codec (arm_codec more z i)

-- and writes values of that index alone
pub arm_own : {E : Type 0} {tag : E → ℕ} (arms : List (Arm tag)) (z : E) (i : ℕ) (e : E) → (arm_codec arms z i).chk e ≡ 0 → tag e ≡ i
arm_own {tag = tag} [] z i e h = never_own z (tag e) e h ∙ sym (never_own z i e h)
arm_own {tag = tag} (a ∷ more) z i e h = go (eqb a.index_is i) refl (arm_own more z i e) h
  where
    go : (b : Bool) → eqb a.index_is i ≡ b → ((arm_codec more z i).chk e ≡ 0 → tag e ≡ i) → (cond b a.codec (arm_codec more z i)).chk e ≡ 0 → tag e ≡ i
    go true q r k = a.own e k ∙ eqb-true a.index_is i q
    go false q r k = r k

-- the alternatives of a table; z stands for the value of an index that is not used
abbrev pub alt_of : {E : Type 0} {tag : E → ℕ} → List (Arm tag) → E → (i : ℕ) → Alt tag i
alt_of arms z i = record { codec = arm_codec arms z i; own = arm_own arms z i }

-- an index of 0..top is a whole number of that range
abbrev pub index : ℕ → Codec ℕ
index top = num 0 top

-- the index that was read is the tag of what was read behind it
pub choice_left : {E : Type 0} (top : ℕ) (tag : E → ℕ) (alts : (i : ℕ) → Alt tag i) (p : ℕ × E) → (dep (index top) (λ i. (alts i).codec)).chk p ≡ 0
    → ◌≡◌ {A = ℕ × E} (tag p.1, p.1) p
unfolding dep field
choice_left top tag alts p h = rw ((alts p.0).own p.1 (first-1 ((index top).chk p.0) ((alts p.0).codec.chk p.1) h))

-- the index and then that alternative
unfoldable pub choice : {E : Type 0} (top : ℕ) (tag : E → ℕ) → ((i : ℕ) → Alt tag i) → Codec E
choice top tag alts = via (dep (index top) (λ i. (alts i).codec)) (λ p. p.1) (λ e. (tag e, e)) (λ e. 0) (λ p h s. (refl, choice_left top tag alts p h))

-- ---- "Lists: 8 bits of count, 0 to 16, then the entries as sent"
abbrev pub count_field : Field ℕ
count_field = record {
  width = 8;
  judge = λ n. unless (leb n 16) LIST-OVER;
  to = λ n. n;
  from = λ n. n;
  chk = λ n. unless (leb n 16) LIST-OVER;
  none = 0;
  write = λ n h. (count-write n h, h, refl);
  read = λ n l g. (g, refl);
}

-- the count of a list
abbrev pub count : Codec ℕ
count = field count_field

-- a list with nothing in it
abbrev pub is_nil : {A : Type 0} → List A → Bool
is_nil [] = true
is_nil (a ∷ l) = false

-- the first of a list, z where there is none
abbrev pub head_or : {A : Type 0} → A → List A → A
head_or z [] = z
head_or z (a ∷ l) = a

-- what follows the first
abbrev pub rest : {A : Type 0} → List A → List A
rest [] = []
rest (a ∷ l) = l

-- n values, one after the other
unfoldable pub vec : {A : Type 0} → Codec A → ℕ → Codec (List A)
vec c zero = via null (λ u. []) (λ l. record {}) (λ l. unless (is_nil l) OUT-OF-RANGE) (λ u h s. (refl, refl))
vec c (suc n) = via (pair c (vec c n)) (λ p. p.0 ∷ p.1) (λ l. (head_or c.none l, rest l)) (λ l. unless (not (is_nil l)) OUT-OF-RANGE) (λ p h s. (refl, refl))

-- only n values are written as n
pub vec_length : {A : Type 0} (c : Codec A) (n : ℕ) (l : List A) → (vec c n).chk l ≡ 0 → length l ≡ n
unfolding vec via dep
vec_length c zero [] h = refl
vec_length c zero (a ∷ l) h = absurd (omega arith)
vec_length c (suc n) [] h = absurd (omega arith)
vec_length c (suc n) (a ∷ l) h = ap suc (vec_length c n l (first-1 (c.chk a) ((vec c n).chk l) h))

-- the count, and then m values for each that it counts
unfoldable pub list16 : {A : Type 0} → ℕ → Codec A → Codec (ℕ × List A)
list16 m c = dep count (λ n. vec c (n * m))
