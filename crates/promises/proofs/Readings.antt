-- The numbers by which a ground PDU is not read: a law for each kind of field and each way to put codecs together. Assumes nothing.
use mathlib.Core.Path.{◌≡◌, subst}
use mathlib.Core.Bool.{Bool, true, false, cond, not, ◌&&◌}
use mathlib.Core.List.{List}
use Prim.Native.Nat.{ℕ, zero, suc, ◌+◌, ◌-◌}
use native.Mathlib.Omega.{arith}
use lib.Bits.{bit_and}
use lib.Dec.{T, eqb, leb, eqb-suc-zero}
use lib.ListN.{length}
use Rattle.per.specs.declared.cursor.Cursor.{Cursor}
use Rattle.per.specs.Bits.{num_at}
use Rattle.per.specs.Codec.{Codec, Out, out, refuse, first}
use Rattle.per.specs.Field.{Field, settle}
use Rattle.per.specs.Shapes.{Other}
use Rattle.per.specs.Formats.{field, dep, via, recast, only, absent, when, num, signed, extension, mask, Alt, alt_codec, never_codec, choice}
use Rattle.per.specs.Pdu.{fill, window, start, ending, finish, answer, read_pdu, refused}
use Rattle.per.proofs.Within.{◌then◌, all, each_arm}
use Rattle.pdu_parts.specs.Interval.{interval_arms, interval_c, interval_if, moduli_c}
use Rattle.pdu_parts.specs.Periodic.{periodic_c}
use Rattle.pdu_events.specs.Changes.{level_range_c, either_c, changes_c}
use Rattle.pdu.specs.UplinkTable.{ground_arms, ground_alt, ground_c}
use Rattle.sides.specs.Tables.{member}
use Rattle.promises.specs.Messages.{unread}
use Rattle.promises.proofs.Fields.{On, on, on_none, on-first, on-unless, in_list}

-- a reading that begins with no refusal, or one of the list, ends so
record Met {A : Type 0} (c : Codec A) : Type 0 where
  each : (bs : List Bool) (j : Cursor) → On unread j.refusal → On unread (c.run bs j).next.refusal

met-field : {A : Type 0} (f : Field A) → ((v : ℕ) → On unread (f.judge v)) → Met (field f)
unfolding field
met-field {A} f q = record {
  each = λ bs j h.
      let v = num_at bs j.at f.width in
      go (eqb j.refusal 0) (leb f.width (length bs - j.at)) (f.judge v) (f.to v) j.at (j.at + f.width) j h (q v);
}
  where
    go : (b d : Bool) (n : ℕ) (a : A) (at end : ℕ) (j : Cursor) → On unread j.refusal → On unread n
        → On unread (cond b (cond d (settle n a f.none at end) (out f.none (refuse at 7))) (out f.none j)).next.refusal
    go true true zero a at end j h p = on_none
    go true true (suc n) a at end j h p = p
    go true false n a at end j h p = on tt
    go false d n a at end j h p = h

met-num : (lo hi : ℕ) → Met (num lo hi)
met-num lo hi = met-field _ (λ v. on-unless (leb (lo + v) hi) 8 (on tt))

met-signed : (k hi : ℕ) → Met (signed k hi)
met-signed k hi = met-field _ (λ v. on-unless (leb v (hi + k)) 8 (on tt))

met-mark : Met extension
met-mark = met-field _ (λ v. on-unless (eqb v 0) 9 (on tt))

met-absent : {A : Type 0} (z : A) → Met (absent z)
unfolding absent
met-absent z = record { each = λ bs j h. h }

met-when : {A : Type 0} (b : Bool) (z : A) (c : Codec A) → Met c → Met (when b z c)
unfolding when
met-when true z c x = x
met-when false z c x = met-absent z

met-dep : {A B : Type 0} (c : Codec A) (k : A → Codec B) → Met c → ((a : A) → Met (k a)) → Met (dep c k)
unfolding dep
met-dep c k x y = record { each = λ bs j h. (y (c.run bs j).value).each bs (c.run bs j).next (x.each bs j h) }

met-via : {A B : Type 0} (c : Codec A) (to : A → B) (from : B → A) (ok : B → ℕ)
    (left : (a : A) → c.chk a ≡ 0 → c.norm a ≡ a → (ok (to a) ≡ 0) × (from (to a) ≡ a)) → Met c → Met (via c to from ok left)
unfolding via
met-via c to from ok left x = record { each = x.each }

met-recast : {A B : Type 0} (c : Codec A) (to : A → B) (from : B → A) (ok : B → ℕ) (grade : A → ℕ)
    (left : (a : A) → c.chk a ≡ 0 → c.norm a ≡ a → grade a ≡ 0 → (ok (to a) ≡ 0) × (from (to a) ≡ a))
    (other : (a : A) → c.chk a ≡ 0 → c.norm a ≡ a → grade a ≡ 1 → Other c to from ok a) → Met c → Met (recast c to from ok grade left other)
unfolding recast
met-recast c to from ok grade left other x = record { each = x.each }

met-only : {A : Type 0} (c : Codec A) (bad : A → ℕ) → Met c → ((a : A) → On unread (bad a)) → Met (only c bad)
unfolding only
met-only {A} c bad x q = record {
  each = λ bs j h.
      let r = c.run bs j in
      go (eqb r.next.refusal 0) (bad r.value) r.value j.at r.next.at r (x.each bs j h) (q r.value);
}
  where
    go : (b : Bool) (n : ℕ) (a : A) (at end : ℕ) (r : Out A) → On unread r.next.refusal → On unread n → On unread (cond b (settle n a c.none at end) r).next.refusal
    go true zero a at end r h p = on_none
    go true (suc n) a at end r h p = p
    go false n a at end r h p = h

met-mask : (top carried : ℕ) (need : Bool) → Met (mask top carried need)
met-mask top carried need =
    met-only _ _ (met-num 0 top) (λ v. on-first (on-unless (eqb (bit_and v carried) v) 10 (on tt)) (on-unless (not (need && eqb v 0)) 15 (on tt)))

met-alternative : {E P : Type 0} (tag : E → ℕ) (i : ℕ) (c : Codec P) (make : P → E) (get : E → P) (t : (p : P) → tag (make p) ≡ i) (g : (p : P) → get (make p) ≡ p)
    → Met c → Met (alt_codec tag i c make get t g)
unfolding alt_codec
met-alternative tag i c make get t g x = met-via _ _ _ _ _ x

met-never : {E : Type 0} (z : E) → Met (never_codec z)
unfolding never_codec
met-never z = met-only _ _ (met-absent z) (λ e. on tt)

met-choice : {E : Type 0} (top : ℕ) (tag : E → ℕ) (alts : (i : ℕ) → Alt tag i) → ((i : ℕ) → Met (alts i).codec) → Met (choice top tag alts)
unfolding choice
met-choice top tag alts x = met-via _ _ _ _ _ (met-dep _ _ (met-num 0 top) x)

ruleset readings = (met-num, met-signed, met-mark, met-absent, met-when, met-dep, met-via, met-mask, met-alternative, met-never, met-choice)

met-interval : Met interval_c
unfolding interval_c
met-interval = met-choice _ _ _ (each_arm Met interval_arms _ (search readings then search readings then all) (search readings))

met-periodic : Met periodic_c
unfolding periodic_c interval_if moduli_c
met-periodic = met-recast _ _ _ _ _ _ _ (search (readings, met-interval) depth 12)

met-range : Met level_range_c
unfolding level_range_c
met-range = search readings depth 12

met-either : (first second : ℕ) → Met (either_c first second)
unfolding either_c
met-either first second = search readings depth 12

met-changes : Met changes_c
unfolding changes_c
met-changes = search (readings, met-range, met-either) depth 28

met-ground : Met ground_c
unfolding ground_c ground_alt
met-ground =
    met-via _ _ _ _ _ (met-dep _ _ met-mark (λ u. met-choice _ _ _ (each_arm Met ground_arms _
    (search readings
    then search readings
    then search readings
    then search readings
    then search (readings, met-changes)
    then search (readings, met-interval)
    then search (readings, met-periodic)
    then search readings
    then all)
    (search readings))))

-- the number of an answer that is a refusal
answered : {A : Type 0} (m n : ℕ) (v : A) → answer m v ≡ refused n → On unread m → T (member n unread)
answered zero n v e h = let z : ◌≡◌ {A = ℕ} 0 1 = cc in absurd (omega arith)
answered (suc m) n v e h = let q : suc m ≡ n = cc in subst (λ (k : ℕ). T (member k unread)) q (in_list h (eqb-suc-zero m))

pub ground-refuses : (s : List ℕ) (n : ℕ) → read_pdu ground_c s ≡ refused n → T (member n unread)
unfolding read_pdu finish start
ground-refuses s n e =
    let r = ground_c.run (window s) (start s) in
    let at : ℕ = r.next.at in
    let began : On unread (start s).refusal = on-unless (leb (length s) 128) 16 (on tt) in
    let ends : On unread (ending (window s) at) =
    on-first (on-unless (eqb (num_at (window s) at (fill at)) 0) 13 (on tt)) (on-unless (eqb (at + fill at) (length (window s))) 14 (on tt)) in
    answered (first r.next.refusal (ending (window s) at)) n r.value e (on-first (met-ground.each (window s) (start s) began) ends)
