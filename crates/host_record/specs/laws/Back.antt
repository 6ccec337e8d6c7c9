-- A record's octets spell that record, and as many octets as a record has are those of the record that they spell.
use Rattle.std.specs.Prelude.{ℕ, ◌<◌, ◌≡◌, refl, List, [], ◌∷◌, ◌++◌, length, get_or, take, drop}
use Rattle.std.proofs.Common.{sym, ap, ◌∙◌, append_assoc, arith, length-append, length-drop, take-append-drop, drop-drop, take_all}
use Rattle.link.specs.Names.{timers}
use Rattle.ground_answer.specs.declared.record.Link.{Link}
use Rattle.octets.specs.Octets.{quads, words}
use Rattle.octets.specs.laws.Numbers.{there, first, words-quads, length-quads, next, next-4, quads-words}
use Rattle.host_record.specs.RecordLayout.{five, interval_octets, RECORD-OCTETS, record_octets, link_of}

five-of : (at : List ℕ) → length at ≡ 5 → five at ≡ at
five-of [] e = absurd (omega (arith, e))
five-of (a ∷ []) e = absurd (omega (arith, e))
five-of (a ∷ b ∷ []) e = absurd (omega (arith, e))
five-of (a ∷ b ∷ c ∷ []) e = absurd (omega (arith, e))
five-of (a ∷ b ∷ c ∷ d ∷ []) e = absurd (omega (arith, e))
five-of (a ∷ b ∷ c ∷ d ∷ x ∷ []) e = refl
five-of (a ∷ b ∷ c ∷ d ∷ x ∷ y ∷ s) e = absurd (omega (arith, e))

-- every declared record has these lengths
pub record-back : (l : Link) → length l.setting ≡ timers → length l.left ≡ timers → length l.at ≡ 5 → link_of (record_octets l) ≡ l
unfolding link_of record_octets
record-back l h k m =
    let a = quads l.setting in
    let b = quads l.left in
    let i : List ℕ = l.interval.asked ∷ l.interval.force ∷ [] in
    let z : List ℕ = five l.at ++ quads i in
    let s : List ℕ = a ++ (b ++ z) in
    let na : length a ≡ 40 = length-quads l.setting ∙ omega (arith, h) in
    let nb : length b ≡ 40 = length-quads l.left ∙ omega (arith, k) in
    let t : (a ++ b) ++ z ≡ s = append_assoc a b z in
    let n : length (a ++ b) ≡ 80 = length-append a b ∙ omega (arith, na, nb) in
    let u : ((a ++ b) ++ five l.at) ++ quads i ≡ s = append_assoc (a ++ b) (five l.at) (quads i) ∙ t in
    let o : length ((a ++ b) ++ five l.at) ≡ 85 = length-append (a ++ b) (five l.at) ∙ omega (arith, n) in
    let setting : words s 0 timers ≡ l.setting = ap (λ (j : ℕ). words s 0 j) (sym h) ∙ words-quads l.setting [] (b ++ z) 0 refl in
    let left : words s 40 timers ≡ l.left = ap (λ (j : ℕ). words s 40 j) (sym k) ∙ words-quads l.left a z 40 na in
    let x0 : get_or s 80 0 ≡ get_or l.at 0 0 = ap (λ (x : List ℕ). get_or x 80 0) (sym t) ∙ first (a ++ b) z 80 n in
    let x1 : get_or s 81 0 ≡ get_or l.at 1 0 = ap (λ (x : List ℕ). get_or x 81 0) (sym t) ∙ there (a ++ b) z 80 1 n in
    let x2 : get_or s 82 0 ≡ get_or l.at 2 0 = ap (λ (x : List ℕ). get_or x 82 0) (sym t) ∙ there (a ++ b) z 80 2 n in
    let x3 : get_or s 83 0 ≡ get_or l.at 3 0 = ap (λ (x : List ℕ). get_or x 83 0) (sym t) ∙ there (a ++ b) z 80 3 n in
    let x4 : get_or s 84 0 ≡ get_or l.at 4 0 = ap (λ (x : List ℕ). get_or x 84 0) (sym t) ∙ there (a ++ b) z 80 4 n in
    let both : words s 85 2 ≡ i = ap (λ (x : List ℕ). words x 85 2) (sym u) ∙ words-quads i ((a ++ b) ++ five l.at) [] 85 o in
    rw (setting, left, x0, x1, x2, x3, x4, five-of l.at m, ap (λ (x : List ℕ). get_or x 0 0) both, ap (λ (x : List ℕ). get_or x 1 0) both)

-- the five states, and what follows them
from-states : (s : List ℕ) → length s ≡ RECORD-OCTETS → get_or s 80 0 ∷ get_or s 81 0 ∷ get_or s 82 0 ∷ get_or s 83 0 ∷ get_or s 84 0 ∷ drop 85 s ≡ drop 80 s
from-states s h =
    sym
    (next-4 s 80 (omega (arith, h))
    ∙ ap (λ (r : List ℕ). get_or s 80 0 ∷ get_or s 81 0 ∷ get_or s 82 0 ∷ get_or s 83 0 ∷ r) (next s 84 (omega (arith, h))))

pub octets-back : (s : List ℕ) → length s ≡ RECORD-OCTETS → ((k : ℕ) → get_or s k 0 < 256) → record_octets (link_of s) ≡ s
unfolding link_of record_octets
octets-back s h f =
    let i = interval_octets (link_of s).interval in
    ap (λ (x : List ℕ). x ++ (quads (words s 40 timers) ++ (five (link_of s).at ++ i))) (quads-words s 0 timers f (omega (arith, h)))
    ∙ ap (λ (x : List ℕ). take 40 s ++ (x ++ (five (link_of s).at ++ i))) (quads-words s 40 timers f (omega (arith, h)))
    ∙ ap (λ (x : List ℕ). take 40 s ++ (take 40 (drop 40 s) ++ (five (link_of s).at ++ x))) (quads-words s 85 2 f (omega (arith, h)) ∙ take_all 8 (drop 85 s) (omega (arith, h, length-drop 85 s)))
    ∙ ap (λ (x : List ℕ). take 40 s ++ (take 40 (drop 40 s) ++ x)) (from-states s h ∙ sym (drop-drop 40 40 s))
    ∙ ap (λ (x : List ℕ). take 40 s ++ x) (take-append-drop 40 (drop 40 s))
    ∙ take-append-drop 40 s
