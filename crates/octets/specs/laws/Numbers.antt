-- Numbers to octets and back. Assumes nothing.
use Rattle.std.specs.Prelude.{ℕ, zero, suc, ◌+◌, ◌*◌, ◌/◌, ◌%◌, ◌≤◌, ◌<◌, ◌≡◌, refl, List, [], ◌∷◌, ◌++◌, length, get_or, take, drop}
use Rattle.std.proofs.Common.{sym, ap, ◌∙◌, append_assoc, arith, length-append, get_or-append-add, drop-cons}
use Rattle.octets.specs.Octets.{Octets, pair, quad, quads, word_at, words}

-- ---- four octets and their number
pub quad-word : (w : ℕ) → ((w / 16777216 * 256 + w / 65536 % 256) * 256 + w / 256 % 256) * 256 + w % 256 ≡ w
quad-word w = omega arith

module _ (a b c d : ℕ) (g : b < 256) (h : c < 256) (k : d < 256) where
  abbrev made : ℕ
  made = ((a * 256 + b) * 256 + c) * 256 + d

  word-a : made / 16777216 ≡ a
  word-a = omega arith

  word-b : made / 65536 % 256 ≡ b
  word-b = omega arith

  word-c : made / 256 % 256 ≡ c
  word-c = omega arith

  word-d : made % 256 ≡ d
  word-d = omega arith

  pub word-quad : quad made ≡ a ∷ b ∷ c ∷ d ∷ []
  word-quad = rw (word-a, word-b, word-c, word-d)

-- ---- two octets and their number
pub pair-word : (n : ℕ) → n / 256 * 256 + n % 256 ≡ n
pair-word n = omega arith

pair-a : (a b : ℕ) → b < 256 → (a * 256 + b) / 256 ≡ a
pair-a a b h = omega arith

pair-b : (a b : ℕ) → b < 256 → (a * 256 + b) % 256 ≡ b
pair-b a b h = omega arith

pub word-pair : (a b : ℕ) → b < 256 → pair (a * 256 + b) ≡ a ∷ b ∷ []
word-pair a b h = rw (pair-a a b h, pair-b a b h)

-- ---- numbers to octets and back
pub there : (p q : List ℕ) (n k : ℕ) → length p ≡ n → get_or (p ++ q) (n + k) 0 ≡ get_or q k 0
there p q n k e = rw (← e) (get_or-append-add p q k 0)

pub first : (p q : List ℕ) (n : ℕ) → length p ≡ n → get_or (p ++ q) n 0 ≡ get_or q 0 0
first p q n e = let f : n ≡ n + 0 = omega arith in ap (λ (k : ℕ). get_or (p ++ q) k 0) f ∙ there p q n 0 e

word-there : (p r : List ℕ) (w n : ℕ) → length p ≡ n → word_at (p ++ (quad w ++ r)) n ≡ w
word-there p r w n e =
    rw (first p (quad w ++ r) n e, there p (quad w ++ r) n 1 e, there p (quad w ++ r) n 2 e, there p (quad w ++ r) n 3 e) (quad-word w)

pub words-quads : (ws p r : List ℕ) (n : ℕ) → length p ≡ n → words (p ++ (quads ws ++ r)) n (length ws) ≡ ws
words-quads [] p r n e = refl
words-quads (w ∷ ws) p r n e =
    let s : List ℕ = p ++ (quad w ++ (quads ws ++ r)) in
    let f : length (p ++ quad w) ≡ n + 4 = length-append p (quad w) ∙ omega (arith, e) in
    let t : (p ++ quad w) ++ (quads ws ++ r) ≡ s = append_assoc p (quad w) (quads ws ++ r) in
    let rest : words s (n + 4) (length ws) ≡ ws = ap (λ (x : List ℕ). words x (n + 4) (length ws)) (sym t) ∙ words-quads ws (p ++ quad w) r (n + 4) f in
    ap (λ (x : ℕ). x ∷ words s (n + 4) (length ws)) (word-there p (quads ws ++ r) w n e) ∙ ap (λ (x : List ℕ). w ∷ x) rest

pub length-quads : (ws : List ℕ) → length (quads ws) ≡ length ws * 4
length-quads [] = refl
length-quads (w ∷ ws) = omega (arith, length-quads ws)

-- ---- octets to numbers and back
pub next : (s : List ℕ) (i : ℕ) → i < length s → drop i s ≡ get_or s i 0 ∷ drop (i + 1) s
next s i h = let e : suc i ≡ i + 1 = omega arith in drop-cons s i 0 h ∙ ap (λ (k : ℕ). get_or s i 0 ∷ drop k s) e

pub next-4 : (s : List ℕ) (i : ℕ) → i + 4 ≤ length s → drop i s ≡ get_or s i 0 ∷ get_or s (i + 1) 0 ∷ get_or s (i + 2) 0 ∷ get_or s (i + 3) 0 ∷ drop (i + 4) s
next-4 s i h =
    let f : i + 1 + 1 ≡ i + 2 = omega arith in
    let g : i + 2 + 1 ≡ i + 3 = omega arith in
    let k : i + 3 + 1 ≡ i + 4 = omega arith in
    let a = get_or s i 0 in
    let b = get_or s (i + 1) 0 in
    let c = get_or s (i + 2) 0 in
    next s i (omega (arith, h))
    ∙ ap (λ (x : List ℕ). a ∷ x) (next s (i + 1) (omega (arith, h)) ∙ ap (λ (j : ℕ). b ∷ drop j s) f)
    ∙ ap (λ (x : List ℕ). a ∷ b ∷ x) (next s (i + 2) (omega (arith, h)) ∙ ap (λ (j : ℕ). c ∷ drop j s) g)
    ∙ ap (λ (x : List ℕ). a ∷ b ∷ c ∷ x) (next s (i + 3) (omega (arith, h)) ∙ ap (λ (j : ℕ). get_or s (i + 3) 0 ∷ drop j s) k)

same-5 : (a b c d a' b' c' d' : ℕ) (r r' : List ℕ) → a ≡ a' → b ≡ b' → c ≡ c' → d ≡ d' → r ≡ r' → ◌≡◌ {A = List ℕ} (a ∷ b ∷ c ∷ d ∷ r) (a' ∷ b' ∷ c' ∷ d' ∷ r')
same-5 a b c d a' b' c' d' r r' e f g h k = rw (e, f, g, h, k)

pub quads-words : (s : List ℕ) (i n : ℕ) → Octets s → i + n * 4 ≤ length s → quads (words s i n) ≡ take (n * 4) (drop i s)
quads-words s i zero f h = refl
quads-words s i (suc n) f h =
    let e : suc (suc (suc (suc (n * 4)))) ≡ suc n * 4 = omega arith in
    let a = get_or s i 0 in
    let b = get_or s (i + 1) 0 in
    let c = get_or s (i + 2) 0 in
    let d = get_or s (i + 3) 0 in
    let g = f (i + 1) in
    let k = f (i + 2) in
    let l = f (i + 3) in
    same-5 _ _ _ _ a b c d _ _ (word-a a b c d g k l) (word-b a b c d g k l) (word-c a b c d g k l) (word-d a b c d g k l) (quads-words s (i + 4) n f (omega (arith, h)))
    ∙ ap (take (suc (suc (suc (suc (n * 4)))))) (sym (next-4 s i (omega (arith, h))))
    ∙ ap (λ (j : ℕ). take j (drop i s)) e
