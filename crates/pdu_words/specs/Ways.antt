-- The ways in which a number of a PDU is shown to a person.
use Rattle.std.specs.Prelude.{Bool, not, List, [], ◌∷◌, ◌++◌, ℕ, ◌+◌, ◌-◌, ◌*◌, ◌/◌, ◌%◌, eqb, ltb, take}
use Rattle.text.specs.Letters.{ascii}
use Rattle.text.specs.Text.{pick, both, glyph_of, hex_text, decimal}
use Rattle.text.specs.Words.{word_at}

pub data Way : Type 0 where
  nothing : Way
  -- in decimal
  number : Way
  -- its last two or three digits
  two : Way
  three : Way
  -- tenths as seconds, as in 34.5
  seconds : Way
  -- tens, with a sign: 002 counts levels and vertical rates in tens of feet
  tens : Way
  -- three octets in hexadecimal
  octets : Way
  -- as in " every 2nd report"
  nth : Way
  -- the word of that number in a list
  word : List (List ℕ) → Way
  -- so many entries of the PDU's list: each a word; or names of eight octets
  list : List (List ℕ) → Way
  names : Way
  -- tenths, as in 271.5
  tenths : Way
  -- with a sign
  signed : Way
  -- thousandths, as in 0.82 and 0.825
  thousandths : Way
  -- quarters with a sign, as in -56.5
  quarters : Way
  -- steps of 0.005 Mach, as in ", mach 0.02", and of 15 minutes, as in ", time interval 60 minutes"; no steps are not shown
  mach_steps : Way
  time_steps : Way

unfoldable pub two_digits : ℕ → List ℕ
two_digits n = (48 + n / 10 % 10) ∷ (48 + n % 10) ∷ []

unfoldable pub three_digits : ℕ → List ℕ
three_digits n = (48 + n / 100 % 10) ∷ two_digits n

-- a point and the tenths behind it
unfoldable pub tenth_text : ℕ → List ℕ
tenth_text n = ascii "." ++ ((48 + n % 10) ∷ [])

unfoldable pub seconds_text : ℕ → List ℕ
seconds_text n = two_digits (n / 10) ++ tenth_text n

unfoldable pub tenths_text : ℕ → List ℕ
tenths_text n = decimal (n / 10) ++ tenth_text n

-- a point and the thousandths behind it: two decimals, and a third that is not 0
unfoldable pub thousandth_text : ℕ → List ℕ
thousandth_text n = ascii "." ++ (two_digits (n / 10) ++ pick (eqb (n % 10) 0) [] ((48 + n % 10) ∷ []))

unfoldable pub thousandths_text : ℕ → List ℕ
thousandths_text n = decimal (n / 1000) ++ thousandth_text n

-- 200 steps of 0.005 are 1
unfoldable pub mach_text : ℕ → List ℕ
mach_text n = pick (eqb n 0) [] (ascii ", mach " ++ (decimal (n / 200) ++ thousandth_text (n % 200 * 5)))

unfoldable pub time_text : ℕ → List ℕ
time_text n = pick (eqb n 0) [] (ascii ", time interval " ++ (decimal (n * 15) ++ ascii " minutes"))

-- a number with a sign stands in two's complement of 32 bits: what stands before it, and its size
unfoldable pub sign_text : ℕ → List ℕ
sign_text n = pick (ltb n 2147483648) [] (ascii "-")

unfoldable pub size_of : ℕ → ℕ
size_of n = pick (ltb n 2147483648) n (4294967296 - n)

unfoldable pub signed_text : ℕ → List ℕ
signed_text n = sign_text n ++ decimal (size_of n)

unfoldable pub tens_text : ℕ → List ℕ
tens_text n = sign_text n ++ decimal (size_of n * 10)

abbrev pub fractions : List (List ℕ)
fractions = [] ∷ ascii ".25" ∷ ascii ".5" ∷ ascii ".75" ∷ []

unfoldable pub quarters_text : ℕ → List ℕ
quarters_text n = sign_text n ++ (decimal (size_of n / 4) ++ word_at fractions (size_of n % 4))

unfoldable pub octets_text : ℕ → List ℕ
octets_text n = hex_text ((n / 65536 % 256) ∷ (n / 256 % 256) ∷ (n % 256) ∷ [])

-- what makes 2 into 2nd: 11, 12 and 13 go with th
unfoldable pub ending : ℕ → ℕ
ending n = pick (eqb (n / 10 % 10) 1) 0 (pick (ltb (n % 10) 4) (n % 10) 0)

unfoldable pub nth_text : ℕ → List ℕ
nth_text n =
    pick (eqb n 1) (ascii " every report")
    (ascii " every " ++ (decimal n ++ (word_at (ascii "th" ∷ ascii "st" ∷ ascii "nd" ∷ ascii "rd" ∷ []) (ending n) ++ ascii " report")))

-- an octet of a name is shown as it is, or by its number where it would break a line or a list
unfoldable pub plain : ℕ → Bool
plain c = both (not (eqb c 44)) (both (not (eqb c 92)) (both (not (ltb c 33)) (ltb c 127)))

unfoldable pub letter : ℕ → List ℕ
letter c = pick (plain c) (c ∷ []) (ascii "\\x" ++ (glyph_of (c / 16) ∷ glyph_of (c % 16) ∷ []))

-- before an entry of a list: a colon or a comma
unfoldable pub mark : ℕ → List ℕ
mark i = pick (eqb i 0) (ascii ": ") (ascii ", ")

-- octet i of a list: of names, or an entry
unfoldable pub name_item : ℕ → ℕ → List ℕ
name_item i c = pick (eqb (i % 8) 0) (mark i ++ letter c) (letter c)

unfoldable pub entry_item : List (List ℕ) → ℕ → ℕ → List ℕ
entry_item words i c = mark i ++ word_at words c

-- octets of a list, from number i on
abbrev pub items_text : (ℕ → ℕ → List ℕ) → ℕ → List ℕ → List ℕ
items_text item i [] = []
items_text item i (c ∷ cs) = item i c ++ items_text item (i + 1) cs

-- the number n in a way; `items` are the octets of the PDU's list
unfoldable pub way_text : Way → ℕ → List ℕ → List ℕ
way_text nothing n items = []
way_text number n items = decimal n
way_text two n items = two_digits n
way_text three n items = three_digits n
way_text seconds n items = seconds_text n
way_text tens n items = tens_text n
way_text octets n items = octets_text n
way_text nth n items = nth_text n
way_text (word words) n items = word_at words n
way_text (list words) n items = items_text (entry_item words) 0 (take n items)
way_text names n items = items_text name_item 0 (take (n * 8) items)
way_text tenths n items = tenths_text n
way_text signed n items = signed_text n
way_text thousandths n items = thousandths_text n
way_text quarters n items = quarters_text n
way_text mach_steps n items = mach_text n
way_text time_steps n items = time_text n
