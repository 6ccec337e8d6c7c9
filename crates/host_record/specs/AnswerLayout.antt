-- What a call says, as octets. A number of more than one octet has the most significant octet first.
use Rattle.std.specs.Prelude.{List, [], ◌∷◌, ◌++◌, ℕ, ltb, get_or}
use Rattle.link.specs.Tests.{pick}
use Rattle.octets.specs.Octets.{quad}
use Rattle.ground_answer.specs.Sent.{SENT-MOST}
use Rattle.ground_answer.specs.declared.answer.Said.{Said}

-- "An action list has at most 8 entries", and no PDU that is sent has more than SENT-MOST octets
unfoldable pub at_most : ℕ → ℕ → ℕ
at_most most n = pick (ltb n most) n most

-- 0 to 3 the reason of an abort indication; 4 how many actions there are, 5 to 12 the actions; 13 how many octets are sent
abbrev pub head_octets : List ℕ → List ℕ → ℕ → ℕ → List ℕ
head_octets q a n m =
    get_or q 0 0 ∷ get_or q 1 0 ∷ get_or q 2 0 ∷ get_or q 3 0 ∷ n ∷ get_or a 0 0 ∷ get_or a 1 0 ∷ get_or a 2 0 ∷ get_or a 3 0 ∷ get_or a 4 0 ∷ get_or a 5 0 ∷ get_or a 6 0 ∷ get_or a 7 0 ∷ m ∷ []

abbrev pub head_of : Said → List ℕ
head_of s = head_octets (quad s.reason) s.acts.list (at_most 8 s.acts.n) (at_most SENT-MOST s.sent.n)

-- 14 to 30 these octets
abbrev pub sent_octets : List ℕ → List ℕ
sent_octets o =
    get_or o 0 0 ∷ get_or o 1 0 ∷ get_or o 2 0 ∷ get_or o 3 0 ∷ get_or o 4 0 ∷ get_or o 5 0 ∷ get_or o 6 0 ∷ get_or o 7 0 ∷ get_or o 8 0 ∷ get_or o 9 0 ∷ get_or o 10 0 ∷ get_or o 11 0 ∷ get_or o 12 0 ∷ get_or o 13 0 ∷ get_or o 14 0 ∷ get_or o 15 0 ∷ get_or o 16 0 ∷ []

unfoldable pub answer_octets : Said → List ℕ
answer_octets s = head_of s ++ sent_octets s.sent.octets

-- how many octets an answer has
abbrev pub ANSWER-OCTETS : ℕ
ANSWER-OCTETS = 31
