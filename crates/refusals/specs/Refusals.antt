-- The numbers by which calls refuse, each with the words of 01 ("Refusal numbers") or of the request that brought it. 0 is no refusal.
use Rattle.std.specs.Prelude.{ℕ, ◌≡◌, Option, Some, None}
use Rattle.refusals.specs.declared.Refusal.{Refusal}
use Rattle.refusals.specs.declared.Refusal.TheVariants as why

-- request not permitted
abbrev pub NOT-PERMITTED : ℕ
NOT-PERMITTED = 1

-- cannot occur
abbrev pub CANNOT-OCCUR : ℕ
CANNOT-OCCUR = 2

-- setting not 1..86,400
abbrev pub BAD-SETTING : ℕ
BAD-SETTING = 3

-- elapse over 86,400
abbrev pub ELAPSE-OVER : ℕ
ELAPSE-OVER = 4

-- field to write out of range
abbrev pub OUT-OF-RANGE : ℕ
OUT-OF-RANGE = 5

-- output shorter than the PDU
abbrev pub NO-ROOM : ℕ
NO-ROOM = 6

-- input ends inside a field
abbrev pub CUT-SHORT : ℕ
CUT-SHORT = 7

-- sent value above its range or index unused
abbrev pub ABOVE-RANGE : ℕ
ABOVE-RANGE = 8

-- extension bit set
abbrev pub EXTENSION-SET : ℕ
EXTENSION-SET = 9

-- presence bit of an element not carried
abbrev pub NOT-CARRIED : ℕ
NOT-CARRIED = 10

-- 11, a default interval sent, is retired, and its number is not used again (L5)

-- list over 16
abbrev pub LIST-OVER : ℕ
LIST-OVER = 12

-- filling not zero
abbrev pub FILLING : ℕ
FILLING = 13

-- octets after the PDU
abbrev pub OCTETS-AFTER : ℕ
OCTETS-AFTER = 14

-- event contract with no element
abbrev pub NO-ELEMENT : ℕ
NO-ELEMENT = 15

-- input over 128 octets
abbrev pub INPUT-OVER : ℕ
INPUT-OVER = 16

-- script line not readable
abbrev pub SCRIPT-LINE : ℕ
SCRIPT-LINE = 17

-- check wrong (L6)
abbrev pub CHECK-WRONG : ℕ
CHECK-WRONG = 18

-- block number out of turn (L6)
abbrev pub OUT-OF-TURN : ℕ
OUT-OF-TURN = 19

-- record not readable (L6)
abbrev pub NOT-READABLE : ℕ
NOT-READABLE = 20

-- link record not good
abbrev pub BAD-RECORD : ℕ
BAD-RECORD = 29

-- the number of each refusal
abbrev pub number : Refusal → ℕ
number why.NotPermitted = NOT-PERMITTED
number why.CannotOccur = CANNOT-OCCUR
number why.BadSetting = BAD-SETTING
number why.ElapseOver = ELAPSE-OVER
number why.OutOfRange = OUT-OF-RANGE
number why.NoRoom = NO-ROOM
number why.CutShort = CUT-SHORT
number why.AboveRange = ABOVE-RANGE
number why.ExtensionSet = EXTENSION-SET
number why.NotCarried = NOT-CARRIED
number why.ListOver = LIST-OVER
number why.Filling = FILLING
number why.OctetsAfter = OCTETS-AFTER
number why.NoElement = NO-ELEMENT
number why.InputOver = INPUT-OVER
number why.ScriptLine = SCRIPT-LINE
number why.CheckWrong = CHECK-WRONG
number why.OutOfTurn = OUT-OF-TURN
number why.NotReadable = NOT-READABLE
number why.BadRecord = BAD-RECORD

-- and 0 where there is none
abbrev pub number_or_none : Option Refusal → ℕ
number_or_none None = 0
number_or_none (Some r) = number r

-- the refusal that has the number n, where there is one
pub record Found (n : ℕ) (found : Option Refusal) : Type 0 where
  pub known : (r : Refusal) → number r ≡ n → found ≡ Some r
  pub only : (r : Refusal) → found ≡ Some r → number r ≡ n

-- a number that is 0, or a refusal's
pub record Named (n : ℕ) : Type 0 where
  pub who : Option Refusal
  pub is : number_or_none who ≡ n
