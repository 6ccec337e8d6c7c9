-- How codecs are put together: what each way of it reads and writes. Its laws are in laws/, the codecs themselves in Formats.antt.
use Rattle.std.specs.Prelude.{ℕ, ◌≤◌, max, ◌≡◌, Bool, cond, List, ◌++◌, eqb, length}
use Rattle.per.specs.declared.cursor.Cursor.{Cursor}
use Rattle.per.specs.Codec.{Codec, Out, out, first, upto}
use Rattle.per.specs.Field.{settle}

-- one codec and then another, which the first one's value picks
module _ {A B : Type 0} (c : Codec A) (k : A → Codec B) where
  abbrev pub dep_run : List Bool → Cursor → Out (A × B)
  dep_run bs j =
      let r = c.run bs j in
      let q = (k r.value).run bs r.next in
      out (r.value, q.value) q.next

  abbrev pub dep_chk : A × B → ℕ
  dep_chk p = first (c.chk p.0) ((k (c.norm p.0)).chk p.1)

  abbrev pub dep_enc : A × B → List Bool
  dep_enc p = c.enc p.0 ++ upto (c.chk p.0) ((k (c.norm p.0)).enc p.1)

  abbrev pub dep_norm : A × B → A × B
  dep_norm p = (c.norm p.0, (k (c.norm p.0)).norm p.1)

  abbrev pub dep_form : List Bool → Cursor → ℕ
  dep_form bs j = max (c.form bs j) ((k (c.run bs j).value).form bs (c.run bs j).next)

-- the same bits for another type: `ok` is a refusal of a write that comes before any bit
module _ {A B : Type 0} (c : Codec A) (to : A → B) (from : B → A) (ok : B → ℕ) where
  abbrev pub via_run : List Bool → Cursor → Out B
  via_run bs j = out (to (c.run bs j).value) (c.run bs j).next

  abbrev pub via_chk : B → ℕ
  via_chk b = first (ok b) (c.chk (from b))

  abbrev pub via_enc : B → List Bool
  via_enc b = upto (ok b) (c.enc (from b))

  -- parts a that are not in the writer's own form: their value may be written, reads as itself, and takes no more bits than they did
  pub record Other (a : A) : Type 0 where
    pub good : via_chk (to a) ≡ 0
    pub same : to (c.norm (from (to a))) ≡ to a
    pub short : length (c.enc (from (to a))) ≤ length (c.enc a)

-- the form of what stands at a place, where `grade` is that of the parts that were read there
module _ {A : Type 0} (c : Codec A) (grade : A → ℕ) where
  abbrev pub recast_form : List Bool → Cursor → ℕ
  recast_form bs j = max (c.form bs j) (grade (c.run bs j).value)

-- a further judgement on what was read, and on what is to be written
module _ {A : Type 0} (c : Codec A) (bad : A → ℕ) where
  abbrev pub only_run : List Bool → Cursor → Out A
  only_run bs j =
      cond (eqb (c.run bs j).next.refusal 0)
      (settle (bad (c.run bs j).value) (c.run bs j).value c.none j.at (c.run bs j).next.at)
      (c.run bs j)

  abbrev pub only_chk : A → ℕ
  only_chk a = first (c.chk a) (bad (c.norm a))

  abbrev pub only_enc : A → List Bool
  only_enc a = upto (bad (c.norm a)) (c.enc a)
