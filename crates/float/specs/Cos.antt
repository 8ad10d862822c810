-- The steps of cos and sin, for every word, over any engine: the number in turns, between -1/2 and 1/2; then a parabola, and the
-- parabola's mean with its own square. Definitions only.
use Rattle.std.specs.Prelude.{ℕ}
use Rattle.float.specs.Engine.{Engine, abs_of, floor_of}

module _ {X : Type 0} (e : Engine X) where
  -- 0x3e22_f983 is half of 1/PI
  abbrev pub turns : X → X
  turns x = e.mul x (e.number 0x3e22_f983)

  -- less a quarter, 0x3e80_0000, and a whole number of turns
  abbrev pub centred : X → X
  centred t = e.sub t (e.add (e.number 0x3e80_0000) (floor_of e (e.add t (e.number 0x3e80_0000))))

  -- t * (16 * (|t| - 1/2))
  abbrev pub parabola : X → X
  parabola t = e.mul t (e.mul (e.number 0x4180_0000) (e.sub (abs_of e t) (e.number 0x3f00_0000)))

  -- p + 0.225 * p * (|p| - 1)
  abbrev pub refined : X → X
  refined p = e.add p (e.mul (e.mul (e.number 0x3e66_6666) p) (e.sub (abs_of e p) (e.number 0x3f80_0000)))

  unfoldable pub cos_word : ℕ → ℕ
  cos_word w = e.word (refined (parabola (centred (turns (e.number w)))))

  -- a quarter turn back: 0x3fc9_0fdb is PI / 2
  unfoldable pub sin_word : ℕ → ℕ
  sin_word w = cos_word (e.word (e.sub (e.number w) (e.number 0x3fc9_0fdb)))
