-- hypot's steps, for every pair of words: the sum of the two squares, each operation rounded once, and sqrt's answer to it. Definitions only.
use Rattle.std.specs.Prelude.{ℕ, to_bits}
use Rattle.std.specs.Float.{binary32}
use Rattle.format.specs.Estimates.{sqrt_word}
use Rattle.float.specs.Rounded.{◌⊕◌, ◌⊗◌, number}

unfoldable pub hypot_word : ℕ → ℕ → ℕ
hypot_word w v =
    let x = number w in
    let y = number v in
    sqrt_word binary32 (to_bits binary32 (x ⊗ x ⊕ y ⊗ y))
